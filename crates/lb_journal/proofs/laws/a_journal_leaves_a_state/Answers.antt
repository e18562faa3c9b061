use Rattle.lb_journal.proofs.There.{replay_there}
use Rattle.lb_journal.proofs.laws.a_journal_leaves_a_state.Goals as goal

pub returns : goal.returns
returns c = replay_there

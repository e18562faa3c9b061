use Rattle.lb_model.proofs.There.{replay_there}
use Rattle.lb_model.proofs.laws.journal_has_a_replay.Goals as goal

pub returns : goal.returns
returns c = replay_there

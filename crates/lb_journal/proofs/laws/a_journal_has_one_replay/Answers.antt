use Rattle.lb_journal.proofs.One.{replay_one, rep_one}
use Rattle.lb_journal.proofs.laws.a_journal_has_one_replay.Goals as goal

pub returns-clause-state : goal.returns-clause-state
returns-clause-state c = replay_one

pub returns-clause-reply : goal.returns-clause-reply
returns-clause-reply c = rep_one

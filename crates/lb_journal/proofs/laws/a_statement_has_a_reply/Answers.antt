use Rattle.lb_journal.proofs.There.{rep_there}
use Rattle.lb_journal.proofs.laws.a_statement_has_a_reply.Goals as goal

pub returns : goal.returns
returns c = rep_there

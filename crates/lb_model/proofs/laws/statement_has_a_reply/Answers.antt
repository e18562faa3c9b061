use Rattle.lb_model.proofs.There.{rep_there}
use Rattle.lb_model.proofs.laws.statement_has_a_reply.Goals as goal

pub returns : goal.returns
returns c = rep_there

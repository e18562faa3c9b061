use Rattle.lb_answer.proofs.Framed.{statements_across}
use Rattle.lb_answer.proofs.laws.catalogues_answer_statements_alike.Goals as goal

pub returns : goal.returns
returns c = statements_across

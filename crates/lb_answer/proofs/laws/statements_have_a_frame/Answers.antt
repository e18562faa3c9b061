use Rattle.lb_answer.proofs.Framed.{statement_frame}
use Rattle.lb_answer.proofs.laws.statements_have_a_frame.Goals as goal

pub returns : goal.returns
returns c = statement_frame

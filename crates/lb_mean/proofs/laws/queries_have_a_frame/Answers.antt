use Rattle.lb_mean.proofs.Seen.{rows_frame, answer_frame}
use Rattle.lb_mean.proofs.laws.queries_have_a_frame.Goals as goal

pub returns-clause-rows : goal.returns-clause-rows
returns-clause-rows c = rows_frame

pub returns-clause-answer : goal.returns-clause-answer
returns-clause-answer c = answer_frame

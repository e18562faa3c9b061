use Rattle.lb_mean.proofs.Across.{refusal_frame, across_frame}
use Rattle.lb_mean.proofs.laws.catalogues_answer_queries_alike.Goals as goal

pub returns-clause-refusals : goal.returns-clause-refusals
returns-clause-refusals c = refusal_frame

pub returns-clause-answer : goal.returns-clause-answer
returns-clause-answer c = across_frame

use Rattle.lb_mean.proofs.Meant.{expr_has_frame, cond_has_frame, query_has_frame}
use Rattle.lb_mean.proofs.laws.meaning_has_a_frame.Goals as goal

pub returns-clause-expr : goal.returns-clause-expr
returns-clause-expr c = expr_has_frame

pub returns-clause-cond : goal.returns-clause-cond
returns-clause-cond c = cond_has_frame

pub returns-clause-query : goal.returns-clause-query
returns-clause-query c = query_has_frame

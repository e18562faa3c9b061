use Rattle.lb_names.proofs.CarriedMarks.{cond_carried, expr_carried, query_carried}
use Rattle.lb_names.proofs.laws.typing_carries_marks.Goals as goal

pub returns : goal.returns
returns c = λ C. record { cond = cond_carried C; expr = expr_carried C; query = query_carried C }

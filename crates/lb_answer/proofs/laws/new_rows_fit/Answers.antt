use Rattle.lb_answer.proofs.Fit.{new_row_fits}
use Rattle.lb_answer.proofs.laws.new_rows_fit.Goals as goal

pub returns : goal.returns
returns g c = λ p b t. new_row_fits t p b

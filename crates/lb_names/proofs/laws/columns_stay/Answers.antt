use Rattle.lb_names.proofs.Stays.{column_stays}
use Rattle.lb_names.proofs.laws.columns_stay.Goals as goal

pub returns : goal.returns
returns c = λ C. record { column = column_stays C }

use Rattle.lb_names.proofs.GrownNames.{permission_names_stay, mask_names_stay}
use Rattle.lb_names.proofs.laws.names_outlast_columns.Goals as goal

pub returns : goal.returns
returns c = λ C D. record { permission = λ tab e g. permission_names_stay C D g tab e; mask = λ tab e g. mask_names_stay C D g tab e }

use Rattle.lb_names.proofs.GrownRules.{permission_types_stay, mask_types_stay}
use Rattle.lb_names.proofs.laws.types_outlast_columns.Goals as goal

pub returns : goal.returns
returns c = λ C D. record { permission = λ tab e g. permission_types_stay C D g tab e; mask = λ tab column e g. mask_types_stay C D g tab column e }

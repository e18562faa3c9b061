use Rattle.lb_names.proofs.QualifiedForms.{permission_is_qualified, mask_is_qualified}
use Rattle.lb_names.proofs.laws.forms_are_qualified.Goals as goal

pub returns : goal.returns
returns c = λ C. record { permission = permission_is_qualified C; mask = mask_is_qualified C }

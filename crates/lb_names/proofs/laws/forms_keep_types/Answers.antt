use Rattle.lb_names.proofs.FormRules.{permission_types_kept, mask_types_kept}
use Rattle.lb_names.proofs.laws.forms_keep_types.Goals as goal

pub returns : goal.returns
returns c = λ C. record { permission = permission_types_kept C; mask = mask_types_kept C }

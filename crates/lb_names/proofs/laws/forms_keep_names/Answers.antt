use Rattle.lb_names.proofs.FormNames.{permission_form_stays, mask_form_stays}
use Rattle.lb_names.proofs.laws.forms_keep_names.Goals as goal

pub returns : goal.returns
returns c = λ C. record { permission = permission_form_stays C; mask = mask_form_stays C }

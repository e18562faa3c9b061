use Rattle.lb_names.proofs.KeptForms.{permission_kept, mask_kept}
use Rattle.lb_names.proofs.laws.forms_keep_mentions.Goals as goal

pub returns : goal.returns
returns c = λ C. record { permission = permission_kept C; mask = mask_kept C }

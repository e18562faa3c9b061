use Rattle.lb_names.proofs.QualifiedFrame.{permission_same, mask_same}
use Rattle.lb_names.proofs.laws.forms_have_a_frame.Goals as goal

pub returns : goal.returns
returns c = λ C D. record { permission = permission_same C D; mask = mask_same C D }

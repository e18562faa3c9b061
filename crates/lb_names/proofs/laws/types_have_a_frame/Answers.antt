use Rattle.lb_names.proofs.TypesFrame.{types_same, permission_types_same, mask_types_same}
use Rattle.lb_names.proofs.laws.types_have_a_frame.Goals as goal

pub returns : goal.returns
returns c = λ C D. record { stmt = types_same C D; permission = permission_types_same C D; mask = mask_types_same C D }

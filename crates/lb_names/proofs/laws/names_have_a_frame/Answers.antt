use Rattle.lb_names.proofs.NamesFrame.{names_same, permission_names_same, mask_names_same}
use Rattle.lb_names.proofs.laws.names_have_a_frame.Goals as goal

pub returns : goal.returns
returns c = λ C D. record { stmt = names_same C D; permission = permission_names_same C D; mask = mask_names_same C D }

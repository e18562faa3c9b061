use Rattle.lb_names.proofs.There.{stmt_there, permission_there, mask_there}
use Rattle.lb_names.proofs.laws.mentions_are_there.Goals as goal

pub returns : goal.returns
returns c = λ C. record { stmt = stmt_there C; permission = permission_there C; mask = mask_there C }

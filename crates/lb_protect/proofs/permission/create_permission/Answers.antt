use Rattle.std.proofs.Common.{arith}
use Rattle.lb_changed.proofs.Steps.{steps}
use Rattle.lb_protect.proofs.permission.create_permission.Goals as goal

pub returns : goal.returns
returns c T = grind (arith, steps, c.permission_made.ensures T)

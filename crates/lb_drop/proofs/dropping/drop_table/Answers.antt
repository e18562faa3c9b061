use Rattle.std.proofs.Common.{arith}
use Rattle.lb_changed.proofs.Steps.{steps}
use Rattle.lb_drop.proofs.dropping.drop_table.Goals as goal

pub returns : goal.returns
returns c T = grind (arith, steps, c.dropped.ensures T)

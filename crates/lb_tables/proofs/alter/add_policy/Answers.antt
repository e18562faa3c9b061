use Rattle.std.proofs.Common.{arith}
use Rattle.lb_changed.proofs.Steps.{steps}
use Rattle.lb_tables.proofs.alter.add_policy.Goals as goal

pub returns : goal.returns
returns c T = grind (arith, steps, c.policy_added.ensures T)

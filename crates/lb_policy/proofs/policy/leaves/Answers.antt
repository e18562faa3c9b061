use Rattle.std.proofs.Common.{subst}
use Rattle.lb_cat.specs.Stamps.{bare}
use Rattle.lb_alter.specs.Refusing.{alters_policy}
use Rattle.lb_changed.specs.Made.{Makes}
use Rattle.lb_policy.proofs.policy.leaves.Goals as goal

pub returns : goal.returns
returns c T = subst (λ p. Makes c.args.catalog.now T (alters_policy (bare c.args.catalog.now) T p) c.alters_policy.result) c.in_ok-policy.ensures.bare (c.alters_policy.ensures T)

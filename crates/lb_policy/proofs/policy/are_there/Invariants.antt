use Rattle.std.proofs.Common.{◌≡◌, [], take, drop}
use Rattle.lb_alter.specs.ChangePolicy.{components_refusal}
use Rattle.lb_cat.specs.Stamps.{bare}
use Rattle.lb_policy.specs.Before.{turned}
use Rattle.lb_policy.proofs.policy.are_there.Given as goal

-- the components that are left decide
abbrev pub invariant-loop-place : goal.invariant-loop-place
invariant-loop-place l = components_refusal (bare l.catalog) [] l.names ≡ components_refusal (bare l.catalog) (turned (take l.place l.names)) (drop l.place l.names)

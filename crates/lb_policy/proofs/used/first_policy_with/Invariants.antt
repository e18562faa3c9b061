use Rattle.std.proofs.Common.{◌≡◌, drop}
use Rattle.std.specs.Prelude.{find}
use Rattle.lb_alter.specs.ChangePolicy.{has_component}
use Rattle.lb_cat.specs.Stamps.{bare}
use Rattle.lb_policy.proofs.used.first_policy_with.Given as goal

-- the first one is among the policies that are left
abbrev pub invariant-loop-place : goal.invariant-loop-place
invariant-loop-place l = find (has_component l.component) (bare l.catalog).policies ≡ find (has_component l.component) (drop l.place (bare l.catalog).policies)

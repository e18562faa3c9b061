use Rattle.std.proofs.Common.{◌≡◌, drop}
use Rattle.std.specs.Prelude.{find}
use Rattle.lb_alter.specs.ChangeGrant.{has_role_of}
use Rattle.lb_cat.specs.Stamps.{bare}
use Rattle.lb_grant.proofs.role.first_with_role.Given as goal

-- who has the role is among the users that are left
abbrev pub invariant-loop-place : goal.invariant-loop-place
invariant-loop-place l = find (has_role_of l.role) (bare l.catalog).users ≡ find (has_role_of l.role) (drop l.place (bare l.catalog).users)

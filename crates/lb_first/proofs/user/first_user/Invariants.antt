use Rattle.std.proofs.Common.{◌≡◌, drop}
use Rattle.std.specs.Prelude.{find}
use Rattle.lb_cat.specs.Stamps.{bare}
use Rattle.lb_first.proofs.user.first_user.Given as goal

-- the first one is among the users that are left
abbrev pub invariant-loop-place : goal.invariant-loop-place
invariant-loop-place g l = find (g.T.UserTest.test l.test) (bare l.catalog).users ≡ find (g.T.UserTest.test l.test) (drop l.place (bare l.catalog).users)

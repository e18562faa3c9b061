use Rattle.std.proofs.Common.{◌≡◌}
use Rattle.lb_cat.specs.Stamps.{bare}
use Rattle.lb_changed.specs.Made.{StampsStay}
use Rattle.lb_first.specs.Changing.{changed_up_to}
use Rattle.lb_first.proofs.users.with_users_changed.Given as goal

-- so many users are changed
abbrev pub invariant-loop-place : goal.invariant-loop-place
invariant-loop-place g l = (bare l.changed ≡ changed_up_to (g.C.UserTest.test l.change) (g.C.UserChange.change l.change) l.place (bare l.catalog)) × StampsStay l.catalog l.changed

use Rattle.std.proofs.Common.{◌≡◌, ◌++◌, map, take}
use Rattle.std.specs.Prelude.{filter}
use Rattle.lb_cat.specs.Stamps.{bare}
use Rattle.lb_alter.specs.ChangeTable.{user_key}
use Rattle.lb_first.proofs.users.with_user_keys.Given as goal

-- the keys so far
abbrev pub invariant-loop-place : goal.invariant-loop-place
invariant-loop-place g l = l.touched ≡ l.fn.touched ++ map user_key (filter (g.T.UserTest.test l.test) (take l.place (bare l.catalog).users))

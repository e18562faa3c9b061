use Rattle.std.proofs.Common.{◌≡◌, drop}
use Rattle.std.specs.Prelude.{find}
use Rattle.lb_cat.specs.Stamps.{bare}
use Rattle.lb_first.proofs.table.first_table.Given as goal

-- the first one is among the tables that are left
abbrev pub invariant-loop-place : goal.invariant-loop-place
invariant-loop-place g l = find (g.T.TableTest.test l.test) (bare l.catalog).tables ≡ find (g.T.TableTest.test l.test) (drop l.place (bare l.catalog).tables)

use Rattle.std.proofs.Common.{◌≡◌, ◌++◌, map}
use Rattle.lb_alter.specs.AlterTable.{with_null}
use Rattle.lb_tables.proofs.nulls.all_with_null.Given as goal

-- the rows that are left go after those so far
abbrev pub invariant-loop-row : goal.invariant-loop-row
invariant-loop-row l = l.rows ++ map with_null l.row-iterator ≡ map with_null l.version.rows

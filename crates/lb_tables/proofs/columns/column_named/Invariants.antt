use Rattle.std.proofs.Common.{◌≡◌, drop}
use Rattle.std.specs.Prelude.{find}
use Rattle.lb_cat.specs.Catalog.{is_column}
use Rattle.lb_tables.proofs.columns.column_named.Given as goal

-- the column is among those that are left
abbrev pub invariant-loop-column : goal.invariant-loop-column
invariant-loop-column l = find (is_column l.name) l.columns ≡ find (is_column l.name) (drop l.column-index l.columns)

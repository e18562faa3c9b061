use Rattle.std.proofs.Common.{◌≡◌, drop}
use Rattle.lb_alter.specs.ChangeTable.{columns_in, has_column_named}
use Rattle.lb_tables.proofs.elements.has_column_named.Given as goal

-- the column is among those that are left
abbrev pub invariant-loop-element : goal.invariant-loop-element
invariant-loop-element l = has_column_named (columns_in l.elements) l.name ≡ has_column_named (columns_in (drop l.element-index l.elements)) l.name

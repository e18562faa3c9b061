use Rattle.std.proofs.Common.{◌≡◌, ◌≤◌, ◌+◌, length, drop}
use Rattle.lb_alter.specs.ChangeTable.{columns_in}
use Rattle.lb_tables.proofs.elements.column_count.Given as goal

-- those that are left are still to be counted
abbrev pub invariant-loop-element : goal.invariant-loop-element
invariant-loop-element l = (length (columns_in l.elements) ≡ l.count + length (columns_in (drop l.element-index l.elements))) × (l.count ≤ l.element-index)

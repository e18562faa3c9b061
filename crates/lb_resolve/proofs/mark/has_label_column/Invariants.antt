use Rattle.std.proofs.Common.{◌≡◌, drop}
use Rattle.std.specs.List.{list_any}
use Rattle.lb_alter.specs.ChangeTable.{is_label_column}
use Rattle.lb_resolve.proofs.mark.has_label_column.Given as goal

-- the columns that are left decide
abbrev pub invariant-loop-column : goal.invariant-loop-column
invariant-loop-column l = list_any is_label_column l.columns ≡ list_any is_label_column (drop l.column-index l.columns)

use Rattle.std.proofs.Common.{◌≡◌, take}
use Rattle.lb_tree.proofs.copy_query.copy_columns.Given as goal

-- the copies so far are the items so far
abbrev pub invariant-loop-column : goal.invariant-loop-column
invariant-loop-column l = l.copied ≡ take l.column-index l.columns

use Rattle.std.proofs.Common.{◌≡◌, take}
use Rattle.lb_stmt.proofs.copy_stmt.copy_value_rows.Given as goal

-- the copies so far are the items so far
abbrev pub invariant-loop-row : goal.invariant-loop-row
invariant-loop-row l = l.copied ≡ take l.row-index l.rows

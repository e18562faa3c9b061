use Rattle.std.proofs.Common.{◌≡◌, ◌++◌, take}
use Rattle.lb_rows.proofs.builder.Builder.extend.Given as goal

-- the copies so far stand after the rows that were there
abbrev pub invariant-loop-row : goal.invariant-loop-row
invariant-loop-row l = l.self ≡ l.fn.self ++ take l.row-index l.rows

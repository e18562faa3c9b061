use Rattle.std.proofs.Common.{◌≡◌, ◌+◌, ◌++◌, take}
use Rattle.lb_rows.specs.Edits.{rows_changed_from}
use Rattle.lb_rows.proofs.builder.Builder.extend_changed.Given as goal

-- the rows so far stand, changed, after those that were there
abbrev pub invariant-loop-row : goal.invariant-loop-row
invariant-loop-row l = (l.place ≡ l.first + l.row-index) × (l.self ≡ l.fn.self ++ rows_changed_from l.changes l.first (take l.row-index l.rows))

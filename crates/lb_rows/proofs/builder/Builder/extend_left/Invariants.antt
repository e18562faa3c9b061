use Rattle.std.proofs.Common.{◌≡◌, ◌+◌, ◌++◌, take}
use Rattle.lb_rows.specs.Edits.{rows_remaining_from}
use Rattle.lb_rows.proofs.builder.Builder.extend_left.Given as goal

-- what is left of the rows so far stands after those that were there
abbrev pub invariant-loop-row : goal.invariant-loop-row
invariant-loop-row l = (l.place ≡ l.first + l.row-index) × (l.self ≡ l.fn.self ++ rows_remaining_from l.places l.first (take l.row-index l.rows))

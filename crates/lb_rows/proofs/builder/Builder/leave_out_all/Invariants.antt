use Rattle.std.proofs.Common.{◌≡◌, ◌++◌, take}
use Rattle.lb_rows.specs.Chunks.{rows_in_chunks}
use Rattle.lb_rows.specs.Edits.{rows_remaining_from}
use Rattle.lb_rows.proofs.builder.Builder.leave_out_all.Given as goal

-- what is left of the rows of the chunks so far stands after those that were there
abbrev pub invariant-loop-chunk : goal.invariant-loop-chunk
invariant-loop-chunk l = l.self ≡ l.fn.self ++ rows_remaining_from l.places 0 (rows_in_chunks (take l.chunk-index l.chunks))

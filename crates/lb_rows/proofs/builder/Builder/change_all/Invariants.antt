use Rattle.std.proofs.Common.{◌≡◌, ◌++◌, take}
use Rattle.lb_rows.specs.Chunks.{rows_in_chunks}
use Rattle.lb_rows.specs.Edits.{rows_changed_from}
use Rattle.lb_rows.proofs.builder.Builder.change_all.Given as goal

-- the rows of the chunks so far stand, changed, after those that were there
abbrev pub invariant-loop-chunk : goal.invariant-loop-chunk
invariant-loop-chunk l = l.self ≡ l.fn.self ++ rows_changed_from l.changes 0 (rows_in_chunks (take l.chunk-index l.chunks))

use Rattle.std.proofs.Common.{◌≡◌, ◌++◌, take}
use Rattle.lb_rows.specs.Chunks.{rows_in_chunks}
use Rattle.lb_rows.proofs.builder.Builder.share_all.Given as goal

-- the rows of the chunks so far stand after those that were there
abbrev pub invariant-loop-chunk : goal.invariant-loop-chunk
invariant-loop-chunk l = l.self ≡ l.fn.self ++ rows_in_chunks (take l.chunk-index l.chunks)

-- Rows in chunks.
use Rattle.std.specs.Prelude.{◌≡◌, ℕ, ◌+◌, ◌≤◌, List, [], ◌∷◌, length}
use Rattle.std.specs.List.{flat_map}
use Rattle.std.specs.Arc.{arc_value}
use Rattle.lb_base.specs.declared.value.Value.{Value}
use Rattle.lb_rows.specs.declared.chunk.Chunk.{Chunk}

-- the rows of a chunk
abbrev pub rows_in : Chunk → List (List Value)
rows_in chunk = arc_value chunk.rows

-- the rows of the chunks, in order
abbrev pub rows_in_chunks : List Chunk → List (List Value)
rows_in_chunks chunks = flat_map rows_in chunks

-- no chunk has more than 256 rows, and each one knows the place of its first row, where the first chunk begins at the given place
abbrev pub ArePlaced : ℕ → List Chunk → Type 0
ArePlaced place [] = Unit {0}
ArePlaced place (chunk ∷ chunks) = (chunk.first ≡ place) × (length (rows_in chunk) ≤ 256) × ArePlaced (place + length (rows_in chunk)) chunks

-- The root of a place: of a statement the place of its session's Open, of an Open the place itself.
use Rattle.std.specs.Prelude.{ℕ, zero, suc, ◌+◌, List, [], ◌∷◌, take, slice_get, Option, Some}
use Rattle.lb_cat.specs.declared.entry.Entry.{Entry}
use Rattle.lb_cat.specs.declared.entry.Entry.TheVariants as entries

-- the place of the Open with that number, counted from a place, or else the place given
abbrev pub open_place : ℕ → List Entry → ℕ → ℕ → ℕ
open_place at [] s k = k
open_place at (entries.Open user groups ∷ es) zero k = at
open_place at (entries.Open user groups ∷ es) (suc s) k = open_place (at + 1) es s k
open_place at (entries.Said d ∷ es) s k = open_place (at + 1) es s k

-- the root of an entry at this place, after these entries
abbrev pub root_at : List Entry → ℕ → Option Entry → ℕ
root_at before k (Some (entries.Said d)) = open_place 0 before d.session k
root_at before k _ = k

-- it reads only what stands before the place, so it stays as the journal grows
abbrev pub root : List Entry → ℕ → ℕ
root J k = root_at (take k J) k (slice_get J k)

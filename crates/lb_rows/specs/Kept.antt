-- The versions that a snapshot keeps in its 64 places.
use Rattle.std.specs.Prelude.{ℕ, Bool, false, List, [], ◌∷◌, Option, None, Some}
use Rattle.std.specs.Arc.{arc_value}
use Rattle.std.specs.Str.{bytes_eq}
use Rattle.lb_rows.specs.declared.snap.StampedVersion.{StampedVersion}

-- the versions in the places that have one
abbrev pub versions_in : List (Option StampedVersion) → List StampedVersion
versions_in [] = []
versions_in (None ∷ places) = versions_in places
versions_in (Some version ∷ places) = version ∷ versions_in places

-- each place has one
abbrev pub AllThere : List (Option StampedVersion) → Type 0
AllThere [] = Unit {0}
AllThere (None ∷ places) = ⊥
AllThere (Some version ∷ places) = AllThere places

-- it is the version of the table with that name
abbrev pub is_of : List ℕ → StampedVersion → Bool
is_of n s = bytes_eq (arc_value s.version).name n

-- the place has the version of the table with that name
abbrev pub holds : List ℕ → Option StampedVersion → Bool
holds n None = false
holds n (Some s) = is_of n s

-- The names that stand before a place, the last of them first. It stands in private contracts alone.
use Rattle.std.specs.Prelude.{ℕ, List, [], ◌∷◌}

-- each put before those before it
abbrev pub turned_onto : List (List ℕ) → List (List ℕ) → List (List ℕ)
turned_onto before [] = before
turned_onto before (n ∷ ns) = turned_onto (n ∷ before) ns

abbrev pub turned : List (List ℕ) → List (List ℕ)
turned ns = turned_onto [] ns

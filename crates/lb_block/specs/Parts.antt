-- What stands between the parts of a text.
use Rattle.std.specs.Prelude.{ℕ, zero, suc, List, [], ◌∷◌, ◌++◌, codes}

-- nothing before the first part, which is at 0, and the separator before each other
abbrev pub separator : List ℕ → ℕ → List ℕ
separator between zero = []
separator between (suc n) = between

-- each text after a blank
abbrev pub behind_blanks : List (List ℕ) → List ℕ
behind_blanks [] = []
behind_blanks (t ∷ ts) = codes " " ++ t ++ behind_blanks ts

-- Lists of records that are told apart by a test: putting one in, and taking some out.
use Rattle.std.specs.Prelude.{Bool, not, List, [], ◌∷◌, filter, if◌then◌else◌}

-- the record takes the place of the first one that is meant, or goes last; all others stay
abbrev pub put : {R : Type 0} → (R → Bool) → R → List R → List R
put is r [] = r ∷ []
put is r (x ∷ xs) = if is x then r ∷ xs else x ∷ put is r xs

-- without the records that are meant; the others keep their order
abbrev pub without : {R : Type 0} → (R → Bool) → List R → List R
without is rs = filter (λ r. not (is r)) rs

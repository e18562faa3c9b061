-- What a step of a write gives, or the refusal that ends the write.
use Rattle.std.specs.Prelude.{List, [], ◌∷◌, Result, Ok, Err}
use Rattle.lb_base.specs.Evaluated.{Evaluated}
use Rattle.lb_cat.specs.declared.refusal.Refusal.{Refusal}
use Rattle.lb_cat.specs.OrRefused.{OrRefused, ◌>>=◌}
use Rattle.lb_mean.specs.Answer.{refusal_for}

-- what was evaluated, or its fault as a refusal
abbrev pub or_refused : {A : Type 0} → Evaluated A → OrRefused A
or_refused (Ok x) = Ok x
or_refused (Err fault) = Err (refusal_for fault)

-- all results in order, or the first refusal
abbrev pub all_made : {A : Type 0} → List (OrRefused A) → OrRefused (List A)
all_made [] = Ok []
all_made (x ∷ xs) = do
  v ← x
  vs ← all_made xs
  Ok (v ∷ vs)

-- a check that was passed
abbrev pub Passed : Type 0
Passed = Unit {0}

-- all checks are passed, or the first refusal
abbrev pub all_passed : List (OrRefused Passed) → OrRefused Passed
all_passed [] = Ok tt
all_passed (x ∷ xs) = x >>= λ passed. all_passed xs

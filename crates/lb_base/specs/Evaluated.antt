-- What an evaluation gives: a result, or the fault that ended it.
use Rattle.std.specs.Prelude.{List, [], ◌∷◌, Bool, true, false, if◌then◌else◌, Result, Ok, Err}
use Rattle.lb_base.specs.declared.fault.Fault.{Fault}

-- a result or a fault
abbrev pub Evaluated : Type 0 → Type 0
Evaluated A = Result A Fault

infixl 10 ◌>>=◌
-- what goes on with the result; a fault ends all
abbrev pub ◌>>=◌ : {A B : Type 0} → Evaluated A → (A → Evaluated B) → Evaluated B
Ok x >>= f = f x
Err fault >>= f = Err fault

-- all results in order, or the first fault
abbrev pub each : {A : Type 0} → List (Evaluated A) → Evaluated (List A)
each [] = Ok []
each (x ∷ xs) = do
  v ← x
  vs ← each xs
  Ok (v ∷ vs)

-- from the left, each step after the one before
abbrev pub through : {A B : Type 0} → (B → A → Evaluated B) → B → List A → Evaluated B
through f b [] = Ok b
through f b (x ∷ xs) = f b x >>= λ next. through f next xs

-- those that pass the test, or the first fault
abbrev pub passing : {A : Type 0} → (A → Evaluated Bool) → List A → Evaluated (List A)
passing test [] = Ok []
passing test (x ∷ xs) = do
  passes ← test x
  rest ← passing test xs
  Ok (if passes then x ∷ rest else rest)

-- whether one passes the test, up to the first that does
abbrev pub any_passing : {A : Type 0} → (A → Evaluated Bool) → List A → Evaluated Bool
any_passing test [] = Ok false
any_passing test (x ∷ xs) = test x >>= λ passes. if passes then Ok true else any_passing test xs

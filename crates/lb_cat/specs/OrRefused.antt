-- What a statement makes, or why it is refused.
use Rattle.std.specs.Prelude.{Result, Ok, Err}
use Rattle.lb_cat.specs.declared.refusal.Refusal.{Refusal}

-- what is made, or a refusal
abbrev pub OrRefused : Type 0 → Type 0
OrRefused A = Result A Refusal

infixl 10 ◌>>=◌
-- what goes on with the result; a refusal ends all
abbrev pub ◌>>=◌ : {A B : Type 0} → OrRefused A → (A → OrRefused B) → OrRefused B
Ok x >>= f = f x
Err refusal >>= f = Err refusal

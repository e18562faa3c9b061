-- Steps of writes that gave a result, taken apart.
use Rattle.std.proofs.Common.{◌≡◌, refl, ap, Bool, true, false, ◌&&◌, not, Ok, Err}
use Rattle.lb_base.specs.Evaluated.{Evaluated}
use Rattle.lb_answer.specs.OrRefused.{or_refused}
use Rattle.lb_cat.specs.OrRefused.{OrRefused, ◌>>=◌}

-- what a step gave, and what followed from it
pub record Got {A B : Type 0} (out : OrRefused A) (f : A → OrRefused B) (y : B) : Type 0 where
  pub it : A
  pub is : out ≡ Ok it
  pub then : f it ≡ Ok y

pub got : {A B : Type 0} (out : OrRefused A) (f : A → OrRefused B) (y : B) → (out >>= f) ≡ Ok y → Got out f y
got (Ok x) f y h = record { it = x; is = refl; then = h }
got (Err e) f y h = absurd cc

pub evaluated : {A : Type 0} (out : Evaluated A) (x : A) → or_refused out ≡ Ok x → out ≡ Ok x
evaluated (Ok y) x h = λ i. Ok (ap (given y) h i)
  where
    given : {A : Type 0} → A → OrRefused A → A
    given d (Ok x) = x
    given d (Err e) = d
evaluated (Err e) x h = absurd cc

pub same_ok : {A : Type 0} (x y : A) → ◌≡◌ {A = OrRefused A} (Ok x) (Ok y) → x ≡ y
same_ok {A} x y h = ap given h
  where
    given : OrRefused A → A
    given (Ok z) = z
    given (Err e) = x

pub left_true : (a b : Bool) → (a && b) ≡ true → a ≡ true
left_true true b e = refl
left_true false b e = e

pub right_true : (a b : Bool) → (a && b) ≡ true → b ≡ true
right_true true b e = e
right_true false b e = absurd cc

pub both_true : (a b : Bool) → a ≡ true → b ≡ true → (a && b) ≡ true
both_true true b e f = f
both_true false b e f = absurd cc

pub not_false : (a : Bool) → not a ≡ true → a ≡ false
not_false true e = absurd cc
not_false false e = refl

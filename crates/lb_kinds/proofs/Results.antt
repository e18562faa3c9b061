-- Results that are Ok, options that are Some, and tests that are true, taken apart.
use Rattle.std.proofs.Common.{◌≡◌, refl, sym, subst, ap, Bool, true, false, ◌&&◌, ◌||◌, not, ◌⊎◌, inl, inr, Option, Some, None, Result, Ok, Err}

module _ {A B : Type 0} where
  abbrev IsGood : Result A B → Type 0
  IsGood (Ok a) = Unit {0}
  IsGood (Err b) = ⊥

  abbrev given_or : A → Result A B → A
  given_or d (Ok a) = a
  given_or d (Err b) = d

  pub same_ok : (a c : A) → ◌≡◌ {A = Result A B} (Ok a) (Ok c) → a ≡ c
  same_ok a c e = ap (given_or a) e

  pub no_err : (b : B) (a : A) → ◌≡◌ {A = Result A B} (Err b) (Ok a) → ⊥
  no_err b a e = subst IsGood (sym e) tt

module _ {A : Type 0} where
  abbrev IsThere : Option A → Type 0
  IsThere None = ⊥
  IsThere (Some a) = Unit {0}

  abbrev some_or : A → Option A → A
  some_or d None = d
  some_or d (Some a) = a

  pub same_some : (a c : A) → Some a ≡ Some c → a ≡ c
  same_some a c e = ap (some_or a) e

  pub no_none : (a : A) → None ≡ Some a → ⊥
  no_none a e = subst IsThere (sym e) tt

-- ---- tests

abbrev Holds : Bool → Type 0
Holds true = Unit {0}
Holds false = ⊥

pub no_false : false ≡ true → ⊥
no_false e = subst Holds (sym e) tt

pub no_true : true ≡ false → ⊥
no_true e = subst Holds e tt

pub left_true : (a b : Bool) → (a && b) ≡ true → a ≡ true
left_true true b e = refl
left_true false b e = e

pub right_true : (a b : Bool) → (a && b) ≡ true → b ≡ true
right_true true b e = e
right_true false b e = absurd (no_false e)

pub either_true : (a b : Bool) → (a || b) ≡ true → (a ≡ true) ⊎ (b ≡ true)
either_true true b e = inl refl
either_true false b e = inr e

pub true_left : (a b : Bool) → a ≡ true → (a || b) ≡ true
true_left true b e = refl
true_left false b e = absurd (no_false e)

pub not_true : (a : Bool) → not a ≡ true → a ≡ true → ⊥
not_true true e f = no_false e
not_true false e f = no_false f

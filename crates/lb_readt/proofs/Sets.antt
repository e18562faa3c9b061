-- Sets of token kinds: which of them meet. A choice by the next token rests on sets that don't.
use Rattle.std.proofs.Common.{Bool, true, false, cond, ◌&&◌, ◌||◌, ◌≡◌, ℕ, [], ◌∷◌, ◌++◌, refl, ap, ◌∙◌, arith}
use Rattle.std.specs.Prelude.{nat_le, nat_lt}
use Rattle.std.proofs.lemmas.Bool.Decides.{nat_tests}
use Rattle.lb_tok.specs.declared.kind.Kind.{Kind}
use Rattle.lb_tok.specs.Kinds.{Kinds, only, has, is_within, number}

-- no kind is in both runs
abbrev pub are_apart : ℕ × ℕ → ℕ × ℕ → Bool
are_apart x y = nat_lt x.1 y.0 || nat_lt y.1 x.0

abbrev pub is_clear : ℕ × ℕ → Kinds → Bool
is_clear x [] = true
is_clear x (y ∷ ys) = cond (are_apart x y) (is_clear x ys) false

-- no kind is in both sets
abbrev pub disjoint : Kinds → Kinds → Bool
disjoint [] ys = true
disjoint (x ∷ xs) ys = cond (is_clear x ys) (disjoint xs ys) false

pub empty : (F : Kinds) → disjoint F [] ≡ true
empty [] = refl
empty (x ∷ xs) = empty xs

abbrev pub is_covered : ℕ × ℕ → Kinds → Bool
is_covered x [] = false
is_covered x (y ∷ ys) = cond (nat_le y.0 x.0 && nat_le x.1 y.1) true (is_covered x ys)

-- each run of the first set is in a run of the second
abbrev pub subset : Kinds → Kinds → Bool
subset [] ys = true
subset (x ∷ xs) ys = cond (is_covered x ys) (subset xs ys) false

pub cond_up : (b u v : Bool) → (u ≡ true → v ≡ true) → cond b true u ≡ true → cond b true v ≡ true
cond_up true u v f e = refl
cond_up false u v f e = f e

cond_down : (b u v : Bool) → (u ≡ false → v ≡ false) → cond b true u ≡ false → cond b true v ≡ false
cond_down true u v f e = absurd cc
cond_down false u v f e = f e

pub has_left : (xs ys : Kinds) (k : Kind) → has xs k ≡ true → has (xs ++ ys) k ≡ true
unfolding has
has_left [] ys k e = absurd cc
has_left (x ∷ xs) ys k e = cond_up (is_within x (number k)) _ _ (has_left xs ys k) e

pub has_right : (xs ys : Kinds) (k : Kind) → has ys k ≡ true → has (xs ++ ys) k ≡ true
unfolding has
has_right [] ys k e = e
has_right (x ∷ xs) ys k e = cond_up (is_within x (number k)) true _ (λ h. has_right xs ys k e) (up (is_within x (number k)))
  where
    up : (b : Bool) → cond b true true ≡ true
    up true = refl
    up false = refl

pub none_left : (xs ys : Kinds) (k : Kind) → has (xs ++ ys) k ≡ false → has xs k ≡ false
unfolding has
none_left [] ys k e = refl
none_left (x ∷ xs) ys k e = cond_down (is_within x (number k)) _ _ (none_left xs ys k) e

pub none_right : (xs ys : Kinds) (k : Kind) → has (xs ++ ys) k ≡ false → has ys k ≡ false
unfolding has
none_right [] ys k e = e
none_right (x ∷ xs) ys k e = none_right xs ys k (down (is_within x (number k)) _ e)
  where
    down : (b u : Bool) → cond b true u ≡ false → u ≡ false
    down true u h = absurd cc
    down false u h = h

outside : (a b c d n : ℕ) → (nat_lt b c || nat_lt d a) ≡ true → (nat_le a n && nat_le n b) ≡ true → (nat_le c n && nat_le n d) ≡ false
outside a b c d n e h = grind (arith, nat_tests)

inside : (a b c d n : ℕ) → (nat_le c a && nat_le b d) ≡ true → (nat_le a n && nat_le n b) ≡ true → (nat_le c n && nat_le n d) ≡ true
inside a b c d n e h = grind (arith, nat_tests)

clear_none : (x : ℕ × ℕ) (ys : Kinds) (k : Kind) → is_clear x ys ≡ true → is_within x (number k) ≡ true → has ys k ≡ false
unfolding has
clear_none x [] k e h = refl
clear_none x (y ∷ ys) k e h = go (are_apart x y) refl e (λ e. clear_none x ys k e h)
  where
    go : (b : Bool) → are_apart x y ≡ b → cond b (is_clear x ys) false ≡ true → (is_clear x ys ≡ true → has ys k ≡ false) → cond (is_within y (number k)) true (has ys k) ≡ false
    go false p e f = absurd cc
    go true p e f = ap (λ (b : Bool). cond b true (has ys k)) (outside x.0 x.1 y.0 y.1 (number k) p h) ∙ f e

covered_has : (x : ℕ × ℕ) (ys : Kinds) (k : Kind) → is_covered x ys ≡ true → is_within x (number k) ≡ true → has ys k ≡ true
unfolding has
covered_has x [] k e h = absurd cc
covered_has x (y ∷ ys) k e h = go (nat_le y.0 x.0 && nat_le x.1 y.1) refl e (λ e. covered_has x ys k e h)
  where
    both : (b : Bool) (u : Bool) → u ≡ true → cond b true u ≡ true
    both true u e = refl
    both false u e = e

    go : (b : Bool) → (nat_le y.0 x.0 && nat_le x.1 y.1) ≡ b → cond b true (is_covered x ys) ≡ true → (is_covered x ys ≡ true → has ys k ≡ true) → cond (is_within y (number k)) true (has ys k) ≡ true
    go true p e f = ap (λ (b : Bool). cond b true (has ys k)) (inside x.0 x.1 y.0 y.1 (number k) p h)
    go false p e f = both (is_within y (number k)) _ (f e)

pub apart : (xs ys : Kinds) (k : Kind) → disjoint xs ys ≡ true → has xs k ≡ true → has ys k ≡ false
unfolding has
apart [] ys k e h = absurd cc
apart (x ∷ xs) ys k e h = go (is_clear x ys) refl (is_within x (number k)) refl e h (apart xs ys k)
  where
    go : (b : Bool) → is_clear x ys ≡ b → (c : Bool) → is_within x (number k) ≡ c → cond b (disjoint xs ys) false ≡ true → cond c true (has xs k) ≡ true → (disjoint xs ys ≡ true → has xs k ≡ true → has ys k ≡ false) → has ys k ≡ false
    go false p c q e h f = absurd cc
    go true p true q e h f = clear_none x ys k p q
    go true p false q e h f = f e h

pub within : (xs ys : Kinds) (k : Kind) → subset xs ys ≡ true → has xs k ≡ true → has ys k ≡ true
unfolding has
within [] ys k e h = absurd cc
within (x ∷ xs) ys k e h = go (is_covered x ys) refl (is_within x (number k)) refl e h (within xs ys k)
  where
    go : (b : Bool) → is_covered x ys ≡ b → (c : Bool) → is_within x (number k) ≡ c → cond b (subset xs ys) false ≡ true → cond c true (has xs k) ≡ true → (subset xs ys ≡ true → has xs k ≡ true → has ys k ≡ true) → has ys k ≡ true
    go false p c q e h f = absurd cc
    go true p true q e h f = covered_has x ys k p q
    go true p false q e h f = f e h

pub without : (xs ys : Kinds) (k : Kind) → subset xs ys ≡ true → has ys k ≡ false → has xs k ≡ false
without xs ys k e h = go (has xs k) refl
  where
    go : (b : Bool) → has xs k ≡ b → has xs k ≡ false
    go true p = let q = within xs ys k e p in absurd cc
    go false p = p

at_itself : (n : ℕ) → (nat_le n n && nat_le n n) ≡ true
at_itself n = grind (arith, nat_tests)

pub has_only : (k : Kind) → has (only k) k ≡ true
unfolding has
has_only k = ap (λ (b : Bool). cond b true false) (at_itself (number k))

same_number : (n m : ℕ) → (nat_le n m && nat_le m n) ≡ true → n ≡ m
same_number n m e = grind (arith, nat_tests)

numbers : (o k : Kind) → has (only o) k ≡ true → number o ≡ number k
unfolding has
numbers o k h = go (is_within (number o, number o) (number k)) refl h
  where
    go : (b : Bool) → is_within (number o, number o) (number k) ≡ b → cond b true false ≡ true → number o ≡ number k
    go true p e = same_number (number o) (number k) p
    go false p e = absurd cc

by_number : (ks : Kinds) (o k : Kind) → number o ≡ number k → has ks o ≡ has ks k
unfolding has
by_number [] o k e = refl
by_number (x ∷ xs) o k e = ap (λ (n : ℕ). cond (is_within x n) true (has xs o)) e ∙ ap (λ (b : Bool). cond (is_within x (number k)) true b) (by_number xs o k e)

-- the only kind of the set is in the same sets
pub only_is : (o k : Kind) → has (only o) k ≡ true → (ks : Kinds) → has ks o ≡ has ks k
only_is o k h ks = by_number ks o k (numbers o k h)

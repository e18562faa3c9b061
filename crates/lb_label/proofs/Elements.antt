-- The elements of a part as a list, and tests of them.
use Rattle.std.proofs.Common.{◌≡◌, refl, ap, sym, ◌∙◌, ℕ, zero, suc, ◌+◌, ◌-◌, ◌*◌, ◌/◌, ◌^◌, ◌%◌, ◌<◌, ◌≤◌, ◌≢◌, ◌⊎◌, ⊎_elim, inl, inr, Bool, true, false, not, cond, ◌||◌, ◌&&◌, List, [], ◌∷◌, length, eqb, ltb, arith, subst, bit_and, min}
use Rattle.std.proofs.lemmas.Bool.{cases_eq, cases_lt}
use Rattle.std.proofs.lemmas.Bool.Decides.{Decides-at, Decides-not, not_from_Decides, same_from_decides}
use Rattle.std.proofs.lemmas.Nat.Bits.{bit_at-lt, bit_at-zero, bit_at_and, bit_at_not, bit_at_above, bit_at-trailing_zeros}
use Rattle.std.specs.Bool.{Decides}
use Rattle.std.specs.Int.{bit_at, bit_not, w64, trailing_zeros}
use Rattle.std.specs.List.{filter, list_any, list_all, range_with_len}
use Rattle.lb_label.proofs.Bits.{same_true, true_same, false_apart}
use Rattle.lb_label.specs.Component.{Definition, numbers, is_higher, descends}
use Rattle.lb_label.specs.Label.{has_element, elements_in}
use Rattle.lb_label.specs.Rules.{has, lacks_one, is_under, none_under}

-- ---- tests

pub and_true : (a b : Bool) → a ≡ true → b ≡ true → (a && b) ≡ true
and_true a b h k = rw (h, k) refl

pub both_true : (a b : Bool) → (a && b) ≡ true → (a ≡ true) × (b ≡ true)
both_true true b e = (refl, e)
both_true false b e = absurd (differ e)
  where
    differ : false ≡ true → ⊥
    differ e = cc

pub or_cases : (a b : Bool) → (a || b) ≡ true → (a ≡ true) ⊎ (b ≡ true)
or_cases true b e = inl refl
or_cases false b e = inr e

pub or_left : (a b : Bool) → a ≡ true → (a || b) ≡ true
or_left a b h = rw h refl

pub or_right : (a b : Bool) → b ≡ true → (a || b) ≡ true
or_right true b h = refl
or_right false b h = h

-- ---- the numbers of a range

pub any_in_range : (p : ℕ → Bool) (a n : ℕ) → Decides (list_any p (range_with_len a n)) ((k : ℕ) × (a ≤ k) × (k < a + n) × (p k ≡ true))
any_in_range p a zero = (λ (e : false ≡ true). absurd cc, λ some. let low : a ≤ some.0 = some.1 in let high : some.0 < a + 0 = some.2 in absurd (omega arith))
any_in_range p a (suc n) = (
  λ found. ⊎_elim
      (λ (here : p a ≡ true). (a, omega arith, omega arith, here))
      (λ later. let rest : (k : ℕ) × (a + 1 ≤ k) × (k < a + 1 + n) × (p k ≡ true) = (any_in_range p (a + 1) n).0 later in
      let low : a + 1 ≤ rest.0 = rest.1 in let high : rest.0 < a + 1 + n = rest.2 in (rest.0, omega arith, omega arith, rest.3))
      (or_cases (p a) _ found),
  λ some. let low : a ≤ some.0 = some.1 in let high : some.0 < a + suc n = some.2 in ⊎_elim
      (λ (same : some.0 ≡ a). or_left (p a) _ (subst (λ k. p k ≡ true) same some.3))
      (λ (apart : some.0 ≢ a). or_right (p a) _ ((any_in_range p (a + 1) n).1 (some.0, omega arith, omega arith, some.3)))
      (cases_eq some.0 a),
)

pub any_in_filter : {X : Type 0} (p q : X → Bool) (xs : List X) → list_any p (filter q xs) ≡ list_any (λ x. q x && p x) xs
any_in_filter p q [] = refl
any_in_filter p q (x ∷ xs) =
    elim (q x) as (λ b. list_any p (cond b (x ∷ filter q xs) (filter q xs)) ≡ ((b && p x) || list_any (λ y. q y && p y) xs)) [
      | true ↦ ap (λ b. p x || b) (any_in_filter p q xs)
      | false ↦ any_in_filter p q xs
    ]

pub all_is_no_other : {X : Type 0} (p : X → Bool) (xs : List X) → list_all p xs ≡ not (list_any (λ x. not (p x)) xs)
all_is_no_other p [] = refl
all_is_no_other p (x ∷ xs) =
    elim (p x) as (λ b. (b && list_all p xs) ≡ not (not b || list_any (λ y. not (p y)) xs)) [
      | true ↦ all_is_no_other p xs
      | false ↦ refl
    ]

-- ---- the elements whose bits are set

abbrev pub members : ℕ → ℕ → List ℕ
members n part = filter (λ e. eqb (bit_at part e) 1) (numbers n)

pub any_member : (p : ℕ → Bool) (n part : ℕ) → Decides (list_any p (members n part)) ((k : ℕ) × (k < n) × (bit_at part k ≡ 1) × (p k ≡ true))
any_member p n part = Decides-at _ _ (any_in_filter p (λ e. eqb (bit_at part e) 1) (numbers n)) (
  λ found. let some : (k : ℕ) × (0 ≤ k) × (k < 0 + n) × ((eqb (bit_at part k) 1 && p k) ≡ true) = (any_in_range (λ e. eqb (bit_at part e) 1 && p e) 0 n).0 found in
      let both : (eqb (bit_at part some.0) 1 ≡ true) × (p some.0 ≡ true) = both_true _ _ some.3 in
      let high : some.0 < 0 + n = some.2 in
      (some.0, omega arith, same_true _ _ both.0, both.1),
  λ some. let high : some.0 < n = some.1 in
      (any_in_range (λ e. eqb (bit_at part e) 1 && p e) 0 n).1 (some.0, omega arith, omega arith, and_true _ _ (true_same _ _ some.2) some.3),
)

pub is_member : (n part e : ℕ) → Decides (has (members n part) e) ((e < n) × (bit_at part e ≡ 1))
is_member n part e = (
  λ found. let some : (k : ℕ) × (k < n) × (bit_at part k ≡ 1) × (eqb k e ≡ true) = (any_member (λ k. eqb k e) n part).0 found in
      let same : some.0 ≡ e = same_true some.0 e some.3 in
      (subst (λ k. k < n) same some.1, subst (λ k. bit_at part k ≡ 1) same some.2),
  λ h. (any_member (λ k. eqb k e) n part).1 (e, h.0, h.1, true_same e e refl),
)

-- a bit that is set is below the length of the number
pub set_below : (n part k : ℕ) → part < 2 ^ n → bit_at part k ≡ 1 → k < n
set_below n part k small set = ⊎_elim
    (λ (l : k < n). l)
    (λ (g : n ≤ k). let clear : bit_at part k ≡ 0 = bit_at_above part n k small g in absurd (omega arith))
    (cases_lt k n)

pub bit_or_not : (part k : ℕ) → (bit_at part k ≡ 1) ⊎ (bit_at part k ≡ 0)
bit_or_not part k =
    let two : bit_at part k < 2 = bit_at-lt part k in
    ⊎_elim (λ (e : bit_at part k ≡ 1). inl e) (λ (ne : bit_at part k ≢ 1). inr (omega arith)) (cases_eq (bit_at part k) 1)

-- a number is not 0 where a bit is set
pub some_bit : (m : ℕ) → m < 2 ^ 64 → Decides (not (eqb m 0)) ((k : ℕ) × (bit_at m k ≡ 1))
some_bit m small = (
  λ some. let positive : 0 < m = positive_from m some in
      let low : (trailing_zeros w64 m < 64) × (bit_at m (trailing_zeros w64 m) ≡ 1) × ((i : ℕ) → i < trailing_zeros w64 m → bit_at m i ≡ 0) = bit_at-trailing_zeros w64 m positive small in
      (trailing_zeros w64 m, low.1),
  λ set. ⊎_elim
      (λ (none : m ≡ 0). let clear : bit_at m set.0 ≡ 0 = ap (λ x. bit_at x set.0) none ∙ bit_at-zero set.0 in
      let one : bit_at m set.0 ≡ 1 = set.1 in absurd (omega arith))
      (λ (apart : m ≢ 0). let t : eqb m 0 ≡ false = false_apart m 0 apart in rw t refl)
      (cases_eq m 0),
)
  where
    positive_from : (x : ℕ) → not (eqb x 0) ≡ true → 0 < x
    positive_from x e = ⊎_elim
        (λ (none : x ≡ 0). let t : eqb x 0 ≡ true = true_same x 0 none in let t' : not (eqb x 0) ≡ false = ap not t in let no : false ≡ true = sym t' ∙ e in absurd cc)
        (λ (apart : x ≢ 0). omega arith)
        (cases_eq x 0)

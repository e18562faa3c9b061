-- The part that stands for some of a component's elements fits the component.
use Rattle.std.proofs.Common.{ℕ, zero, suc, ◌+◌, ◌^◌, ◌<◌, ◌≤◌, ◌≡◌, refl, sym, subst, ap, cond, Bool, true, false, List, [], ◌∷◌, map, sum, fold, arith, add-one, zero-le, pow-suc, zero-add, add-zero, le_refl}
use Rattle.std.specs.Prelude.{filter}
use Rattle.std.specs.List.{range_with_len}
use Rattle.lb_label.specs.declared.kind.ComponentKind.{ComponentKind}
use Rattle.lb_label.specs.declared.kind.ComponentKind.TheVariants.{Set, Array, Tree}
use Rattle.lb_label.specs.Component.{numbers}
use Rattle.lb_label.specs.Label.{fits_in, bit_of, part_of}

abbrev head_or : ℕ → List ℕ → ℕ
head_or d [] = d
head_or d (x ∷ xs) = x

abbrev IsListed : List ℕ → Type 0
IsListed [] = ⊥
IsListed (x ∷ xs) = Unit {0}

no_nil : (x : ℕ) (xs : List ℕ) → [] ≡ x ∷ xs → ⊥
no_nil x xs e = subst IsListed (sym e) tt

-- the sum of these numbers, from s on
abbrev total : ℕ → List ℕ → ℕ
total s xs = fold (λ a x. a + x) s xs

with_bit : (t s w v u : ℕ) → t + v ≤ (s + w) + u → v ≡ w + w → t + w ≤ s + u
with_bit t s w v u h e = omega arith

without_bit : (t s w v u : ℕ) → t + v ≤ s + u → v ≡ w + w → t + w ≤ s + u
without_bit t s w v u h e = omega arith

doubled : (a : ℕ) → 2 ^ (a + 1) ≡ 2 ^ a + 2 ^ a
doubled a = rw (add-one, pow-suc) (omega arith)

module _ (p : ℕ → Bool) where
  bits_step : (b : Bool) (s a : ℕ) (xs : List ℕ) (u : ℕ) → ((t : ℕ) → total t (map bit_of xs) + 2 ^ (a + 1) ≤ t + u) → total s (map bit_of (cond b (a ∷ xs) xs)) + 2 ^ a ≤ s + u
  bits_step true s a xs u h = with_bit (total (s + 2 ^ a) (map bit_of xs)) s (2 ^ a) (2 ^ (a + 1)) u (h (s + 2 ^ a)) (doubled a)
  bits_step false s a xs u h = without_bit (total s (map bit_of xs)) s (2 ^ a) (2 ^ (a + 1)) u (h s) (doubled a)

  -- the bits of some of the numbers from a on
  bits_from : (a n s : ℕ) → total s (map bit_of (filter p (range_with_len a n))) + 2 ^ a ≤ s + 2 ^ (a + n)
  bits_from a zero s = rw add-zero (le_refl (s + 2 ^ a))
  bits_from a (suc n) s =
      bits_step (p a) s a (filter p (range_with_len (a + 1) n)) (2 ^ (a + suc n))
      (λ t. subst (λ k. total t (map bit_of (filter p (range_with_len (a + 1) n))) + 2 ^ (a + 1) ≤ t + 2 ^ k) (omega arith) (bits_from (a + 1) n t))

  first_step : (b : Bool) (a n e : ℕ) (es xs : List ℕ) → (xs ≡ e ∷ es → e + 1 ≤ (a + 1) + n) → cond b (a ∷ xs) xs ≡ e ∷ es → e + 1 ≤ a + suc n
  first_step true a n e es xs rec h = let q : a ≡ e = ap (head_or a) h in omega arith
  first_step false a n e es xs rec h = let q : e + 1 ≤ (a + 1) + n = rec h in omega arith

  -- the first of them
  first_from : (a n e : ℕ) (es : List ℕ) → filter p (range_with_len a n) ≡ e ∷ es → e + 1 ≤ a + n
  first_from a zero e es h = absurd (no_nil e es h)
  first_from a (suc n) e es h = first_step (p a) a n e es (filter p (range_with_len (a + 1) n)) (first_from (a + 1) n e es) h

  array_fits : (n : ℕ) (es : List ℕ) → filter p (numbers n) ≡ es → fits_in Array n (part_of Array es)
  array_fits n [] h = zero-le
  array_fits n (e ∷ es) h = subst (λ k. e + 1 ≤ k) (zero-add n) (first_from 0 n e es h)

  bits_fit : (n : ℕ) → sum (map bit_of (filter p (numbers n))) < 2 ^ n
  bits_fit n =
      let h : total 0 (map bit_of (filter p (range_with_len 0 n))) + 2 ^ 0 ≤ 0 + 2 ^ (0 + n) = bits_from 0 n 0 in
      subst (λ k. total 0 (map bit_of (filter p (range_with_len 0 n))) < 2 ^ k) (zero-add n) (below (total 0 (map bit_of (filter p (range_with_len 0 n)))) (2 ^ (0 + n)) h)
    where
      below : (t u : ℕ) → t + 2 ^ 0 ≤ 0 + u → t < u
      below t u q = omega arith

pub part_fits : (kind : ComponentKind) (p : ℕ → Bool) (n : ℕ) → fits_in kind n (part_of kind (filter p (numbers n)))
part_fits Set p n = bits_fit p n
part_fits Array p n = array_fits p n (filter p (numbers n)) refl
part_fits Tree p n = bits_fit p n

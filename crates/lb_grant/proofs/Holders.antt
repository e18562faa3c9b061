-- The first of a list that passes a test, sought place after place.
use Rattle.std.proofs.Common.{ℕ, ◌≡◌, refl, ap, sym, ◌∙◌, ◌+◌, suc, zero, Bool, true, false, cond, List, [], ◌∷◌, drop, None, Some, arith}
use Rattle.std.specs.Prelude.{find, slice_get}

module _ {A : Type 0} (test : A → Bool) where
  from_place : (xs : List A) (i : ℕ) (x : A) → slice_get xs i ≡ Some x → find test (drop i xs) ≡ cond (test x) (Some x) (find test (drop (i + 1) xs))
  from_place [] i x h = absurd cc
  from_place (y ∷ ys) zero x h =
      let same : y ≡ x = cc in
      ap (λ (z : A). cond (test z) (Some z) (find test ys)) same
  from_place (y ∷ ys) (suc i) x h =
      let next : suc i + 1 ≡ suc (i + 1) = omega arith in
      from_place ys i x h ∙ ap (λ (k : ℕ). cond (test x) (Some x) (find test (drop k (y ∷ ys)))) (sym next)

  -- it is the one in this place
  pub at_place : (xs : List A) (i : ℕ) (x : A) → Some x ≡ slice_get xs i → find test xs ≡ find test (drop i xs) → test x ≡ true → Some x ≡ find test xs
  at_place xs i x h so passes = sym (so ∙ from_place xs i x (sym h) ∙ ap (λ b. cond b (Some x) (find test (drop (i + 1) xs))) passes)

  -- it is behind this place
  pub behind : (xs : List A) (i : ℕ) (x : A) → Some x ≡ slice_get xs i → find test xs ≡ find test (drop i xs) → test x ≡ false → find test xs ≡ find test (drop (i + 1) xs)
  behind xs i x h so fails = so ∙ from_place xs i x (sym h) ∙ ap (λ b. cond b (Some x) (find test (drop (i + 1) xs))) fails

  -- past the end there is none to be behind
  pub none_here : (xs : List A) (i : ℕ) → None ≡ slice_get xs i → find test (drop i xs) ≡ find test (drop (i + 1) xs)
  none_here [] zero h = refl
  none_here [] (suc i) h =
      let next : suc i + 1 ≡ suc (i + 1) = omega arith in
      ap (λ (k : ℕ). find test (drop k [])) (sym next)
  none_here (y ∷ ys) zero h = absurd cc
  none_here (y ∷ ys) (suc i) h =
      let next : suc i + 1 ≡ suc (i + 1) = omega arith in
      none_here ys i h ∙ ap (λ (k : ℕ). find test (drop k (y ∷ ys))) (sym next)

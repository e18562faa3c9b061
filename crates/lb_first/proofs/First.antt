-- The first of some items that passes a test, by whether the next one does.
use Rattle.std.proofs.Common.{ℕ, ◌≡◌, refl, ap, sym, ◌∙◌, zero, suc, ◌+◌, ◌<◌, true, false, cond, Bool, List, [], ◌∷◌, drop, length, Some, None, arith}
use Rattle.std.specs.Prelude.{find, slice_get}
use Rattle.std.specs.Option.{option_or}
use Rattle.lb_first.specs.Passing.{passing}

module _ {A : Type 0} (test : A → Bool) where
  next : (xs : List A) (i : ℕ) → i < length xs → find test (drop i xs) ≡ option_or (passing test (slice_get xs i)) (find test (drop (i + 1) xs))
  next [] i h = absurd (omega (arith, h))
  next (x ∷ xs) zero h =
      elim (test x) as (λ b. cond b (Some x) (find test xs) ≡ option_or (cond b (Some x) None) (find test xs)) [
        | true ↦ refl
        | false ↦ refl
      ]
  next (x ∷ xs) (suc i) h =
      let one_more : suc i + 1 ≡ suc (i + 1) = omega arith in
      next xs i (omega (arith, h)) ∙ ap (λ (k : ℕ). option_or (passing test (slice_get xs i)) (find test (drop k (x ∷ xs)))) (sym one_more)

  pub found_here : (xs : List A) (i : ℕ) (x : A) → i < length xs → Some x ≡ passing test (slice_get xs i) → find test (drop i xs) ≡ Some x
  found_here xs i x h found = next xs i h ∙ ap (λ z. option_or z (find test (drop (i + 1) xs))) (sym found)

  pub found_later : (xs : List A) (i : ℕ) → i < length xs → None ≡ passing test (slice_get xs i) → find test (drop i xs) ≡ find test (drop (i + 1) xs)
  found_later xs i h none = next xs i h ∙ ap (λ z. option_or z (find test (drop (i + 1) xs))) (sym none)

-- Finding, putting and leaving out go through a function of the items.
use Rattle.std.proofs.Common.{◌≡◌, refl, ap, Bool, true, false, cond, not, List, [], ◌∷◌, map, Some}
use Rattle.std.specs.Prelude.{find, option_map}
use Rattle.lb_rows.specs.Lists.{put, without}

module _ {A B : Type 0} (f : A → B) (is : B → Bool) where
  pub find_mapped : (xs : List A) → find is (map f xs) ≡ option_map f (find (λ x. is (f x)) xs)
  find_mapped [] = refl
  find_mapped (x ∷ xs) =
      elim (is (f x)) as (λ b. cond b (Some (f x)) (find is (map f xs)) ≡ option_map f (cond b (Some x) (find (λ y. is (f y)) xs))) [
        | true ↦ refl
        | false ↦ find_mapped xs
      ]

  pub put_mapped : (r : A) (xs : List A) → map f (put (λ x. is (f x)) r xs) ≡ put is (f r) (map f xs)
  put_mapped r [] = refl
  put_mapped r (x ∷ xs) =
      elim (is (f x)) as (λ b. map f (cond b (r ∷ xs) (x ∷ put (λ y. is (f y)) r xs)) ≡ cond b (f r ∷ map f xs) (f x ∷ put is (f r) (map f xs))) [
        | true ↦ refl
        | false ↦ ap (λ (rest : List B). f x ∷ rest) (put_mapped r xs)
      ]

  pub without_mapped : (xs : List A) → map f (without (λ x. is (f x)) xs) ≡ without is (map f xs)
  without_mapped [] = refl
  without_mapped (x ∷ xs) =
      elim (is (f x)) as (λ b. map f (cond (not b) (x ∷ without (λ y. is (f y)) xs) (without (λ y. is (f y)) xs)) ≡ cond (not b) (f x ∷ without is (map f xs)) (without is (map f xs))) [
        | true ↦ without_mapped xs
        | false ↦ ap (λ (rest : List B). f x ∷ rest) (without_mapped xs)
      ]

-- A list of entries with one put into the place of the first that a test means.
use Rattle.std.proofs.Common.{◌≡◌, refl, ap, ◌∙◌, ℕ, zero, suc, ◌+◌, ◌<◌, ◌≤◌, Bool, true, false, cond, not, List, [], ◌∷◌, ◌++◌, length, set, get_or, arith}
use Rattle.std.specs.List.{position_or_len}
use Rattle.std.proofs.lemmas.List.Sums.{position_or_len_is}
use Rattle.lb_rows.specs.Lists.{put}

-- what goes into the place of the first one that is meant
pub put_in_place : {R : Type 0} (is : R → Bool) (r : R) (xs : List R) → position_or_len is xs < length xs → set xs (position_or_len is xs) r ≡ put is r xs
put_in_place is r [] inside = absurd (omega arith)
put_in_place is r (x ∷ xs) inside =
    elim (is x) as (λ b. cond (not b) (1 + position_or_len is xs) 0 < suc (length xs) → set (x ∷ xs) (cond (not b) (1 + position_or_len is xs) 0) r ≡ cond b (r ∷ xs) (x ∷ put is r xs)) [
      | true ↦ λ h. refl
      | false ↦ λ (h : 1 + position_or_len is xs < suc (length xs)).
          let next : 1 + position_or_len is xs ≡ suc (position_or_len is xs) = omega arith in
          ap (λ (k : ℕ). set (x ∷ xs) k r) next ∙ ap (λ ys. x ∷ ys) (put_in_place is r xs (omega arith))
    ] inside

-- what goes last where none is meant
pub put_last : {R : Type 0} (is : R → Bool) (r : R) (xs : List R) → length xs ≤ position_or_len is xs → xs ++ r ∷ [] ≡ put is r xs
put_last is r [] none = refl
put_last is r (x ∷ xs) none =
    elim (is x) as (λ b. suc (length xs) ≤ cond (not b) (1 + position_or_len is xs) 0 → x ∷ xs ++ r ∷ [] ≡ cond b (r ∷ xs) (x ∷ put is r xs)) [
      | true ↦ λ h. absurd (omega arith)
      | false ↦ λ (h : suc (length xs) ≤ 1 + position_or_len is xs). ap (λ ys. x ∷ ys) (put_last is r xs (omega arith))
    ] none

-- the first place at which the test passes
pub first_place : {R : Type 0} (is : R → Bool) (xs : List R) (i : ℕ) (d : R) → i ≤ length xs → ((k : ℕ) → k < i → is (get_or xs k d) ≡ false) → is (get_or xs i d) ≡ true → position_or_len is xs ≡ i
first_place is xs i d inside before here = position_or_len_is is xs i d inside before (λ _. here)

-- and none
pub no_place : {R : Type 0} (is : R → Bool) (xs : List R) (i : ℕ) → i ≤ length xs → length xs ≤ i → ((k : ℕ) (d : R) → k < i → is (get_or xs k d) ≡ false) → position_or_len is xs ≡ i
no_place is [] zero inside ends before = refl
no_place is [] (suc i) inside ends before = absurd (omega arith)
no_place is (x ∷ xs) i inside ends before = position_or_len_is is (x ∷ xs) i x inside (λ k h. before k x h) (λ h. absurd (omega arith))

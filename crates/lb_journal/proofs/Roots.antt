-- Roots stay as the journal grows: the proof of the law `root_stays`.
use Rattle.std.proofs.Common.{◌≡◌, ℕ, zero, suc, ◌+◌, ◌<◌, ◌≤◌, List, [], ◌∷◌, ◌++◌, length, take, Option, Some, None, refl, ap, ◌∙◌, arith}
use Rattle.std.specs.Prelude.{slice_get}
use Rattle.std.proofs.lemmas.List.{take-append-le}
use Rattle.lb_cat.specs.declared.entry.Entry.{Entry}
use Rattle.lb_cat.specs.declared.entry.Entry.TheVariants as entries
use Rattle.lb_journal.specs.Roots.{open_place, root_at, root}

get_left : {A : Type 0} (xs ys : List A) (k : ℕ) → k < length xs → slice_get (xs ++ ys) k ≡ slice_get xs k
get_left [] ys k h = absurd (omega (arith, h))
get_left (x ∷ xs) ys zero h = refl
get_left (x ∷ xs) ys (suc k) h = get_left xs ys k (omega (arith, h))

-- the root of a place stays
pub root_stays : (J K : List Entry) (k : ℕ) → k < length J → root (J ++ K) k ≡ root J k
root_stays J K k h =
    ap (λ (t : List Entry). root_at t k (slice_get (J ++ K) k)) (take-append-le k J K (omega (arith, h)))
    ∙ ap (λ (o : Option Entry). root_at (take k J) k o) (get_left J K k h)

open_below : (at : ℕ) (J : List Entry) (s k : ℕ) → at + length J ≤ k → open_place at J s k ≤ k
open_below at [] s k h = omega arith
open_below at (entries.Open u g ∷ es) zero k h = omega (arith, h)
open_below at (entries.Open u g ∷ es) (suc s) k h = open_below (at + 1) es s k (omega (arith, h))
open_below at (entries.Said d ∷ es) s k h = open_below (at + 1) es s k (omega (arith, h))

take_short : {A : Type 0} (k : ℕ) (xs : List A) → length (take k xs) ≤ k
take_short zero xs = omega arith
take_short (suc k) [] = omega arith
take_short (suc k) (x ∷ xs) = let h = take_short k xs in omega (arith, h)

root_at_below : (J : List Entry) (k : ℕ) (o : Option Entry) → length J ≤ k → root_at J k o ≤ k
root_at_below J k (Some (entries.Said d)) h = open_below 0 J d.session k (omega (arith, h))
root_at_below J k (Some (entries.Open u g)) h = omega arith
root_at_below J k None h = omega arith

-- and is the place itself or an earlier one
pub root_below : (J : List Entry) (k : ℕ) → root J k ≤ k
root_below J k = root_at_below (take k J) k (slice_get J k) (take_short k J)

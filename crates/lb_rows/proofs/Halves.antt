-- Looking for a number by halves, in a list that is in the order of its numbers.
use Rattle.std.proofs.Common.{◌≡◌, refl, ap, sym, ◌∙◌, ℕ, zero, suc, ◌<◌, ◌≤◌, Bool, true, false, cond, ◌&&◌, ◌||◌, List, [], ◌∷◌, length, get_or, Option, Some, None, ltb, leb, arith}
use Rattle.std.specs.Prelude.{find}
use Rattle.std.specs.List.{list_any, slice_get}
use Rattle.std.specs.List.Sorted.{IsNonDecreasingBy, IsPartitionPoint}
use Rattle.std.specs.Option.{is_some}
use Rattle.std.proofs.lemmas.Bool.{ltb-true, ltb-false, le-leb, lt-leb, le-ltb}
use Rattle.lb_rows.specs.Within.{is_within}

-- no number at the end or above it is within
past : (first end m : ℕ) → end ≤ m → is_within first end m ≡ false
past first end m h =
    elim (leb first m) as (λ b. b && ltb m end ≡ false) [
      | true ↦ le-ltb m end h
      | false ↦ refl
    ]

before : (first end m : ℕ) → m < first → is_within first end m ≡ false
before first end m h = rw (lt-leb first m h) refl

inside : (first end m : ℕ) → first ≤ m → is_within first end m ≡ ltb m end
inside first end m h = rw (le-leb first m h) refl

module _ {X : Type 0} (n : X → ℕ) (first end : ℕ) where
  abbrev pub within : X → Bool
  within x = is_within first end (n x)

  -- the item, where its number is below the end
  abbrev pub below : Option X → Option X
  below None = None
  below (Some x) = cond (ltb (n x) end) (Some x) None

  none_past : (xs : List X) → ((k : ℕ) (d : X) → k < length xs → end ≤ n (get_or xs k d)) → find within xs ≡ None
  none_past [] h = refl
  none_past (x ∷ xs) h =
      let out : within x ≡ false = past first end (n x) (h 0 x (omega arith)) in
      rw out (none_past xs (λ k d inner. h (suc k) d (omega arith)))

  -- what stands where the numbers reach the first one is the first item within, if any is
  pub found : (xs : List X) (i : ℕ) → IsNonDecreasingBy n xs → IsPartitionPoint (λ x. ltb (n x) first ≡ true) (λ x. ltb (n x) first ≡ false) xs i
      → find within xs ≡ below (slice_get xs i)
  found [] i order point = refl
  found (x ∷ xs) zero order point =
      let reached : first ≤ n x = ltb-false (n x) first (point.1 0 x (omega arith) (omega arith)) in
      elim (ltb (n x) end) as (λ b. ltb (n x) end ≡ b → cond (within x) (Some x) (find within xs) ≡ cond b (Some x) None) [
        | true ↦ λ e. let is : within x ≡ true = inside first end (n x) reached ∙ e in rw is refl
        | false ↦ λ e.
            let is : within x ≡ false = inside first end (n x) reached ∙ e in
            let rest : find within xs ≡ None = none_past xs (λ k d h. ended e k d (order 0 (suc k) d (omega arith) (omega arith))) in
            rw is rest
      ] refl
    where
      ended : ltb (n x) end ≡ false → (k : ℕ) (d : X) → n x ≤ n (get_or xs k d) → end ≤ n (get_or xs k d)
      ended e k d h = let over : end ≤ n x = ltb-false (n x) end e in omega arith
  found (x ∷ xs) (suc i) order point =
      let under : n x < first = ltb-true (n x) first (point.0 0 x (omega arith) (omega arith)) in
      let out : within x ≡ false = before first end (n x) under in
      rw out (found xs i (λ a b d h within. order (suc a) (suc b) d (omega arith) (omega arith))
      ((λ k d low high. point.0 (suc k) d (omega arith) (omega arith)), (λ k d low high. point.1 (suc k) d (omega arith) (omega arith))))

  -- whether there is one
  pub any_found : (xs : List X) → list_any within xs ≡ is_some (find within xs)
  any_found [] = refl
  any_found (x ∷ xs) =
      elim (within x) as (λ b. b || list_any within xs ≡ is_some (cond b (Some x) (find within xs))) [
        | true ↦ refl
        | false ↦ any_found xs
      ]

  pub found_there : (xs : List X) (i : ℕ) (o : Option X) (x : X) (b : Bool) → IsNonDecreasingBy n xs → IsPartitionPoint (λ x. ltb (n x) first ≡ true) (λ x. ltb (n x) first ≡ false) xs i
      → o ≡ slice_get xs i → o ≡ Some x → ltb (n x) end ≡ b → find within xs ≡ cond b (Some x) None
  found_there xs i o x b order point there is test = found xs i order point ∙ ap below (sym there ∙ is) ∙ ap (λ c. cond c (Some x) None) test

  pub none_there : (xs : List X) (i : ℕ) (o : Option X) → IsNonDecreasingBy n xs → IsPartitionPoint (λ x. ltb (n x) first ≡ true) (λ x. ltb (n x) first ≡ false) xs i
      → o ≡ slice_get xs i → o ≡ None → find within xs ≡ None
  none_there xs i o order point there is = found xs i order point ∙ ap below (sym there ∙ is)

  pub any_there : (xs : List X) (i : ℕ) (o : Option X) (x : X) → IsNonDecreasingBy n xs → IsPartitionPoint (λ x. ltb (n x) first ≡ true) (λ x. ltb (n x) first ≡ false) xs i
      → o ≡ slice_get xs i → o ≡ Some x → ltb (n x) end ≡ list_any within xs
  any_there xs i o x order point there is =
      elim (ltb (n x) end) as (λ b. ltb (n x) end ≡ b → b ≡ list_any within xs) [
        | true ↦ λ e. sym (any_found xs ∙ ap is_some (found_there xs i o x true order point there is e))
        | false ↦ λ e. sym (any_found xs ∙ ap is_some (found_there xs i o x false order point there is e))
      ] refl

  pub none_any : (xs : List X) (i : ℕ) (o : Option X) → IsNonDecreasingBy n xs → IsPartitionPoint (λ x. ltb (n x) first ≡ true) (λ x. ltb (n x) first ≡ false) xs i
      → o ≡ slice_get xs i → o ≡ None → false ≡ list_any within xs
  none_any xs i o order point there is = sym (any_found xs ∙ ap is_some (none_there xs i o order point there is))

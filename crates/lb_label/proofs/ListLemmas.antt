-- Lists: a place found, what is left of a list.
use Rattle.std.proofs.Common.{◌≡◌, refl, ap, sym, ◌∙◌, ℕ, zero, suc, ◌+◌, ◌-◌, ◌<◌, ◌≤◌, ◌≢◌, Bool, true, false, not, cond, ◌||◌, List, [], ◌∷◌, ◌++◌, length, map, take, drop, get_or, Option, Some, None, arith}
use Rattle.std.specs.List.{position_from, position_or_len, list_any}
use Rattle.std.proofs.lemmas.List.{drop_more, get_or-map, length-map}

-- what is left of a list of values from the element at i on
pub drop_map_read : {X : Type 0} (f : X → List ℕ) (xs : List X) (i : ℕ) (x : X) → i < length xs → x ≡ get_or xs i x → drop i (map f xs) ≡ f x ∷ drop (i + 1) (map f xs)
drop_map_read f xs i x within is =
    let fits : i < length (map f xs) = rw length-map within in
    drop_more (map f xs) i (f x) fits ∙ ap (λ y. y ∷ drop (i + 1) (map f xs)) (get_or-map f xs i x (f x) within ∙ ap f (sym is))

pub position_step : {X : Type 0} (t : List ℕ → Bool) (f : X → List ℕ) (xs : List X) (i : ℕ) (x : X) → i < length xs → x ≡ get_or xs i x
    → position_from t i (drop i (map f xs)) ≡ cond (t (f x)) (Some i) (position_from t (i + 1) (drop (i + 1) (map f xs)))
position_step t f xs i x within is = ap (position_from t i) (drop_map_read f xs i x within is)

-- a place that is found stays where the list grows
pub position_kept : (t : List ℕ → Bool) (i : ℕ) (xs ys : List (List ℕ)) (k : ℕ) → position_from t i xs ≡ Some k → position_from t i (xs ++ ys) ≡ Some k
position_kept t i [] ys k found = cc
position_kept t i (x ∷ xs) ys k found =
    elim (t x) as (λ b. cond b (Some i) (position_from t (i + 1) xs) ≡ Some k → cond b (Some i) (position_from t (i + 1) (xs ++ ys)) ≡ Some k) [
      | true ↦ λ e. e
      | false ↦ λ e. position_kept t (i + 1) xs ys k e
    ] found

-- the first place of an element at the end that is the only one to pass
pub position_new : (t : List ℕ → Bool) (i : ℕ) (xs : List (List ℕ)) (y : List ℕ) → position_from t i xs ≡ None → t y ≡ true → position_from t i (xs ++ y ∷ []) ≡ Some (i + length xs)
position_new t i [] y lacks passes = rw passes (ap Some (omega arith))
position_new t i (x ∷ xs) y lacks passes =
    elim (t x) as (λ b. cond b (Some i) (position_from t (i + 1) xs) ≡ None → cond b (Some i) (position_from t (i + 1) (xs ++ y ∷ [])) ≡ Some (i + suc (length xs))) [
      | true ↦ λ (e : Some i ≡ None). cc
      | false ↦ λ e. position_new t (i + 1) xs y e passes ∙ ap Some (omega arith)
    ] lacks

-- the same for the first place or the length
pub place_kept : (p : ℕ → Bool) (xs ys : List ℕ) → position_or_len p xs < length xs → position_or_len p (xs ++ ys) ≡ position_or_len p xs
place_kept p [] ys found = absurd (omega arith)
place_kept p (x ∷ xs) ys found =
    elim (p x) as (λ b. cond (not b) (1 + position_or_len p xs) 0 < suc (length xs) → cond (not b) (1 + position_or_len p (xs ++ ys)) 0 ≡ cond (not b) (1 + position_or_len p xs) 0) [
      | true ↦ λ e. refl
      | false ↦ λ (e : 1 + position_or_len p xs < suc (length xs)). ap (λ n. 1 + n) (place_kept p xs ys (omega arith))
    ] found

pub place_new : (p : ℕ → Bool) (xs : List ℕ) (y : ℕ) → ((k : ℕ) → k < length xs → p (get_or xs k 0) ≡ false) → p y ≡ true → position_or_len p (xs ++ y ∷ []) ≡ length xs
place_new p [] y lacks passes = rw passes refl
place_new p (x ∷ xs) y lacks passes =
    let first : p x ≡ false = lacks 0 (omega arith) in
    let others : (k : ℕ) → k < length xs → p (get_or xs k 0) ≡ false = λ k h. lacks (suc k) (omega arith) in
    let rest : position_or_len p (xs ++ y ∷ []) ≡ length xs = place_new p xs y others passes in
    rw first (omega arith)

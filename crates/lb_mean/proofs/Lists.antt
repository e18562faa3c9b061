-- Lists: what holds of each element, and functions that give the same for each.
use Rattle.std.proofs.Common.{◌≡◌, refl, List, [], ◌∷◌, ◌++◌, Bool, true, false, cond, ◌||◌, Option, Some, None, map}
use Rattle.std.specs.Prelude.{filter, filter_map}
use Rattle.std.specs.List.{AllByRecursion, flat_map, cons_option, list_any}

module _ {X : Type 0} (P : X → Type 0) where
  pub all_two : (xs ys : List X) → AllByRecursion P xs → AllByRecursion P ys → AllByRecursion P (xs ++ ys)
  all_two [] ys g h = h
  all_two (x ∷ xs) ys g h = (g.0, all_two xs ys g.1 h)

  pub all_flat : {Y : Type 0} (f : Y → List X) (ys : List Y) → AllByRecursion (λ y. AllByRecursion P (f y)) ys → AllByRecursion P (flat_map f ys)
  all_flat f [] h = tt
  all_flat f (y ∷ ys) h = all_two (f y) (flat_map f ys) h.0 (all_flat f ys h.1)

  pub all_of_map : {Y : Type 0} (f : Y → X) (ys : List Y) → AllByRecursion (λ y. P (f y)) ys → AllByRecursion P (map f ys)
  all_of_map f [] h = tt
  all_of_map f (y ∷ ys) h = (h.0, all_of_map f ys h.1)

  pub all_filtered : (test : X → Bool) (xs : List X) → AllByRecursion P xs → AllByRecursion P (filter test xs)
  all_filtered test [] h = tt
  all_filtered test (x ∷ xs) h = go (test x) (all_filtered test xs h.1)
    where
      go : (b : Bool) → AllByRecursion P (filter test xs) → AllByRecursion P (cond b (x ∷ filter test xs) (filter test xs))
      go true rest = (h.0, rest)
      go false rest = rest

  pub all_turned : {Q : X → Type 0} → ((x : X) → P x → Q x) → (xs : List X) → AllByRecursion P xs → AllByRecursion Q xs
  all_turned f [] h = tt
  all_turned f (x ∷ xs) h = (f x h.0, all_turned f xs h.1)

  pub all_true : ((x : X) → P x) → (xs : List X) → AllByRecursion P xs
  all_true f [] = tt
  all_true f (x ∷ xs) = (f x, all_true f xs)

-- two functions that give the same for each of a list
pub mapped_same : {X Y : Type 0} (f g : X → Y) (xs : List X) → AllByRecursion (λ x. f x ≡ g x) xs → map f xs ≡ map g xs
mapped_same f g [] h = refl
mapped_same f g (x ∷ xs) h = λ i. h.0 i ∷ mapped_same f g xs h.1 i

pub kept_same : {X Y : Type 0} (f g : X → Option Y) (xs : List X) → AllByRecursion (λ x. f x ≡ g x) xs → filter_map f xs ≡ filter_map g xs
kept_same f g [] h = refl
kept_same f g (x ∷ xs) h = λ i. cons_option (h.0 i) (kept_same f g xs h.1 i)

pub any_same : {X : Type 0} (f g : X → Bool) (xs : List X) → AllByRecursion (λ x. f x ≡ g x) xs → list_any f xs ≡ list_any g xs
any_same f g [] h = refl
any_same f g (x ∷ xs) h = λ i. h.0 i || any_same f g xs h.1 i

-- what holds of what is there holds of what is kept
pub all_kept : {X Y : Type 0} (P : Y → Type 0) (f : X → Option Y) (xs : List X) → AllByRecursion (λ x. (y : Y) → f x ≡ Some y → P y) xs → AllByRecursion P (filter_map f xs)
all_kept P f [] h = tt
all_kept P f (x ∷ xs) h = go (f x) h.0 (all_kept P f xs h.1)
  where
    go : (o : Option _) → ((y : _) → o ≡ Some y → P y) → AllByRecursion P (filter_map f xs) → AllByRecursion P (cons_option o (filter_map f xs))
    go None k rest = rest
    go (Some y) k rest = (k y refl, rest)

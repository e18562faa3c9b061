-- A list in order in which ties stand as they stood is the stable sort's.
use Rattle.std.proofs.Common.{◌≡◌, refl, ap, sym, subst, ◌∙◌, List, [], ◌∷◌, Bool, true, false, if◌then◌else◌, not, ◌&&◌, ℕ, suc, ◌<◌, ◌≤◌, length, slice_index_or, arith}
use Rattle.std.specs.Prelude.{filter}
use Rattle.std.specs.Cmp.{IsStrictWeakOrder}
use Rattle.std.specs.List.Sorted.{IsSortedBy, IsStableBy, ties}
use Rattle.std.specs.List.Sorted.{IsSortedByClosure, IsStableByClosure}
use Rattle.std.specs.Fn.{Called}
use Rattle.std.specs.Ordering.{is_lt}
use Rattle.std.specs.declared.cmp.Ordering.{Ordering}
use Rattle.std.proofs.lemmas.List.Sorted.{sorted_far}
use Rattle.std.proofs.lemmas.Fn.{always_returns_same}
use denote.Param.Members.{Mut}
use denote.Ref.{Bor}
use Rattle.lb_mean.specs.Ordered.{insert, sorted}

not_both : (b : Bool) → (b ≡ true → b ≡ false) → b ≡ false
not_both true h = h refl
not_both false h = refl

clash : (b : Bool) → b ≡ true → b ≡ false → ⊥
clash true h k = absurd cc
clash false h k = absurd cc

module _ {X : Type 0} (less : X → X → Bool) (w : IsStrictWeakOrder less) where
  never : (x : X) → less x x ≡ false
  never x = not_both (less x x) (λ h. w.one_way x x h)

  self : (x : X) → ties less x x ≡ true
  self x = ap (λ b. not b && not b) (never x)

  -- none of the list is less than y; none is less than one before it
  abbrev None' : X → List X → Type 0
  None' y [] = Unit {0}
  None' y (z ∷ zs) = (less z y ≡ false) × None' y zs

  abbrev Rises : List X → Type 0
  Rises [] = Unit {0}
  Rises (y ∷ ys) = None' y ys × Rises ys

  lower : (x y : X) → less y x ≡ false → (zs : List X) → None' y zs → None' x zs
  lower x y h [] k = tt
  lower x y h (z ∷ zs) k = (w.chain z y x k.0 h, lower x y h zs k.1)

  none_in : (b : Bool) (y x z : X) (zs : List X) → less x y ≡ false → less z y ≡ false → None' y (insert less x zs) → None' y zs → None' y (if b then z ∷ insert less x zs else x ∷ z ∷ zs)
  none_in true y x z zs h k l m = (k, l)
  none_in false y x z zs h k l m = (h, (k, m))

  none_insert : (y x : X) (zs : List X) → less x y ≡ false → None' y zs → None' y (insert less x zs)
  none_insert y x [] h k = (h, tt)
  none_insert y x (z ∷ zs) h k = none_in (less z x) y x z zs h k.0 (none_insert y x zs h k.1) k.1

  rises_in : (b : Bool) (x y : X) (ys : List X) → less y x ≡ b → Rises (y ∷ ys) → Rises (insert less x ys) → Rises (if b then y ∷ insert less x ys else x ∷ y ∷ ys)
  rises_in true x y ys h k l = (none_insert y x ys (w.one_way y x h) k.0, l)
  rises_in false x y ys h k l = ((h, lower x y h ys k.0), k)

  rises_insert : (x : X) (ys : List X) → Rises ys → Rises (insert less x ys)
  rises_insert x [] k = (tt, tt)
  rises_insert x (y ∷ ys) k = rises_in (less y x) x y ys refl k (rises_insert x ys k.1)

  rises_sorted : (xs : List X) → Rises (sorted less xs)
  rises_sorted [] = tt
  rises_sorted (x ∷ xs) = rises_insert x (sorted less xs) (rises_sorted xs)

  -- ---- ties stay

  abbrev put : Bool → X → List X → List X
  put b x xs = if b then x ∷ xs else xs

  swapped : (a b : Bool) (x y : X) (f : List X) → (a ≡ true → b ≡ true → ⊥) → put a y (put b x f) ≡ put b x (put a y f)
  swapped true true x y f h = absurd (h refl refl)
  swapped true false x y f h = refl
  swapped false true x y f h = refl
  swapped false false x y f h = refl

  both_true : (a b : Bool) → (a && b) ≡ true → (a ≡ true) × (b ≡ true)
  both_true true true h = (refl, refl)
  both_true true false h = absurd cc
  both_true false b h = absurd cc

  is_false : (b : Bool) → not b ≡ true → b ≡ false
  is_false true h = absurd cc
  is_false false h = refl

  apart : (z x y : X) → less y x ≡ true → ties less z y ≡ true → ties less z x ≡ true → ⊥
  apart z x y h k l = clash (less y x) h far
    where
      one : less y z ≡ false
      one = is_false (less y z) (both_true (not (less z y)) (not (less y z)) k).1

      two : less z x ≡ false
      two = is_false (less z x) (both_true (not (less z x)) (not (less x z)) l).0

      far : less y x ≡ false
      far = w.chain y z x one two

  ties_in : (b : Bool) (z x y : X) (ys : List X) → less y x ≡ b → filter (ties less z) (insert less x ys) ≡ put (ties less z x) x (filter (ties less z) ys)
      → filter (ties less z) (if b then y ∷ insert less x ys else x ∷ y ∷ ys) ≡ put (ties less z x) x (put (ties less z y) y (filter (ties less z) ys))
  ties_in true z x y ys h k = ap (put (ties less z y) y) k ∙ swapped (ties less z y) (ties less z x) x y (filter (ties less z) ys) (λ a b. apart z x y h a b)
  ties_in false z x y ys h k = refl

  ties_insert : (z x : X) (ys : List X) → filter (ties less z) (insert less x ys) ≡ put (ties less z x) x (filter (ties less z) ys)
  ties_insert z x [] = refl
  ties_insert z x (y ∷ ys) = ties_in (less y x) z x y ys refl (ties_insert z x ys)

  ties_sorted : (z : X) (xs : List X) → filter (ties less z) (sorted less xs) ≡ filter (ties less z) xs
  ties_sorted z [] = refl
  ties_sorted z (x ∷ xs) = ties_insert z x (sorted less xs) ∙ ap (put (ties less z x) x) (ties_sorted z xs)

  -- ---- such a list is the only one

  abbrev head_or : X → List X → X
  head_or d [] = d
  head_or d (x ∷ xs) = x

  abbrev tail_of : List X → List X
  tail_of [] = []
  tail_of (x ∷ xs) = xs

  nil_cons : (z : X) (rest : List X) → [] ≡ z ∷ rest → ⊥
  nil_cons z rest h = absurd cc

  held_in : (b : Bool) (p : X → Bool) (y v z : X) (vs rest : List X) → None' y (v ∷ vs) → (filter p vs ≡ z ∷ rest → less z y ≡ false) → put b v (filter p vs) ≡ z ∷ rest → less z y ≡ false
  held_in true p y v z vs rest n f h = subst (λ u. less u y ≡ false) (ap (head_or v) h) n.0
  held_in false p y v z vs rest n f h = f h

  held : (p : X → Bool) (y z : X) (vs rest : List X) → None' y vs → filter p vs ≡ z ∷ rest → less z y ≡ false
  held p y z [] rest n h = absurd (nil_cons z rest h)
  held p y z (v ∷ vs) rest n h = held_in (p v) p y v z vs rest n (λ k. held p y z vs rest n.1 k) h

  put_self : (z : X) (zs : List X) → put (ties less z z) z zs ≡ z ∷ zs
  put_self z zs = ap (λ b. put b z zs) (self z)

  heads : (y z : X) (ys zs : List X) → Rises (y ∷ ys) → ((x : X) → filter (ties less x) (y ∷ ys) ≡ filter (ties less x) (z ∷ zs)) → less z y ≡ false
  heads y z ys zs r h = held (ties less z) y z (y ∷ ys) (filter (ties less z) zs) (never y, r.0) (h z ∙ put_self z (filter (ties less z) zs))

  tie : (y z : X) → less z y ≡ false → less y z ≡ false → ties less y z ≡ true
  tie y z h k = ap (λ b. not b && not (less z y)) k ∙ ap (λ b. not b) h

  same_tail : (b : Bool) (x : X) (us vs : List X) → put b x us ≡ put b x vs → us ≡ vs
  same_tail true x us vs h = ap tail_of h
  same_tail false x us vs h = h

  one_list : (ys zs : List X) → Rises ys → Rises zs → ((x : X) → filter (ties less x) ys ≡ filter (ties less x) zs) → ys ≡ zs
  one_list [] [] r s h = refl
  one_list [] (z ∷ zs) r s h = absurd (nil_cons z (filter (ties less z) zs) (h z ∙ put_self z (filter (ties less z) zs)))
  one_list (y ∷ ys) [] r s h = absurd (nil_cons y (filter (ties less y) ys) (sym (h y) ∙ put_self y (filter (ties less y) ys)))
  one_list (y ∷ ys) (z ∷ zs) r s h = ap (λ u. u ∷ ys) same ∙ ap (λ us. z ∷ us) (one_list ys zs r.1 s.1 (λ x. same_tail (ties less x z) z (filter (ties less x) ys) (filter (ties less x) zs)
      (subst (λ u. put (ties less x u) u (filter (ties less x) ys) ≡ put (ties less x z) z (filter (ties less x) zs)) same (h x))))
    where
      tied : ties less y z ≡ true
      tied = tie y z (heads y z ys zs r h) (heads z y zs ys s (λ x. sym (h x)))

      same : y ≡ z
      same = ap (head_or y) (sym (put_self y (filter (ties less y) ys)) ∙ h y ∙ ap (λ b. put b z (filter (ties less y) zs)) tied)

  -- ---- what std's sort says

  none_from : (y : X) (zs : List X) → ((j : ℕ) (d : X) → j < length zs → less (slice_index_or zs j d) y ≡ false) → None' y zs
  none_from y [] h = tt
  none_from y (z ∷ zs) h = (h 0 y (grind arith), none_from y zs (λ j d l. h (suc j) d (grind arith)))

  rises_from : (ys : List X) → ((i j : ℕ) (d : X) → i ≤ j → j < length ys → less (slice_index_or ys j d) (slice_index_or ys i d) ≡ false) → Rises ys
  rises_from [] h = tt
  rises_from (y ∷ ys) h = (none_from y ys (λ j d l. h 0 (suc j) d (grind arith) (grind arith)), rises_from ys (λ i j d l m. h (suc i) (suc j) d (grind arith) (grind arith)))

  pub is_sorted : (xs ys : List X) → IsSortedBy less ys → IsStableBy less xs ys → ys ≡ sorted less xs
  is_sorted xs ys up stays = one_list ys (sorted less xs) (rises_from ys (λ i j d l m. sorted_far less w ys up i j d l m)) (rises_sorted xs) (λ x. stays x ∙ sym (ties_sorted x xs))

  -- the same of `sort_by`, where each call compares by the test
  pub sorted_by : {F : Type 0} {g : Mut F (Bor X × (Bor X × Unit {0})) Ordering} {f : F} (xs ys : List X) → IsSortedByClosure g f ys → IsStableByClosure g f xs ys
      → ((a : Bor X × (Bor X × Unit {0})) (r : Ordering) (f' : F) → Called g f a r f' → (is_lt r ≡ less a.0.now a.1.0.now) × (f' ≡ f)) → ys ≡ sorted less xs
  sorted_by {g = g} {f = f} xs ys up stays h = is_sorted xs ys (up less w (always_returns_same g (λ a r. is_lt r ≡ less a.0.now a.1.0.now) f h)) (stays less w (always_returns_same g (λ a r. is_lt r ≡ less a.0.now a.1.0.now) f h))

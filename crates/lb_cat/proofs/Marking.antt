-- A list whose items are replaced one by one from the first on.
use Rattle.std.proofs.Common.{◌≡◌, refl, sym, ap, subst, ℕ, zero, suc, List, [], ◌∷◌, length, Some}
use Rattle.std.specs.Prelude.{slice_get, slice_set, unwrap_or}
use Rattle.std.specs.List.{AllZip}

module _ {R : Type 0} (Is : R → R → Type 0) where
  -- the first n items of xs have been replaced in ys, and all others stand
  abbrev pub ReplacedTo : ℕ → List R → List R → Type 0
  ReplacedTo zero xs ys = ys ≡ xs
  ReplacedTo (suc n) [] [] = Unit {0}
  ReplacedTo (suc n) [] (y ∷ ys) = ⊥
  ReplacedTo (suc n) (x ∷ xs) [] = ⊥
  ReplacedTo (suc n) (x ∷ xs) (y ∷ ys) = Is x y × ReplacedTo n xs ys

  -- the next item stands
  pub next_stands : (n : ℕ) (xs ys : List R) → ReplacedTo n xs ys → slice_get ys n ≡ slice_get xs n
  next_stands zero xs ys h = ap (λ zs. slice_get zs 0) h
  next_stands (suc n) [] [] h = refl
  next_stands (suc n) [] (y ∷ ys) h = absurd h
  next_stands (suc n) (x ∷ xs) [] h = absurd h
  next_stands (suc n) (x ∷ xs) (y ∷ ys) h = next_stands n xs ys h.1

  pub as_long : (n : ℕ) (xs ys : List R) → ReplacedTo n xs ys → length ys ≡ length xs
  as_long zero xs ys h = ap length h
  as_long (suc n) [] [] h = refl
  as_long (suc n) [] (y ∷ ys) h = absurd h
  as_long (suc n) (x ∷ xs) [] h = absurd h
  as_long (suc n) (x ∷ xs) (y ∷ ys) h = ap suc (as_long n xs ys h.1)

  first_replaced : (xs : List R) (x r : R) → slice_get xs 0 ≡ Some x → Is x r → ReplacedTo 1 xs (slice_set xs 0 r)
  first_replaced [] x r at is = _
  first_replaced (z ∷ xs) x r at is = (subst (λ w. Is w r) (sym (ap (λ o. unwrap_or o z) at)) is, refl)

  -- it is replaced
  pub replaced_next : (n : ℕ) (xs ys : List R) (x r : R) → ReplacedTo n xs ys → slice_get xs n ≡ Some x → Is x r → ReplacedTo (suc n) xs (slice_set ys n r)
  replaced_next zero xs ys x r h at is = subst (λ zs. ReplacedTo 1 xs (slice_set zs 0 r)) (sym h) (first_replaced xs x r at is)
  replaced_next (suc n) [] [] x r h at is = h
  replaced_next (suc n) [] (y ∷ ys) x r h at is = absurd h
  replaced_next (suc n) (z ∷ xs) [] x r h at is = absurd h
  replaced_next (suc n) (z ∷ xs) (y ∷ ys) x r h at is = (h.0, replaced_next n xs ys x r h.1 at is)

  -- in the end each item is
  pub replaced_all : (xs ys : List R) → ReplacedTo (length xs) xs ys → AllZip Is xs ys
  replaced_all [] ys h = subst (AllZip Is []) (sym h) _
  replaced_all (x ∷ xs) [] h = absurd h
  replaced_all (x ∷ xs) (y ∷ ys) h = (h.0, replaced_all xs ys h.1)

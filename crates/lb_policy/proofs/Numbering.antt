-- The parts of a label as numbers.
use Rattle.std.proofs.Common.{ℕ, ◌≡◌, refl, ap, sym, ◌∙◌, subst, zero, suc, ◌+◌, ◌-◌, ◌*◌, ◌^◌, ◌<◌, ◌≤◌, Bool, true, false, cond, List, [], ◌∷◌, ◌++◌, take, length, map, Some, None, option_map, get_or, arith}
use Rattle.std.specs.Prelude.{filter, slice_get, zip, sum}
use Rattle.std.specs.List.{range_with_len}
use Rattle.std.proofs.lemmas.List.{get_or_past, take_more, take_all}
use Rattle.std.proofs.lemmas.Option.{slice_get-map, slice_get_within, get_or_from_slice_get}
use Rattle.std.proofs.Math.Nat.{pow-suc}
use Rattle.std.proofs.lemmas.List.{map-append}
use Rattle.std.proofs.lemmas.List.Sums.{sum_by-append}
use Rattle.lb_label.specs.Label.{bit_of, part_of}
use Rattle.lb_label.specs.declared.kind.ComponentKind.TheVariants as kinds

-- ---- a list by its places

pub place_more : {A : Type 0} (xs : List A) (i : ℕ) (x : A) → Some x ≡ slice_get xs i → take (i + 1) xs ≡ take i xs ++ x ∷ []
place_more xs i x h =
    take_more xs i x (slice_get_within xs i x (sym h)) ∙ ap (λ y. take i xs ++ y ∷ []) (get_or_from_slice_get xs i x x (sym h))

no_place_at : {A : Type 0} (xs : List A) (i : ℕ) → None ≡ slice_get xs i → length xs ≤ i
no_place_at [] i h = omega arith
no_place_at (x ∷ xs) zero h = absurd cc
no_place_at (x ∷ xs) (suc i) h = omega (arith, no_place_at xs i h)

pub no_part : {A : Type 0} (xs : List A) (i : ℕ) → None ≡ slice_get xs i → take i xs ≡ xs
no_part xs i h = take_all i xs (no_place_at xs i h)

short_front : {A : Type 0} (xs : List A) (i : ℕ) → length (take i xs) ≤ i
short_front xs zero = omega arith
short_front [] (suc i) = omega arith
short_front (x ∷ xs) (suc i) = omega (arith, short_front xs i)

-- there is room for another part
pub few_parts : {A : Type 0} (parts xs : List A) (i n : ℕ) → parts ≡ take i xs → i < n → n ≤ 16 → length parts < 16
few_parts parts xs i n is inside few =
    let front : length parts ≤ i = subst (λ ys. length ys ≤ i) (sym is) (short_front xs i) in
    omega (arith, front, inside, few)

pub at_place : {A : Type 0} (xs : List A) (i j : ℕ) (d x : A) → j ≡ i → Some x ≡ slice_get xs j → get_or xs i d ≡ x
at_place xs i j d x same h = ap (λ (k : ℕ). get_or xs k d) (sym same) ∙ get_or_from_slice_get xs j x d (sym h)

pub past_place : {A : Type 0} (xs : List A) (i j : ℕ) (d : A) → j ≡ i → None ≡ slice_get xs j → get_or xs i d ≡ d
past_place xs i j d same h = ap (λ (k : ℕ). get_or xs k d) (sym same) ∙ get_or_past xs j d (no_place_at xs j h)

-- ---- beside each other

pub pair_at : {A B : Type 0} (xs : List A) (ys : List B) (i : ℕ) (x : A) (y : B) → Some x ≡ slice_get xs i → Some y ≡ slice_get ys i → Some (x, y) ≡ slice_get (zip xs ys) i
pair_at [] ys i x y h g = absurd cc
pair_at (a ∷ xs) [] i x y h g = absurd cc
pair_at (a ∷ xs) (b ∷ ys) zero x y h g = let one : x ≡ a = cc in let two : y ≡ b = cc in (λ j. Some (one j, two j))
pair_at (a ∷ xs) (b ∷ ys) (suc i) x y h g = pair_at xs ys i x y h g

pub no_first : {A B : Type 0} (xs : List A) (ys : List B) (i : ℕ) → None ≡ slice_get xs i → None ≡ slice_get (zip xs ys) i
no_first [] ys i h = refl
no_first (a ∷ xs) [] i h = refl
no_first (a ∷ xs) (b ∷ ys) zero h = absurd cc
no_first (a ∷ xs) (b ∷ ys) (suc i) h = no_first xs ys i h

pub no_second : {A B : Type 0} (xs : List A) (ys : List B) (i : ℕ) → None ≡ slice_get ys i → None ≡ slice_get (zip xs ys) i
no_second [] ys i h = refl
no_second (a ∷ xs) [] i h = refl
no_second (a ∷ xs) (b ∷ ys) zero h = absurd cc
no_second (a ∷ xs) (b ∷ ys) (suc i) h = no_second xs ys i h

module _ {A B : Type 0} (f : A × B → ℕ) (xs : List A) (ys : List B) (i : ℕ) where
  pub part_there : (x : A) (y : B) → Some x ≡ slice_get xs i → Some y ≡ slice_get ys i → Some (f (x, y)) ≡ slice_get (map f (zip xs ys)) i
  part_there x y h g = ap (option_map f) (pair_at xs ys i x y h g) ∙ sym (slice_get-map f (zip xs ys) i)

  pub part_lacks_name : None ≡ slice_get xs i → None ≡ slice_get (map f (zip xs ys)) i
  part_lacks_name h = ap (option_map f) (no_first xs ys i h) ∙ sym (slice_get-map f (zip xs ys) i)

  pub part_lacks_component : None ≡ slice_get ys i → None ≡ slice_get (map f (zip xs ys)) i
  part_lacks_component h = ap (option_map f) (no_second xs ys i h) ∙ sym (slice_get-map f (zip xs ys) i)

-- no more than there are components
short_zip : {A B : Type 0} (xs : List A) (ys : List B) → length (zip xs ys) ≤ length ys
short_zip [] ys = omega arith
short_zip (x ∷ xs) [] = omega arith
short_zip (x ∷ xs) (y ∷ ys) = omega (arith, short_zip xs ys)

same_length : {A B : Type 0} (f : A → B) (xs : List A) → length (map f xs) ≡ length xs
same_length f [] = refl
same_length f (x ∷ xs) = omega (arith, same_length f xs)

pub all_parts : {A B : Type 0} (f : A × B → ℕ) (xs : List A) (ys : List B) (i : ℕ) → length ys ≤ i → take i (map f (zip xs ys)) ≡ map f (zip xs ys)
all_parts f xs ys i h = take_all i (map f (zip xs ys)) (omega (arith, h, same_length f (zip xs ys), short_zip xs ys))

-- ---- the first number that passes

range_left : (i n : ℕ) → i < n → range_with_len i (n - i) ≡ i ∷ range_with_len (i + 1) (n - (i + 1))
range_left i n h =
    let left : n - i ≡ suc (n - (i + 1)) = omega (arith, h) in
    ap (λ (k : ℕ). range_with_len i k) left

module _ (test : ℕ → Bool) (n i : ℕ) where
  pub place_here : i < n → test i ≡ true → part_of kinds.Array (filter test (range_with_len i (n - i))) ≡ i + 1
  place_here h is =
      ap (λ ks. part_of kinds.Array (filter test ks)) (range_left i n h)
      ∙ ap (λ b. part_of kinds.Array (cond b (i ∷ filter test (range_with_len (i + 1) (n - (i + 1)))) (filter test (range_with_len (i + 1) (n - (i + 1)))))) is

  pub place_later : i < n → test i ≡ false → filter test (range_with_len i (n - i)) ≡ filter test (range_with_len (i + 1) (n - (i + 1)))
  place_later h is =
      ap (filter test) (range_left i n h)
      ∙ ap (λ b. cond b (i ∷ filter test (range_with_len (i + 1) (n - (i + 1)))) (filter test (range_with_len (i + 1) (n - (i + 1))))) is

  pub no_place : n ≤ i → filter test (range_with_len i (n - i)) ≡ []
  no_place h =
      let none : n - i ≡ 0 = omega (arith, h) in
      ap (λ (k : ℕ). filter test (range_with_len i k)) none

-- ---- bits

range_more : (a n : ℕ) → range_with_len a (n + 1) ≡ range_with_len a n ++ (a + n) ∷ []
range_more a zero =
    let start : a ≡ a + 0 = omega arith in
    ap (λ (k : ℕ). k ∷ []) start
range_more a (suc n) =
    let one_more : suc n + 1 ≡ suc (n + 1) = omega arith in
    let same : a + 1 + n ≡ a + suc n = omega arith in
    ap (λ (k : ℕ). range_with_len a k) one_more
    ∙ ap (λ ks. a ∷ ks) (range_more (a + 1) n ∙ ap (λ (k : ℕ). range_with_len (a + 1) n ++ k ∷ []) same)

abbrev bits : List ℕ → ℕ
bits es = sum (map bit_of es)

bits_last : (es : List ℕ) (e : ℕ) → bits (es ++ e ∷ []) ≡ bits es + 2 ^ e
bits_last es e =
    let one : bits es + sum (2 ^ e ∷ []) ≡ bits es + 2 ^ e = omega arith in
    ap sum (map-append bit_of es (e ∷ [])) ∙ sum_by-append (λ (n : ℕ). n) (map bit_of es) (bit_of e ∷ []) ∙ one

filter_last : (test : ℕ → Bool) (es : List ℕ) (e : ℕ) → filter test (es ++ e ∷ []) ≡ cond (test e) (filter test es ++ e ∷ []) (filter test es)
filter_last test [] e = elim (test e) as (λ b. cond b (e ∷ []) [] ≡ cond b (e ∷ []) []) [
  | true ↦ refl
  | false ↦ refl
]
filter_last test (x ∷ es) e =
    elim (test x) as (λ b. cond b (x ∷ filter test (es ++ e ∷ [])) (filter test (es ++ e ∷ [])) ≡ cond (test e) (cond b (x ∷ filter test es) (filter test es) ++ e ∷ []) (cond b (x ∷ filter test es) (filter test es))) [
      | true ↦ ap (λ ks. x ∷ ks) (filter_last test es e) ∙ elim (test e) as (λ b. x ∷ cond b (filter test es ++ e ∷ []) (filter test es) ≡ cond b ((x ∷ filter test es) ++ e ∷ []) (x ∷ filter test es)) [
        | true ↦ refl
        | false ↦ refl
      ]
      | false ↦ filter_last test es e
    ]

-- one number more
pub bits_more : (test : ℕ → Bool) (n : ℕ) → part_of kinds.Set (filter test (range_with_len 0 (n + 1))) ≡ cond (test n) (part_of kinds.Set (filter test (range_with_len 0 n)) + 2 ^ n) (part_of kinds.Set (filter test (range_with_len 0 n)))
bits_more test n =
    let same : 0 + n ≡ n = omega arith in
    ap (λ ks. bits (filter test ks)) (range_more 0 n ∙ ap (λ (k : ℕ). range_with_len 0 n ++ k ∷ []) same)
    ∙ ap bits (filter_last test (range_with_len 0 n) n)
    ∙ elim (test n) as (λ b. bits (cond b (filter test (range_with_len 0 n) ++ n ∷ []) (filter test (range_with_len 0 n))) ≡ cond b (bits (filter test (range_with_len 0 n)) + 2 ^ n) (bits (filter test (range_with_len 0 n)))) [
      | true ↦ bits_last (filter test (range_with_len 0 n)) n
      | false ↦ refl
    ]

-- so many bits are below the next one
pub bits_below : (test : ℕ → Bool) (n : ℕ) → part_of kinds.Set (filter test (range_with_len 0 n)) < 2 ^ n
bits_below test zero = omega arith
bits_below test (suc n) =
    let one_more : suc n ≡ n + 1 = omega arith in
    let before : part_of kinds.Set (filter test (range_with_len 0 n)) < 2 ^ n = bits_below test n in
    let double : 2 ^ suc n ≡ 2 ^ n * 2 = pow-suc 2 n in
    subst (λ (b : ℕ). b < 2 ^ suc n) (sym (ap (λ (k : ℕ). part_of kinds.Set (filter test (range_with_len 0 k))) one_more ∙ bits_more test n))
    (elim (test n) as (λ b. cond b (part_of kinds.Set (filter test (range_with_len 0 n)) + 2 ^ n) (part_of kinds.Set (filter test (range_with_len 0 n))) < 2 ^ suc n) [
      | true ↦ omega (arith, before, double)
      | false ↦ omega (arith, before, double)
    ])

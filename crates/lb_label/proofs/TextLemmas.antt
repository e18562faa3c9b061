-- Parts and names of a text.
use Rattle.std.proofs.Common.{◌≡◌, refl, ap, sym, ◌∙◌, ℕ, zero, suc, ◌+◌, ◌-◌, ◌<◌, ◌≤◌, ◌≢◌, ◌⊎◌, ⊎_elim, Bool, true, false, not, cond, ◌&&◌, ◌||◌, List, [], ◌∷◌, ◌++◌, length, map, filter, take, drop, get_or, Option, Some, None, Bor, eqb, leb, arith, subst, add-one}
use Rattle.std.proofs.lemmas.Bool.{cases_eq}
use Rattle.std.proofs.lemmas.List.{append_assoc, append-nil, length-append, take_more, take_all}
use Rattle.std.proofs.lemmas.List.Elements.{filter-append}
use Rattle.std.specs.Int.{bit_at}
use Rattle.std.specs.List.{slice_split, onto_first, position_or_len, join_with_byte, range_with_len}
use Rattle.std.specs.Option.{IfNone, MatchOption}
use Rattle.lb_label.proofs.Bits.{same_true, true_same, false_apart}
use Rattle.lb_label.proofs.Elements.{members}
use Rattle.lb_label.specs.Component.{numbers}
use Rattle.lb_label.specs.LabelText.{is_bracketed}

-- ---- cutting at the first separator

pub none_to_cut : (c : ℕ) (bs : List ℕ) → position_or_len (λ b. eqb b c) bs ≡ length bs → slice_split (λ b. eqb b c) bs ≡ bs ∷ []
none_to_cut c [] none = refl
none_to_cut c (b ∷ bs) none =
    elim (eqb b c) as (λ t. cond (not t) (1 + position_or_len (λ x. eqb x c) bs) 0 ≡ suc (length bs) → cond t ([] ∷ slice_split (λ x. eqb x c) bs) (onto_first b (slice_split (λ x. eqb x c) bs)) ≡ (b ∷ bs) ∷ []) [
      | true ↦ λ (e : 0 ≡ suc (length bs)). absurd (omega arith)
      | false ↦ λ (e : 1 + position_or_len (λ x. eqb x c) bs ≡ suc (length bs)). ap (onto_first b) (none_to_cut c bs (omega arith))
    ] none

-- ---- brackets

both_false_left : (a b : Bool) → ((a && false) && b) ≡ false
both_false_left true b = refl
both_false_left false b = refl

both_false : (a : Bool) → (a && false) ≡ false
both_false true = refl
both_false false = refl

pub not_bracketed_front : (part : List ℕ) → ((rest : List ℕ) → part ≢ 40 ∷ rest) → is_bracketed part ≡ false
not_bracketed_front [] h = refl
not_bracketed_front (b ∷ part) h =
    let other : eqb b 40 ≡ false = false_apart b 40 (λ (same : b ≡ 40). h part (ap (λ x. x ∷ part) same)) in
    ap (λ t. (leb 2 (suc (length part)) && t) && eqb (get_or (b ∷ part) (suc (length part) - 1) 0) 41) other ∙ both_false_left _ _

last_of : (b : ℕ) (rest : List ℕ) → b ∷ rest ≡ take (length rest) (b ∷ rest) ++ get_or (b ∷ rest) (length rest) 0 ∷ []
last_of b rest =
    sym (take_all (length rest + 1) (b ∷ rest) (omega arith)) ∙ take_more (b ∷ rest) (length rest) 0 (omega arith)

pub not_bracketed_back : (part rest : List ℕ) → part ≡ 40 ∷ rest → ((front : List ℕ) → rest ≢ front ++ 41 ∷ []) → is_bracketed part ≡ false
not_bracketed_back part rest is h = ap is_bracketed is ∙ by_rest rest h
  where
    by_rest : (rest : List ℕ) → ((front : List ℕ) → rest ≢ front ++ 41 ∷ []) → is_bracketed (40 ∷ rest) ≡ false
    by_rest [] h = refl
    by_rest (b ∷ more) h =
        let at : suc (suc (length more)) - 1 ≡ suc (length more) = omega arith in
        let other : eqb (get_or (b ∷ more) (length more) 0) 41 ≡ false = false_apart _ 41 (λ (same : get_or (b ∷ more) (length more) 0 ≡ 41).
        h (take (length more) (b ∷ more)) (last_of b more ∙ ap (λ x. take (length more) (b ∷ more) ++ x ∷ []) same)) in
        ap (λ k. (leb 2 (suc (suc (length more))) && true) && eqb (get_or (40 ∷ b ∷ more) k 0) 41) at
        ∙ ap (λ t. (leb 2 (suc (suc (length more))) && true) && t) other ∙ both_false _

pub brackets_none : (part rest : List ℕ) (r : Option (Bor (List ℕ))) → part ≡ 40 ∷ rest → MatchOption r ((front : List ℕ) → rest ≢ front ++ 41 ∷ []) (λ x. rest ≡ x.now ++ 41 ∷ [])
    → IfNone r (is_bracketed part ≡ false)
brackets_none part rest None is h = not_bracketed_back part rest is h
brackets_none part rest (Some x) is h = tt

-- ---- numbers of a range

range_grows : (a n : ℕ) → range_with_len a (suc n) ≡ range_with_len a n ++ (a + n) ∷ []
range_grows a zero = ap (λ x. x ∷ []) (omega arith)
range_grows a (suc n) = ap (λ xs. a ∷ xs) (range_grows (a + 1) n ∙ ap (λ x. range_with_len (a + 1) n ++ x ∷ []) (omega arith))

pub members_grow : (n part : ℕ) → members (n + 1) part ≡ members n part ++ cond (eqb (bit_at part n) 1) (n ∷ []) []
members_grow n part =
    ap (λ k. members k part) (add-one n)
    ∙ ap (filter (λ e. eqb (bit_at part e) 1)) (range_grows 0 n ∙ ap (λ x. numbers n ++ x ∷ []) (omega arith))
    ∙ filter-append (λ e. eqb (bit_at part e) 1) (numbers n) (n ∷ [])

few_pass : (q : ℕ → Bool) (a n : ℕ) → length (filter q (range_with_len a n)) ≤ n
few_pass q a zero = omega arith
few_pass q a (suc n) =
    let rest : length (filter q (range_with_len (a + 1) n)) ≤ n = few_pass q (a + 1) n in
    elim (q a) as (λ b. length (cond b (a ∷ filter q (range_with_len (a + 1) n)) (filter q (range_with_len (a + 1) n))) ≤ suc n) [
      | true ↦ omega arith
      | false ↦ omega arith
    ]

pub few_members : (n part : ℕ) → length (members n part) ≤ n
few_members n part = few_pass (λ e. eqb (bit_at part e) 1) 0 n

-- ---- joining

pub join_next : (c : ℕ) (xs : List (List ℕ)) (x : List ℕ) → 0 < length xs → join_with_byte c (xs ++ x ∷ []) ≡ join_with_byte c xs ++ c ∷ x
join_next c [] x some = absurd (omega arith)
join_next c (y ∷ []) x some = refl
join_next c (y ∷ z ∷ ys) x some =
    ap (λ rest. y ++ (c ∷ rest)) (join_next c (z ∷ ys) x (omega arith)) ∙ sym (append_assoc y (c ∷ join_with_byte c (z ∷ ys)) (c ∷ x))

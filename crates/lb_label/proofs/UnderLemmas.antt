-- The elements of a TREE that are among others or descend from them, as bits.
use Rattle.std.proofs.Common.{◌≡◌, refl, ap, sym, ◌∙◌, ℕ, zero, suc, ◌+◌, ◌-◌, ◌*◌, ◌/◌, ◌^◌, ◌%◌, ◌<◌, ◌≤◌, ◌≢◌, ◌⊎◌, ⊎_elim, inl, inr, Bool, true, false, not, cond, ◌||◌, ◌&&◌, List, [], ◌∷◌, length, eqb, arith, subst, bit_and, bit_or, min}
use Rattle.std.proofs.lemmas.Bool.{cases_eq, cases_lt}
use Rattle.std.proofs.lemmas.Bool.Decides.{Decides-eqb, Decides-at, Decides-not, same_from_decides}
use Rattle.std.proofs.lemmas.Nat.{and_le_l}
use Rattle.std.proofs.lemmas.Nat.Bits.{bit_at-zero, bit_at_and, bit_at_above, bit_at_clear_same, bit_at_clear_other, bit_at-trailing_zeros, same_from_bits}
use Rattle.std.specs.Bool.{Decides}
use Rattle.std.specs.Int.{bit_at, bit_not, w64, trailing_zeros}
use Rattle.std.specs.List.{filter, list_any, list_all}
use Rattle.lb_label.proofs.Bits.{same_true, true_same, false_apart, bit_of_or_one}
use Rattle.lb_label.proofs.Elements.{all_is_no_other, both_true, any_member, bit_or_not, is_member, members, set_below, some_bit}
use Rattle.lb_label.proofs.RuleLemmas.{bits_below, few_in_tree, is_false, tree_members, tree_small, set_members, array_none, array_one, lacks_test, none_pass}
use Rattle.lb_label.specs.declared.kind.ComponentKind.TheVariants.{Set, Array, Tree}
use Rattle.lb_base.specs.declared.rule.Rule.TheVariants.{ReadTree, WriteTree}
use Rattle.lb_label.specs.Component.{Definition, IsComponent, numbers}
use Rattle.lb_label.specs.Label.{IsPart, elements_in}
use Rattle.lb_label.specs.Rules.{agrees, agrees_in, blocks, has, is_under, none_under}

-- the bits found so far: of the elements that are passed those that are under the top ones
pub record UnderSoFar (c : Definition) (elements top found rest : ℕ) : Type 0 where
  pub rest_in : (i : ℕ) → bit_at rest i ≡ 1 → bit_at elements i ≡ 1
  pub found_is : (i : ℕ) → bit_at found i ≡ cond ((eqb (bit_at elements i) 1 && is_under c (elements_in c top) i) && not (eqb (bit_at rest i) 1)) 1 0

and_not_itself : (a b : Bool) → ((a && b) && not a) ≡ false
and_not_itself true true = refl
and_not_itself true false = refl
and_not_itself false b = refl

and_not_false : (a b : Bool) → ((a && b) && not false) ≡ (a && b)
and_not_false true true = refl
and_not_false true false = refl
and_not_false false b = refl

pub under_none : (c : Definition) (elements top : ℕ) → UnderSoFar c elements top 0 elements
under_none c elements top = record {
  rest_in = λ i h. h;
  found_is = λ i. bit_at-zero i ∙ ap (λ b. cond b 1 0) (sym (and_not_itself (eqb (bit_at elements i) 1) (is_under c (elements_in c top) i)));
}

pub under_all : (c : Definition) (elements top found rest : ℕ) → UnderSoFar c elements top found rest → rest ≡ 0
    → (i : ℕ) → bit_at found i ≡ cond (eqb (bit_at elements i) 1 && is_under c (elements_in c top) i) 1 0
under_all c elements top found rest so_far done i =
    let clear : eqb (bit_at rest i) 1 ≡ false = false_apart (bit_at rest i) 1 (λ (set : bit_at rest i ≡ 1). let none : bit_at rest i ≡ 0 = ap (λ r. bit_at r i) done ∙ bit_at-zero i in omega arith) in
    so_far.found_is i ∙ ap (λ b. cond b 1 0) (rw clear (and_not_false (eqb (bit_at elements i) 1) (is_under c (elements_in c top) i)))

-- the lowest bit of what is left
pub lowest_set : (rest : ℕ) → rest < 2 ^ 64 → rest ≢ 0 → (trailing_zeros w64 rest < 64) × (bit_at rest (trailing_zeros w64 rest) ≡ 1)
lowest_set rest small some =
    let low : (trailing_zeros w64 rest < 64) × (bit_at rest (trailing_zeros w64 rest) ≡ 1) × ((i : ℕ) → i < trailing_zeros w64 rest → bit_at rest i ≡ 0) = bit_at-trailing_zeros w64 rest (omega arith) small in
    (low.0, low.1)

-- `rest & !(1 << e)`
cleared : (rest e i : ℕ) → rest < 2 ^ 64 → e < 64 → i ≢ e → bit_at (bit_and rest (bit_not w64 (1 * 2 ^ e % 2 ^ 64))) i ≡ bit_at rest i
cleared rest e i small within apart = ⊎_elim
    (λ (l : i < 64). bit_at_clear_other w64 rest e within i l apart)
    (λ (g : 64 ≤ i). let high : bit_at rest i ≡ 0 = bit_at_above rest 64 i small g in
    let less : bit_and rest (bit_not w64 (1 * 2 ^ e % 2 ^ 64)) ≤ rest = and_le_l rest (bit_not w64 (1 * 2 ^ e % 2 ^ 64)) in
    bit_at_above (bit_and rest (bit_not w64 (1 * 2 ^ e % 2 ^ 64))) 64 i (omega arith) g ∙ sym high)
    (cases_lt i 64)

pub less_left : (rest e : ℕ) → e < 64 → bit_at rest e ≡ 1 → bit_and rest (bit_not w64 (1 * 2 ^ e % 2 ^ 64)) < rest
less_left rest e within set =
    let clear : bit_at (bit_and rest (bit_not w64 (1 * 2 ^ e % 2 ^ 64))) e ≡ 0 = bit_at_clear_same w64 rest e within in
    let less : bit_and rest (bit_not w64 (1 * 2 ^ e % 2 ^ 64)) ≤ rest = and_le_l rest (bit_not w64 (1 * 2 ^ e % 2 ^ 64)) in
    ⊎_elim
    (λ (same : bit_and rest (bit_not w64 (1 * 2 ^ e % 2 ^ 64)) ≡ rest). let again : bit_at rest e ≡ 0 = ap (λ x. bit_at x e) (sym same) ∙ clear in absurd (omega arith))
    (λ (apart : bit_and rest (bit_not w64 (1 * 2 ^ e % 2 ^ 64)) ≢ rest). omega arith)
    (cases_eq (bit_and rest (bit_not w64 (1 * 2 ^ e % 2 ^ 64))) rest)

at_here : (found e : ℕ) (is under in_elements in_rest in_left : Bool) → e < 64 → is ≡ under → in_elements ≡ true → in_rest ≡ true → in_left ≡ false
    → bit_at found e ≡ cond ((in_elements && under) && not in_rest) 1 0
    → bit_at (cond is (bit_or found (1 * 2 ^ e % 2 ^ 64)) found) e ≡ cond ((in_elements && under) && not in_left) 1 0
at_here found e true under in_elements in_rest in_left within same a b c was =
    rw (a, ← same, c) (bit_of_or_one found e e ((in_elements && under) && not in_rest) within was ∙ ap (λ t. cond (t || ((in_elements && under) && not in_rest)) 1 0) (true_same e e refl))
at_here found e false under in_elements in_rest in_left within same a b c was =
    rw (a, ← same) (was ∙ rw (a, ← same) refl)

at_other : (found e i : ℕ) (is t : Bool) → e < 64 → i ≢ e → bit_at found i ≡ cond t 1 0 → bit_at (cond is (bit_or found (1 * 2 ^ e % 2 ^ 64)) found) i ≡ cond t 1 0
at_other found e i true t within apart was =
    bit_of_or_one found e i t within was ∙ ap (λ b. cond (b || t) 1 0) (false_apart e i (λ same. apart (sym same)))
at_other found e i false t within apart was = was

-- one element more is passed
pub under_more : (c : Definition) (elements top found rest e found' : ℕ) (is : Bool) → UnderSoFar c elements top found rest → rest < 2 ^ 64 → e < 64 → bit_at rest e ≡ 1
    → is ≡ is_under c (elements_in c top) e → found' ≡ cond is (bit_or found (1 * 2 ^ e % 2 ^ 64)) found
    → UnderSoFar c elements top found' (bit_and rest (bit_not w64 (1 * 2 ^ e % 2 ^ 64)))
under_more c elements top found rest e found' is so_far small within set tested made = record {
  rest_in = λ i h. ⊎_elim
      (λ (same : i ≡ e). rw same (so_far.rest_in e set))
      (λ (apart : i ≢ e). so_far.rest_in i (sym (cleared rest e i small within apart) ∙ h))
      (cases_eq i e);
  found_is = λ i. ap (λ x. bit_at x i) made ∙ ⊎_elim
      (λ (same : i ≡ e). subst (λ j. bit_at (cond is (bit_or found (1 * 2 ^ e % 2 ^ 64)) found) j ≡ cond ((eqb (bit_at elements j) 1 && is_under c (elements_in c top) j) && not (eqb (bit_at (bit_and rest (bit_not w64 (1 * 2 ^ e % 2 ^ 64))) j) 1)) 1 0) (sym same) here)
      (λ (apart : i ≢ e). other i apart)
      (cases_eq i e);
}
  where
    here : bit_at (cond is (bit_or found (1 * 2 ^ e % 2 ^ 64)) found) e ≡ cond ((eqb (bit_at elements e) 1 && is_under c (elements_in c top) e) && not (eqb (bit_at (bit_and rest (bit_not w64 (1 * 2 ^ e % 2 ^ 64))) e) 1)) 1 0
    here = at_here found e is (is_under c (elements_in c top) e) (eqb (bit_at elements e) 1) (eqb (bit_at rest e) 1) _ within tested
        (true_same _ 1 (so_far.rest_in e set)) (true_same _ 1 set) left_clear (so_far.found_is e)
      where
        left_clear : eqb (bit_at (bit_and rest (bit_not w64 (1 * 2 ^ e % 2 ^ 64))) e) 1 ≡ false
        left_clear =
            let clear : bit_at (bit_and rest (bit_not w64 (1 * 2 ^ e % 2 ^ 64))) e ≡ 0 = bit_at_clear_same w64 rest e within in
            false_apart _ 1 (λ (one : bit_at (bit_and rest (bit_not w64 (1 * 2 ^ e % 2 ^ 64))) e ≡ 1). omega arith)

    other : (i : ℕ) → i ≢ e → bit_at (cond is (bit_or found (1 * 2 ^ e % 2 ^ 64)) found) i ≡ cond ((eqb (bit_at elements i) 1 && is_under c (elements_in c top) i) && not (eqb (bit_at (bit_and rest (bit_not w64 (1 * 2 ^ e % 2 ^ 64))) i) 1)) 1 0
    other i apart = at_other found e i is _ within apart (so_far.found_is i)
        ∙ ap (λ b. cond ((eqb (bit_at elements i) 1 && is_under c (elements_in c top) i) && not (eqb b 1)) 1 0) (sym (cleared rest e i small within apart))

-- ---- tests of these bits

no_bits : (value : ℕ) → value ≡ 0 → (k : ℕ) → eqb (bit_at value k) 1 ≡ false
no_bits value none k = false_apart (bit_at value k) 1 (λ (one : bit_at value k ≡ 1). let clear : bit_at value k ≡ 0 = ap (λ v. bit_at v k) none ∙ bit_at-zero k in omega arith)

pub tree_none : (c : Definition) (user value : ℕ) → c.kind ≡ Tree → value ≡ 0
    → (false ≡ blocks ReadTree c (elements_in c user) (elements_in c value)) × (false ≡ blocks WriteTree c (elements_in c user) (elements_in c value))
tree_none c user value kind none =
    rw (tree_members c value kind ∙ none_pass (λ e. eqb (bit_at value e) 1) 0 (length c.elements) (λ k h. no_bits value none k)) (refl, refl)

any_never : (xs : List ℕ) → list_any (λ _. false) xs ≡ false
any_never [] = refl
any_never (x ∷ xs) = any_never xs

blocks_tree : (c : Definition) (us vs : List ℕ) (e : ℕ) → has vs e ≡ true → (blocks ReadTree c us vs ≡ none_under c us vs) × (blocks WriteTree c us vs ≡ none_under c us vs)
blocks_tree c us [] e held = absurd (differ held)
  where
    differ : false ≡ true → ⊥
    differ h = cc
blocks_tree c [] (v ∷ vs) e held = (sym (ap not (any_never vs)), sym (ap not (any_never vs)))
blocks_tree c (u ∷ us) (v ∷ vs) e held = (refl, refl)

bit_true : (b : Bool) → ◌≡◌ {A = ℕ} (cond b 1 0) 1 → b ≡ true
bit_true true h = refl
bit_true false h = absurd (omega arith)

not_not : (b : Bool) → b ≡ not (not b)
not_not true = refl
not_not false = refl

-- `under(..) == 0`
none_test : (c : Definition) (top elements found : ℕ) → found < 2 ^ 64 → elements < 2 ^ length c.elements
    → ((i : ℕ) → bit_at found i ≡ cond (eqb (bit_at elements i) 1 && is_under c (elements_in c top) i) 1 0)
    → eqb found 0 ≡ none_under c (elements_in c top) (members (length c.elements) elements)
none_test c top elements found small fits bits = not_not (eqb found 0) ∙ ap not (same_from_decides _ _ (some_bit found small) (
  λ some'. let some : (k : ℕ) × (k < length c.elements) × (bit_at elements k ≡ 1) × (is_under c (elements_in c top) k ≡ true) = (any_member (λ d. is_under c (elements_in c top) d) (length c.elements) elements).0 some' in
      (some.0, bits some.0 ∙ rw (true_same (bit_at elements some.0) 1 some.2, some.3) refl),
  λ set. let both : (eqb (bit_at elements set.0) 1 ≡ true) × (is_under c (elements_in c top) set.0 ≡ true) = both_true _ _ (bit_true _ (sym (bits set.0) ∙ set.1)) in
      let one : bit_at elements set.0 ≡ 1 = same_true _ 1 both.0 in
      (any_member (λ d. is_under c (elements_in c top) d) (length c.elements) elements).1 (set.0, set_below (length c.elements) elements set.0 fits one, one, both.1),
))

pub tree_some : (c : Definition) (user value found : ℕ) → IsComponent c → c.kind ≡ Tree → IsPart c value → value ≢ 0 → found < 2 ^ 64
    → ((i : ℕ) → bit_at found i ≡ cond (eqb (bit_at value i) 1 && is_under c (elements_in c user) i) 1 0)
    → (eqb found 0 ≡ blocks ReadTree c (elements_in c user) (elements_in c value)) × (eqb found 0 ≡ blocks WriteTree c (elements_in c user) (elements_in c value))
tree_some c user value found valid kind v some small bits =
    let fits : value < 2 ^ length c.elements = tree_small c value kind v in
    let value_small : value < 2 ^ 64 = bits_below _ value (few_in_tree c valid kind) fits in
    let t : not (eqb value 0) ≡ true = ap not (false_apart value 0 some) in
    let set : (k : ℕ) × (bit_at value k ≡ 1) = (some_bit value value_small).0 t in
    let held : has (members (length c.elements) value) set.0 ≡ true = (is_member (length c.elements) value set.0).1 (set_below (length c.elements) value set.0 fits set.1, set.1) in
    let test : eqb found 0 ≡ none_under c (elements_in c user) (members (length c.elements) value) = none_test c user value found small fits bits in
    let cases : (blocks ReadTree c (elements_in c user) (members (length c.elements) value) ≡ none_under c (elements_in c user) (members (length c.elements) value)) × (blocks WriteTree c (elements_in c user) (members (length c.elements) value) ≡ none_under c (elements_in c user) (members (length c.elements) value)) = blocks_tree c (elements_in c user) (members (length c.elements) value) set.0 held in (
      test ∙ sym cases.0 ∙ ap (blocks ReadTree c (elements_in c user)) (sym (tree_members c value kind)),
      test ∙ sym cases.1 ∙ ap (blocks WriteTree c (elements_in c user)) (sym (tree_members c value kind)),
    )

-- ---- the rule of grants

array_part : (c : Definition) (part : ℕ) → c.kind ≡ Array → IsPart c part → (elements_in c part ≡ []) × (part ≡ 0) ⊎ (e : ℕ) × (elements_in c part ≡ e ∷ []) × (part ≡ e + 1)
array_part c part kind fits = ⊎_elim
    (λ (none : part ≡ 0). inl (array_none c part kind none, none))
    (λ (some : part ≢ 0). let is : part ≡ part - 1 + 1 = omega arith in inr (part - 1, array_one c part (part - 1) kind fits is, is))
    (cases_eq part 0)

pub array_agree : (c : Definition) (read write : ℕ) → c.kind ≡ Array → IsPart c read → IsPart c write → eqb read write ≡ agrees c (elements_in c read) (elements_in c write)
array_agree c read write kind r w =
    ⊎_elim
    (λ none. ⊎_elim
    (λ none'. rw (none.0, none'.0) (true_same read write (none.1 ∙ sym none'.1)))
    (λ some'. let above : write ≡ some'.0 + 1 = some'.2 in let zero_read : read ≡ 0 = none.1 in rw (none.0, some'.1) (false_apart read write (λ (e : read ≡ write). omega arith)))
    (array_part c write kind w))
    (λ some. ⊎_elim
    (λ none'. let above : read ≡ some.0 + 1 = some.2 in let zero_write : write ≡ 0 = none'.1 in rw (some.1, none'.0) (false_apart read write (λ (e : read ≡ write). omega arith)))
    (λ some'. rw (some.1, some'.1) (compared some.0 some'.0 some.2 some'.2))
    (array_part c write kind w))
    (array_part c read kind r)
    ∙ ap (λ k. agrees_in k c (elements_in c read) (elements_in c write)) (sym kind)
  where
    compared : (a b : ℕ) → read ≡ a + 1 → write ≡ b + 1 → eqb read write ≡ (eqb a b && true)
    compared a b is_a is_b = ⊎_elim
        (λ (same : a ≡ b). let both : eqb a b ≡ true = true_same a b same in rw both (true_same read write (omega arith)))
        (λ (apart : a ≢ b). let both : eqb a b ≡ false = false_apart a b apart in rw both (false_apart read write (λ (e : read ≡ write). apart (omega arith))))
        (cases_eq a b)

pub set_agree : (c : Definition) (read write : ℕ) → IsComponent c → c.kind ≡ Set → IsPart c read → IsPart c write
    → eqb (bit_and write (bit_not w64 read)) 0 ≡ agrees c (elements_in c read) (elements_in c write)
set_agree c read write valid kind r w =
    not_not (eqb (bit_and write (bit_not w64 read)) 0)
    ∙ ap not (lacks_test c read write valid kind r w)
    ∙ sym (all_is_no_other (has (elements_in c read)) (elements_in c write))
    ∙ ap (λ k. agrees_in k c (elements_in c read) (elements_in c write)) (sym kind)

not_true : (b : Bool) → not b ≡ true → b ≡ false
not_true true h = absurd (differ h)
  where
    differ : false ≡ true → ⊥
    differ e = cc
not_true false h = refl

-- `under(..) == write`
all_under : (c : Definition) (read write found : ℕ) → write < 2 ^ length c.elements
    → ((i : ℕ) → bit_at found i ≡ cond (eqb (bit_at write i) 1 && is_under c (elements_in c read) i) 1 0)
    → Decides (not (list_any (λ d. not (is_under c (elements_in c read) d)) (members (length c.elements) write))) (found ≡ write)
all_under c read write found fits bits = (
  λ all. same_from_bits found write (λ i. ⊎_elim
      (λ set. let under : is_under c (elements_in c read) i ≡ true = is_true _ (λ other.
      let any : list_any (λ d. not (is_under c (elements_in c read) d)) (members (length c.elements) write) ≡ true =
      (any_member (λ d. not (is_under c (elements_in c read) d)) (length c.elements) write).1 (i, set_below (length c.elements) write i fits set, set, ap not other) in
      differ (sym (ap not any) ∙ all)) in
      bits i ∙ rw (true_same (bit_at write i) 1 set, under) (sym set))
      (λ clear. bits i ∙ rw (false_apart (bit_at write i) 1 (λ (one : bit_at write i ≡ 1). omega arith)) (sym clear))
      (bit_or_not write i)),
  λ same. ap not (is_false _ (λ any.
      let some : (k : ℕ) × (k < length c.elements) × (bit_at write k ≡ 1) × (not (is_under c (elements_in c read) k) ≡ true) = (any_member (λ d. not (is_under c (elements_in c read) d)) (length c.elements) write).0 any in
      let clear : bit_at found some.0 ≡ 0 = bits some.0 ∙ rw (true_same (bit_at write some.0) 1 some.2, not_true _ some.3) refl in
      let set : bit_at found some.0 ≡ 1 = ap (λ x. bit_at x some.0) same ∙ some.2 in
      omega arith)),
)
  where
    differ : false ≡ true → ⊥
    differ e = cc

    is_true : (b : Bool) → (b ≡ false → ⊥) → b ≡ true
    is_true true h = refl
    is_true false h = absurd (h refl)

pub tree_agree : (c : Definition) (read write found : ℕ) → c.kind ≡ Tree → IsPart c write
    → ((i : ℕ) → bit_at found i ≡ cond (eqb (bit_at write i) 1 && is_under c (elements_in c read) i) 1 0)
    → eqb found write ≡ agrees c (elements_in c read) (elements_in c write)
tree_agree c read write found kind w bits =
    same_from_decides _ _ (Decides-eqb found write) (all_under c read write found (tree_small c write kind w) bits)
    ∙ sym (all_is_no_other (is_under c (elements_in c read)) (members (length c.elements) write))
    ∙ ap (list_all (is_under c (elements_in c read))) (sym (tree_members c write kind))
    ∙ ap (λ k. agrees_in k c (elements_in c read) (elements_in c write)) (sym kind)

-- What the rules say of parts.
use Rattle.std.proofs.Common.{◌≡◌, refl, ap, sym, ◌∙◌, ℕ, zero, suc, ◌+◌, ◌-◌, ◌*◌, ◌/◌, ◌^◌, ◌%◌, ◌<◌, ◌≤◌, ◌≢◌, ◌⊎◌, ⊎_elim, inl, inr, Bool, true, false, not, cond, ◌||◌, ◌&&◌, List, [], ◌∷◌, length, eqb, ltb, arith, subst, bit_and, min}
use Rattle.std.proofs.lemmas.Bool.{cases_eq, cases_lt}
use Rattle.std.proofs.lemmas.Bool.Decides.{Decides-at, Decides-not, Decides-like, not_from_Decides, same_from_decides}
use Rattle.std.proofs.lemmas.Nat.Bits.{bit_at-lt, bit_at-zero, bit_at_and, bit_at_not, bit_at_above, same_from_bits}
use Rattle.std.proofs.lemmas.Nat.{and_le_l, and_le_r}
use Rattle.std.proofs.Math.Pow.{pow_mono}
use Rattle.std.specs.Bool.{Decides}
use Rattle.std.specs.Cmp.Lexicographic.{pointwise}
use Rattle.std.specs.Int.{bit_at, bit_not, w64}
use Rattle.std.specs.List.{filter, list_any, list_all, range_with_len}
use Rattle.lb_label.proofs.Bits.{same_true, true_same, false_apart}
use Rattle.lb_label.proofs.Elements.{all_is_no_other, any_member, any_in_range, bit_or_not, is_member, members, set_below, some_bit, or_cases, or_left, or_right, and_true, both_true}
use Rattle.lb_label.specs.declared.kind.ComponentKind.{ComponentKind}
use Rattle.lb_label.specs.declared.kind.ComponentKind.TheVariants.{Set, Array, Tree}
use Rattle.lb_base.specs.declared.rule.Rule.TheVariants.{ReadArray, ReadSet, ReadTree, WriteDown, WriteUp, WriteSet, WriteTree}
use Rattle.lb_label.specs.Component.{Definition, IsComponent, limit, numbers, is_higher, descends}
use Rattle.lb_label.specs.Label.{IsPart, fits_in, has_element, elements_in}
use Rattle.lb_label.specs.Rules.{agrees, blocks, has, is_above, is_below, is_under, lacks_one, none_under}

false_true : {C : Type 0} → false ≡ true → C
false_true e = absurd cc

pub is_false : (b : Bool) → (b ≡ true → ⊥) → b ≡ false
is_false true h = absurd (h refl)
is_false false h = refl

-- ---- ARRAY

-- no number passes, or just one
pub none_pass : (q : ℕ → Bool) (a n : ℕ) → ((k : ℕ) → a ≤ k → q k ≡ false) → filter q (range_with_len a n) ≡ []
none_pass q a zero fails = refl
none_pass q a (suc n) fails =
    let first : q a ≡ false = fails a (omega arith) in
    rw first (none_pass q (a + 1) n (λ k h. fails k (omega arith)))

pub one_passes : (p a n e : ℕ) → a ≤ e → e < a + n → p ≡ e + 1 → filter (λ x. eqb p (x + 1)) (range_with_len a n) ≡ e ∷ []
one_passes p a zero e low high is = absurd (omega arith)
one_passes p a (suc n) e low high is = ⊎_elim
    (λ (same : e ≡ a). let first : eqb p (a + 1) ≡ true = true_same p (a + 1) (omega arith) in
    let rest : filter (λ x. eqb p (x + 1)) (range_with_len (a + 1) n) ≡ [] = none_pass (λ x. eqb p (x + 1)) (a + 1) n (λ k h. false_apart p (k + 1) (λ eq. omega arith)) in
    rw (first, rest) (ap (λ k. k ∷ []) (sym same)))
    (λ (apart : e ≢ a). let first : eqb p (a + 1) ≡ false = false_apart p (a + 1) (λ eq. apart (omega arith)) in
    rw first (one_passes p (a + 1) n e (omega arith) (omega arith) is))
    (cases_eq e a)

pub array_none : (c : Definition) (part : ℕ) → c.kind ≡ Array → part ≡ 0 → elements_in c part ≡ []
array_none c part kind is =
    ap (λ k. filter (has_element k part) (numbers (length c.elements))) kind
    ∙ none_pass (λ x. eqb part (x + 1)) 0 (length c.elements) (λ k h. false_apart part (k + 1) (λ eq. omega arith))

pub array_one : (c : Definition) (part e : ℕ) → c.kind ≡ Array → IsPart c part → part ≡ e + 1 → elements_in c part ≡ e ∷ []
array_one c part e kind fits is =
    let within : part ≤ length c.elements = subst (λ k. fits_in k (length c.elements) part) kind fits in
    ap (λ k. filter (has_element k part) (numbers (length c.elements))) kind
    ∙ one_passes part 0 (length c.elements) e (omega arith) (omega arith) is

-- ---- SET and TREE

pub set_members : (c : Definition) (part : ℕ) → c.kind ≡ Set → elements_in c part ≡ members (length c.elements) part
set_members c part kind = ap (λ k. filter (has_element k part) (numbers (length c.elements))) kind

pub tree_members : (c : Definition) (part : ℕ) → c.kind ≡ Tree → elements_in c part ≡ members (length c.elements) part
tree_members c part kind = ap (λ k. filter (has_element k part) (numbers (length c.elements))) kind

pub set_small : (c : Definition) (part : ℕ) → c.kind ≡ Set → IsPart c part → part < 2 ^ length c.elements
set_small c part kind fits = subst (λ k. fits_in k (length c.elements) part) kind fits

pub tree_small : (c : Definition) (part : ℕ) → c.kind ≡ Tree → IsPart c part → part < 2 ^ length c.elements
tree_small c part kind fits = subst (λ k. fits_in k (length c.elements) part) kind fits

pub blocks_set : (c : Definition) (us vs : List ℕ) → (blocks ReadSet c us vs ≡ lacks_one us vs) × (blocks WriteSet c us vs ≡ lacks_one us vs)
blocks_set c us [] = (refl, refl)
blocks_set c [] (v ∷ vs) = (refl, refl)
blocks_set c (u ∷ us) (v ∷ vs) = (refl, refl)

-- `value & !user`
lacks_decides : (n user value : ℕ) → n ≤ 64 → user < 2 ^ 64 → value < 2 ^ n
    → Decides (lacks_one (members n user) (members n value)) ((k : ℕ) × (bit_at (bit_and value (bit_not w64 user)) k ≡ 1))
lacks_decides n user value few small fits = (
  λ found. let some : (k : ℕ) × (k < n) × (bit_at value k ≡ 1) × (not (has (members n user) k) ≡ true) = (any_member (λ d. not (has (members n user) d)) n value).0 found in
      let lacking : bit_at user some.0 ≡ 0 = ⊎_elim
      (λ set. let held : has (members n user) some.0 ≡ true = (is_member n user some.0).1 (some.1, set) in
      false_true (sym (ap not held) ∙ some.3))
      (λ clear. clear)
      (bit_or_not user some.0) in
      let high : some.0 < n = some.1 in
      (some.0, bit_at_and value (bit_not w64 user) some.0 ∙ rw (some.2, bit_at_not w64 user some.0 small (omega arith), lacking) refl),
  λ set. let both : min (bit_at value set.0) (bit_at (bit_not w64 user) set.0) ≡ 1 = sym (bit_at_and value (bit_not w64 user) set.0) ∙ set.1 in
      let two : bit_at value set.0 < 2 = bit_at-lt value set.0 in
      let one : bit_at value set.0 ≡ 1 = omega arith in
      let high : set.0 < n = set_below n value set.0 fits one in
      let other : bit_at (bit_not w64 user) set.0 ≡ 1 - bit_at user set.0 = bit_at_not w64 user set.0 small (omega arith) in
      let lacking : bit_at user set.0 ≡ 0 = omega arith in
      let not_held : has (members n user) set.0 ≡ false = is_false _ (λ held. let held' : bit_at user set.0 ≡ 1 = ((is_member n user set.0).0 held).1 in omega arith) in
      (any_member (λ d. not (has (members n user) d)) n value).1 (set.0, high, one, ap not not_held),
)

pub bits_below : (n x : ℕ) → n ≤ 64 → x < 2 ^ n → x < 2 ^ 64
bits_below n x few small = let wide : 2 ^ n ≤ 2 ^ 64 = pow_mono few in omega arith

pub few_in_set : (c : Definition) → IsComponent c → c.kind ≡ Set → length c.elements ≤ 64
few_in_set c valid kind = subst (λ k. length c.elements ≤ limit k) kind valid.few

pub few_in_tree : (c : Definition) → IsComponent c → c.kind ≡ Tree → length c.elements ≤ 64
few_in_tree c valid kind = subst (λ k. length c.elements ≤ limit k) kind valid.few

pub few_in_array : (c : Definition) (part : ℕ) → IsComponent c → c.kind ≡ Array → IsPart c part → part ≤ 1024
few_in_array c part valid kind fits =
    let few : length c.elements ≤ 1024 = subst (λ k. length c.elements ≤ limit k) kind valid.few in
    let within : part ≤ length c.elements = subst (λ k. fits_in k (length c.elements) part) kind fits in
    omega arith

pub lacks_test : (c : Definition) (user value : ℕ) → IsComponent c → c.kind ≡ Set → IsPart c user → IsPart c value
    → not (eqb (bit_and value (bit_not w64 user)) 0) ≡ lacks_one (elements_in c user) (elements_in c value)
lacks_test c user value valid kind u v =
    let few : length c.elements ≤ 64 = few_in_set c valid kind in
    let user_small : user < 2 ^ 64 = bits_below _ user few (set_small c user kind u) in
    let value_fits : value < 2 ^ length c.elements = set_small c value kind v in
    let value_small : value < 2 ^ 64 = bits_below _ value few value_fits in
    let less : bit_and value (bit_not w64 user) ≤ value = and_le_l value (bit_not w64 user) in
    rw (set_members c user kind, set_members c value kind)
    (same_from_decides _ _ (some_bit (bit_and value (bit_not w64 user)) (omega arith)) (lacks_decides (length c.elements) user value few user_small value_fits))

pub array_below_none : (c : Definition) (user value : ℕ) → c.kind ≡ Array → value ≡ 0
    → (false ≡ blocks ReadArray c (elements_in c user) (elements_in c value)) × (false ≡ blocks WriteUp c (elements_in c user) (elements_in c value)) × (false ≡ blocks WriteDown c (elements_in c user) (elements_in c value))
array_below_none c user value kind none = rw (array_none c value kind none) (refl, refl, refl)

pub array_no_user : (c : Definition) (user value : ℕ) → c.kind ≡ Array → IsPart c value → value ≢ 0 → user ≡ 0
    → (true ≡ blocks ReadArray c (elements_in c user) (elements_in c value)) × (true ≡ blocks WriteUp c (elements_in c user) (elements_in c value)) × (false ≡ blocks WriteDown c (elements_in c user) (elements_in c value))
array_no_user c user value kind v some none = rw (array_none c user kind none, array_one c value (value - 1) kind v (omega arith)) (refl, refl, refl)

pub array_both : (c : Definition) (user value u v : ℕ) → c.kind ≡ Array → IsPart c user → IsPart c value → u + 1 ≡ user → v + 1 ≡ value
    → (is_higher c v u ≡ blocks ReadArray c (elements_in c user) (elements_in c value)) × (is_higher c v u ≡ blocks WriteUp c (elements_in c user) (elements_in c value)) × (is_higher c u v ≡ blocks WriteDown c (elements_in c user) (elements_in c value))
array_both c user value u v kind u_fits v_fits is_u is_v =
    rw (array_one c user u kind u_fits (sym is_u), array_one c value v kind v_fits (sym is_v)) (alone (is_higher c v u), alone (is_higher c v u), alone (is_higher c u v))
  where
    alone : (b : Bool) → b ≡ ((b || false) || false)
    alone true = refl
    alone false = refl

-- ---- TREE

-- `line & top != 0`
pub line_test : (c : Definition) (line e top : ℕ) → IsComponent c → c.kind ≡ Tree → IsPart c top
    → ((i : ℕ) → bit_at line i ≡ cond (eqb e i || descends c e i) 1 0) → not (eqb (bit_and line top) 0) ≡ is_under c (elements_in c top) e
line_test c line e top valid kind t bits =
    let top_fits : top < 2 ^ length c.elements = tree_small c top kind t in
    let top_small : top < 2 ^ 64 = bits_below _ top (few_in_tree c valid kind) top_fits in
    let less : bit_and line top ≤ top = and_le_r line top in
    rw (tree_members c top kind) (same_from_decides _ _ (some_bit (bit_and line top) (omega arith)) (
      λ found. let some : (k : ℕ) × (k < length c.elements) × (bit_at top k ≡ 1) × ((eqb e k || descends c e k) ≡ true) = (any_member (λ u. eqb e u || descends c e u) (length c.elements) top).0 found in
          let set : bit_at line some.0 ≡ 1 = bits some.0 ∙ ap (λ b. cond b 1 0) some.3 in
          (some.0, bit_at_and line top some.0 ∙ rw (set, some.2) refl),
      λ set. let both : min (bit_at line set.0) (bit_at top set.0) ≡ 1 = sym (bit_at_and line top set.0) ∙ set.1 in
          let two : bit_at line set.0 < 2 = bit_at-lt line set.0 in
          let two' : bit_at top set.0 < 2 = bit_at-lt top set.0 in
          let one : bit_at line set.0 ≡ 1 = omega arith in
          let one' : bit_at top set.0 ≡ 1 = omega arith in
          (any_member (λ u. eqb e u || descends c e u) (length c.elements) top).1
          (set.0, set_below (length c.elements) top set.0 top_fits one', one', bit_true _ (sym (bits set.0) ∙ one)),
    ))
  where
    bit_true : (b : Bool) → ◌≡◌ {A = ℕ} (cond b 1 0) 1 → b ≡ true
    bit_true true h = refl
    bit_true false h = absurd (omega arith)

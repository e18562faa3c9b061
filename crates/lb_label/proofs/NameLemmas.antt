-- The names of a part, taken one after another and as a whole.
use Rattle.std.proofs.Common.{◌≡◌, refl, ap, sym, ◌∙◌, ℕ, zero, suc, ◌+◌, ◌-◌, ◌*◌, ◌^◌, ◌%◌, ◌<◌, ◌≤◌, ◌≢◌, ◌⊎◌, ⊎_elim, inl, inr, Bool, true, false, not, cond, ◌&&◌, ◌||◌, List, [], ◌∷◌, length, get_or, Option, Some, None, Result, Ok, Err, eqb, arith, subst, bit_or, max, is_none}
use Rattle.std.proofs.Math.Pow.{pow-lt, pow_pos}
use Rattle.std.proofs.lemmas.Bool.{cases_eq}
use Rattle.std.proofs.lemmas.Nat.{or_lt}
use Rattle.std.proofs.lemmas.Nat.Bits.{bit_at_or, bit_at-zero}
use Rattle.std.proofs.lemmas.Slice.Eq.{bytes_eq-Decides}
use Rattle.std.specs.Int.{bit_at}
use Rattle.std.specs.List.{list_any, position_from, slice_split}
use Rattle.std.specs.Str.{bytes_eq, IsUtf8}
use Rattle.lb_label.proofs.Bits.{same_true, true_same, false_apart, bit_of_one}
use Rattle.lb_label.proofs.Elements.{bit_or_not, or_right}
use Rattle.lb_label.proofs.RuleLemmas.{is_false}
use Rattle.lb_label.specs.declared.kind.ComponentKind.{ComponentKind}
use Rattle.lb_label.specs.declared.kind.ComponentKind.TheVariants.{Set, Array, Tree}
use Rattle.lb_label.specs.Component.{Definition, IsComponent, number_of}
use Rattle.lb_label.specs.Label.{IsPart, fits_in, has_element}
use Rattle.lb_label.specs.LabelText.{failing_from, failing_name, fails, is_named, is_second}
use Rattle.lb_label.specs.Reading.{or_fails_at, split_left, with_name, with_names, with_number}

-- ---- where a list of names is being read

pub record NamesLeft (c : Definition) (start : ℕ) (list : List ℕ) (at : ℕ) (left : List ℕ) (bits : ℕ) : Type 0 where
  pub same : with_names c at (slice_split (λ b. eqb b 44) left) bits ≡ with_names c start (slice_split (λ b. eqb b 44) list) 0
  pub room : at + length left ≡ start + length list
  pub text : IsUtf8 left

-- ---- names and numbers

number_within : (t : List ℕ → Bool) (i : ℕ) (xs : List (List ℕ)) (k : ℕ) → position_from t i xs ≡ Some k → (i ≤ k) × (k < i + length xs) × (t (get_or xs (k - i) []) ≡ true)
number_within t i [] k found = absurd (differ found)
  where
    differ : None ≡ Some k → ⊥
    differ e = cc
number_within t i (x ∷ xs) k found =
    elim (t x) as (λ b. t x ≡ b → cond b (Some i) (position_from t (i + 1) xs) ≡ Some k → (i ≤ k) × (k < i + suc (length xs)) × (t (get_or (x ∷ xs) (k - i) []) ≡ true)) [
      | true ↦ λ passes e. let same : i ≡ k = inside i k e in
          let here : k - i ≡ 0 = omega arith in
          (omega arith, omega arith, ap (λ n. t (get_or (x ∷ xs) n [])) here ∙ passes)
      | false ↦ λ fails e. let rest : (i + 1 ≤ k) × (k < i + 1 + length xs) × (t (get_or xs (k - (i + 1)) []) ≡ true) = number_within t (i + 1) xs k e in
          let low : i + 1 ≤ k = rest.0 in let high : k < i + 1 + length xs = rest.1 in
          let next : k - i ≡ suc (k - (i + 1)) = omega arith in
          (omega arith, omega arith, ap (λ n. t (get_or (x ∷ xs) n [])) next ∙ rest.2)
    ] refl found
  where
    inside : (a b : ℕ) → Some a ≡ Some b → a ≡ b
    inside a b e = cc

pub number_below : (c : Definition) (name : List ℕ) (n : ℕ) → number_of c name ≡ Some n → (n < length c.elements) × (get_or c.elements n [] ≡ name)
number_below c name n found =
    let at : (0 ≤ n) × (n < 0 + length c.elements) × (bytes_eq (get_or c.elements (n - 0) []) name ≡ true) = number_within (λ x. bytes_eq x name) 0 c.elements n found in
    let high : n < 0 + length c.elements = at.1 in
    let plain : n ≡ n - 0 = omega arith in
    (omega arith, ap (λ k. get_or c.elements k []) plain ∙ (bytes_eq-Decides (get_or c.elements (n - 0) []) name).0 at.2)

-- the element that a name names is the one whose text it is
pub named_by : (c : Definition) → IsComponent c → (name : List ℕ) (n e : ℕ) → number_of c name ≡ Some n → e < length c.elements → bytes_eq (get_or c.elements e []) name ≡ eqb n e
named_by c valid name n e found within =
    let at : (n < length c.elements) × (get_or c.elements n [] ≡ name) = number_below c name n found in
    ⊎_elim
    (λ (same : n ≡ e). (bytes_eq-Decides (get_or c.elements e []) name).1 (ap (λ k. get_or c.elements k []) (sym same) ∙ at.1) ∙ sym (true_same n e same))
    (λ (apart : n ≢ e). is_false _ (λ equal.
    let text : get_or c.elements e [] ≡ name = (bytes_eq-Decides (get_or c.elements e []) name).0 equal in
    let twice : Some n ≡ Some e = sym found ∙ ap (number_of c) (sym text) ∙ valid.distinct e within in
    apart (inside n e twice)) ∙ sym (false_apart n e apart))
    (cases_eq n e)
  where
    inside : (a b : ℕ) → Some a ≡ Some b → a ≡ b
    inside a b e = cc

-- ---- names of elements with bits

-- a kind whose parts have a bit for each element
pub record IsBitwise (kind : ComponentKind) : Type 0 where
  pub more : (part n : ℕ) → with_number kind part (Some n) ≡ Some (bit_or part (2 ^ n))
  pub none : (part : ℕ) → with_number kind part None ≡ None
  pub bits : (part e : ℕ) → has_element kind part e ≡ eqb (bit_at part e) 1
  pub any_second : (first name : List ℕ) → is_second kind first name ≡ false
  pub small : (n part : ℕ) → part < 2 ^ n → fits_in kind n part

pub set_bitwise : IsBitwise Set
set_bitwise = record { more = λ part n. refl; none = λ part. refl; bits = λ part e. refl; any_second = λ first name. refl; small = λ n part h. h }

pub tree_bitwise : IsBitwise Tree
tree_bitwise = record { more = λ part n. refl; none = λ part. refl; bits = λ part e. refl; any_second = λ first name. refl; small = λ n part h. h }

bit_of_max : (a b : ℕ) (t : Bool) → b ≡ cond t 1 0 → (a ≡ 1) ⊎ (a ≡ 0) → eqb (max a b) 1 ≡ (eqb a 1 || t)
bit_of_max a b true is two = ⊎_elim (λ (one : a ≡ 1). rw (is, one) refl) (λ (none : a ≡ 0). rw (is, none) refl) two
bit_of_max a b false is two = ⊎_elim (λ (one : a ≡ 1). rw (is, one) refl) (λ (none : a ≡ 0). rw (is, none) refl) two

or_assoc : (a b c : Bool) → ((a || b) || c) ≡ (a || (b || c))
or_assoc true b c = refl
or_assoc false b c = refl

-- what reading names into bits says of the names
abbrev pub NamedBits : Definition → List ℕ → ℕ → List (List ℕ) → ℕ → Result ℕ ℕ → Type 0
NamedBits c first at names part (Ok bits) =
    (failing_from c first at names ≡ None) × (bits < 2 ^ length c.elements) × ((e : ℕ) → e < length c.elements → eqb (bit_at bits e) 1 ≡ (eqb (bit_at part e) 1 || is_named c names e))
NamedBits c first at names part (Err place) = failing_from c first at names ≡ Some place

unknown_fails : (c : Definition) (first name : List ℕ) → number_of c name ≡ None → fails c first name ≡ true
unknown_fails c first name unknown = ap (λ o. is_none o || is_second c.kind first name) unknown

known_second : (c : Definition) (first name : List ℕ) (n : ℕ) → number_of c name ≡ Some n → fails c first name ≡ is_second c.kind first name
known_second c first name n known = ap (λ o. is_none o || is_second c.kind first name) known

fails_here : (c : Definition) (first name : List ℕ) (at : ℕ) (names : List (List ℕ)) → fails c first name ≡ true → failing_from c first at (name ∷ names) ≡ Some at
fails_here c first name at names failing = ap (λ b. cond b (Some at) (failing_from c first (at + length name + 1) names)) failing

fails_later : (c : Definition) (first name : List ℕ) (at : ℕ) (names : List (List ℕ)) → fails c first name ≡ false → failing_from c first at (name ∷ names) ≡ failing_from c first (at + length name + 1) names
fails_later c first name at names passing = ap (λ b. cond b (Some at) (failing_from c first (at + length name + 1) names)) passing

bits_more : (c : Definition) → IsComponent c → IsBitwise c.kind → (first : List ℕ) (at : ℕ) (name : List ℕ) (names : List (List ℕ)) (part n : ℕ) → number_of c name ≡ Some n → (r : Result ℕ ℕ)
    → NamedBits c first (at + length name + 1) names (bit_or part (2 ^ n)) r → NamedBits c first at (name ∷ names) part r
bits_more c valid bitwise first at name names part n known (Ok bits) rest = (
  fails_later c first name at names (known_second c first name n known ∙ bitwise.any_second first name) ∙ rest.0,
  rest.1,
  λ e within. rest.2 e within
      ∙ ap (λ t. t || is_named c names e) (ap (λ b. eqb b 1) (bit_at_or part (2 ^ n) e) ∙ bit_of_max (bit_at part e) (bit_at (2 ^ n) e) (eqb n e) (bit_of_one n e) (bit_or_not part e))
      ∙ or_assoc (eqb (bit_at part e) 1) (eqb n e) (is_named c names e)
      ∙ ap (λ t. eqb (bit_at part e) 1 || (t || is_named c names e)) (sym (named_by c valid name n e known within)),
)
bits_more c valid bitwise first at name names part n known (Err place) rest =
    fails_later c first name at names (known_second c first name n known ∙ bitwise.any_second first name) ∙ rest

bits_named : (c : Definition) → IsComponent c → IsBitwise c.kind → (first : List ℕ) (at : ℕ) (names : List (List ℕ)) (part : ℕ) (r : Result ℕ ℕ) → part < 2 ^ length c.elements
    → with_names c at names part ≡ r → NamedBits c first at names part r
bits_named c valid bitwise first at [] part r small made =
    subst (NamedBits c first at [] part) made (refl, small, λ e within. sym (or_none (eqb (bit_at part e) 1)))
  where
    or_none : (b : Bool) → (b || false) ≡ b
    or_none true = refl
    or_none false = refl
bits_named c valid bitwise first at (name ∷ names) part r small made =
    elim (number_of c name) as (λ o. number_of c name ≡ o → or_fails_at at (with_names c (at + length name + 1) names) (with_number c.kind part o) ≡ r → NamedBits c first at (name ∷ names) part r) [
      | None ↦ λ unknown e. subst (NamedBits c first at (name ∷ names) part)
          (ap (or_fails_at at (with_names c (at + length name + 1) names)) (sym (bitwise.none part)) ∙ e)
          (fails_here c first name at names (unknown_fails c first name unknown))
      | Some n ↦ λ known e.
          let below : n < length c.elements = (number_below c name n known).0 in
          let bit_small : 2 ^ n < 2 ^ length c.elements = pow-lt below in
          bits_more c valid bitwise first at name names part n known r
          (bits_named c valid bitwise first (at + length name + 1) names (bit_or part (2 ^ n)) r (or_lt (length c.elements) part (2 ^ n) small bit_small)
          (ap (or_fails_at at (with_names c (at + length name + 1) names)) (sym (bitwise.more part n)) ∙ e))
    ] refl made

-- ---- the one name of an ARRAY

pub record IsSingle (kind : ComponentKind) : Type 0 where
  pub more : (part n : ℕ) → with_number kind part (Some n) ≡ cond (eqb part 0 || eqb part (n + 1)) (Some (n + 1)) None
  pub none : (part : ℕ) → with_number kind part None ≡ None
  pub one : (part e : ℕ) → has_element kind part e ≡ eqb part (e + 1)
  pub second : (first name : List ℕ) → is_second kind first name ≡ not (bytes_eq name first)
  pub fits : (n part : ℕ) → part ≤ n → fits_in kind n part

array_single : IsSingle Array
array_single = record { more = λ part n. refl; none = λ part. refl; one = λ part e. refl; second = λ first name. refl; fits = λ n part h. h }

-- what reading more names beside the first one, which has the number k, says of them
abbrev pub NamedOnce : Definition → List ℕ → ℕ → ℕ → List (List ℕ) → Result ℕ ℕ → Type 0
NamedOnce c first k at names (Ok bits) =
    (failing_from c first at names ≡ None) × (bits ≡ k + 1) × ((text : List ℕ) → (bytes_eq text first || list_any (λ name. bytes_eq text name) names) ≡ bytes_eq text first)
NamedOnce c first k at names (Err place) = failing_from c first at names ≡ Some place

or_itself : (a b : Bool) → (a || (a || b)) ≡ (a || b)
or_itself true b = refl
or_itself false b = refl

once_more : (c : Definition) (first : List ℕ) (k at : ℕ) (name : List ℕ) (names : List (List ℕ)) → fails c first name ≡ false → name ≡ first → (r : Result ℕ ℕ)
    → NamedOnce c first k (at + length name + 1) names r → NamedOnce c first k at (name ∷ names) r
once_more c first k at name names passing same (Ok bits) rest = (
  fails_later c first name at names passing ∙ rest.0,
  rest.1,
  λ text. ap (λ x. bytes_eq text first || (bytes_eq text x || list_any (λ other. bytes_eq text other) names)) same
      ∙ or_itself (bytes_eq text first) (list_any (λ other. bytes_eq text other) names) ∙ rest.2 text,
)
once_more c first k at name names passing same (Err place) rest = fails_later c first name at names passing ∙ rest

once_named : (c : Definition) → IsComponent c → IsSingle c.kind → (first : List ℕ) (k : ℕ) → number_of c first ≡ Some k → (at : ℕ) (names : List (List ℕ)) (r : Result ℕ ℕ)
    → with_names c at names (k + 1) ≡ r → NamedOnce c first k at names r
once_named c valid single first k is at [] r made = subst (NamedOnce c first k at []) made (refl, refl, λ text. or_none (bytes_eq text first))
  where
    or_none : (b : Bool) → (b || false) ≡ b
    or_none true = refl
    or_none false = refl
once_named c valid single first k is at (name ∷ names) r made =
    elim (number_of c name) as (λ o. number_of c name ≡ o → or_fails_at at (with_names c (at + length name + 1) names) (with_number c.kind (k + 1) o) ≡ r → NamedOnce c first k at (name ∷ names) r) [
      | None ↦ λ unknown e. subst (NamedOnce c first k at (name ∷ names))
          (ap (or_fails_at at (with_names c (at + length name + 1) names)) (sym (single.none (k + 1))) ∙ e)
          (fails_here c first name at names (unknown_fails c first name unknown))
      | Some n ↦ λ known e. ⊎_elim
          (λ (same : k ≡ n).
          let passes : (eqb (k + 1) 0 || eqb (k + 1) (n + 1)) ≡ true = or_right _ _ (true_same (k + 1) (n + 1) (omega arith)) in
          let chosen : with_number c.kind (k + 1) (Some n) ≡ Some (k + 1) = single.more (k + 1) n ∙ ap (λ b. cond b (Some (n + 1)) None) passes ∙ ap (λ j. Some (j + 1)) (sym same) in
          let again : name ≡ first = sym (number_below c name n known).1 ∙ ap (λ j. get_or c.elements j []) (sym same) ∙ (number_below c first k is).1 in
          let equal : bytes_eq name first ≡ true = (bytes_eq-Decides name first).1 again in
          once_more c first k at name names (known_second c first name n known ∙ single.second first name ∙ ap not equal) again r
          (once_named c valid single first k is (at + length name + 1) names r (ap (or_fails_at at (with_names c (at + length name + 1) names)) (sym chosen) ∙ e)))
          (λ (apart : k ≢ n).
          let refused : (eqb (k + 1) 0 || eqb (k + 1) (n + 1)) ≡ false = neither _ _ (false_apart (k + 1) 0 (λ z. omega arith)) (false_apart (k + 1) (n + 1) (λ z. apart (omega arith))) in
          let chosen : with_number c.kind (k + 1) (Some n) ≡ None = single.more (k + 1) n ∙ ap (λ b. cond b (Some (n + 1)) None) refused in
          let other : bytes_eq name first ≡ false = is_false _ (λ equal.
          let twice : Some k ≡ Some n = sym is ∙ ap (number_of c) (sym ((bytes_eq-Decides name first).0 equal)) ∙ known in apart (inside k n twice)) in
          subst (NamedOnce c first k at (name ∷ names))
          (ap (or_fails_at at (with_names c (at + length name + 1) names)) (sym chosen) ∙ e)
          (fails_here c first name at names (known_second c first name n known ∙ single.second first name ∙ ap not other)))
          (cases_eq k n)
    ] refl made
  where
    inside : (a b : ℕ) → Some a ≡ Some b → a ≡ b
    inside a b e = cc

    neither : (a b : Bool) → a ≡ false → b ≡ false → (a || b) ≡ false
    neither a b h g = rw (h, g) refl

-- ---- all names of a part

abbrev pub NamesRead : Definition → ℕ → List (List ℕ) → Result ℕ ℕ → Type 0
NamesRead c at names (Ok bits) = (failing_name c at names ≡ None) × IsPart c bits × ((e : ℕ) → e < length c.elements → has_element c.kind bits e ≡ is_named c names e)
NamesRead c at names (Err place) = failing_name c at names ≡ Some place

from_bits : (c : Definition) → IsBitwise c.kind → (at : ℕ) (names : List (List ℕ)) (r : Result ℕ ℕ) → NamedBits c (get_or names 0 []) at names 0 r → NamesRead c at names r
from_bits c bitwise at names (Ok bits) read = (
  read.0,
  bitwise.small (length c.elements) bits read.1,
  λ e within. bitwise.bits bits e ∙ read.2 e within ∙ ap (λ b. eqb b 1 || is_named c names e) (bit_at-zero e),
)
from_bits c bitwise at names (Err place) read = read

from_once : (c : Definition) → IsComponent c → IsSingle c.kind → (first : List ℕ) (k at : ℕ) (names : List (List ℕ)) → number_of c first ≡ Some k → fails c first first ≡ false → (r : Result ℕ ℕ)
    → NamedOnce c first k (at + length first + 1) names r → NamesRead c at (first ∷ names) r
from_once c valid single first k at names is passing (Ok bits) read =
    let below : k < length c.elements = (number_below c first k is).0 in
    let one : bits ≡ k + 1 = read.1 in (
      fails_later c first first at names passing ∙ read.0,
      single.fits (length c.elements) bits (omega arith),
      λ e within. single.one bits e ∙ ap (λ b. eqb b (e + 1)) one ∙ next k e ∙ sym (named_by c valid first k e is within) ∙ sym (read.2 (get_or c.elements e [])),
    )
  where
    next : (a b : ℕ) → eqb (a + 1) (b + 1) ≡ eqb a b
    next a b = ⊎_elim
        (λ (same : a ≡ b). true_same (a + 1) (b + 1) (omega arith) ∙ sym (true_same a b same))
        (λ (apart : a ≢ b). false_apart (a + 1) (b + 1) (λ z. apart (omega arith)) ∙ sym (false_apart a b apart))
        (cases_eq a b)
from_once c valid single first k at names is passing (Err place) read = fails_later c first first at names passing ∙ read

single_read : (c : Definition) → IsComponent c → IsSingle c.kind → (at : ℕ) (names : List (List ℕ)) (r : Result ℕ ℕ) → with_names c at names 0 ≡ r → NamesRead c at names r
single_read c valid single at [] r made =
    subst (NamesRead c at []) made (refl, single.fits (length c.elements) 0 (omega arith), λ e within. single.one 0 e ∙ false_apart 0 (e + 1) (λ z. omega arith))
single_read c valid single at (first ∷ names) r made =
    elim (number_of c first) as (λ o. number_of c first ≡ o → or_fails_at at (with_names c (at + length first + 1) names) (with_number c.kind 0 o) ≡ r → NamesRead c at (first ∷ names) r) [
      | None ↦ λ unknown e. subst (NamesRead c at (first ∷ names))
          (ap (or_fails_at at (with_names c (at + length first + 1) names)) (sym (single.none 0)) ∙ e)
          (fails_here c first first at names (unknown_fails c first first unknown))
      | Some k ↦ λ known e.
          let chosen : with_number c.kind 0 (Some k) ≡ Some (k + 1) = single.more 0 k in
          let equal : bytes_eq first first ≡ true = (bytes_eq-Decides first first).1 refl in
          from_once c valid single first k at names known (known_second c first first k known ∙ single.second first first ∙ ap not equal) r
          (once_named c valid single first k known (at + length first + 1) names r (ap (or_fails_at at (with_names c (at + length first + 1) names)) (sym chosen) ∙ e))
    ] refl made

bits_read : (c : Definition) → IsComponent c → IsBitwise c.kind → (at : ℕ) (names : List (List ℕ)) (r : Result ℕ ℕ) → with_names c at names 0 ≡ r → NamesRead c at names r
bits_read c valid bitwise at names r made =
    let small : 0 < 2 ^ length c.elements = pow_pos (length c.elements) in
    from_bits c bitwise at names r (bits_named c valid bitwise (get_or names 0 []) at names 0 r small made)

pub names_read : (c : Definition) → IsComponent c → (at : ℕ) (names : List (List ℕ)) (r : Result ℕ ℕ) → with_names c at names 0 ≡ r → NamesRead c at names r
names_read c valid at names r made =
    elim c.kind as (λ k. c.kind ≡ k → NamesRead c at names r) [
      | Set ↦ λ kind. bits_read c valid (subst IsBitwise (sym kind) set_bitwise) at names r made
      | Array ↦ λ kind. single_read c valid (subst IsSingle (sym kind) array_single) at names r made
      | Tree ↦ λ kind. bits_read c valid (subst IsBitwise (sym kind) tree_bitwise) at names r made
    ] refl

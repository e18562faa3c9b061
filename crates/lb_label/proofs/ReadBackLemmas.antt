-- The text of a label reads back to the label.
use Rattle.std.proofs.Common.{◌≡◌, refl, ap, sym, ◌∙◌, ℕ, zero, suc, ◌+◌, ◌-◌, ◌<◌, ◌≤◌, ◌≢◌, ◌⊎◌, ⊎_elim, inl, inr, Bool, true, false, not, cond, ◌||◌, ◌&&◌, List, [], ◌∷◌, ◌++◌, length, map, take, drop, get_or, filter, All, Option, Some, None, Result, Ok, Err, eqb, leb, arith, subst, codes, is_none}
use Rattle.std.proofs.lemmas.Bool.{cases_eq, le-leb}
use Rattle.std.proofs.lemmas.Bool.Decides.{same_from_decides}
use Rattle.std.proofs.lemmas.List.{append_assoc, append-nil, length-append, take_at, get_or_at}
use Rattle.std.proofs.lemmas.List.Elements.{All-from_recursion}
use Rattle.std.proofs.lemmas.List.Splits.{slice_split_at, slice_split_none}
use Rattle.std.proofs.lemmas.Slice.Eq.{bytes_eq-Decides}
use Rattle.std.specs.Bool.{Decides}
use Rattle.std.specs.Int.{bit_at}
use Rattle.std.specs.List.{AllByRecursion, join_with_byte, list_any, range_with_len, slice_split}
use Rattle.std.specs.Str.{bytes_eq}
use Rattle.lb_label.proofs.Bits.{same_true, true_same, false_apart}
use Rattle.lb_label.proofs.Elements.{and_true, any_in_filter, any_in_range, both_true}
use Rattle.lb_label.proofs.PrintLemmas.{elements_below, texts_of, texts_length}
use Rattle.lb_label.proofs.LabelLemmas.{label_length}
use Rattle.lb_label.proofs.ReadLemmas.{same_filter}
use Rattle.lb_label.proofs.RuleLemmas.{array_none, array_one, is_false}
use Rattle.lb_label.proofs.TextLemmas.{not_bracketed_front}
use Rattle.lb_label.specs.declared.kind.ComponentKind.{ComponentKind}
use Rattle.lb_label.specs.declared.kind.ComponentKind.TheVariants.{Set, Array, Tree}
use Rattle.lb_label.specs.Component.{Definition, IsComponent, is_delimiter, is_element_text, number_of, numbers}
use Rattle.lb_label.specs.Label.{IsLabel, IsPart, elements_in, has_element, label_of}
use Rattle.lb_label.specs.LabelText.{elements_named, failing_from, failing_in, failing_name, fails, in_front, inside, is_bracketed, is_named, is_second, label_text, listed, named_from, named_in, part_text, part_texts, read_label, read_parts, unless_fails}
use Rattle.lb_label.specs.Shape.{IsShape}

-- ---- a byte that doesn't stand in a text

-- a text has no such byte
pub record HasNo (c : ℕ) (xs : List ℕ) : Type 0 where
  pub none : list_any (λ b. eqb b c) xs ≡ false

neither : (a b : Bool) → (a || b) ≡ false → (a ≡ false) × (b ≡ false)
neither true b e = absurd (differ e)
  where
    differ : true ≡ false → ⊥
    differ h = cc
neither false b e = (refl, e)

none_of : (a b : Bool) → a ≡ false → b ≡ false → (a || b) ≡ false
none_of a b h k = rw (h, k) refl

no_byte_all : (c : ℕ) (xs : List ℕ) → list_any (λ b. eqb b c) xs ≡ false → AllByRecursion (λ b. eqb b c ≡ false) xs
no_byte_all c [] h = tt
no_byte_all c (x ∷ xs) h = let both : (eqb x c ≡ false) × (list_any (λ b. eqb b c) xs ≡ false) = neither _ _ h in (both.0, no_byte_all c xs both.1)

no_byte_append : (c : ℕ) (xs ys : List ℕ) → list_any (λ b. eqb b c) xs ≡ false → list_any (λ b. eqb b c) ys ≡ false → list_any (λ b. eqb b c) (xs ++ ys) ≡ false
no_byte_append c [] ys h k = k
no_byte_append c (x ∷ xs) ys h k = let both : (eqb x c ≡ false) × (list_any (λ b. eqb b c) xs ≡ false) = neither _ _ h in none_of _ _ both.0 (no_byte_append c xs ys both.1 k)

-- no text of a list has such a byte
abbrev pub NoneHas : ℕ → List (List ℕ) → Type 0
NoneHas c [] = Unit {0}
NoneHas c (x ∷ xs) = HasNo c x × NoneHas c xs

no_byte_join : (c d : ℕ) (xs : List (List ℕ)) → eqb d c ≡ false → NoneHas c xs → list_any (λ b. eqb b c) (join_with_byte d xs) ≡ false
no_byte_join c d [] apart h = refl
no_byte_join c d (x ∷ []) apart h = h.0.none
no_byte_join c d (x ∷ y ∷ xs) apart h = no_byte_append c x (d ∷ join_with_byte d (y ∷ xs)) h.0.none (none_of _ _ apart (no_byte_join c d (y ∷ xs) apart h.1))

-- what is joined by a byte that stands in no piece is split again
split_join : (c : ℕ) (x : List ℕ) (xs : List (List ℕ)) → NoneHas c (x ∷ xs) → slice_split (λ b. eqb b c) (join_with_byte c (x ∷ xs)) ≡ x ∷ xs
split_join c x [] h = slice_split_none (λ b. eqb b c) x (All-from_recursion (λ b. eqb b c ≡ false) x (no_byte_all c x h.0.none))
split_join c x (y ∷ xs) h =
    slice_split_at (λ b. eqb b c) x c (join_with_byte c (y ∷ xs)) (All-from_recursion (λ b. eqb b c ≡ false) x (no_byte_all c x h.0.none)) (true_same c c refl)
    ∙ ap (λ parts. x ∷ parts) (split_join c y xs h.1)

-- ---- texts of elements

-- a text of an element: it isn't empty and holds no delimiter
pub record IsName (t : List ℕ) : Type 0 where
  pub some : 0 < length t
  pub clean : list_any is_delimiter t ≡ false

name_text : (t : List ℕ) → is_element_text t ≡ true → IsName t
name_text t good =
    let outer : ((leb 1 (length t) && leb (length t) 32) ≡ true) × (not (list_any is_delimiter t) ≡ true) = both_true _ _ good in
    let inner : (leb 1 (length t) ≡ true) × (leb (length t) 32 ≡ true) = both_true _ _ outer.0 in
    record { some = positive t inner.0; clean = is_false _ (λ held. differ (sym (ap not held) ∙ outer.1)) }
  where
    differ : false ≡ true → ⊥
    differ h = cc

    positive : (xs : List ℕ) → leb 1 (length xs) ≡ true → 0 < length xs
    positive [] h = absurd (differ h)
    positive (x ∷ xs) h = omega arith

clean_of : (c : ℕ) → is_delimiter c ≡ true → (t : List ℕ) → list_any is_delimiter t ≡ false → list_any (λ b. eqb b c) t ≡ false
clean_of c is [] h = refl
clean_of c is (x ∷ t) h =
    let both : (is_delimiter x ≡ false) × (list_any is_delimiter t ≡ false) = neither _ _ h in
    none_of _ _ (is_false _ (λ same. differ (sym is ∙ ap is_delimiter (sym (same_true x c same)) ∙ both.0))) (clean_of c is t both.1)
  where
    differ : true ≡ false → ⊥
    differ e = cc

name_has_no : (c : ℕ) → is_delimiter c ≡ true → (t : List ℕ) → IsName t → HasNo c t
name_has_no c is t name = record { none = clean_of c is t name.clean }

-- the text of each of these elements is a name
abbrev pub AreElements : Definition → List ℕ → Type 0
AreElements c [] = Unit {0}
AreElements c (e ∷ es) = (e < length c.elements) × AreElements c es

elements_are : (c : Definition) (es : List ℕ) → All (λ e. e < length c.elements) es → AreElements c es
elements_are c [] all = tt
elements_are c (e ∷ es) all = (all 0 0 (omega arith), elements_are c es (λ k d h. all (suc k) d (omega arith)))

abbrev pub names_of : Definition → List ℕ → List (List ℕ)
names_of c es = map (λ e. get_or c.elements e []) es

name_of : (c : Definition) → IsComponent c → (e : ℕ) → e < length c.elements → IsName (get_or c.elements e [])
name_of c valid e within = name_text (get_or c.elements e []) (valid.texts e within)

names_have_no : (c : Definition) → IsComponent c → (b : ℕ) → is_delimiter b ≡ true → (es : List ℕ) → AreElements c es → NoneHas b (names_of c es)
names_have_no c valid b is [] are = tt
names_have_no c valid b is (e ∷ es) are = (name_has_no b is _ (name_of c valid e are.0), names_have_no c valid b is es are.1)

-- ---- the names of a part that was written

not_bracketed : (t : List ℕ) → IsName t → is_bracketed t ≡ false
not_bracketed t name = not_bracketed_front t (λ rest same. differ (sym (ap (list_any is_delimiter) same) ∙ name.clean))
  where
    differ : true ≡ false → ⊥
    differ e = cc

single_named : (t : List ℕ) → IsName t → named_in t ≡ t ∷ []
single_named t name = ap (λ b. cond b (listed (inside t)) (t ∷ [])) (not_bracketed t name)

bracketed_text : (inner : List ℕ) → is_bracketed (40 ∷ (inner ++ 41 ∷ [])) ≡ true
bracketed_text inner =
    let more : length (inner ++ 41 ∷ []) ≡ length inner + 1 = length-append inner (41 ∷ []) in
    let last : suc (length (inner ++ 41 ∷ [])) - 1 ≡ suc (length inner) = omega arith in
    and_true _ _ (and_true _ _ (at_least (length (inner ++ 41 ∷ [])) (omega arith)) refl)
    (ap (λ k. eqb (get_or (40 ∷ (inner ++ 41 ∷ [])) k 0) 41) last ∙ ap (λ x. eqb x 41) (get_or_at inner 41 [] 0 (length inner) refl))
  where
    at_least : (n : ℕ) → 0 < n → leb 2 (suc n) ≡ true
    at_least n h = le-leb 2 (suc n) (omega arith)

inside_text : (inner : List ℕ) → inside (40 ∷ (inner ++ 41 ∷ [])) ≡ inner
inside_text inner =
    let more : length (inner ++ 41 ∷ []) ≡ length inner + 1 = length-append inner (41 ∷ []) in
    let count : suc (length (inner ++ 41 ∷ [])) - 2 ≡ length inner = omega arith in
    ap (λ n. take n (inner ++ 41 ∷ [])) count ∙ take_at inner (41 ∷ []) (length inner) refl

listed_some : (inner : List ℕ) → 0 < length inner → listed inner ≡ slice_split (λ b. eqb b 44) inner
listed_some [] h = absurd (omega arith)
listed_some (x ∷ inner) h = refl

join_some : (c : ℕ) (x : List ℕ) (xs : List (List ℕ)) → 0 < length x → 0 < length (join_with_byte c (x ∷ xs))
join_some c x [] h = h
join_some c x (y ∷ xs) h = rw length-append (omega arith)

pub part_named : (c : Definition) → IsComponent c → (es : List ℕ) → AreElements c es → named_in (part_text c es) ≡ names_of c es
part_named c valid [] are = refl
part_named c valid (e ∷ []) are = single_named (get_or c.elements e []) (name_of c valid e are.0)
part_named c valid (e ∷ f ∷ es) are =
    let first : List ℕ = get_or c.elements e [] in
    let rest : List (List ℕ) = map (λ n. get_or c.elements n []) (f ∷ es) in
    let inner : List ℕ = join_with_byte 44 (first ∷ rest) in
    let some : 0 < length inner = join_some 44 first rest (name_of c valid e are.0).some in
    ap (λ b. cond b (listed (inside (40 ∷ (inner ++ 41 ∷ [])))) ((40 ∷ (inner ++ 41 ∷ [])) ∷ [])) (bracketed_text inner)
    ∙ ap listed (inside_text inner) ∙ listed_some inner some
    ∙ split_join 44 first rest (names_have_no c valid 44 refl (e ∷ f ∷ es) are)

-- ---- no name of it fails

passes : (c : Definition) → IsComponent c → (first : List ℕ) (e : ℕ) → e < length c.elements → is_second c.kind first (get_or c.elements e []) ≡ false → fails c first (get_or c.elements e []) ≡ false
passes c valid first e within second = ap (λ o. is_none o || is_second c.kind first (get_or c.elements e [])) (valid.distinct e within) ∙ second

all_pass : (c : Definition) → IsComponent c → ((first name : List ℕ) → is_second c.kind first name ≡ false) → (first : List ℕ) (at : ℕ) (es : List ℕ) → AreElements c es → failing_from c first at (names_of c es) ≡ None
all_pass c valid any first at [] are = refl
all_pass c valid any first at (e ∷ es) are =
    ap (λ b. cond b (Some at) (failing_from c first (at + length (get_or c.elements e []) + 1) (map (λ n. get_or c.elements n []) es))) (passes c valid first e are.0 (any first (get_or c.elements e [])))
    ∙ all_pass c valid any first (at + length (get_or c.elements e []) + 1) es are.1

one_passes_alone : (c : Definition) → IsComponent c → c.kind ≡ Array → (at e : ℕ) → e < length c.elements → failing_name c at (get_or c.elements e [] ∷ []) ≡ None
one_passes_alone c valid kind at e within =
    let t : List ℕ = get_or c.elements e [] in
    let equal : bytes_eq t t ≡ true = (bytes_eq-Decides t t).1 refl in
    let second : is_second c.kind t t ≡ false = ap (λ k. is_second k t t) kind ∙ ap not equal in
    ap (λ b. cond b (Some at) None) (passes c valid t e within second)

none_fails : (c : Definition) → IsComponent c → (at part : ℕ) → IsPart c part → failing_name c at (names_of c (elements_in c part)) ≡ None
none_fails c valid at part fits =
    let are : AreElements c (elements_in c part) = elements_are c (elements_in c part) (elements_below c part) in
    elim c.kind as (λ k. c.kind ≡ k → failing_name c at (names_of c (elements_in c part)) ≡ None) [
      | Set ↦ λ kind. all_pass c valid (λ first name. ap (λ k. is_second k first name) kind) _ at (elements_in c part) are
      | Tree ↦ λ kind. all_pass c valid (λ first name. ap (λ k. is_second k first name) kind) _ at (elements_in c part) are
      | Array ↦ λ kind. ⊎_elim
          (λ (none : part ≡ 0). ap (λ es. failing_name c at (names_of c es)) (array_none c part kind none))
          (λ (some : part ≢ 0).
          let is : part ≡ part - 1 + 1 = omega arith in
          let one : elements_in c part ≡ (part - 1) ∷ [] = array_one c part (part - 1) kind fits is in
          let within : part - 1 < length c.elements = (subst (AreElements c) one are).0 in
          ap (λ es. failing_name c at (names_of c es)) one ∙ one_passes_alone c valid kind at (part - 1) within)
          (cases_eq part 0)
    ] refl

-- ---- and they name its elements

any_map : (p : List ℕ → Bool) (f : ℕ → List ℕ) (xs : List ℕ) → list_any p (map f xs) ≡ list_any (λ x. p (f x)) xs
any_map p f [] = refl
any_map p f (x ∷ xs) = ap (λ b. p (f x) || b) (any_map p f xs)

named_again : (c : Definition) → IsComponent c → (part e : ℕ) → e < length c.elements → is_named c (names_of c (elements_in c part)) e ≡ has_element c.kind part e
named_again c valid part e within =
    any_map (λ name. bytes_eq (get_or c.elements e []) name) (λ n. get_or c.elements n []) (elements_in c part)
    ∙ any_in_filter (λ n. bytes_eq (get_or c.elements e []) (get_or c.elements n [])) (has_element c.kind part) (numbers (length c.elements))
    ∙ same_from_decides _ _
    (any_in_range (λ n. has_element c.kind part n && bytes_eq (get_or c.elements e []) (get_or c.elements n [])) 0 (length c.elements))
    (there, back)
  where
    inside' : (a b : ℕ) → Some a ≡ Some b → a ≡ b
    inside' a b h = cc

    there : has_element c.kind part e ≡ true → (k : ℕ) × (0 ≤ k) × (k < 0 + length c.elements) × ((has_element c.kind part k && bytes_eq (get_or c.elements e []) (get_or c.elements k [])) ≡ true)
    there held = (e, omega arith, omega arith, and_true _ _ held ((bytes_eq-Decides (get_or c.elements e []) (get_or c.elements e [])).1 refl))

    back : (k : ℕ) × (0 ≤ k) × (k < 0 + length c.elements) × ((has_element c.kind part k && bytes_eq (get_or c.elements e []) (get_or c.elements k [])) ≡ true) → has_element c.kind part e ≡ true
    back some =
        let both : (has_element c.kind part some.0 ≡ true) × (bytes_eq (get_or c.elements e []) (get_or c.elements some.0 []) ≡ true) = both_true _ _ some.3 in
        let high : some.0 < 0 + length c.elements = some.2 in
        let high' : some.0 < length c.elements = omega arith in
        let texts : get_or c.elements e [] ≡ get_or c.elements some.0 [] = (bytes_eq-Decides (get_or c.elements e []) (get_or c.elements some.0 [])).0 both.1 in
        let same : e ≡ some.0 = inside' e some.0 (sym (valid.distinct e within) ∙ ap (number_of c) texts ∙ valid.distinct some.0 high') in
        ap (has_element c.kind part) same ∙ both.0

pub part_again : (c : Definition) → IsComponent c → (at part : ℕ) → IsPart c part
    → (failing_in c at (part_text c (elements_in c part)) ≡ None) × (elements_named c (part_text c (elements_in c part)) ≡ elements_in c part)
part_again c valid at part fits =
    let are : AreElements c (elements_in c part) = elements_are c (elements_in c part) (elements_below c part) in
    let named : named_in (part_text c (elements_in c part)) ≡ names_of c (elements_in c part) = part_named c valid (elements_in c part) are in (
      ap (failing_name c (at + named_from (part_text c (elements_in c part)))) named ∙ none_fails c valid (at + named_from (part_text c (elements_in c part))) part fits,
      ap (λ names. filter (is_named c names) (numbers (length c.elements))) named
          ∙ same_filter (is_named c (names_of c (elements_in c part))) (has_element c.kind part) 0 (length c.elements) (λ k low high. named_again c valid part k (omega arith)),
    )

-- ---- the whole label

part_has_no_colon : (c : Definition) → IsComponent c → (es : List ℕ) → AreElements c es → HasNo 58 (part_text c es)
part_has_no_colon c valid [] are = record { none = refl }
part_has_no_colon c valid (e ∷ []) are = name_has_no 58 refl _ (name_of c valid e are.0)
part_has_no_colon c valid (e ∷ f ∷ es) are =
    record { none = no_byte_append 58 (join_with_byte 44 (names_of c (e ∷ f ∷ es))) (41 ∷ []) (no_byte_join 58 44 (names_of c (e ∷ f ∷ es)) refl (names_have_no c valid 58 refl (e ∷ f ∷ es) are)) refl }

no_colons : (shape : List Definition) (parts : List ℕ) → IsShape shape → IsLabel shape parts → NoneHas 58 (part_texts shape (label_of shape parts))
no_colons [] [] valid is = tt
no_colons [] (p ∷ parts) valid is = absurd is
no_colons (c ∷ shape) [] valid is = absurd is
no_colons (c ∷ shape) (p ∷ parts) valid is =
    (part_has_no_colon c valid.0 (elements_in c p) (elements_are c (elements_in c p) (elements_below c p)), no_colons shape parts valid.1 is.1)

parts_again : (end : ℕ) (shape : List Definition) (parts : List ℕ) (at : ℕ) → IsShape shape → IsLabel shape parts → read_parts end shape at (part_texts shape (label_of shape parts)) ≡ Ok (label_of shape parts)
parts_again end [] [] at valid is = refl
parts_again end [] (p ∷ parts) at valid is = absurd is
parts_again end (c ∷ shape) [] at valid is = absurd is
parts_again end (c ∷ shape) (p ∷ parts) at valid is =
    let again : (failing_in c at (part_text c (elements_in c p)) ≡ None) × (elements_named c (part_text c (elements_in c p)) ≡ elements_in c p) = part_again c valid.0 at p is.0 in
    let rest : read_parts end shape (at + length (part_text c (elements_in c p)) + 1) (part_texts shape (label_of shape parts)) ≡ Ok (label_of shape parts) = parts_again end shape parts (at + length (part_text c (elements_in c p)) + 1) valid.1 is.1 in
    λ i. unless_fails (again.0 i) (in_front (again.1 i) (rest i))

split_texts : (texts : List (List ℕ)) → 0 < length texts → NoneHas 58 texts → slice_split (λ b. eqb b 58) (join_with_byte 58 texts) ≡ texts
split_texts [] h none = absurd (omega arith)
split_texts (t ∷ texts) h none = split_join 58 t texts none

pub reads_back : (shape : List Definition) (parts : List ℕ) → IsShape shape → IsLabel shape parts → 0 < length shape → read_label shape (label_text shape (label_of shape parts)) ≡ Ok (label_of shape parts)
reads_back shape parts valid is some =
    let count : length (texts_of shape parts) ≡ length shape = texts_length shape parts (label_length shape parts is) in
    ap (read_parts (length (label_text shape (label_of shape parts))) shape 0) (split_texts (part_texts shape (label_of shape parts)) (omega arith) (no_colons shape parts valid is))
    ∙ parts_again (length (label_text shape (label_of shape parts))) shape parts 0 valid is

-- Writing the text of a label, and reading it again.
use Rattle.std.proofs.Common.{◌≡◌, refl, ap, sym, ◌∙◌, ℕ, zero, suc, ◌+◌, ◌-◌, ◌<◌, ◌≤◌, ◌≢◌, ◌⊎◌, ⊎_elim, Bool, true, false, not, cond, ◌||◌, ◌&&◌, List, [], ◌∷◌, ◌++◌, length, map, take, drop, get_or, filter, All, Option, Some, None, Result, Ok, Err, eqb, leb, arith, subst}
use Rattle.std.proofs.lemmas.List.{append_assoc, append-nil, map_more, take_more, take_all, length-append, length-map, length-take, length-take-le}
use Rattle.std.proofs.lemmas.List.Elements.{All-filter, All-from_recursion}
use Rattle.std.specs.List.{AllByRecursion, join_with_byte, range_with_len, slice_split}
use Rattle.lb_label.proofs.TextLemmas.{join_next}
use Rattle.lb_label.specs.Component.{Definition, IsComponent, numbers}
use Rattle.lb_label.specs.Label.{IsLabel, IsPart, elements_in, has_element, label_of}
use Rattle.lb_label.specs.LabelText.{label_text, part_text, part_texts}

-- ---- the elements of a part are elements of the component

range_below : (a n m : ℕ) → a + n ≤ m → AllByRecursion (λ e. e < m) (range_with_len a n)
range_below a zero m h = tt
range_below a (suc n) m h = (omega arith, range_below (a + 1) n m (omega arith))

pub elements_below : (c : Definition) (part : ℕ) → All (λ e. e < length c.elements) (elements_in c part)
elements_below c part =
    All-filter (has_element c.kind part) (λ e. e < length c.elements) (numbers (length c.elements))
    (All-from_recursion (λ e. e < length c.elements) (numbers (length c.elements)) (range_below 0 (length c.elements) (length c.elements) (omega arith)))

-- ---- one piece more after those that are joined

pub joined_first : (c : ℕ) (f : ℕ → List ℕ) (xs : List ℕ) (i : ℕ) → i ≡ 0 → i < length xs → join_with_byte c (map f (take (i + 1) xs)) ≡ join_with_byte c (map f (take i xs)) ++ f (get_or xs i 0)
joined_first c f [] i none within = absurd (omega arith)
joined_first c f (x ∷ xs) i none within = rw none refl

pub joined_more : (c : ℕ) (f : ℕ → List ℕ) (xs : List ℕ) (i : ℕ) → 0 < i → i < length xs → join_with_byte c (map f (take (i + 1) xs)) ≡ (join_with_byte c (map f (take i xs)) ++ c ∷ []) ++ f (get_or xs i 0)
joined_more c f xs i some within =
    let few : length (take i xs) ≡ i = length-take-le i xs (omega arith) in
    let some' : 0 < length (map f (take i xs)) = rw (length-map, few) some in
    ap (join_with_byte c) (map_more f xs i 0 within) ∙ join_next c (map f (take i xs)) (f (get_or xs i 0)) some'
    ∙ sym (append_assoc (join_with_byte c (map f (take i xs))) (c ∷ []) (f (get_or xs i 0)))

pub piece_behind : (base joined : List ℕ) (c : ℕ) (piece text with_separator text' joined' : List ℕ) → text ≡ base ++ joined → with_separator ≡ text ++ c ∷ [] → text' ≡ with_separator ++ piece → joined' ≡ (joined ++ c ∷ []) ++ piece → text' ≡ base ++ joined'
piece_behind base joined c piece text with_separator text' joined' is separated written more =
    written ∙ ap (λ xs. xs ++ piece) (separated ∙ ap (λ xs. xs ++ c ∷ []) is ∙ append_assoc base joined (c ∷ [])) ∙ append_assoc base (joined ++ c ∷ []) piece ∙ ap (λ xs. base ++ xs) (sym more)

pub piece_first : (base joined piece text text' joined' : List ℕ) → text ≡ base ++ joined → text' ≡ text ++ piece → joined' ≡ joined ++ piece → text' ≡ base ++ joined'
piece_first base joined piece text text' joined' is written more = written ∙ ap (λ xs. xs ++ piece) is ∙ append_assoc base joined piece ∙ ap (λ xs. base ++ xs) (sym more)

-- ---- the texts of the parts of a label

abbrev pub texts_of : List Definition → List ℕ → List (List ℕ)
texts_of shape parts = part_texts shape (label_of shape parts)

texts_push : (shape : List Definition) (parts : List ℕ) (c : Definition) (part : ℕ) → length shape ≡ length parts → texts_of (shape ++ c ∷ []) (parts ++ part ∷ []) ≡ texts_of shape parts ++ part_text c (elements_in c part) ∷ []
texts_push [] [] c part same = refl
texts_push [] (p ∷ parts) c part same = absurd (omega arith)
texts_push (d ∷ shape) [] c part same = absurd (omega arith)
texts_push (d ∷ shape) (p ∷ parts) c part same = ap (λ xs. part_text d (elements_in d p) ∷ xs) (texts_push shape parts c part (omega arith))

pub texts_length : (shape : List Definition) (parts : List ℕ) → length shape ≡ length parts → length (texts_of shape parts) ≡ length shape
texts_length [] [] same = refl
texts_length [] (p ∷ parts) same = absurd (omega arith)
texts_length (d ∷ shape) [] same = absurd (omega arith)
texts_length (d ∷ shape) (p ∷ parts) same = ap suc (texts_length shape parts (omega arith))

pub texts_more : (shape : List Definition) (parts : List ℕ) (at : ℕ) (c : Definition) → length shape ≡ length parts → at < length shape → ((d : Definition) → c ≡ get_or shape at d)
    → texts_of (take (at + 1) shape) (take (at + 1) parts) ≡ texts_of (take at shape) (take at parts) ++ part_text c (elements_in c (get_or parts at 0)) ∷ []
texts_more shape parts at c same within here =
    let shapes : take (at + 1) shape ≡ take at shape ++ c ∷ [] = take_more shape at c within ∙ ap (λ d. take at shape ++ d ∷ []) (sym (here c)) in
    let lists : take (at + 1) parts ≡ take at parts ++ get_or parts at 0 ∷ [] = take_more parts at 0 (omega arith) in
    let front : length (take at shape) ≡ length (take at parts) = length-take-le at shape (omega arith) ∙ sym (length-take-le at parts (omega arith)) in
    (λ i. texts_of (shapes i) (lists i)) ∙ texts_push (take at shape) (take at parts) c (get_or parts at 0) front

-- one part more is written
pub label_more : (shape : List Definition) (parts : List ℕ) (at : ℕ) (c : Definition) (text with_separator text' : List ℕ) → length shape ≡ length parts → at < length shape → ((d : Definition) → c ≡ get_or shape at d)
    → text ≡ join_with_byte 58 (texts_of (take at shape) (take at parts)) → 0 < at → with_separator ≡ text ++ 58 ∷ [] → text' ≡ with_separator ++ part_text c (elements_in c (get_or parts at 0))
    → text' ≡ join_with_byte 58 (texts_of (take (at + 1) shape) (take (at + 1) parts))
label_more shape parts at c text with_separator text' same within here is some separated written =
    let front : length (take at shape) ≡ length (take at parts) = length-take-le at shape (omega arith) ∙ sym (length-take-le at parts (omega arith)) in
    let count : length (texts_of (take at shape) (take at parts)) ≡ at = texts_length (take at shape) (take at parts) front ∙ length-take-le at shape (omega arith) in
    written ∙ ap (λ xs. xs ++ part_text c (elements_in c (get_or parts at 0))) (separated ∙ ap (λ xs. xs ++ 58 ∷ []) is)
    ∙ append_assoc (join_with_byte 58 (texts_of (take at shape) (take at parts))) (58 ∷ []) (part_text c (elements_in c (get_or parts at 0)))
    ∙ sym (join_next 58 (texts_of (take at shape) (take at parts)) (part_text c (elements_in c (get_or parts at 0))) (omega arith))
    ∙ ap (join_with_byte 58) (sym (texts_more shape parts at c same within here))

pub label_first : (shape : List Definition) (parts : List ℕ) (at : ℕ) (c : Definition) (text text' : List ℕ) → length shape ≡ length parts → at < length shape → ((d : Definition) → c ≡ get_or shape at d)
    → text ≡ join_with_byte 58 (texts_of (take at shape) (take at parts)) → at ≡ 0 → text' ≡ text ++ part_text c (elements_in c (get_or parts at 0))
    → text' ≡ join_with_byte 58 (texts_of (take (at + 1) shape) (take (at + 1) parts))
label_first shape parts at c text text' same within here is none written =
    let empty : text ≡ [] = is ∙ ap (λ n. join_with_byte 58 (texts_of (take n shape) (take n parts))) none in
    let first : texts_of (take (at + 1) shape) (take (at + 1) parts) ≡ part_text c (elements_in c (get_or parts at 0)) ∷ [] =
    texts_more shape parts at c same within here ∙ ap (λ n. texts_of (take n shape) (take n parts) ++ part_text c (elements_in c (get_or parts at 0)) ∷ []) none in
    written ∙ ap (λ xs. xs ++ part_text c (elements_in c (get_or parts at 0))) empty ∙ ap (join_with_byte 58) (sym first)

pub label_written : (shape : List Definition) (parts : List ℕ) (at : ℕ) (text : List ℕ) → length shape ≡ length parts → length shape ≤ at → text ≡ join_with_byte 58 (texts_of (take at shape) (take at parts)) → text ≡ label_text shape (label_of shape parts)
label_written shape parts at text same past is =
    let shapes : take at shape ≡ shape = take_all at shape past in
    let lists : take at parts ≡ parts = take_all at parts (omega arith) in
    is ∙ λ i. join_with_byte 58 (texts_of (shapes i) (lists i))

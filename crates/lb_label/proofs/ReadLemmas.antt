-- Reading the parts of a text one after another.
use Rattle.std.proofs.Common.{◌≡◌, refl, ap, sym, ◌∙◌, ℕ, zero, suc, ◌+◌, ◌-◌, ◌<◌, ◌≤◌, Bool, true, false, cond, List, [], ◌∷◌, ◌++◌, length, take, drop, get_or, filter, Option, Some, None, Result, Ok, Err, Bor, eqb, arith, subst}
use Rattle.std.proofs.lemmas.List.{append_assoc, append-nil, drop_more, take_more, drop_all, length-drop}
use Rattle.std.specs.List.{onto_first, range_with_len, slice_split}
use Rattle.std.specs.Option.{IfNone, IfSome, option_copied}
use Rattle.std.specs.Str.{IsUtf8}
use Rattle.lb_label.proofs.NameLemmas.{names_read}
use Rattle.lb_label.specs.Component.{Definition, IsComponent, numbers}
use Rattle.lb_label.specs.Label.{IsLabel, IsPart, elements_in, has_element, label_of}
use Rattle.lb_label.specs.LabelText.{elements_named, failing_in, in_front, is_named, named_from, named_in, read_label, read_parts, unless_fails}
use Rattle.lb_label.specs.Reading.{split_left, with_names}

-- what a part was read as
pub same_filter : (p q : ℕ → Bool) (a n : ℕ) → ((k : ℕ) → a ≤ k → k < a + n → p k ≡ q k) → filter p (range_with_len a n) ≡ filter q (range_with_len a n)
same_filter p q a zero agree = refl
same_filter p q a (suc n) agree =
    let rest : filter p (range_with_len (a + 1) n) ≡ filter q (range_with_len (a + 1) n) = same_filter p q (a + 1) n (λ k low high. agree k (omega arith) (omega arith)) in
    let here : p a ≡ q a = agree a (omega arith) (omega arith) in
    λ i. cond (here i) (a ∷ rest i) (rest i)

pub part_read : (c : Definition) → IsComponent c → (at : ℕ) (part : List ℕ) (bits : ℕ) → with_names c (at + named_from part) (named_in part) 0 ≡ Ok bits
    → (failing_in c at part ≡ None) × IsPart c bits × (elements_named c part ≡ elements_in c bits)
part_read c valid at part bits made =
    let read = names_read c valid (at + named_from part) (named_in part) (Ok bits) made in
    (read.0, read.1, same_filter (is_named c (named_in part)) (has_element c.kind bits) 0 (length c.elements) (λ k low high. sym (read.2 k (omega arith))))

pub part_fails : (c : Definition) → IsComponent c → (at : ℕ) (part : List ℕ) (place : ℕ) → with_names c (at + named_from part) (named_in part) 0 ≡ Err place → failing_in c at part ≡ Some place
part_fails c valid at part place made = names_read c valid (at + named_from part) (named_in part) (Err place) made

-- a label that was read after components that were read before
abbrev pub behind : List (List ℕ) → Result (List (List ℕ)) ℕ → Result (List (List ℕ)) ℕ
behind before (Ok label) = Ok (before ++ label)
behind before (Err place) = Err place

-- where the part after these begins, or the end and 1
abbrev pub HasRoom : List ℕ → ℕ → Option (Bor (List ℕ)) → Type 0
HasRoom text at None = at ≡ length text + 1
HasRoom text at (Some left) = (at + length left.now ≡ length text) × IsUtf8 left.now

pub record PartsLeft (shape : List Definition) (text : List ℕ) (place at : ℕ) (rest : Option (Bor (List ℕ))) (parts : List ℕ) : Type 0 where
  pub same : read_label shape text ≡ behind (label_of (take place shape) parts) (read_parts (length text) (drop place shape) at (split_left 58 (option_copied rest)))
  pub label : IsLabel (take place shape) parts
  pub room : HasRoom text at rest

rest_at : (shape : List Definition) (place : ℕ) (c : Definition) → place < length shape → ((d : Definition) → c ≡ get_or shape place d) → drop place shape ≡ c ∷ drop (place + 1) shape
rest_at shape place c within here = drop_more shape place c within ∙ ap (λ d. d ∷ drop (place + 1) shape) (sym (here c))

-- the next part is read
parts_from : (shape : List Definition) (text : List ℕ) (place at : ℕ) (left : Bor (List ℕ)) (parts : List ℕ) (c : Definition) (part : List ℕ) (after : Option (Bor (List ℕ)))
    → PartsLeft shape text place at (Some left) parts → place < length shape → ((d : Definition) → c ≡ get_or shape place d) → slice_split (λ b. eqb b 58) left.now ≡ part ∷ split_left 58 (option_copied after)
    → read_label shape text ≡ behind (label_of (take place shape) parts)
    (unless_fails (failing_in c at part) (in_front (elements_named c part) (read_parts (length text) (drop (place + 1) shape) (at + length part + 1) (split_left 58 (option_copied after)))))
parts_from shape text place at left parts c part after so_far within here cut =
    so_far.same ∙ λ i. behind (label_of (take place shape) parts) (read_parts (length text) (rest_at shape place c within here i) at (cut i))

pub part_refused : (shape : List Definition) (text : List ℕ) (place at : ℕ) (left : Bor (List ℕ)) (parts : List ℕ) (c : Definition) (part : List ℕ) (after : Option (Bor (List ℕ))) (where' : ℕ)
    → PartsLeft shape text place at (Some left) parts → place < length shape → ((d : Definition) → c ≡ get_or shape place d) → slice_split (λ b. eqb b 58) left.now ≡ part ∷ split_left 58 (option_copied after)
    → failing_in c at part ≡ Some where' → read_label shape text ≡ Err where'
part_refused shape text place at left parts c part after where' so_far within here cut failing =
    parts_from shape text place at left parts c part after so_far within here cut
    ∙ ap (λ o. behind (label_of (take place shape) parts) (unless_fails o (in_front (elements_named c part) (read_parts (length text) (drop (place + 1) shape) (at + length part + 1) (split_left 58 (option_copied after)))))) failing

behind_front : (before : List (List ℕ)) (elements : List ℕ) (r : Result (List (List ℕ)) ℕ) → behind before (in_front elements r) ≡ behind (before ++ elements ∷ []) r
behind_front before elements (Ok label) = ap Ok (sym (append_assoc before (elements ∷ []) label))
behind_front before elements (Err place) = refl

pub label_push : (shape : List Definition) (parts : List ℕ) (c : Definition) (part : ℕ) → IsLabel shape parts → label_of (shape ++ c ∷ []) (parts ++ part ∷ []) ≡ label_of shape parts ++ elements_in c part ∷ []
label_push [] [] c part is = refl
label_push [] (p ∷ parts) c part is = absurd is
label_push (d ∷ shape) [] c part is = absurd is
label_push (d ∷ shape) (p ∷ parts) c part is = ap (λ xs. elements_in d p ∷ xs) (label_push shape parts c part is.1)

is_label_push : (shape : List Definition) (parts : List ℕ) (c : Definition) (part : ℕ) → IsLabel shape parts → IsPart c part → IsLabel (shape ++ c ∷ []) (parts ++ part ∷ [])
is_label_push [] [] c part is fits = (fits, tt)
is_label_push [] (p ∷ parts) c part is fits = absurd is
is_label_push (d ∷ shape) [] c part is fits = absurd is
is_label_push (d ∷ shape) (p ∷ parts) c part is fits = (is.0, is_label_push shape parts c part is.1 fits)

room_next : (text : List ℕ) (at : ℕ) (left : Bor (List ℕ)) (part : List ℕ) (after : Option (Bor (List ℕ))) → at + length left.now ≡ length text
    → IfSome after (λ rest. length part + length rest.now + 1 ≡ length left.now) → IfNone after (part ≡ left.now) → IfSome after (λ rest. IsUtf8 rest.now) → HasRoom text (at + (length part + 1)) after
room_next text at left part None room shorter whole utf8 = let same : length part ≡ length left.now = ap length whole in omega arith
room_next text at left part (Some rest) room shorter whole utf8 = (omega arith, utf8)

pub part_taken : (shape : List Definition) (text : List ℕ) (place at : ℕ) (left : Bor (List ℕ)) (parts : List ℕ) (c : Definition) (part : List ℕ) (after : Option (Bor (List ℕ))) (bits : ℕ) (parts' : List ℕ)
    → PartsLeft shape text place at (Some left) parts → place < length shape → ((d : Definition) → c ≡ get_or shape place d) → slice_split (λ b. eqb b 58) left.now ≡ part ∷ split_left 58 (option_copied after)
    → (failing_in c at part ≡ None) × IsPart c bits × (elements_named c part ≡ elements_in c bits)
    → IfSome after (λ rest. length part + length rest.now + 1 ≡ length left.now) → IfNone after (part ≡ left.now) → IfSome after (λ rest. IsUtf8 rest.now) → parts' ≡ parts ++ bits ∷ []
    → PartsLeft shape text (place + 1) (at + (length part + 1)) after parts'
part_taken shape text place at left parts c part after bits parts' so_far within here cut read shorter whole utf8 pushed =
    let more : take (place + 1) shape ≡ take place shape ++ c ∷ [] = take_more shape place c within ∙ ap (λ d. take place shape ++ d ∷ []) (sym (here c)) in
    let next : at + length part + 1 ≡ at + (length part + 1) = omega arith in
    let labels : label_of (take place shape) parts ++ elements_named c part ∷ [] ≡ label_of (take (place + 1) shape) parts' =
    ap (λ e. label_of (take place shape) parts ++ e ∷ []) read.2 ∙ sym (label_push (take place shape) parts c bits so_far.label) ∙ λ i. label_of ((sym more) i) ((sym pushed) i) in
    record {
      same = parts_from shape text place at left parts c part after so_far within here cut
          ∙ ap (λ o. behind (label_of (take place shape) parts) (unless_fails o (in_front (elements_named c part) (read_parts (length text) (drop (place + 1) shape) (at + length part + 1) (split_left 58 (option_copied after)))))) read.0
          ∙ behind_front (label_of (take place shape) parts) (elements_named c part) (read_parts (length text) (drop (place + 1) shape) (at + length part + 1) (split_left 58 (option_copied after)))
          ∙ λ i. behind (labels i) (read_parts (length text) (drop (place + 1) shape) (next i) (split_left 58 (option_copied after)));
      label = rw (more, pushed) (is_label_push (take place shape) parts c bits so_far.label read.1);
      room = room_next text at left part after so_far.room.0 shorter whole utf8;
    }

-- parts are missing
pub parts_missing : (shape : List Definition) (text : List ℕ) (place at : ℕ) (rest : Option (Bor (List ℕ))) (parts : List ℕ) → PartsLeft shape text place at rest parts → rest ≡ None → place < length shape → read_label shape text ≡ Err (length text)
parts_missing shape text place at rest parts so_far none within =
    so_far.same ∙ ap (λ r. behind (label_of (take place shape) parts) (read_parts (length text) (drop place shape) at (split_left 58 (option_copied r)))) none
    ∙ by_shape (drop place shape) some
  where
    some : 0 < length (drop place shape)
    some = rw length-drop (omega arith)

    by_shape : (left : List Definition) → 0 < length left → behind (label_of (take place shape) parts) (read_parts (length text) left at []) ≡ Err (length text)
    by_shape [] h = absurd (omega arith)
    by_shape (c ∷ left) h = refl

-- a part is left beyond the last component
pub part_left : (shape : List Definition) (text : List ℕ) (place at : ℕ) (rest : Option (Bor (List ℕ))) (left : Bor (List ℕ)) (parts : List ℕ) → PartsLeft shape text place at rest parts → rest ≡ Some left → length shape ≤ place → read_label shape text ≡ Err at
part_left shape text place at rest left parts so_far some past =
    so_far.same ∙ ap (λ r. behind (label_of (take place shape) parts) (read_parts (length text) (drop place shape) at (split_left 58 (option_copied r)))) some
    ∙ ap (λ s. behind (label_of (take place shape) parts) (read_parts (length text) s at (slice_split (λ b. eqb b 58) left.now))) (drop_all place shape past)
    ∙ by_parts left.now
  where
    by_first : (x : ℕ) (ps : List (List ℕ)) → behind (label_of (take place shape) parts) (read_parts (length text) [] at (onto_first x ps)) ≡ Err at
    by_first x [] = refl
    by_first x (p ∷ ps) = refl

    by_parts : (xs : List ℕ) → behind (label_of (take place shape) parts) (read_parts (length text) [] at (slice_split (λ b. eqb b 58) xs)) ≡ Err at
    by_parts [] = refl
    by_parts (x ∷ xs) =
        elim (eqb x 58) as (λ t. behind (label_of (take place shape) parts) (read_parts (length text) [] at (cond t ([] ∷ slice_split (λ b. eqb b 58) xs) (onto_first x (slice_split (λ b. eqb b 58) xs)))) ≡ Err at) [
          | true ↦ refl
          | false ↦ by_first x (slice_split (λ b. eqb b 58) xs)
        ]

-- The text of a label, read and written.
use Rattle.std.specs.Prelude.{◌≡◌, ℕ, ◌+◌, ◌-◌, ◌==◌, nat_le, Bool, true, false, not, ◌&&◌, ◌||◌, List, [], ◌∷◌, ◌++◌, length, map, take, drop, filter, find, slice_index, slice_index_or, Option, None, Some, is_none, codes, if◌then◌else◌, Result, Ok, Err}
use Rattle.std.specs.List.{list_any, slice_split, join_with_byte}
use Rattle.std.specs.Str.{bytes_eq}
use Rattle.lb_label.specs.declared.kind.ComponentKind.{ComponentKind}
use Rattle.lb_label.specs.declared.kind.ComponentKind.TheVariants.{Set, Array, Tree}
use Rattle.lb_label.specs.Component.{Definition, numbers, number_of}

-- what separates the parts of a text, and the elements of a part: `:` and `,`
abbrev pub is_colon : ℕ → Bool
is_colon byte = byte == 58

-- the byte is a comma
abbrev pub is_comma : ℕ → Bool
is_comma byte = byte == 44

-- a part begins with `(` and ends with a later `)`
abbrev pub is_bracketed : List ℕ → Bool
is_bracketed part = nat_le 2 (length part) && (slice_index part 0 == 40) && (slice_index part (length part - 1) == 41)

-- what stands between the two
abbrev pub inside : List ℕ → List ℕ
inside part = take (length part - 2) (drop 1 part)

-- the elements listed there, and none in `()`
abbrev pub listed : List ℕ → List (List ℕ)
listed [] = []
listed (byte ∷ bytes) = slice_split is_comma (byte ∷ bytes)

-- the elements that a part of a text names, as texts
abbrev pub named_in : List ℕ → List (List ℕ)
named_in part = if is_bracketed part then listed (inside part) else part ∷ []

-- where the first of them begins in the part
abbrev pub named_from : List ℕ → ℕ
named_from part = if is_bracketed part then 1 else 0

-- ---- what fails in a part

-- in an ARRAY, another name than the first one
abbrev pub is_second : ComponentKind → List ℕ → List ℕ → Bool
is_second Array first name = not (bytes_eq name first)
is_second Set first name = false
is_second Tree first name = false

-- a name fails where it is no element, and in an ARRAY where it is another element than the first one
abbrev pub fails : Definition → List ℕ → List ℕ → Bool
fails c first name = is_none (number_of c name) || is_second c.kind first name

-- the place of the first name that fails, where these names begin at `at` and have one byte between each two
abbrev pub failing_from : Definition → List ℕ → ℕ → List (List ℕ) → Option ℕ
failing_from c first at [] = None
failing_from c first at (name ∷ names) =
    if fails c first name then Some at else failing_from c first (at + length name + 1) names

-- the place of the first of these names that fails
abbrev pub failing_name : Definition → ℕ → List (List ℕ) → Option ℕ
failing_name c at names = failing_from c (slice_index_or names 0 []) at names

-- the place of the first name that fails in a part that begins at `at`
abbrev pub failing_in : Definition → ℕ → List ℕ → Option ℕ
failing_in c at part = failing_name c (at + named_from part) (named_in part)

-- ---- reading

-- an element is named by one of the names
abbrev pub is_named : Definition → List (List ℕ) → ℕ → Bool
is_named c names element = list_any (λ name. bytes_eq (slice_index_or c.elements element []) name) names

-- the elements of the component that a part names, each once, in the order of adding
abbrev pub elements_named : Definition → List ℕ → List ℕ
elements_named c part = filter (is_named c (named_in part)) (numbers (length c.elements))

-- the elements of one component before those of the others
abbrev pub in_front : List ℕ → Result (List (List ℕ)) ℕ → Result (List (List ℕ)) ℕ
in_front elements (Ok rest) = Ok (elements ∷ rest)
in_front elements (Err at) = Err at

-- the place that fails, or else what is read
abbrev pub unless_fails : Option ℕ → Result (List (List ℕ)) ℕ → Result (List (List ℕ)) ℕ
unless_fails (Some place) read = Err place
unless_fails None read = read

-- The label that the parts of a text give, where the first of them begins at `at` and the text ends at `end`.
-- Otherwise the place of the first name that fails or of the first part beyond the components, whichever is first,
-- or the end where parts are missing.
abbrev pub read_parts : ℕ → List Definition → ℕ → List (List ℕ) → Result (List (List ℕ)) ℕ
read_parts end [] at [] = Ok []
read_parts end [] at (part ∷ parts) = Err at
read_parts end (c ∷ shape) at [] = Err end
read_parts end (c ∷ shape) at (part ∷ parts) =
    unless_fails (failing_in c at part) (in_front (elements_named c part) (read_parts end shape (at + length part + 1) parts))

-- the label that a text gives, whose parts are what stands between its colons
abbrev pub read_label : List Definition → List ℕ → Result (List (List ℕ)) ℕ
read_label shape text = read_parts (length text) shape 0 (slice_split is_colon text)

-- ---- writing

-- the text of one component of a label: `e`, `(e1,e2)` or `()`
abbrev pub part_text : Definition → List ℕ → List ℕ
part_text c [] = codes "()"
part_text c (e ∷ []) = slice_index_or c.elements e []
part_text c (e ∷ f ∷ rest) =
    codes "(" ++ join_with_byte 44 (map (λ n. slice_index_or c.elements n []) (e ∷ f ∷ rest)) ++ codes ")"

-- the texts of the components of a label
abbrev pub part_texts : List Definition → List (List ℕ) → List (List ℕ)
part_texts [] label = []
part_texts (c ∷ shape) [] = []
part_texts (c ∷ shape) (elements ∷ label) = part_text c elements ∷ part_texts shape label

-- the text of a label: its components' texts in policy order, with a colon between each two
abbrev pub label_text : List Definition → List (List ℕ) → List ℕ
label_text shape label = join_with_byte 58 (part_texts shape label)

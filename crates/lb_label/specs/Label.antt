-- Labels as lists of elements, and the parts that stand for them.
use Rattle.std.specs.Prelude.{◌≡◌, ℕ, ◌+◌, ◌^◌, ◌<◌, ◌≤◌, ◌==◌, Bool, List, [], ◌∷◌, length, filter, sum, map}
use Rattle.std.specs.Int.{bit_at}
use Rattle.std.specs.List.{AllZip}
use Rattle.lb_label.specs.declared.kind.ComponentKind.{ComponentKind}
use Rattle.lb_label.specs.declared.kind.ComponentKind.TheVariants.{Set, Array, Tree}
use Rattle.lb_label.specs.Component.{Definition, numbers}

-- Whether a part has an element: in an ARRAY it is the element's number plus one, in a SET or TREE it has the element's bit.
abbrev pub has_element : ComponentKind → ℕ → ℕ → Bool
has_element Array part element = part == element + 1
has_element Set part element = bit_at part element == 1
has_element Tree part element = bit_at part element == 1

-- the elements that a part has, in the order of adding
abbrev pub elements_in : Definition → ℕ → List ℕ
elements_in c part = filter (has_element c.kind part) (numbers (length c.elements))

-- a part has at most one element in an ARRAY, and elements of the component alone
abbrev pub fits_in : ComponentKind → ℕ → ℕ → Type 0
fits_in Array n part = part ≤ n
fits_in Set n part = part < 2 ^ n
fits_in Tree n part = part < 2 ^ n

-- it is a part for that component
abbrev pub IsPart : Definition → ℕ → Type 0
IsPart c part = fits_in c.kind (length c.elements) part

-- the parts are a label of the policy with these components: a part for each component
abbrev pub IsLabel : List Definition → List ℕ → Type 0
IsLabel shape parts = AllZip IsPart shape parts

-- the label that the parts stand for: for each component the list of its elements
abbrev pub label_of : List Definition → List ℕ → List (List ℕ)
label_of [] parts = []
label_of (c ∷ shape) [] = []
label_of (c ∷ shape) (part ∷ parts) = elements_in c part ∷ label_of shape parts

-- the power of two of an element
abbrev pub bit_of : ℕ → ℕ
bit_of e = 2 ^ e

-- the part that stands for some elements of a component: in an ARRAY the number of its one element plus one, in a SET or TREE a bit for each
abbrev pub part_of : ComponentKind → List ℕ → ℕ
part_of Array [] = 0
part_of Array (e ∷ es) = e + 1
part_of Set es = sum (map bit_of es)
part_of Tree es = sum (map bit_of es)

-- the parts that stand for the elements of a label
abbrev pub parts_of : List Definition → List (List ℕ) → List ℕ
parts_of (c ∷ shape) (es ∷ label) = part_of c.kind es ∷ parts_of shape label
parts_of _ _ = []

-- the parts of a label are told by the elements that they stand for
abbrev pub PartsAreTold : Type 0
PartsAreTold = (shape : List Definition) (parts others : List ℕ) → IsLabel shape parts → IsLabel shape others → label_of shape parts ≡ label_of shape others → parts ≡ others

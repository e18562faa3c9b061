-- Security label components: elements, the order of an ARRAY, descent in a TREE.
use Rattle.std.specs.Prelude.{◌≡◌, ℕ, zero, suc, ◌+◌, ◌<◌, ◌≤◌, ◌==◌, nat_lt, nat_le, Bool, true, false, not, ◌&&◌, ◌||◌, List, [], ◌∷◌, ◌++◌, length, slice_index, slice_index_or, Option, None, Some, is_some, is_none, codes, if◌then◌else◌}
use Rattle.std.specs.List.{list_any, position_from, position_or_len, range_with_len}
use Rattle.std.specs.Option.{option_and_then}
use Rattle.std.specs.Str.{bytes_eq}
use Rattle.lb_label.specs.declared.kind.ComponentKind.{ComponentKind}
use Rattle.lb_label.specs.declared.kind.ComponentKind.TheVariants.{Set, Array, Tree}
use Rattle.lb_label.specs.declared.component.ElementFault.{ElementFault}
use Rattle.lb_label.specs.declared.component.ElementFault.TheVariants.{TooMany, BadElement, Repeated, NoParent}

-- A component as its definition says. Its elements are numbered from 0 in the order in which they were added.
pub record Definition : Type 0 where
  pub kind : ComponentKind
  -- the text of each element
  pub elements : List (List ℕ)
  -- the numbers of the elements in their order, which in an ARRAY goes from the highest to the lowest
  pub order : List ℕ
  -- for each element of a TREE the one that it stands directly under, and none for the root
  pub parents : List (Option ℕ)

-- the component of a kind that has no element
abbrev pub empty_component : ComponentKind → Definition
empty_component kind = record { kind = kind; elements = []; order = []; parents = [] }

-- the numbers below n
abbrev pub numbers : ℕ → List ℕ
numbers n = range_with_len 0 n

-- how many elements a component of a kind has at most
abbrev pub limit : ComponentKind → ℕ
limit Set = 64
limit Array = 1024
limit Tree = 64

-- what no element holds
abbrev pub is_delimiter : ℕ → Bool
is_delimiter byte = list_any (λ delimiter. delimiter == byte) (codes "(),:")

-- the text of an element has 1 to 32 bytes and holds no delimiter
abbrev pub is_element_text : List ℕ → Bool
is_element_text text = nat_le 1 (length text) && nat_le (length text) 32 && not (list_any is_delimiter text)

-- the number of the element with this text
abbrev pub number_of : Definition → List ℕ → Option ℕ
number_of c text = position_from (λ element. bytes_eq element text) 0 c.elements

-- the element that an element stands directly under
abbrev pub parent_of : Definition → ℕ → Option ℕ
parent_of c element = slice_index_or c.parents element None

-- ---- the order of an ARRAY

-- how many elements stand before this one in the order
abbrev pub rank : Definition → ℕ → ℕ
rank c element = position_or_len (λ other. other == element) c.order

-- a is higher than b: it stands before b in the order
abbrev pub Higher : Definition → ℕ → ℕ → Type 0
Higher c a b = rank c a < rank c b

-- the test of it
abbrev pub is_higher : Definition → ℕ → ℕ → Bool
is_higher c a b = nat_lt (rank c a) (rank c b)

-- ---- descent in a TREE

-- a path leads from an element to its parent, the parent's parent and so on, up to another element
abbrev pub IsPath : Definition → ℕ → List ℕ → ℕ → Type 0
IsPath c from [] to = from ≡ to
IsPath c from (parent ∷ path) to = (parent_of c from ≡ Some parent) × IsPath c parent path to

-- a is a descendant of b: a path of at least one step leads from a up to b
abbrev pub Descends : Definition → ℕ → ℕ → Type 0
Descends c a b = (path : List ℕ) × (0 < length path) × IsPath c a path b

-- a parent, and what is above it
abbrev pub and_above : (ℕ → List ℕ) → Option ℕ → List ℕ
and_above above None = []
and_above above (Some parent) = parent ∷ above parent

-- the elements on the path from an element up to the root, in at most so many steps
abbrev pub ancestors_within : ℕ → List (Option ℕ) → ℕ → List ℕ
ancestors_within zero parents element = []
ancestors_within (suc steps) parents element = and_above (ancestors_within steps parents) (slice_index_or parents element None)

-- all of them: no path has more steps than there are elements
abbrev pub ancestors : Definition → ℕ → List ℕ
ancestors c element = ancestors_within (length c.parents) c.parents element

-- the test of descent
abbrev pub descends : Definition → ℕ → ℕ → Bool
descends c a b = list_any (λ ancestor. ancestor == b) (ancestors c a)

-- ---- what every component keeps

-- the parent that an element has: the root of a TREE has none, and each other element of it an earlier one
abbrev pub IsParent : ComponentKind → ℕ → Option ℕ → Type 0
IsParent Tree zero parent = parent ≡ None
IsParent Tree (suc element) None = ⊥
IsParent Tree (suc element) (Some parent) = parent < suc element
IsParent Set element parent = parent ≡ None
IsParent Array element parent = parent ≡ None

-- what every component keeps
pub record IsComponent (c : Definition) : Type 0 where
  pub few : length c.elements ≤ limit c.kind
  pub texts : (e : ℕ) → e < length c.elements → is_element_text (slice_index_or c.elements e []) ≡ true
  -- no two elements have one text
  pub distinct : (e : ℕ) → e < length c.elements → number_of c (slice_index_or c.elements e []) ≡ Some e
  -- the order has each element once, and nothing else
  pub order_length : length c.order ≡ length c.elements
  pub ordered : (e : ℕ) → e < length c.elements → rank c e < length c.elements
  pub placed : (k : ℕ) → k < length c.elements → slice_index c.order k < length c.elements
  pub parents_length : length c.parents ≡ length c.elements
  pub parents : (e : ℕ) → e < length c.elements → IsParent c.kind e (parent_of c e)

-- ---- adding an element

-- the parent that is named isn't an element
abbrev pub lacks_parent : Definition → Option (List ℕ) → Bool
lacks_parent c None = false
lacks_parent c (Some parent) = is_none (number_of c parent)

-- the first cause to refuse an element, if there is one
abbrev pub refusal : Definition → List ℕ → Option (List ℕ) → Option ElementFault
refusal c text parent =
    if nat_le (limit c.kind) (length c.elements) then Some (TooMany (limit c.kind))
    else if not (is_element_text text) then Some BadElement
    else if is_some (number_of c text) then Some Repeated
    else if lacks_parent c parent then Some NoParent
    else None

-- the component with one element more, which comes last
abbrev pub with_element : Definition → List ℕ → Option (List ℕ) → Definition
with_element c text parent = record {
  kind = c.kind;
  elements = c.elements ++ text ∷ [];
  order = c.order ++ length c.elements ∷ [];
  parents = c.parents ++ option_and_then (number_of c) parent ∷ [];
}

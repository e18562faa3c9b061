-- The rules of DB2LBACRULES over lists of elements.
use Rattle.std.specs.Prelude.{◌≡◌, ℕ, ◌+◌, ◌==◌, Bool, true, false, not, ◌&&◌, ◌||◌, List, [], ◌∷◌, Option, None, Some, find, nat_eq, if◌then◌else◌}
use Rattle.std.specs.Cmp.Lexicographic.{pointwise}
use Rattle.std.specs.List.{list_any, list_all}
use Rattle.lb_label.specs.declared.access.Fail.{Fail}
use Rattle.lb_label.specs.declared.kind.Access.{Access}
use Rattle.lb_label.specs.declared.kind.Access.TheVariants.{Read, Write}
use Rattle.lb_label.specs.declared.kind.ComponentKind.{ComponentKind}
use Rattle.lb_label.specs.declared.kind.ComponentKind.TheVariants.{Set, Array, Tree}
use Rattle.lb_base.specs.declared.rule.Rule.{Rule}
use Rattle.lb_base.specs.declared.rule.Rule.TheVariants.{ReadArray, ReadSet, ReadTree, WriteDown, WriteUp, WriteSet, WriteTree}
use Rattle.lb_label.specs.Component.{Definition, is_higher, descends}

-- the rules that an access to a component of a kind is tested by
abbrev pub rules_for : Access → ComponentKind → List Rule
rules_for Read Array = ReadArray ∷ []
rules_for Read Set = ReadSet ∷ []
rules_for Read Tree = ReadTree ∷ []
rules_for Write Array = WriteDown ∷ WriteUp ∷ []
rules_for Write Set = WriteSet ∷ []
rules_for Write Tree = WriteTree ∷ []

-- the kind of component that a rule speaks of
abbrev pub kind_of : Rule → ComponentKind
kind_of ReadArray = Array
kind_of ReadSet = Set
kind_of ReadTree = Tree
kind_of WriteDown = Array
kind_of WriteUp = Array
kind_of WriteSet = Set
kind_of WriteTree = Tree

-- ---- what a rule blocks in one component, where the user has the elements `user` and the data the elements `value`

-- an element of the value is higher than one of the user's
abbrev pub is_below : Definition → List ℕ → List ℕ → Bool
is_below c user value = list_any (λ d. list_any (λ u. is_higher c d u) user) value

-- an element of the user's is higher than one of the value
abbrev pub is_above : Definition → List ℕ → List ℕ → Bool
is_above c user value = list_any (λ d. list_any (λ u. is_higher c u d) user) value

-- the element is among them
abbrev pub has : List ℕ → ℕ → Bool
has elements element = list_any (λ other. other == element) elements

-- the value has an element that the user lacks
abbrev pub lacks_one : List ℕ → List ℕ → Bool
lacks_one user value = list_any (λ d. not (has user d)) value

-- an element is one of the user's, or a descendant of one
abbrev pub is_under : Definition → List ℕ → ℕ → Bool
is_under c user element = list_any (λ u. (element == u) || descends c element u) user

-- no element of the value is one of the user's, or a descendant of one
abbrev pub none_under : Definition → List ℕ → List ℕ → Bool
none_under c user value = not (list_any (λ d. is_under c user d) value)

-- what each rule blocks where both have an element
abbrev pub blocks_elements : Rule → Definition → List ℕ → List ℕ → Bool
blocks_elements ReadArray c user value = is_below c user value
blocks_elements ReadSet c user value = lacks_one user value
blocks_elements ReadTree c user value = none_under c user value
blocks_elements WriteDown c user value = is_above c user value
blocks_elements WriteUp c user value = is_below c user value
blocks_elements WriteSet c user value = lacks_one user value
blocks_elements WriteTree c user value = none_under c user value

-- Every rule blocks a user without elements, but for WRITEDOWN: having none is lower than every element.
abbrev pub blocks_empty_user : Rule → Bool
blocks_empty_user WriteDown = false
blocks_empty_user ReadArray = true
blocks_empty_user ReadSet = true
blocks_empty_user ReadTree = true
blocks_empty_user WriteUp = true
blocks_empty_user WriteSet = true
blocks_empty_user WriteTree = true

-- no rule blocks a value without elements
abbrev pub blocks : Rule → Definition → List ℕ → List ℕ → Bool
blocks rule c user [] = false
blocks rule c [] (d ∷ value) = blocks_empty_user rule
blocks rule c (u ∷ user) (d ∷ value) = blocks_elements rule c (u ∷ user) (d ∷ value)

-- ---- the first failing rule

-- the rule that blocks in one component, exemptions left out
abbrev pub failing_rule : Access → (Rule → Bool) → Definition → List ℕ → List ℕ → Option Rule
failing_rule access exempt c user value = find (λ rule. not (exempt rule) && blocks rule c user value) (rules_for access c.kind)

-- a rule that blocks fails in that component; without one, what follows decides
abbrev pub failure_or : ℕ → Option Rule → Option Fail → Option Fail
failure_or at (Some rule) rest = Some (record { component = at; rule = rule })
failure_or at None rest = rest

-- the first component that a rule blocks in, in policy order and numbered from `at` on, with that rule
abbrev pub first_failure : Access → (Rule → Bool) → ℕ → List Definition → List (List ℕ) → List (List ℕ) → Option Fail
first_failure access exempt at [] users values = None
first_failure access exempt at (c ∷ shape) [] values = None
first_failure access exempt at (c ∷ shape) (user ∷ users) [] = None
first_failure access exempt at (c ∷ shape) (user ∷ users) (value ∷ values) =
    failure_or at (failing_rule access exempt c user value) (first_failure access exempt (at + 1) shape users values)

-- what an access fails by: the label of a policy's components that the user holds against that of the data
abbrev pub failure : Access → List Definition → List (List ℕ) → (Rule → Bool) → List (List ℕ) → Option Fail
failure access shape user exempt value = first_failure access exempt 0 shape user value

-- ---- the rule of grants

-- what a user may hold for writing beside what it holds for reading, in a component of each kind
abbrev pub agrees_in : ComponentKind → Definition → List ℕ → List ℕ → Bool
-- the same element, or none
agrees_in Array c read write = pointwise nat_eq read write
-- elements that are all among those for reading
agrees_in Set c read write = list_all (has read) write
-- elements that are each one of those for reading, or a descendant of one
agrees_in Tree c read write = list_all (is_under c read) write

-- what is held for writing agrees with what is held for reading
abbrev pub agrees : Definition → List ℕ → List ℕ → Bool
agrees c read write = agrees_in c.kind c read write

-- the first component in which two labels disagree, numbered from `at` on
abbrev pub first_disagreement : ℕ → List Definition → List (List ℕ) → List (List ℕ) → Option ℕ
first_disagreement at [] reads writes = None
first_disagreement at (c ∷ shape) [] writes = None
first_disagreement at (c ∷ shape) (read ∷ reads) [] = None
first_disagreement at (c ∷ shape) (read ∷ reads) (write ∷ writes) =
    if agrees c read write then first_disagreement (at + 1) shape reads writes else Some at

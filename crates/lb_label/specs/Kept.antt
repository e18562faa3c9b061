-- What the fields of a component stand for, and what they keep.
use Rattle.std.specs.Prelude.{◌≡◌, ℕ, ◌<◌, ◌==◌, ◌||◌, cond, List, Option, length, map, slice_index}
use Rattle.std.specs.Int.{bit_at}
use Rattle.std.specs.String.{string_bytes}
use Rattle.lb_label.specs.declared.component.Element.{Element}
use Rattle.lb_label.specs.declared.kind.ComponentKind.{ComponentKind}
use Rattle.lb_label.specs.declared.kind.ComponentKind.TheVariants.{Tree}
use Rattle.lb_label.specs.Component.{Definition, IsComponent, rank, descends}

-- the text of an element
abbrev pub text_of : Element → List ℕ
text_of e = string_bytes e.text

-- the parent that it keeps
abbrev pub parent_in : Element → Option ℕ
parent_in e = e.parent

-- the rank that it keeps
abbrev pub rank_in : Element → ℕ
rank_in e = e.rank

-- itself and its ancestors, as bits
abbrev pub line_in : Element → ℕ
line_in e = e.line

-- the component with these elements in this order
abbrev pub definition_of : ComponentKind → List Element → List ℕ → Definition
definition_of kind elements order = record { kind = kind; elements = map text_of elements; order = order; parents = map parent_in elements }

-- what the elements of a component keep of it
pub record IsKept (kind : ComponentKind) (elements : List Element) (order : List ℕ) : Type 0 where
  pub valid : IsComponent (definition_of kind elements order)
  -- each element keeps its rank
  pub ranks : (e : ℕ) → e < length elements → slice_index (map rank_in elements) e ≡ rank (definition_of kind elements order) e
  -- and in a TREE itself and its ancestors, as bits
  pub lines : kind ≡ Tree → (e i : ℕ) → e < length elements → bit_at (slice_index (map line_in elements) e) i ≡ cond ((e == i) || descends (definition_of kind elements order) e i) 1 0

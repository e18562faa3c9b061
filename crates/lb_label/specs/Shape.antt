-- The components of a policy, as a list.
use Rattle.std.specs.Prelude.{◌≡◌, List, [], ◌∷◌, Option, None, Some, map}
use Rattle.std.specs.Arc.{arc_value}
use Rattle.std.specs.declared.sync.Arc.{Arc}
use Rattle.std.specs.declared.alloc.Global.{Global}
use Rattle.lb_label.specs.Component.{Definition, IsComponent}

-- a place for a component, which may be empty
abbrev pub Held : Type 0
Held = Option (Arc Definition Global)

-- the components in the places that have one
abbrev pub components_in : List Held → List Definition
components_in [] = []
components_in (None ∷ places) = components_in places
components_in (Some c ∷ places) = arc_value c ∷ components_in places

-- each place has one, and each one is a component
abbrev pub AllThere : List Held → Type 0
AllThere [] = Unit {0}
AllThere (None ∷ places) = ⊥
AllThere (Some c ∷ places) = IsComponent (arc_value c) × AllThere places

-- each component of a policy is one
abbrev pub IsShape : List Definition → Type 0
IsShape [] = Unit {0}
IsShape (c ∷ shape) = IsComponent c × IsShape shape

-- Which values are of which kind.
use Rattle.std.specs.Prelude.{ℕ, List, Option, Ok, Err}
use Rattle.std.specs.List.{AllZip}
use Rattle.lb_base.specs.declared.value.Value.{Value}
use Rattle.lb_base.specs.declared.value.Value.TheVariants as values
use Rattle.lb_base.specs.Days.{IsDay}
use Rattle.lb_base.specs.Evaluated.{Evaluated}
use Rattle.lb_cat.specs.Catalog.{Policy, IsLabelOf}
use Rattle.lb_names.specs.Kinds.{Kind, integer, text, date, label}

-- policies by their names
abbrev pub Policies : Type 0
Policies = List ℕ → Option Policy

-- A value of the kind: null is one of every kind, and the only one of a NULL literal's; a day is one of the calendar, and a
-- label one of the policy that the kind names.
abbrev pub HasKind : Policies → Kind → Value → Type 0
HasKind policies k values.Null = Unit {0}
HasKind policies integer (values.Int n) = Unit {0}
HasKind policies text (values.Text t) = Unit {0}
HasKind policies date (values.Date day) = IsDay day
HasKind policies (label p) (values.Label parts) = IsLabelOf (policies p) parts.items
HasKind policies k v = ⊥

-- an evaluation gives a value of the kind, or a fault
abbrev pub GivesKind : Policies → Kind → Evaluated Value → Type 0
GivesKind policies k (Ok v) = HasKind policies k v
GivesKind policies k (Err fault) = Unit {0}

-- each value of a row has the kind at its place
abbrev pub HasKinds : Policies → List Kind → List Value → Type 0
HasKinds policies ks row = AllZip (HasKind policies) ks row

-- an evaluation gives a row whose values have these kinds, or a fault
abbrev pub GivesKinds : Policies → List Kind → Evaluated (List Value) → Type 0
GivesKinds policies ks (Ok row) = HasKinds policies ks row
GivesKinds policies ks (Err fault) = Unit {0}

-- a result has it, where there is no fault
abbrev pub IfResult : {A : Type 0} → (A → Type 0) → Evaluated A → Type 0
IfResult P (Ok x) = P x
IfResult P (Err fault) = Unit {0}

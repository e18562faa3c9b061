-- Labels: of columns, of users and of policies.
use Rattle.std.specs.Prelude.{ℕ, ◌≡◌, true, List, Option, Some}
use Rattle.std.specs.List.{AllByRecursion, AllZip}
use Rattle.lb_base.specs.declared.key.Ty.{Ty}
use Rattle.lb_base.specs.declared.key.Ty.TheVariants as types
use Rattle.lb_label.specs.Component.{Definition}
use Rattle.lb_label.specs.Label.{IsLabel}
use Rattle.lb_cat.specs.declared.catalog.ColumnRec.{ColumnRec}
use Rattle.lb_cat.specs.declared.catalog.LabelRec.{LabelRec}
use Rattle.lb_cat.specs.declared.catalog.Holding.{Holding}
use Rattle.lb_cat.specs.Catalog.{Cat, Table, Policy, User, policy_named}
use Rattle.lb_alter.specs.ChangePolicy.{definition_named}
use Rattle.lb_alter.specs.ChangeTable.{has_label, policy_of}
use Rattle.lb_alter.specs.Named.{IfGiven}

-- the policy of the table has the label
abbrev pub IsLabelHere : Cat → Table → List ℕ → Type 0
IsLabelHere C t label = has_label (policy_of C t.policy) label ≡ true

-- a label type is of the table's policy
abbrev pub IsOfPolicy : Option (List ℕ) → Ty → Type 0
IsOfPolicy policy (types.Label p) = policy ≡ Some p
IsOfPolicy policy ty = Unit {0}

-- a label column and a SECURED label belong to the table's policy
pub record ColumnBelongs (C : Cat) (t : Table) (c : ColumnRec) : Type 0 where
  pub label : IsOfPolicy t.policy c.ty
  pub secured : IfGiven (IsLabelHere C t) c.secured

-- a label column and every SECURED label belong to the table's policy
abbrev pub LabelsBelong : Cat → Table → Type 0
LabelsBelong C t = AllByRecursion (ColumnBelongs C t) t.columns

-- the policy of that name has the label
abbrev pub IsPolicyLabel : Cat → List ℕ → List ℕ → Type 0
IsPolicyLabel C policy label = has_label (policy_named C policy) label ≡ true

-- the labels of a holding are there
pub record HoldsLabels (C : Cat) (h : Holding) : Type 0 where
  pub read : IfGiven (IsPolicyLabel C h.policy) h.read
  pub write : IfGiven (IsPolicyLabel C h.policy) h.write

-- every held label is there; that every SECURED one is, `LabelsBelong` says
abbrev pub HeldLabelsAreThere : Cat → User → Type 0
HeldLabelsAreThere C u = AllByRecursion (HoldsLabels C) u.held

-- the component of that name is defined so
abbrev pub StandsUnder : Cat → List ℕ → Definition → Type 0
StandsUnder C n c = definition_named C n ≡ Some c

-- a policy's shape is what stands under its components' names, and each of its labels is a label of its shape
pub record HasItsShape (C : Cat) (p : Policy) : Type 0 where
  pub shape : AllZip (StandsUnder C) p.components p.shape
  pub labels : AllByRecursion (λ (l : LabelRec). IsLabel p.shape l.parts.items) p.labels

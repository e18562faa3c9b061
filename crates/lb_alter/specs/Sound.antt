-- What every catalogue that stands keeps.
use Rattle.std.specs.Prelude.{◌≤◌, length}
use Rattle.std.specs.List.{AllByRecursion}
use Rattle.lb_label.specs.Component.{IsComponent}
use Rattle.lb_cat.specs.Catalog.{Cat, Policy, Component}
use Rattle.lb_alter.specs.Stored.{StoredRules}
use Rattle.lb_alter.specs.Named.{HasOneOfEachName, NamesRecords, HasFoldedNames, ReadsGoodSources, HasDifferentNames, HasNoEmptyEntry}
use Rattle.lb_alter.specs.Columns.{HasItsColumns, HasOneLabelColumn, HasFewColumns}
use Rattle.lb_alter.specs.Labelled.{LabelsBelong, HeldLabelsAreThere, HasItsShape}
use Rattle.lb_alter.specs.Valid.{StoresValid}

-- a policy has a component, and at most 16
abbrev pub HasFewComponents : Policy → Type 0
HasFewComponents p = (1 ≤ length p.components) × (length p.components ≤ 16)

-- a component has no more elements than its kind may have, all different, and each parent is an earlier element
abbrev pub IsWellMade : Component → Type 0
IsWellMade c = IsComponent c.definition

-- tables, columns, widths, components and elements keep their limits
pub record IsWithinLimits (C : Cat) : Type 0 where
  pub tables : length C.tables ≤ 64
  pub columns : AllByRecursion HasFewColumns C.tables
  pub policies : AllByRecursion HasFewComponents C.policies
  pub components : AllByRecursion IsWellMade C.components

-- all that a sound catalogue keeps, under rules of names and types
pub record IsSound (K : StoredRules) (C : Cat) : Type 0 where
  pub one_each : HasOneOfEachName C
  pub folded : HasFoldedNames C
  pub records : NamesRecords C
  pub sources : AllByRecursion (ReadsGoodSources C) C.tables
  pub columns : AllByRecursion HasItsColumns C.tables
  pub label_columns : AllByRecursion HasOneLabelColumn C.tables
  pub names : HasDifferentNames C
  pub belonging : AllByRecursion (LabelsBelong C) C.tables
  pub stored : AllByRecursion (StoresValid K C) C.tables
  pub shapes : AllByRecursion (HasItsShape C) C.policies
  pub held : AllByRecursion (HeldLabelsAreThere C) C.users
  pub entries : AllByRecursion HasNoEmptyEntry C.users
  pub limits : IsWithinLimits C

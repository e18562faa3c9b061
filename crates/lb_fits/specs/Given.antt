-- What the values and labels that a write is given have to be, so that its rows fit their table.
use Rattle.std.specs.Prelude.{ℕ, ◌≤◌, List, ◌∷◌, Option, Some, None, count_by, slice_get}
use Rattle.lb_base.specs.declared.value.Value.{Value}
use Rattle.lb_base.specs.declared.value.Value.TheVariants as values
use Rattle.lb_base.specs.Evaluated.{Evaluated}
use Rattle.lb_cat.specs.declared.catalog.ColumnRec.{ColumnRec}
use Rattle.lb_cat.specs.Catalog.{Cat, Table, Policy, policy_named, IsLabelOf}
use Rattle.lb_alter.specs.ChangeTable.{is_label_column}
use Rattle.lb_alter.specs.Columns.{HasKeyColumn}
use Rattle.lb_alter.specs.Fits.{FitsTable}
use Rattle.lb_alter.specs.Labelled.{LabelsBelong}
use Rattle.lb_kinds.specs.HasKind.{HasKind, IfResult}
use Rattle.lb_names.specs.Kinds.{kind_of}

-- ---- labels

-- the value is a label of the policy
abbrev pub IsItsLabel : Option Policy → Value → Type 0
IsItsLabel p (values.Label parts) = IsLabelOf p parts.items
IsItsLabel p v = ⊥

-- the value is null or a label of the policy
abbrev pub IsNullOrItsLabel : Option Policy → Value → Type 0
IsNullOrItsLabel p values.Null = Unit {0}
IsNullOrItsLabel p (values.Label parts) = IsLabelOf p parts.items
IsNullOrItsLabel p v = ⊥

-- the label for writing, if the session holds one, is a label of the policy
abbrev pub OwnFits : Option Policy → Option Value → Type 0
OwnFits p None = Unit {0}
OwnFits p (Some l) = IsItsLabel p l

-- ---- values

-- the value is null or of the kind of the column's type
abbrev pub FitsKind : Cat → ColumnRec → Value → Type 0
FitsKind C c v = HasKind (policy_named C) (kind_of c.ty) v

-- so it is of a column that may be missing
abbrev pub FitsKindIfThere : Cat → Option ColumnRec → Value → Type 0
FitsKindIfThere C None v = Unit {0}
FitsKindIfThere C (Some c) v = FitsKind C c v

-- the value is null or of the kind of the column at the place
abbrev pub FitsPlace : Cat → Table → ℕ → Value → Type 0
FitsPlace C t at v = FitsKindIfThere C (slice_get t.columns at) v

-- so is each value that is written at one of these places; where one of the lists is longer, its rest isn't written
abbrev pub ArePlaced : Cat → Table → List ℕ → List Value → Type 0
ArePlaced C t (at ∷ places) (v ∷ vs) = FitsPlace C t at v × ArePlaced C t places vs
ArePlaced C t _ _ = Unit {0}

-- what is evaluated for these places is a fault, or values each of which is null or of the kind of its column
abbrev pub GivesPlaces : Cat → Table → List ℕ → Evaluated (List Value) → Type 0
GivesPlaces C t places out = IfResult (ArePlaced C t places) out

-- ---- tables

-- what a table of a sound catalogue keeps of its label column and its key: at most one label column, which is of the table's
-- policy, and a key that is NOT NULL
pub record KeepsColumns (C : Cat) (t : Table) : Type 0 where
  pub one : count_by is_label_column t.columns ≤ 1
  pub belonging : LabelsBelong C t
  pub key : HasKeyColumn t t.key

-- the old row, if there is one, fits the table
abbrev pub OldFits : Cat → Table → Option (List Value) → Type 0
OldFits C t None = Unit {0}
OldFits C t (Some row) = FitsTable C t row

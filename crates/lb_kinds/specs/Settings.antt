-- The settings of statements and of stored conditions agree with a catalogue of names that knows the same tables.
use Rattle.std.specs.Prelude.{ℕ, ◌≡◌, true, ℤ, List, [], Option, Some, None, Ok, slice_get}
use Rattle.std.specs.List.{AllZip, AllByRecursion}
use Rattle.lb_base.specs.declared.value.Value.{Value}
use Rattle.lb_base.specs.declared.key.Ty.{Ty}
use Rattle.lb_base.specs.declared.key.Ty.TheVariants as types
use Rattle.lb_base.specs.Days.{IsDay}
use Rattle.lb_tree.specs.declared.query.Tab.{Tab}
use Rattle.lb_cat.specs.declared.catalog.ColumnRec.{ColumnRec}
use Rattle.lb_cat.specs.declared.catalog.MaskRec.{MaskRec}
use Rattle.lb_cat.specs.declared.cred.Cred.{Cred}
use Rattle.lb_cat.specs.Catalog.{Cat, Table, table_named, policy_named}
use Rattle.lb_rows.specs.Tables.{Tables, rows_of}
use Rattle.lb_names.specs.Kinds.{Kind, integer, text, date, label, takes, kind_of}
use Rattle.lb_names.specs.Scopes.{Field, Catalogue, listed}
use Rattle.lb_names.specs.Statements.{stored_place}
use Rattle.lb_names.specs.Typing.{means as typed}
use Rattle.lb_mean.specs.Visible.{mask_at, unguarded, guarded}
use Rattle.lb_kinds.specs.HasKind.{Policies, HasKind}
use Rattle.lb_kinds.specs.Days.{days_in, AreDays}
use Rattle.lb_kinds.specs.Agreement.{RowFits, LabelsFit, AgreesOn}

-- ---- values that a column takes

-- a value of a kind that a column takes is null or of the column's kind
abbrev pub TakenValuesFit : Type 0
TakenValuesFit = (policies : Policies) (ty : Ty) (k : Kind) (v : Value) → takes (kind_of ty) k ≡ true → HasKind policies k v → HasKind policies (kind_of ty) v

-- ---- settings

-- the columns of a table, and none where it is not there
abbrev pub columns_in : Option Table → List ColumnRec
columns_in None = []
columns_in (Some t) = t.columns

-- both are the same column, by its name and its type
abbrev pub SameColumn : Field → ColumnRec → Type 0
SameColumn f c = (c.name ≡ f.name) × (f.kind ≡ kind_of c.ty)

-- a catalogue of names knows the tables of the catalogue, whose rows and labels fit it
pub record Knows (K : Catalogue) (C : Cat) (T : Tables) : Type 0 where
  pub columns : (n : List ℕ) → AllZip SameColumn (listed (K.columns n)) (columns_in (table_named C n))
  pub rows : (n : List ℕ) → AllByRecursion (RowFits (policy_named C) (listed (K.columns n))) (rows_of n T)
  pub labels : (p : List ℕ) → LabelsFit (policy_named C p)

-- the table of a mask as its CASE sees it
abbrev pub masked : List ℕ → MaskRec → Tab
masked n m = record { table = n; correlation = Some m.correlation }

-- the CASE of a mask has no broken node, and the column takes its values
pub record MaskFits (K : Catalogue) (n : List ℕ) (m : MaskRec) (ty : Ty) : Type 0 where
  pub kind : Kind
  pub after : ℕ
  pub typed : (typed K m.value).kind (stored_place (masked n m)) 0 ≡ Ok (kind, after)
  pub takes : takes (kind_of ty) kind ≡ true
  pub days : AreDays (days_in m.value)

-- so it is of each mask of the table
abbrev pub MasksFit : Catalogue → List ℕ → Option Table → Type 0
MasksFit K n None = Unit {0}
MasksFit K n (Some t) = (at : ℕ) (c : ColumnRec) (m : MaskRec) → slice_get t.columns at ≡ Some c → mask_at t at ≡ Some m → MaskFits K n m c.ty

-- the setting of permissions and masks agrees with it
abbrev pub UnguardedAgrees : Type 0
UnguardedAgrees = (K : Catalogue) (C : Cat) (c : Cred) (T : Tables) (day : ℤ) → Knows K C T → IsDay day → AgreesOn K (unguarded C c T day)

-- and so does the setting of statements, where masks are well typed
abbrev pub GuardedAgrees : Type 0
GuardedAgrees = (K : Catalogue) (C : Cat) (c : Cred) (T : Tables) (day : ℤ) → Knows K C T → IsDay day → ((n : List ℕ) → MasksFit K n (table_named C n)) → AgreesOn K (guarded C c T day)

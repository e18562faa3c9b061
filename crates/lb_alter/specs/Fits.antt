-- When credentials and rows fit a catalogue on a list of keys.
use Rattle.std.specs.Prelude.{ℕ, ◌≡◌, ◌≤◌, ◌*◌, true, false, ◌&&◌, ◌||◌, List, find, length, Option, None, Some}
use Rattle.std.specs.List.{AllByRecursion, AllZip}
use Rattle.std.specs.Str.{bytes_eq}
use Rattle.lb_base.specs.declared.value.Value.{Value}
use Rattle.lb_base.specs.declared.value.Value.TheVariants as values
use Rattle.lb_base.specs.Days.{IsDay}
use Rattle.lb_base.specs.declared.key.Key.{Key}
use Rattle.lb_base.specs.declared.key.Key.TheVariants as keys
use Rattle.lb_base.specs.declared.key.Ty.{Ty}
use Rattle.lb_base.specs.declared.key.Ty.TheVariants as types
use Rattle.lb_label.specs.Component.{Definition}
use Rattle.lb_label.specs.Label.{IsLabel}
use Rattle.arrayvec.specs.ArrayVec.{ArrayVec}
use Rattle.lb_cat.specs.declared.catalog.ColumnRec.{ColumnRec}
use Rattle.lb_cat.specs.declared.cred.Cred.{Cred}
use Rattle.lb_cat.specs.declared.cred.CredLabel.{CredLabel}
use Rattle.lb_base.specs.Conditions.{is_null}
use Rattle.lb_rows.specs.KeyValues.{keys_differ}
use Rattle.lb_rows.specs.Tables.{Version, Tables, is_version}
use Rattle.lb_cat.specs.Catalog.{Cat, Table, Policy, table_named, policy_named, IsLabelOf}
use Rattle.lb_alter.specs.ChangeTable.{is_label_column}

-- ---- credentials

-- a label of that shape, where one is held
abbrev pub IsLabelIfHeld : List Definition → Option (ArrayVec ℕ) → Type 0
IsLabelIfHeld shape None = Unit {0}
IsLabelIfHeld shape (Some parts) = IsLabel shape parts.items

-- a label that is held of the policy is a label of its shape
abbrev pub FitsPolicy : Policy → CredLabel → Type 0
FitsPolicy p l = bytes_eq l.policy p.name ≡ true → IsLabelIfHeld p.shape l.read × IsLabelIfHeld p.shape l.write

-- the labels that are held of a policy that is there
abbrev pub FitsIfThere : Cred → Option Policy → Type 0
FitsIfThere c None = Unit {0}
FitsIfThere c (Some p) = AllByRecursion (FitsPolicy p) c.labels

-- the labels of the policy under the key
abbrev pub CredFitsKey : Cat → Cred → Key → Type 0
CredFitsKey C c (keys.Policy n) = FitsIfThere c (policy_named C n)
CredFitsKey C c (keys.Table n) = Unit {0}
CredFitsKey C c (keys.Rows n) = Unit {0}
CredFitsKey C c (keys.Component n) = Unit {0}
CredFitsKey C c (keys.User n) = Unit {0}

-- the labels of each policy among the keys are labels of its shape
abbrev pub CredFits : List Key → Cat → Cred → Type 0
CredFits ks C c = AllByRecursion (CredFitsKey C c) ks

-- ---- rows

-- the value is null or of the type: a text within its width, a day of the clock's range, a label of its policy
abbrev pub HasType : Cat → Ty → Value → Type 0
HasType C ty values.Null = Unit {0}
HasType C types.Int (values.Int n) = Unit {0}
HasType C (types.Text width) (values.Text text) = length text ≤ width
HasType C types.Date (values.Date day) = IsDay day
HasType C (types.Label policy) (values.Label parts) = IsLabelOf (policy_named C policy) parts.items
HasType C ty v = ⊥

-- of the column's type, and no null in a NOT NULL or label column
abbrev pub FitsColumn : Cat → ColumnRec → Value → Type 0
FitsColumn C c v = HasType C c.ty v × (((c.not_null || is_label_column c) && is_null v) ≡ false)

-- a value for each column
abbrev pub FitsTable : Cat → Table → List Value → Type 0
FitsTable C t row = AllZip (FitsColumn C) t.columns row

-- no two rows have one value of the key, and none has null there
abbrev pub KeysDiffer : Option ℕ → List (List Value) → Type 0
KeysDiffer key rows = keys_differ key rows ≡ true

-- the rows of a table: each fits its columns, their keys differ, and rows times columns keep the limit of cells
pub record RowsFit (C : Cat) (t : Table) (rows : List (List Value)) : Type 0 where
  pub each : AllByRecursion (FitsTable C t) rows
  pub keys : KeysDiffer t.key rows
  pub cells : length rows * length t.columns ≤ 131072

-- the table has rows, and they fit its record
abbrev pub FitsRecord : Cat → Option Table → Option Version → Type 0
FitsRecord C None v = Unit {0}
FitsRecord C (Some t) None = ⊥
FitsRecord C (Some t) (Some v) = RowsFit C t v.rows

-- so does the table under the key
abbrev pub TablesFitKey : Cat → Tables → Key → Type 0
TablesFitKey C T (keys.Table n) = FitsRecord C (table_named C n) (find (is_version n) T)
TablesFitKey C T (keys.Rows n) = FitsRecord C (table_named C n) (find (is_version n) T)
TablesFitKey C T (keys.Policy n) = Unit {0}
TablesFitKey C T (keys.Component n) = Unit {0}
TablesFitKey C T (keys.User n) = Unit {0}

-- the tables among the keys that are there have rows that fit them
abbrev pub TablesFit : List Key → Cat → Tables → Type 0
TablesFit ks C T = AllByRecursion (TablesFitKey C T) ks

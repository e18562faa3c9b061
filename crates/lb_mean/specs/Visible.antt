-- Which rows of a table a session sees, and what is shown of its columns: labels, row permissions and column masks.
use Rattle.std.specs.Prelude.{ℕ, suc, ◌&&◌, ◌==◌, Bool, true, false, if◌then◌else◌, List, [], ◌∷◌, map, filter, find, Option, Some, None, Ok, ℤ}
use Rattle.std.specs.Option.{option_and_then}
use Rattle.lb_base.specs.declared.value.Value.{Value}
use Rattle.lb_base.specs.Evaluated.{Evaluated, ◌>>=◌, passing, any_passing}
use Rattle.lb_base.specs.Truths.{is_true}
use Rattle.lb_cat.specs.declared.catalog.ColumnRec.{ColumnRec}
use Rattle.lb_cat.specs.declared.catalog.PermissionRec.{PermissionRec}
use Rattle.lb_cat.specs.declared.catalog.MaskRec.{MaskRec}
use Rattle.lb_cat.specs.declared.cred.Cred.{Cred}
use Rattle.lb_cat.specs.Catalog.{Cat, Table, table_named, policy_named}
use Rattle.lb_rows.specs.Tables.{Tables, rows_of}
use Rattle.lb_base.specs.declared.key.Ty.{Ty}
use Rattle.lb_base.specs.declared.key.Ty.TheVariants as types
use Rattle.lb_mean.specs.Setting.{Setting, SeenColumn, Source, Env, row_frame, given}
use Rattle.lb_mean.specs.Labels.{is_readable}
use Rattle.lb_mean.specs.Meaning.{value_of, test_of}

-- ---- tables without access control

-- a column as permissions and masks see it: they put no label into a reply, so its policy isn't asked for
abbrev pub plain_column : ColumnRec → SeenColumn
plain_column c = record { name = c.name; policy = None }

-- all rows of a table, as they are; one that isn't there is refused before
abbrev pub whole_source : Option Table → List (List Value) → Source
whole_source None rows = record { columns = []; rows = Ok []; shown = given }
whole_source (Some t) rows = record { columns = map plain_column t.columns; rows = Ok rows; shown = given }

-- the setting of permissions and masks, whose subqueries read tables without access control
abbrev pub unguarded : Cat → Cred → Tables → ℤ → Setting
unguarded C c T day = record { cred = c; day = day; policies = policy_named C; sources = λ n. whole_source (table_named C n) (rows_of n T) }

-- the policy of a label column's type
abbrev pub policy_of_type : Ty → Option (List ℕ)
policy_of_type (types.Label policy) = Some policy
policy_of_type _ = None

-- the mask of the column at a place, where column access control is active and the mask is enabled
abbrev pub mask_at : Table → ℕ → Option MaskRec
mask_at t at = if t.column_control then find (λ m. m.enabled && m.column == at) t.masks else None

-- the environment of a permission or a mask: one row of its table alone, under the name by which it calls the table
abbrev pub alone : List ℕ → Table → List Value → Env
alone correlation t row = row_frame (record { correlation = correlation; columns = map plain_column t.columns; cells = given row; shown = given row } ∷ []) ∷ []

-- in the setting of permissions and masks
module _ (W : Setting) where
  -- a column with the policy of its type, if it is a label column
  abbrev pub seen_column : ColumnRec → SeenColumn
  seen_column c = record { name = c.name; policy = option_and_then W.policies (policy_of_type c.ty) }

  -- the columns of a table
  abbrev pub seen_columns : Table → List SeenColumn
  seen_columns t = map seen_column t.columns

  -- ---- rows

  -- the session can read the row's label; a column without labels has nothing to test
  abbrev pub passes_label : List SeenColumn → List Value → Bool
  passes_label (c ∷ columns) (x ∷ row) = is_readable W.cred c.policy x && passes_label columns row
  passes_label _ _ = true

  -- the permission's condition is true for the row
  abbrev pub is_granted_by : Table → List Value → PermissionRec → Evaluated Bool
  is_granted_by t row p = test_of W p.condition (alone p.correlation t row) >>= λ x. Ok (is_true x)

  -- one of the enabled permissions is true for the row, in the order of creation up to the first that is
  abbrev pub is_permitted : Table → List Value → Evaluated Bool
  is_permitted t row = any_passing (is_granted_by t row) (filter (λ p. p.enabled) t.permissions)

  -- the label test, and where the row passes it and row access control is active, the permissions
  abbrev pub is_visible : Table → List Value → Evaluated Bool
  is_visible t row = if passes_label (seen_columns t) row then (if t.row_control then is_permitted t row else Ok true) else Ok false

  -- the visible rows in table order, or the first fault
  abbrev pub visible_rows : Table → List (List Value) → Evaluated (List (List Value))
  visible_rows t rows = passing (is_visible t) rows

  -- ---- masks

  -- what is shown of a column's value: the value, or what the CASE of the column's mask gives for the row
  abbrev pub shown_value : Table → List Value → Option MaskRec → Value → Evaluated Value
  shown_value t row None x = Ok x
  shown_value t row (Some m) x = value_of W m.value (alone m.correlation t row)

  -- what is shown of the values from a place on
  abbrev pub shown_from : Table → List Value → ℕ → List Value → List (Evaluated Value)
  shown_from t row at [] = []
  shown_from t row at (x ∷ xs) = shown_value t row (mask_at t at) x ∷ shown_from t row (suc at) xs

  -- what is shown of a row
  abbrev pub shown_values : Table → List Value → List (Evaluated Value)
  shown_values t row = shown_from t row 0 row

  -- what a statement of the session sees of a table with these rows
  abbrev pub visible_source : Option Table → List (List Value) → Source
  visible_source None rows = record { columns = []; rows = Ok []; shown = given }
  visible_source (Some t) rows = record { columns = seen_columns t; rows = visible_rows t rows; shown = shown_values t }

-- the setting of a statement, which sees visible rows alone
abbrev pub guarded : Cat → Cred → Tables → ℤ → Setting
guarded C c T day = record { cred = c; day = day; policies = policy_named C; sources = λ n. visible_source (unguarded C c T day) (table_named C n) (rows_of n T) }

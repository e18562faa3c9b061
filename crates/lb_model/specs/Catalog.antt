-- The catalogue, the rows of its tables, and looking things up in them.
use Rattle.std.specs.Prelude.{ℕ, Bool, true, false, List, [], ◌∷◌, ◌++◌, map, Option, None, Some, if◌then◌else◌}
use Rattle.std.specs.List.{list_any}
use Rattle.std.specs.Str.{bytes_eq}
use Rattle.lb_base.specs.declared.value.Value.{Value}
use Rattle.lb_model.specs.declared.catalog.ColumnRec.{ColumnRec}
use Rattle.lb_model.specs.declared.catalog.PermissionRec.{PermissionRec}
use Rattle.lb_model.specs.declared.catalog.TableRec.{TableRec}
use Rattle.lb_model.specs.declared.catalog.TableVersion.{TableVersion}

-- the catalogue: the records of the tables, in the order of their making
pub record Cat : Type 0 where
  pub tables : List TableRec

-- the rows of the tables
abbrev pub Tables : Type 0
Tables = List TableVersion

-- the first record with that name
abbrev pub table_named : List ℕ → List TableRec → Option TableRec
table_named n [] = None
table_named n (t ∷ ts) = if bytes_eq t.name n then Some t else table_named n ts

-- the rows of the table with that name, in table order
abbrev pub rows_of : List ℕ → Tables → List (List Value)
rows_of n [] = []
rows_of n (v ∷ vs) = if bytes_eq v.name n then v.rows else rows_of n vs

-- the version takes the place of its table's, or goes last
abbrev pub put_version : TableVersion → Tables → Tables
put_version v [] = v ∷ []
put_version v (w ∷ ws) = if bytes_eq w.name v.name then v ∷ ws else w ∷ put_version v ws

-- a version that may be missing
abbrev pub put_maybe : Option TableVersion → Tables → Tables
put_maybe None T = T
put_maybe (Some v) T = put_version v T

-- the record of that name, changed; the others stay
abbrev pub with_changed : List ℕ → (TableRec → TableRec) → List TableRec → List TableRec
with_changed n f [] = []
with_changed n f (t ∷ ts) = if bytes_eq t.name n then f t ∷ ts else t ∷ with_changed n f ts

-- the table has a column of that name
abbrev pub has_column : List ℕ → List ColumnRec → Bool
has_column n columns = list_any (λ c. bytes_eq c.name n) columns

-- some table has a permission of that name
abbrev pub has_permission : List ℕ → List TableRec → Bool
has_permission n tables = list_any (λ t. list_any (λ p. bytes_eq p.name n) t.permissions) tables

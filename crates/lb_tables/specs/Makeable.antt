-- Columns that may be made, once CREATE TABLE has passed its tests. It stands in private contracts alone.
use Rattle.std.specs.Prelude.{ℕ, Bool, true, not, ◌&&◌, ◌||◌, List, Option, is_some}
use Rattle.std.specs.List.{list_all}
use Rattle.lb_stmt.specs.declared.change.ColumnDef.{ColumnDef}
use Rattle.lb_stmt.specs.declared.change.ColumnType.{ColumnType}
use Rattle.lb_stmt.specs.declared.change.ColumnType.TheVariants as column_types
use Rattle.lb_stmt.specs.declared.change.Element.{Element}
use Rattle.lb_alter.specs.ChangeTable.{columns_in, has_width, is_label_kind}

-- a text column has a width that it may have
abbrev pub has_column_width : ColumnType → Bool
has_column_width (column_types.Plain ty) = has_width ty
has_column_width column_types.Label = true

-- a column has a width that it may have, and a policy if it holds labels
abbrev pub is_makeable : Option (List ℕ) → ColumnDef → Bool
is_makeable policy d = has_column_width d.ty && (not (is_label_kind d.ty) || is_some policy)

-- so have all columns
abbrev pub are_makeable : Option (List ℕ) → List Element → Bool
are_makeable policy es = list_all (is_makeable policy) (columns_in es)

-- Stored conditions: those of permissions and masks keep the rules of names and types, and their columns are qualified.
use Rattle.std.specs.Prelude.{ℕ, ◌≡◌, true, false, List, slice_get, Option, None, Some}
use Rattle.std.specs.List.{AllByRecursion}
use Rattle.lb_tree.specs.declared.query.Cond.{Cond}
use Rattle.lb_tree.specs.declared.query.Expr.{Expr}
use Rattle.lb_tree.specs.declared.query.Tab.{Tab}
use Rattle.lb_cat.specs.declared.catalog.ColumnRec.{ColumnRec}
use Rattle.lb_cat.specs.declared.catalog.PermissionRec.{PermissionRec}
use Rattle.lb_cat.specs.declared.catalog.MaskRec.{MaskRec}
use Rattle.lb_cat.specs.Catalog.{Cat, Table}
use Rattle.lb_alter.specs.ChangeTable.{is_label_type}
use Rattle.lb_alter.specs.Stored.{StoredRules}

-- a table as a stored condition calls it
abbrev pub called : Table → List ℕ → Tab
called t correlation = record { table = t.name; correlation = Some correlation }

-- a condition that keeps the rules of names and types, over the table by that correlation name
pub record KeepsRules (K : StoredRules) (C : Cat) (on : Tab) (c : Cond) : Type 0 where
  pub names : K.condition_names C on c ≡ None
  pub types : K.condition_types C on c ≡ None

-- the CASE of a mask that keeps them, where the masked column has that name
pub record KeepsMaskRules (K : StoredRules) (C : Cat) (on : Tab) (column : List ℕ) (e : Expr) : Type 0 where
  pub names : K.mask_names C on e ≡ None
  pub types : K.mask_types C on column e ≡ None

-- the condition of a permission keeps the rules of names and types, and each of its columns is qualified
pub record IsValid (K : StoredRules) (C : Cat) (t : Table) (p : PermissionRec) : Type 0 where
  pub names : K.condition_names C (called t p.correlation) p.condition ≡ None
  pub types : K.condition_types C (called t p.correlation) p.condition ≡ None
  pub qualified : K.are_qualified p.condition ≡ true

-- the CASE of a mask is of its column's kind, which isn't label
abbrev pub TypesAt : StoredRules → Cat → Table → MaskRec → Option ColumnRec → Type 0
TypesAt K C t m None = ⊥
TypesAt K C t m (Some c) = (K.mask_types C (called t m.correlation) c.name m.value ≡ None) × (is_label_type c.ty ≡ false)

-- the CASE of a mask keeps the rules, is of its column's kind, and has each of its columns qualified
pub record IsValidMask (K : StoredRules) (C : Cat) (t : Table) (m : MaskRec) : Type 0 where
  pub names : K.mask_names C (called t m.correlation) m.value ≡ None
  pub types : TypesAt K C t m (slice_get t.columns m.column)
  pub qualified : K.are_qualified_in m.value ≡ true

-- so do all permissions and masks of the table
pub record StoresValid (K : StoredRules) (C : Cat) (t : Table) : Type 0 where
  pub permissions : AllByRecursion (IsValid K C t) t.permissions
  pub masks : AllByRecursion (IsValidMask K C t) t.masks

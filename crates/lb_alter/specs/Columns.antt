-- The columns of a table: their names, its key and label column, the columns with masks, and their limits.
use Rattle.std.specs.Prelude.{ℕ, zero, suc, ◌≡◌, ◌<◌, ◌≤◌, Bool, true, false, ◌&&◌, ◌||◌, ◌==◌, List, [], ◌∷◌, map, length, count_by, slice_get, Option, None, Some, is_some, option_map}
use Rattle.std.specs.List.{AllByRecursion, list_any}
use Rattle.lb_base.specs.declared.key.Ty.{Ty}
use Rattle.lb_base.specs.declared.key.Ty.TheVariants as types
use Rattle.lb_cat.specs.declared.catalog.ColumnRec.{ColumnRec}
use Rattle.lb_cat.specs.declared.catalog.MaskRec.{MaskRec}
use Rattle.lb_cat.specs.Catalog.{Table}
use Rattle.lb_alter.specs.ChangeTable.{is_label_column}
use Rattle.lb_alter.specs.Named.{AreDifferent}

-- the place is that of a column
abbrev pub IsPlace : Table → ℕ → Type 0
IsPlace t at = at < length t.columns

-- the column is NOT NULL
abbrev pub not_null_in : ColumnRec → Bool
not_null_in c = c.not_null

-- a column of the table, which is NOT NULL
pub record IsKeyColumn (t : Table) (at : ℕ) : Type 0 where
  pub place : IsPlace t at
  pub not_null : option_map not_null_in (slice_get t.columns at) ≡ Some true

-- the key, if there is one
abbrev pub HasKeyColumn : Table → Option ℕ → Type 0
HasKeyColumn t None = Unit {0}
HasKeyColumn t (Some at) = IsKeyColumn t at

-- the columns have different names, every key and masked column is one of them, and a key is NOT NULL
pub record HasItsColumns (t : Table) : Type 0 where
  pub names : AreDifferent (map (λ c. c.name) t.columns)
  pub key : HasKeyColumn t t.key
  pub masked : AllByRecursion (λ (m : MaskRec). IsPlace t m.column) t.masks

-- a label column isn't secured
abbrev pub IsUnsecuredLabel : ColumnRec → Type 0
IsUnsecuredLabel c = (is_label_column c && is_some c.secured) ≡ false

-- the column at the place is a label column
abbrev pub is_label_at : List ColumnRec → ℕ → Bool
is_label_at [] at = false
is_label_at (c ∷ cs) zero = is_label_column c
is_label_at (c ∷ cs) (suc at) = is_label_at cs at

-- no label column stands at the place, if one is given
abbrev pub IsNoLabelAt : Table → Option ℕ → Type 0
IsNoLabelAt t None = Unit {0}
IsNoLabelAt t (Some at) = is_label_at t.columns at ≡ false

-- two masks are on one column
abbrev pub has_mask_twice : List MaskRec → Bool
has_mask_twice [] = false
has_mask_twice (m ∷ ms) = list_any (λ other. other.column == m.column) ms || has_mask_twice ms

-- at most one label column, which is neither the key nor secured, and at most one mask for a column
pub record HasOneLabelColumn (t : Table) : Type 0 where
  pub one : count_by is_label_column t.columns ≤ 1
  pub key : IsNoLabelAt t t.key
  pub secured : AllByRecursion IsUnsecuredLabel t.columns
  pub masks : has_mask_twice t.masks ≡ false

-- ---- limits

-- a text column has 1 to 254 bytes
abbrev pub IsWithinWidth : Ty → Type 0
IsWithinWidth types.Int = Unit {0}
IsWithinWidth (types.Text width) = (1 ≤ width) × (width ≤ 254)
IsWithinWidth types.Date = Unit {0}
IsWithinWidth (types.Label policy) = Unit {0}

-- 1 to 64 columns, none of them wider than it may be
pub record HasFewColumns (t : Table) : Type 0 where
  pub some : 1 ≤ length t.columns
  pub few : length t.columns ≤ 64
  pub widths : AllByRecursion (λ (c : ColumnRec). IsWithinWidth c.ty) t.columns

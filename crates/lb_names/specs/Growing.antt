-- A catalogue whose tables have got more columns at their ends.
use Rattle.std.specs.Prelude.{◌≡◌, Bool, true, false, List, ◌++◌, Option, Some, None}
use Rattle.std.specs.List.{list_any}
use Rattle.lb_names.specs.Sights.{Name}
use Rattle.lb_names.specs.Kinds.{is_label}
use Rattle.lb_names.specs.Scopes.{Field, Catalogue}
use Rattle.lb_names.specs.Typing.{is_listed}

-- the column holds a label
abbrev pub is_label_field : Field → Bool
is_label_field f = is_label f.kind

-- the columns, and maybe some more after them, which hold no labels; where there is no column none comes
pub record IsLonger (fields longer : List Field) : Type 0 where
  pub more : List Field
  pub same : longer ≡ fields ++ more
  pub plain : list_any is_label_field more ≡ false
  pub some : is_listed more ≡ true → is_listed fields ≡ true

-- so of a table that may be missing
abbrev pub IsLongerIfThere : Option (List Field) → Option (List Field) → Type 0
IsLongerIfThere None None = Unit {0}
IsLongerIfThere (Some fields) (Some longer) = IsLonger fields longer
IsLongerIfThere _ _ = ⊥

-- the second catalogue has the same, but for tables with more columns
pub record IsGrown (C D : Catalogue) : Type 0 where
  pub columns : (n : Name) → IsLongerIfThere (C.columns n) (D.columns n)
  pub policies : (p : Name) → C.has_policy p ≡ D.has_policy p
  pub labels : (p l : Name) → C.has_label p l ≡ D.has_label p l
  pub faults : (p text : Name) → C.label_fault p text ≡ D.label_fault p text

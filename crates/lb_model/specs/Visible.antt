-- Row access control: which rows of a table a session sees, and which it may write.
use Rattle.std.specs.Prelude.{ℕ, Bool, true, false, List, [], ◌∷◌, map, filter, if◌then◌else◌}
use Rattle.std.specs.List.{list_any}
use Rattle.lb_base.specs.declared.value.Value.{Value}
use Rattle.lb_base.specs.declared.truth.Truth.{Truth}
use Rattle.lb_base.specs.declared.truth.Truth.TheVariants as truths
use Rattle.lb_model.specs.declared.catalog.PermissionRec.{PermissionRec}
use Rattle.lb_model.specs.declared.catalog.TableRec.{TableRec}
use Rattle.lb_model.specs.Evaluation.{frame_of, truth_of}

abbrev pub is_true : Truth → Bool
is_true truths.True = true
is_true _ = false

-- the enabled permissions, in the order of creation
abbrev pub enabled : TableRec → List PermissionRec
enabled t = filter (λ p. p.enabled) t.permissions

-- the permission is true for the row
abbrev pub grants : List ℕ → TableRec → List Value → PermissionRec → Bool
grants user t row p = is_true (truth_of user (frame_of p.correlation t.columns row) p.condition)

-- some enabled permission is true for the row
abbrev pub is_allowed : List ℕ → TableRec → List Value → Bool
is_allowed user t row = list_any (grants user t row) (enabled t)

-- the rows that the user sees: all of them, or where row access control is active those that are allowed
abbrev pub visible : List ℕ → TableRec → List (List Value) → List (List Value)
visible user t rows = if t.row_control then filter (is_allowed user t) rows else rows

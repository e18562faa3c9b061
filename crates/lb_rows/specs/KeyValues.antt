-- The values of a primary key: none is null, and no two rows have one value.
use Rattle.std.specs.Prelude.{ℕ, Bool, true, false, not, ◌&&◌, List, [], ◌∷◌, map, slice_index_or, Option, None, Some}
use Rattle.std.specs.List.{list_any}
use Rattle.lb_base.specs.declared.value.Value.{Value}
use Rattle.lb_base.specs.declared.value.Value.TheVariants as values
use Rattle.lb_base.specs.declared.truth.Truth.{Truth}
use Rattle.lb_base.specs.declared.truth.Truth.TheVariants as truths
use Rattle.lb_base.specs.Compare.{equal_of}
use Rattle.lb_base.specs.Conditions.{is_null}

-- the condition is true
abbrev pub is_true : Truth → Bool
is_true truths.True = true
is_true _ = false

-- `=` holds of the value and one of the others
abbrev pub is_repeated : Value → List Value → Bool
is_repeated v vs = list_any (λ w. is_true (equal_of v w)) vs

-- no value is null, and none stands twice
abbrev pub are_keys : List Value → Bool
are_keys [] = true
are_keys (v ∷ vs) = not (is_null v) && not (is_repeated v vs) && are_keys vs

-- the value of a row at a place
abbrev pub value_at : ℕ → List Value → Value
value_at at row = slice_index_or row at values.Null

-- the rows may have their key at that place; without a key they may be any
abbrev pub keys_differ : Option ℕ → List (List Value) → Bool
keys_differ None rows = true
keys_differ (Some at) rows = are_keys (map (value_at at) rows)

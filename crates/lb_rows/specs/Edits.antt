-- The rows that an UPDATE and a DELETE leave: some replaced, some left out, by their places.
use Rattle.std.specs.Prelude.{ℕ, suc, Bool, ◌==◌, if◌then◌else◌, List, [], ◌∷◌, find, Option, None, Some}
use Rattle.std.specs.List.{list_any}
use Rattle.std.specs.List.Sorted.{IsNonDecreasingBy}
use Rattle.lb_base.specs.declared.value.Value.{Value}
use Rattle.lb_rows.specs.declared.edit.ChangedRow.{ChangedRow}

-- no place is above a later one
abbrev pub AreInOrder : {X : Type 0} → (X → ℕ) → List X → Type 0
AreInOrder place xs = IsNonDecreasingBy place xs

-- the place of the row that is changed
abbrev pub place_of : ChangedRow → ℕ
place_of change = change.place

-- the change is of the row at that place
abbrev pub is_change_at : ℕ → ChangedRow → Bool
is_change_at place change = change.place == place

-- the new row, where there is one, else the old one
abbrev pub new_or : List Value → Option ChangedRow → List Value
new_or old None = old
new_or old (Some change) = change.row

-- the row at a place after the changes: its new row, where it is changed, else itself
abbrev pub changed_row : List ChangedRow → ℕ → List Value → List Value
changed_row changes place row = new_or row (find (is_change_at place) changes)

-- rows after the changes, where the first has the given place
abbrev pub rows_changed_from : List ChangedRow → ℕ → List (List Value) → List (List Value)
rows_changed_from changes place [] = []
rows_changed_from changes place (row ∷ rows) = changed_row changes place row ∷ rows_changed_from changes (suc place) rows

-- the rows of a table after the changes; places count from 0
abbrev pub rows_changed : List ChangedRow → List (List Value) → List (List Value)
rows_changed changes rows = rows_changed_from changes 0 rows

-- the place is one of those
abbrev pub is_one_of : List ℕ → ℕ → Bool
is_one_of places place = list_any (λ p. p == place) places

-- rows without those at the places, where the first has the given place; the others keep their order
abbrev pub rows_remaining_from : List ℕ → ℕ → List (List Value) → List (List Value)
rows_remaining_from places place [] = []
rows_remaining_from places place (row ∷ rows) = if is_one_of places place then rows_remaining_from places (suc place) rows else row ∷ rows_remaining_from places (suc place) rows

-- the rows of a table without those at the places, which count from 0
abbrev pub rows_remaining : List ℕ → List (List Value) → List (List Value)
rows_remaining places rows = rows_remaining_from places 0 rows

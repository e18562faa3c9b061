-- The checks of one candidate, and the row that it makes.
use Rattle.std.specs.Prelude.{ℕ, suc, ◌&&◌, ◌||◌, ◌==◌, Bool, true, false, nat_lt, if◌then◌else◌, List, [], ◌∷◌, map, filter, length, slice_set, slice_index_or, unwrap_or, Option, Some, None, Ok, Err}
use Rattle.std.specs.List.{position_from}
use Rattle.lb_base.specs.declared.key.Ty.{Ty}
use Rattle.lb_base.specs.declared.key.Ty.TheVariants as types
use Rattle.lb_base.specs.declared.value.Value.{Value}
use Rattle.lb_base.specs.declared.value.Value.TheVariants as values
use Rattle.lb_base.specs.Conditions.{is_null}
use Rattle.lb_label.specs.declared.access.Fail.{Fail}
use Rattle.lb_cat.specs.declared.catalog.ColumnRec.{ColumnRec}
use Rattle.lb_cat.specs.declared.refusal.Refusal.TheVariants as refusals
use Rattle.lb_cat.specs.Catalog.{Table, Policy}
use Rattle.lb_mean.specs.Refused.{component_at}
use Rattle.lb_answer.specs.Basis.{Basis, shows_own}
use Rattle.lb_answer.specs.OrRefused.{Passed, or_refused, all_passed}
use Rattle.lb_cat.specs.OrRefused.{OrRefused, ◌>>=◌}

-- ---- 1. the values

-- the row with the values written at these places, in order
abbrev pub written : List ℕ → List Value → List Value → List Value
written (p ∷ ps) (v ∷ vs) row = written ps vs (slice_set row p v)
written _ _ row = row

-- the column at the place takes no null: it is NOT NULL or the key
abbrev pub needs_value : Table → ℕ → ColumnRec → Bool
needs_value t at c = c.not_null || is_place t.key
  where
    is_place : Option ℕ → Bool
    is_place None = false
    is_place (Some place) = place == at

-- NullValue
abbrev pub is_present : Table → ℕ → ColumnRec → Value → OrRefused Passed
is_present t at c v = if needs_value t at c && is_null v then Err (refusals.NullValue t.name c.name) else Ok tt

-- TooWide: a text has at most as many bytes as its column takes
abbrev pub is_narrow : Table → ColumnRec → ℕ → List ℕ → OrRefused Passed
is_narrow t c most text = if nat_lt most (length text) then Err (refusals.TooWide t.name c.name most) else Ok tt

-- the value of one column; the label column is passed over
abbrev pub value_fits : Table → ℕ → ColumnRec → Ty → Value → OrRefused Passed
value_fits t at c (types.Label policy) v = Ok tt
value_fits t at c (types.Text most) (values.Text text) = is_narrow t c most text
value_fits t at c ty v = is_present t at c v

-- NullValue and TooWide in column order, from a place on
abbrev pub values_fit : Table → ℕ → List ColumnRec → List Value → OrRefused Passed
values_fit t at (c ∷ columns) (v ∷ row) = value_fits t at c c.ty v >>= λ passed. values_fit t (suc at) columns row
values_fit t at _ _ = Ok tt

-- the whole new row
abbrev pub row_fits : Table → List Value → OrRefused Passed
row_fits t row = values_fit t 0 t.columns row

-- ---- the label column

-- the type of a label column
abbrev pub is_label_type : Ty → Bool
is_label_type (types.Label policy) = true
is_label_type _ = false

-- the place of the label column
abbrev pub label_place : Table → Option ℕ
label_place t = position_from (λ c. is_label_type c.ty) 0 t.columns

-- the label of a row
abbrev pub label_at : ℕ → List Value → Value
label_at place row = slice_index_or row place values.Null

-- the row with the label
abbrev pub with_label : Option ℕ → Value → List Value → List Value
with_label None l row = row
with_label (Some place) l row = slice_set row place l

-- The row before its values are written: INSERT begins with nulls, and UPDATE with the old row, whose label is taken away. So a
-- label that isn't given and one that is given as null are alike.
abbrev pub begun : Table → Option (List Value) → List Value
begun t None = map (λ c. values.Null) t.columns
begun t (Some old) = with_label (label_place t) values.Null old

-- the table's policy, and what the write rests on
module _ {S : Type 0} (p : Option Policy) (b : Basis S) (t : Table) where
  -- the values evaluated, and written into the row
  abbrev pub made : List ℕ → Option (List Value) → S → OrRefused (List Value)
  made places old source = or_refused (b.values source) >>= λ vs. Ok (written places vs (begun t old))

  -- ---- 2. the old label

  -- the name of the component that fails
  abbrev pub component_failing : Fail → List ℕ
  component_failing f = named p
    where
      named : Option Policy → List ℕ
      named None = []
      named (Some p) = component_at p f.component

  -- RowWrite where a component fails
  abbrev pub unless_unwritable : Option Fail → OrRefused Passed
  unless_unwritable None = Ok tt
  unless_unwritable (Some f) = Err (refusals.RowWrite (component_failing f) f.rule)

  -- RowWrite: the session can write the label that the row has; a table without a label column has no such test
  abbrev pub is_writable : List Value → OrRefused Passed
  is_writable row = by_label (label_place t)
    where
      by_label : Option ℕ → OrRefused Passed
      by_label None = Ok tt
      by_label (Some place) = unless_unwritable (b.fails (label_at place row))

  -- UPDATE and DELETE ask it of the old row
  abbrev pub old_writable : Option (List Value) → OrRefused Passed
  old_writable None = Ok tt
  old_writable (Some old) = is_writable old

  -- ---- 3. the label that is stored

  -- the session's label for writing, which isn't tested; NoWriteLabel where it holds none
  abbrev pub own_label : Option Value → OrRefused Value
  own_label None = Err (refusals.NoWriteLabel (unwrap_or t.policy []))
  own_label (Some l) = Ok l

  -- a label that can't be written refuses the statement where the policy says RESTRICT
  abbrev pub restricts : Option Policy → Bool
  restricts None = false
  restricts (Some p) = p.restrict

  -- a given label that the session can write is stored; else LabelWrite by RESTRICT, and the session's own by OVERRIDE
  abbrev pub given_label : Value → Option Fail → OrRefused Value
  given_label l None = Ok l
  given_label l (Some f) = if restricts p then Err (refusals.LabelWrite (component_failing f) f.rule) else own_label b.own_label

  -- the label that is stored for a given one, where null counts as not given
  abbrev pub stored_label : Value → OrRefused Value
  stored_label l = if is_null l then own_label b.own_label else given_label l (b.fails l)

  -- the row with the stored label at the label column's place
  abbrev pub labelled_at : Option ℕ → List Value → OrRefused (List Value)
  labelled_at None row = Ok row
  labelled_at (Some place) row = stored_label (label_at place row) >>= λ l. Ok (slice_set row place l)

  -- the row with the label that is stored
  abbrev pub labelled : List Value → OrRefused (List Value)
  labelled row = labelled_at (label_place t) row

  -- ---- 4. the masks of the values

  -- MaskedSource: each mask shows the column's own value
  abbrev pub masks_show_own : S → OrRefused Passed
  masks_show_own source = all_passed (map shows_own (b.masked source))

  -- ---- 5. the permissions

  -- the names of the enabled permissions, in the order of creation
  abbrev pub tried : List (List ℕ)
  tried = map (λ r. r.name) (filter (λ r. r.enabled) t.permissions)

  -- RowPermission where no permission is true
  abbrev pub if_permitted : Bool → OrRefused Passed
  if_permitted passes = if passes then Ok tt else Err (refusals.RowPermission t.name tried)

  -- RowPermission: where row access control is active, an enabled permission is true for the new row
  abbrev pub is_allowed : List Value → OrRefused Passed
  is_allowed row = if t.row_control then (or_refused (b.permits row) >>= if_permitted) else Ok tt

  -- ---- the five in order

  -- the row that a candidate makes, from its old row if it has one
  abbrev pub new_row : List ℕ → Option (List Value) → S → OrRefused (List Value)
  new_row places old source = do
    row ← made places old source
    fits ← row_fits t row
    writable ← old_writable old
    new ← labelled row
    own ← masks_show_own source
    allowed ← is_allowed new
    Ok new

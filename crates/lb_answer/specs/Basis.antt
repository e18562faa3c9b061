-- What a write rests on: which rows the session sees, keeps, may write and may leave, and what its values are.
use Rattle.std.specs.Prelude.{ℕ, Bool, if◌then◌else◌, List, Option, Ok, Err}
use Rattle.lb_base.specs.declared.value.Value.{Value}
use Rattle.lb_base.specs.declared.value.Value.TheVariants as values
use Rattle.lb_base.specs.Conditions.{is_null}
use Rattle.lb_base.specs.Evaluated.{Evaluated}
use Rattle.lb_label.specs.declared.access.Fail.{Fail}
use Rattle.lb_cat.specs.declared.refusal.Refusal.TheVariants as refusals
use Rattle.lb_answer.specs.Keys.{is_one_key}
use Rattle.lb_answer.specs.OrRefused.{Passed, or_refused}
use Rattle.lb_cat.specs.OrRefused.{OrRefused, ◌>>=◌}

-- a masked column in a value: its mask, the column's own value in the row that is used, and what the mask's CASE gives for that row
pub record MaskedValue : Type 0 where
  pub mask : List ℕ
  pub own : Evaluated Value
  pub shown : Evaluated Value

-- what a write of the session rests on, whose rows are made from sources of the type S
pub record Basis (S : Type 0) : Type 0 where
  -- the row is visible, and WHERE is true for it
  pub sees : List Value → Evaluated Bool
  pub keeps : List Value → Evaluated Bool
  -- the values that are written, in written order, and the masked columns in them
  pub values : S → Evaluated (List Value)
  pub masked : S → List MaskedValue
  -- a row permission allows the new row
  pub permits : List Value → Evaluated Bool
  -- the first component and rule by which the session can't write data with the label
  pub fails : Value → Option Fail
  -- the session's label for writing, if it has one
  pub own_label : Option Value

-- null is null's own value, and values of two kinds are never one
abbrev pub is_own : Value → Value → Bool
is_own values.Null shown = is_null shown
is_own own shown = is_one_key own shown

-- the mask shows the column's own value
abbrev pub shows_own : MaskedValue → OrRefused Passed
shows_own u = do
  own ← or_refused u.own
  shown ← or_refused u.shown
  if is_own own shown then Ok tt else Err (refusals.MaskedSource u.mask)

-- The rows that INSERT, UPDATE and DELETE leave in their target, or the refusal.
use Rattle.std.specs.Prelude.{ℕ, ◌*◌, nat_lt, if◌then◌else◌, List, ◌++◌, map, length, Option, Some, None, Ok, Err}
use Rattle.lb_base.specs.declared.value.Value.{Value}
use Rattle.lb_base.specs.Evaluated.{Evaluated}
use Rattle.lb_cat.specs.declared.refusal.LimitOf.TheVariants as limits
use Rattle.lb_cat.specs.declared.refusal.Refusal.TheVariants as refusals
use Rattle.lb_cat.specs.Catalog.{Table, Policy}
use Rattle.lb_answer.specs.OrRefused.{Passed, or_refused, all_made, all_passed}
use Rattle.lb_cat.specs.OrRefused.{OrRefused, ◌>>=◌}
use Rattle.lb_answer.specs.Basis.{Basis}
use Rattle.lb_answer.specs.Candidates.{Marked, candidates, taken_rows, other_rows}
use Rattle.lb_answer.specs.Checks.{new_row, is_writable}
use Rattle.lb_answer.specs.Keys.{has_double}

-- how many rows were written, and all rows of the table afterwards
pub record Written : Type 0 where
  pub count : ℕ
  pub rows : List (List Value)

-- how many cells a table has at most: its rows times its columns
abbrev pub cell_limit : ℕ
cell_limit = 131_072

-- after all rows: DuplicateKey, where two rows of the table have one key, visible or not
abbrev pub is_unique : Table → List (List Value) → OrRefused Passed
is_unique t rows = if has_double t.key rows then Err (refusals.DuplicateKey t.name) else Ok tt

-- and then Limit(CELLS), which only an INSERT can go past
abbrev pub is_within_cells : Table → List (List Value) → OrRefused Passed
is_within_cells t rows = if nat_lt cell_limit (length rows * length t.columns) then Err (refusals.Limit limits.Cells cell_limit) else Ok tt

module _ (p : Option Policy) (b : Basis (List Value)) (t : Table) where
  -- a candidate's new row stands in the place of its old one, and each other row stays as it was
  abbrev pub renewed : List ℕ → Marked → OrRefused (List Value)
  renewed places m = if m.taken then new_row p b t places (Some m.row) m.row else Ok m.row

  -- UPDATE, which sets the columns at these places
  abbrev pub updated : List ℕ → List (List Value) → OrRefused Written
  updated places rows = do
    marks ← or_refused (candidates b rows)
    news ← all_made (map (renewed places) marks)
    unique ← is_unique t news
    Ok (record { count = length (taken_rows marks); rows = news })

  -- DELETE, which asks of each candidate that it can be written
  abbrev pub deleted : List (List Value) → OrRefused Written
  deleted rows = do
    marks ← or_refused (candidates b rows)
    writable ← all_passed (map (is_writable p b t) (taken_rows marks))
    Ok (record { count = length (taken_rows marks); rows = other_rows marks })

module _ {S : Type 0} (p : Option Policy) (b : Basis S) (t : Table) where
  -- INSERT of the rows that these sources make, which go last; they give the columns at these places
  abbrev pub inserted : List ℕ → Evaluated (List S) → List (List Value) → OrRefused Written
  inserted places sources rows = do
    ss ← or_refused sources
    news ← all_made (map (new_row p b t places None) ss)
    unique ← is_unique t (rows ++ news)
    within ← is_within_cells t (rows ++ news)
    Ok (record { count = length news; rows = rows ++ news })

-- Which rows of the target an UPDATE or a DELETE takes.
use Rattle.std.specs.Prelude.{not, Bool, if◌then◌else◌, List, map, filter, Ok}
use Rattle.lb_base.specs.declared.value.Value.{Value}
use Rattle.lb_base.specs.Evaluated.{Evaluated, ◌>>=◌, each}
use Rattle.lb_answer.specs.Basis.{Basis}

-- a row of the target, and whether the write takes it
pub record Marked : Type 0 where
  pub row : List Value
  pub taken : Bool

-- the row is taken where it passes the test
abbrev pub mark : (List Value → Evaluated Bool) → List Value → Evaluated Marked
mark test row = test row >>= λ passes. Ok (record { row = row; taken = passes })

-- a taken row stays taken where it passes the test; another row isn't tested
abbrev pub mark_again : (List Value → Evaluated Bool) → Marked → Evaluated Marked
mark_again test m = if m.taken then mark test m.row else Ok m

-- each row of the table, and whether it is a candidate: all rows are seen first, and then WHERE is tested for the visible ones
abbrev pub candidates : {S : Type 0} → Basis S → List (List Value) → Evaluated (List Marked)
candidates b rows = each (map (mark b.sees) rows) >>= λ seen. each (map (mark_again b.keeps) seen)

-- the rows that are taken
abbrev pub taken_rows : List Marked → List (List Value)
taken_rows ms = map (λ m. m.row) (filter (λ m. m.taken) ms)

-- the rows that are left
abbrev pub other_rows : List Marked → List (List Value)
other_rows ms = map (λ m. m.row) (filter (λ m. not m.taken) ms)

-- What stands after a statement: the catalogue, the rows of the tables, and of each key when it was last touched.
use Rattle.std.specs.Prelude.{ℕ, ℤ, Bool, ◌+◌, List, [], ◌∷◌, find, Option, None, Some, is_some, if◌then◌else◌}
use Rattle.lb_base.specs.declared.key.Key.{Key}
use Rattle.lb_base.specs.declared.key.Key.TheVariants as keys
use Rattle.lb_stmt.specs.declared.write.Stmt.{Stmt}
use Rattle.lb_stmt.specs.declared.write.Stmt.TheVariants as stmts
use Rattle.lb_rows.specs.Tables.{Tables, Version, is_version, put_version}
use Rattle.lb_cat.specs.Catalog.{Cat, first_cat, table_named, policy_named, component_named, user_named}
use Rattle.lb_cat.specs.Credentials.{cred}
use Rattle.lb_cat.specs.Keys.{has_key}
use Rattle.lb_answer.specs.Answer.{Answered}
use Rattle.lb_journal.specs.Rules.{answered_to, changed}
use Rattle.lb_alter.specs.Refusing.{Changed}

-- The catalogue, the rows, and of each key its stamp: one more than the place of the last entry that touched it. It is 0 where no
-- entry touched the key, and where its record is not there.
pub record State : Type 0 where
  pub cat : Cat
  pub tables : Tables
  pub stamp : Key → ℕ

-- at first there is the user SECADMIN, and no table
abbrev pub first : State
first = record { cat = first_cat; tables = []; stamp = λ k. 0 }

-- the new rows of one table, where there are some
abbrev pub put_maybe : Option Version → Tables → Tables
put_maybe None T = T
put_maybe (Some v) T = put_version v T

-- a write touches the rows that it made
abbrev pub rows_touched : Option Version → List Key
rows_touched None = []
rows_touched (Some v) = keys.Rows v.name ∷ []

-- a query or a write leaves the catalogue as it was
abbrev pub answered : Cat → Tables → Answered → Changed
answered C T a = record { cat = C; tables = put_maybe a.table T; touched = rows_touched a.table; reply = a.reply }

-- what a statement of the user with these groups, on that day, answers and leaves
abbrev pub effect : Cat → Tables → List ℕ → List (List ℕ) → ℤ → Stmt → Changed
effect C T user groups day (stmts.Change c) = changed C T user c
effect C T user groups day s = answered C T (answered_to C (cred C user groups) T day s)

-- the same in a state
abbrev pub step : State → List ℕ → List (List ℕ) → ℤ → Stmt → Changed
step S user groups day s = effect S.cat S.tables user groups day s

-- the key has a record; the rows of a table are there as long as the table is
abbrev pub is_there : Cat → Tables → Key → Bool
is_there C T (keys.Table n) = is_some (table_named C n)
is_there C T (keys.Rows n) = is_some (find (is_version n) T)
is_there C T (keys.Policy n) = is_some (policy_named C n)
is_there C T (keys.Component n) = is_some (component_named C n)
is_there C T (keys.User n) = is_some (user_named C n)

-- the stamp of a key after the entry at that place, which touched it or not, where its record is there or not
abbrev pub stamp_after : Bool → Bool → ℕ → ℕ → ℕ
stamp_after there touched at stamp = if there then (if touched then at + 1 else stamp) else 0

-- what stands after the entry at that place, which left this
abbrev pub left_by : ℕ → (Key → ℕ) → Changed → State
left_by at stamp d = record { cat = d.cat; tables = d.tables; stamp = λ k. stamp_after (is_there d.cat d.tables k) (has_key k d.touched) at (stamp k) }

-- what stands after the statement, which is the entry at that place
abbrev pub after : ℕ → State → List ℕ → List (List ℕ) → ℤ → Stmt → State
after at S user groups day s = left_by at S.stamp (step S user groups day s)

-- What stands after each statement: the catalogue, the rows, and the stamps of what was touched.
use Rattle.std.specs.Prelude.{ℕ, ℤ, Bool, true, false, ◌+◌, ◌||◌, ◌==◌, List, [], ◌∷◌, Option, None, Some, if◌then◌else◌}
use Rattle.std.specs.Str.{bytes_eq}
use Rattle.lb_base.specs.declared.key.Key.{Key}
use Rattle.lb_base.specs.declared.key.Key.TheVariants as keys
use Rattle.lb_stmt.specs.declared.write.Stmt.{Stmt}
use Rattle.lb_stmt.specs.declared.write.Stmt.TheVariants as stmts
use Rattle.lb_model.specs.declared.catalog.TableVersion.{TableVersion}
use Rattle.lb_cat.specs.declared.reply.Reply.{Reply}
use Rattle.lb_model.specs.Catalog.{Cat, Tables, put_maybe}
use Rattle.lb_model.specs.Answer.{Answered, answer}
use Rattle.lb_model.specs.Change.{Changed, change}

-- what stands: the catalogue, the rows, and of each key one more than the last place that touched it, else 0
pub record State : Type 0 where
  pub cat : Cat
  pub tables : Tables
  pub stamp : Key → ℕ

-- at first no table is there
abbrev pub first : State
first = record { cat = record { tables = [] }; tables = []; stamp = λ k. 0 }

-- a write touches the rows that it made
abbrev pub rows_touched : Option TableVersion → List Key
rows_touched None = []
rows_touched (Some v) = keys.Rows v.name ∷ []

-- a query or a write leaves the catalogue
abbrev pub answered : Cat → Tables → Answered → Changed
answered C T a = record { cat = C; tables = put_maybe a.table T; touched = rows_touched a.table; reply = a.reply }

-- what a statement of the user with these groups, on that day, answers and leaves
abbrev pub outcome : Cat → Tables → List ℕ → List (List ℕ) → ℤ → Stmt → Changed
outcome C T user groups day (stmts.Change c) = change C T user c
outcome C T user groups day s = answered C T (answer C T user s)

abbrev pub step : State → List ℕ → List (List ℕ) → ℤ → Stmt → Changed
step S user groups day s = outcome S.cat S.tables user groups day s

abbrev pub same_key : Key → Key → Bool
same_key (keys.Table m) (keys.Table n) = bytes_eq m n
same_key (keys.Rows m) (keys.Rows n) = bytes_eq m n
same_key (keys.Policy m) (keys.Policy n) = bytes_eq m n
same_key (keys.Component m) (keys.Component n) = bytes_eq m n
same_key (keys.User m) (keys.User n) = bytes_eq m n
same_key _ _ = false

abbrev pub has_key : Key → List Key → Bool
has_key k [] = false
has_key k (x ∷ xs) = same_key k x || has_key k xs

-- the stamps once the entry at that place has touched these keys
abbrev pub stamped : (Key → ℕ) → ℕ → List Key → Key → ℕ
stamped stamp at touched k = if has_key k touched then at + 1 else stamp k

-- what stands after the statement, which is the entry at that place
abbrev pub after : ℕ → State → List ℕ → List (List ℕ) → ℤ → Stmt → State
after at S user groups day s = record {
  cat = (step S user groups day s).cat;
  tables = (step S user groups day s).tables;
  stamp = stamped S.stamp at (step S user groups day s).touched;
}

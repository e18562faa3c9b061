-- The first refusal for names and the first for types, of a whole statement and of a permission or mask.
use Rattle.std.specs.Prelude.{ℕ, Bool, true, false, not, ◌&&◌, ◌==◌, if◌then◌else◌, List, [], ◌∷◌, ◌++◌, map, length, Option, Some, None, Ok, Err}
use Rattle.std.specs.List.{list_any, flat_map}
use Rattle.lb_tree.specs.declared.query.Tab.{Tab}
use Rattle.lb_tree.specs.declared.query.Expr.{Expr}
use Rattle.lb_tree.specs.declared.query.Cond.{Cond}
use Rattle.lb_stmt.specs.declared.write.Assignment.{Assignment}
use Rattle.lb_stmt.specs.declared.write.InsertSource.{InsertSource}
use Rattle.lb_stmt.specs.declared.write.InsertSource.TheVariants as sources
use Rattle.lb_stmt.specs.declared.write.Stmt.{Stmt}
use Rattle.lb_stmt.specs.declared.write.Stmt.TheVariants as stmts
use Rattle.lb_names.specs.declared.refused.Refused.{Refused}
use Rattle.lb_names.specs.declared.refused.Refused.TheVariants.{Unknown, Exists, Types}
use Rattle.lb_names.specs.Sights.{Name}
use Rattle.lb_names.specs.SortNames.{or_else}
use Rattle.lb_names.specs.StatementMarks.{over, target_of, marks_of, permission_marks, mask_marks}
use Rattle.lb_names.specs.Kinds.{Kind, is_label, takes}
use Rattle.lb_names.specs.Scopes.{Field, Catalogue, is_some, field_named, columns_of}
use Rattle.lb_names.specs.Passes.{holds, refusal_if, passes}
use Rattle.lb_names.specs.Typed.{Typed, ◌>>=◌, only_if}
use Rattle.lb_names.specs.Places.{Place, outermost}
use Rattle.lb_names.specs.Typing.{says, means}
use Rattle.lb_names.specs.OrderTyping.{select_typed}
use Rattle.lb_names.specs.Qualify.{qualified_cond, qualified_expr}

-- the refusal of a broken node
abbrev pub broken : {A : Type 0} → Typed A → Option Refused
broken (Ok x) = None
broken (Err at) = Some (Types at)

-- ---- where statements begin

-- WHERE of a write of that target
abbrev pub over_place : Tab → Place
over_place tab = record outermost { sight = over tab }

-- the right side of SET
abbrev pub set_place : Tab → Place
set_place tab = record outermost { sight = over tab; subqueries = false }

-- VALUES
abbrev pub values_place : Place
values_place = record outermost { subqueries = false }

-- a permission or mask on that table
abbrev pub stored_place : Tab → Place
stored_place tab = record outermost { sight = over tab; stored = true }

-- ---- target columns

-- one target column, after those before it: the table has it, and it doesn't stand twice
abbrev pub target_refused : List Field → List Name → Name → Option Refused
target_refused fields before n = if is_some (field_named n fields) then refusal_if (holds n before) (Exists n) else Some (Unknown n)

-- the first refusal of these target columns
abbrev pub targets_refused : List Field → List Name → List Name → Option Refused
targets_refused fields before [] = None
targets_refused fields before (n ∷ ns) = or_else (target_refused fields before n) (targets_refused fields (before ++ n ∷ []) ns)

-- where target columns are written
abbrev pub written_refused : List Field → Option (List Name) → Option Refused
written_refused fields None = None
written_refused fields (Some ns) = targets_refused fields [] ns

-- the columns that are given, all of the table's where none is written
abbrev pub given : List Field → Option (List Name) → List Name
given fields None = map (λ f. f.name) fields
given fields (Some ns) = ns

-- the kind of a column that may be missing
abbrev pub kind_in : Option Field → List Kind
kind_in None = []
kind_in (Some f) = f.kind ∷ []

-- the kind of the column with that name
abbrev pub kind_wanted : List Field → Name → List Kind
kind_wanted fields n = kind_in (field_named n fields)

-- the kinds of the columns with these names
abbrev pub kinds_wanted : List Field → List Name → List Kind
kinds_wanted fields ns = flat_map (kind_wanted fields) ns

-- a column of one of these kinds takes the value
abbrev pub is_taken_by : List Kind → Kind → Bool
is_taken_by wanted k = list_any (λ w. takes w k) wanted

module _ (C : Catalogue) where
  -- ---- INSERT

  -- the columns of the table
  abbrev pub fields_of : Name → List Field
  fields_of table = columns_of C (target_of table)

  -- each value has its column's kind
  abbrev pub values_typed : List Kind → List Expr → ℕ → Typed (Unit {0})
  values_typed (w ∷ ws) (e ∷ es) n = (means C e).kind values_place n >>= λ x. only_if (takes w x.0) n x >>= λ y. values_typed ws es y.1
  values_typed ws es n = Ok (tt, n)

  -- a row with too many or too few values is broken at its first one, unless a part of that is
  abbrev pub first_broken : List Expr → ℕ → Typed (Unit {0})
  first_broken [] n = Ok (tt, n)
  first_broken (e ∷ es) n = (means C e).kind values_place n >>= λ x. Err n

  -- a row of VALUES has as many values as there are columns
  abbrev pub row_typed : List Kind → List Expr → ℕ → Typed (Unit {0})
  row_typed ws es n = if length ws == length es then values_typed ws es n else first_broken es n

  -- each row in its turn
  abbrev pub rows_typed : List Kind → List (List Expr) → ℕ → Typed (Unit {0})
  rows_typed ws [] n = Ok (tt, n)
  rows_typed ws (es ∷ rows) n = row_typed ws es n >>= λ x. rows_typed ws rows x.1

  -- VALUES or the source query, for columns of these kinds
  abbrev pub source_types_refused : List Kind → InsertSource → Option Refused
  source_types_refused ws (sources.Rows rows) = broken (rows_typed ws rows 0)
  source_types_refused ws (sources.Query s) = broken (select_typed C s (Some ws))

  -- the kinds of the columns that an INSERT gives
  abbrev pub kinds_given : Name → Option (List Name) → List Kind
  kinds_given table columns = kinds_wanted (fields_of table) (given (fields_of table) columns)

  -- ---- UPDATE and DELETE

  -- each column = value in its turn
  abbrev pub assignments_typed : List Field → Place → List Assignment → ℕ → Typed (Unit {0})
  assignments_typed fields P [] n = Ok (tt, n)
  assignments_typed fields P (a ∷ rest) n = (means C a.value).kind P n >>= λ x. only_if (is_taken_by (kind_wanted fields a.column) x.0) n x >>= λ y. assignments_typed fields P rest y.1

  -- WHERE, where it is written
  abbrev pub where_typed : Place → Option Cond → ℕ → Typed (Unit {0})
  where_typed P None n = Ok (tt, n)
  where_typed P (Some c) n = (says C c).typed P n

  -- ---- statements

  -- the first refusal of target columns
  abbrev pub target_columns_refused : Stmt → Option Refused
  target_columns_refused (stmts.Select s) = None
  target_columns_refused (stmts.Insert i) = written_refused (fields_of i.table) i.columns
  target_columns_refused (stmts.Update u) = targets_refused (columns_of C u.target) [] (map (λ a. a.column) u.assignments)
  target_columns_refused (stmts.Delete d) = None
  target_columns_refused (stmts.Change c) = None

  -- the first refusal for names
  abbrev pub names_refused : Stmt → Option Refused
  names_refused s = passes C false (marks_of s) (target_columns_refused s)

  -- the first refusal for types, of a statement whose names are not refused
  abbrev pub types_refused : Stmt → Option Refused
  types_refused (stmts.Select s) = broken (select_typed C s None)
  types_refused (stmts.Insert i) = source_types_refused (kinds_given i.table i.columns) i.source
  types_refused (stmts.Update u) = broken (assignments_typed (columns_of C u.target) (set_place u.target) u.assignments 0 >>= λ x. where_typed (over_place u.target) u.filter x.1)
  types_refused (stmts.Delete d) = broken (where_typed (over_place d.target) d.filter 0)
  types_refused (stmts.Change c) = None

  -- ---- permissions and masks on a table that is there

  -- the first refusal for names of the condition
  abbrev pub permission_names_refused : Tab → Cond → Option Refused
  permission_names_refused tab c = passes C true (permission_marks tab c) None

  -- the first refusal for types of the condition
  abbrev pub permission_types_refused : Tab → Cond → Option Refused
  permission_types_refused tab c = broken ((says C c).typed (stored_place tab) 0)

  -- the condition as it is stored
  abbrev pub permission_qualified : Tab → Cond → Cond
  permission_qualified tab c = qualified_cond C c (over tab).seen

  -- the first refusal for names of the CASE
  abbrev pub mask_names_refused : Tab → Expr → Option Refused
  mask_names_refused tab e = passes C true (mask_marks tab e) None

  -- the CASE has the kind of the masked column, which is no label; else it is broken itself
  abbrev pub mask_takes : List Kind → Kind → Bool
  mask_takes wanted k = list_any (λ w. not (is_label w) && takes w k) wanted

  -- of a mask of the column with that name
  abbrev pub mask_types_refused : Tab → Name → Expr → Option Refused
  mask_types_refused tab column e = broken ((means C e).kind (stored_place tab) 0 >>= λ x. only_if (mask_takes (kind_wanted (columns_of C tab) column) x.0) 0 x)

  -- the CASE as it is stored
  abbrev pub mask_qualified : Tab → Expr → Expr
  mask_qualified tab e = qualified_expr C e (over tab).seen

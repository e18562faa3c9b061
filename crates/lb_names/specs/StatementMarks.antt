-- The names that a whole statement or a stored condition writes, in text order, the target of a write first.
use Rattle.std.specs.Prelude.{List, [], ◌∷◌, ◌++◌, map, Option, Some, None}
use Rattle.std.specs.List.{flat_map}
use Rattle.lb_tree.specs.declared.query.Tab.{Tab}
use Rattle.lb_tree.specs.declared.query.Expr.{Expr}
use Rattle.lb_tree.specs.declared.query.Cond.{Cond}
use Rattle.lb_tree.specs.declared.query.Item.{Item}
use Rattle.lb_tree.specs.declared.query.Query.{Query}
use Rattle.lb_tree.specs.declared.query.SortKey.{SortKey}
use Rattle.lb_tree.specs.declared.query.Select.{Select}
use Rattle.lb_tree.specs.declared.query.Cond.TheViews.{out-Query}
use Rattle.lb_tree.specs.Folds.{chain_of}
use Rattle.lb_stmt.specs.declared.write.Assignment.{Assignment}
use Rattle.lb_stmt.specs.declared.write.InsertSource.{InsertSource}
use Rattle.lb_stmt.specs.declared.write.InsertSource.TheVariants as sources
use Rattle.lb_stmt.specs.declared.write.Stmt.{Stmt}
use Rattle.lb_stmt.specs.declared.write.Stmt.TheVariants as stmts
use Rattle.lb_names.specs.Sights.{Name, Sight, nothing, inside}
use Rattle.lb_names.specs.Marks.{enter, item, Marks, marked, mark_steps, tables_of, cond_marks, expr_marks, query_marks}
use Rattle.lb_names.specs.SortNames.{meant}

-- ---- queries with ORDER BY

-- the FROM items of a query, in text order
abbrev pub from_tables : Query → List Tab
from_tables q = tables_of (map (chain_of marked mark_steps) (out-Query q).from)

-- ORDER BY sees what the select list sees
abbrev pub order_sight : Select → Sight
order_sight s = inside nothing (from_tables s.query)

-- a name that stands for an item is no column
abbrev pub key_marks : Sight → Expr → Option Expr → Marks
key_marks v e (Some f) = []
key_marks v e None = expr_marks e v

-- of the key of a query with these items
abbrev pub marks_of_key : List Item → Sight → SortKey → Marks
marks_of_key items v k = key_marks v k.by (meant items k.by)

-- the names in a query with its ORDER BY
abbrev pub select_marks : Select → Marks
select_marks s = query_marks s.query nothing ++ flat_map (marks_of_key (out-Query s.query).items (order_sight s)) s.order

-- ---- writes and stored conditions

-- inside a write of that target, and inside a permission or mask on that table
abbrev pub over : Tab → Sight
over tab = inside nothing (tab ∷ [])

-- the target of an INSERT
abbrev pub target_of : Name → Tab
target_of table = record { table = table; correlation = None }

-- the target is the first item
abbrev pub target_marks : Tab → Marks
target_marks tab = enter (over tab).own ∷ item [] [] tab ∷ []

-- the names in WHERE, where it is written
abbrev pub where_marks : Sight → Option Cond → Marks
where_marks v None = []
where_marks v (Some c) = cond_marks c v

-- the value of column = value
abbrev pub assignment_marks : Sight → Assignment → Marks
assignment_marks v a = expr_marks a.value v

-- the rows of VALUES
abbrev pub rows_marks : List (List Expr) → Marks
rows_marks rows = flat_map (λ es. flat_map (λ e. expr_marks e nothing) es) rows

-- the names in VALUES or in the source query
abbrev pub source_marks : InsertSource → Marks
source_marks (sources.Rows rows) = rows_marks rows
source_marks (sources.Query s) = select_marks s

-- a query or a write; a change of the catalogue has its own rules for names
abbrev pub marks_of : Stmt → Marks
marks_of (stmts.Select s) = select_marks s
marks_of (stmts.Insert i) = target_marks (target_of i.table) ++ source_marks i.source
marks_of (stmts.Update u) = target_marks u.target ++ (flat_map (assignment_marks (over u.target)) u.assignments ++ where_marks (over u.target) u.filter)
marks_of (stmts.Delete d) = target_marks d.target ++ where_marks (over d.target) d.filter
marks_of (stmts.Change c) = []

-- the condition of a permission on that table
abbrev pub permission_marks : Tab → Cond → Marks
permission_marks tab c = enter (over tab).own ∷ cond_marks c (over tab)

-- the CASE of a mask on that table
abbrev pub mask_marks : Tab → Expr → Marks
mask_marks tab e = enter (over tab).own ∷ expr_marks e (over tab)

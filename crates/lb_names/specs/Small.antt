-- A small catalogue, and short ways to write trees, for examples.
use Rattle.std.specs.Prelude.{ℕ, pos, false, ◌&&◌, if◌then◌else◌, List, [], ◌∷◌, Option, Some, None}
use Rattle.std.specs.Str.{bytes_eq}
use Rattle.lb_tree.specs.declared.query.Aggregate.TheVariants as aggregates
use Rattle.lb_tree.specs.declared.query.Comparison.TheVariants as comparisons
use Rattle.lb_tree.specs.declared.query.Atom.TheVariants as atoms
use Rattle.lb_tree.specs.declared.query.Tab.{Tab}
use Rattle.lb_tree.specs.declared.query.Column.{Column}
use Rattle.lb_tree.specs.declared.query.Expr.{Expr}
use Rattle.lb_tree.specs.declared.query.Expr.TheVariants as exprs
use Rattle.lb_tree.specs.declared.query.Cond.{Cond}
use Rattle.lb_tree.specs.declared.query.Cond.TheVariants as conds
use Rattle.lb_tree.specs.declared.query.Item.{Item}
use Rattle.lb_tree.specs.declared.query.Item.TheVariants as items
use Rattle.lb_tree.specs.declared.query.Join.{Join}
use Rattle.lb_tree.specs.declared.query.Chain.{Chain}
use Rattle.lb_tree.specs.declared.query.Query.{Query}
use Rattle.lb_tree.specs.declared.query.SortKey.{SortKey}
use Rattle.lb_tree.specs.declared.query.Select.{Select}
use Rattle.lb_tree.specs.declared.query.Direction.TheVariants.{Ascending}
use Rattle.lb_tree.specs.declared.query.Cond.TheViews.{roll-Query, roll-Chain, roll-Signed, roll-Arm}
use Rattle.lb_stmt.specs.declared.write.Stmt.{Stmt}
use Rattle.lb_stmt.specs.declared.write.Stmt.TheVariants as stmts
use Rattle.lb_stmt.specs.declared.write.InsertSource.{InsertSource}
use Rattle.lb_stmt.specs.declared.write.Assignment.{Assignment}
use Rattle.lb_names.specs.Sights.{Name}
use Rattle.lb_names.specs.Kinds.{Kind, integer, text, date, label}
use Rattle.lb_names.specs.Scopes.{Field, Catalogue}

-- ---- names of one letter

-- the name A
abbrev pub a : Name
a = 65 ∷ []

-- the name B
abbrev pub b : Name
b = 66 ∷ []

-- the name C
abbrev pub c : Name
c = 67 ∷ []

-- the name D
abbrev pub d : Name
d = 68 ∷ []

-- the name K
abbrev pub k : Name
k = 75 ∷ []

-- the name L
abbrev pub l : Name
l = 76 ∷ []

-- the name P
abbrev pub p : Name
p = 80 ∷ []

-- the name Q
abbrev pub q : Name
q = 81 ∷ []

-- the name T
abbrev pub t : Name
t = 84 ∷ []

-- the name U
abbrev pub u : Name
u = 85 ∷ []

-- the name W
abbrev pub w : Name
w = 87 ∷ []

-- the name X
abbrev pub x : Name
x = 88 ∷ []

-- ---- the catalogue

-- a column with its kind
abbrev pub field : Name → Kind → Field
field n of_kind = record { name = n; kind = of_kind }

-- W (A INT), K (A INT, B VARCHAR(6)), U (A INT, B VARCHAR(6), D DATE) and T (A INT, L label of P)
abbrev pub tables : List (Name × List Field)
tables = (w, field a integer ∷ []) ∷ (k, field a integer ∷ field b text ∷ []) ∷ (u, field a integer ∷ field b text ∷ field d date ∷ []) ∷ (t, field a integer ∷ field l (label p) ∷ []) ∷ []

-- the columns of the table with that name
abbrev pub columns_in : Name → List (Name × List Field) → Option (List Field)
columns_in n [] = None
columns_in n (table ∷ rest) = if bytes_eq table.0 n then Some table.1 else columns_in n rest

-- the policy P with its label L; no text but the empty one is a label text
abbrev pub small : Catalogue
small = record {
  columns = λ n. columns_in n tables;
  has_policy = λ n. bytes_eq n p;
  has_label = λ n m. bytes_eq n p && bytes_eq m l;
  label_fault = λ n text. if bytes_eq text [] then None else Some 0;
}

-- ---- expressions and conditions

-- n
abbrev pub col : Name → Expr
col n = exprs.Atom (atoms.Column (record { correlation = None; name = n }))

-- y.n
abbrev pub of : Name → Name → Expr
of y n = exprs.Atom (atoms.Column (record { correlation = Some y; name = n }))

-- a literal
abbrev pub int : ℕ → Expr
int n = exprs.Atom (atoms.Int (pos n))

-- 1
abbrev pub one : Expr
one = int 1

-- 'x'
abbrev pub word : Expr
word = exprs.Atom (atoms.Text (120 ∷ []))

-- e + f
abbrev pub plus : Expr → Expr → Expr
plus e f = exprs.Sum (roll-Signed (record { minus = false; part = e }) ∷ roll-Signed (record { minus = false; part = f }) ∷ [])

-- e = f
abbrev pub equals : Expr → Expr → Cond
equals e f = conds.Compare comparisons.Equal e f

-- SUM(e)
abbrev pub sum_of : Expr → Expr
sum_of e = exprs.Aggregate aggregates.Sum e

-- CASE WHEN when THEN 1 END
abbrev pub one_where : Cond → Expr
one_where when = exprs.Case (roll-Arm (record { when = when; result = one }) ∷ []) None

-- ---- queries

-- n as a FROM item
abbrev pub table : Name → Tab
table n = record { table = n; correlation = None }

-- n AS y
abbrev pub alias : Name → Name → Tab
alias n y = record { table = n; correlation = Some y }

-- a table and its joins
abbrev pub chain : Tab → List Join → Chain
chain tab joins = roll-Chain (record { first = tab; joins = joins })

-- FROM tab
abbrev pub from : Tab → List Chain
from tab = chain tab [] ∷ []

-- an item without output name
abbrev pub show : Expr → Item
show e = items.Value e None

-- n
abbrev pub column : Name → Column
column n = record { correlation = None; name = n }

-- y.n
abbrev pub column_of : Name → Name → Column
column_of y n = record { correlation = Some y; name = n }

-- SELECT items FROM chains WHERE filter GROUP BY group HAVING having
abbrev pub grouped : List Item → List Chain → Option Cond → List Column → Option Cond → Query
grouped items from filter group having = roll-Query (record { distinct = false; items = items; from = from; filter = filter; group = group; having = having })

-- SELECT items FROM chains WHERE filter
abbrev pub query : List Item → List Chain → Option Cond → Query
query items from filter = grouped items from filter [] None

-- a key of ORDER BY
abbrev pub key : Expr → SortKey
key e = record { by = e; direction = Ascending }

-- a query with ORDER BY
abbrev pub ordered : Query → List SortKey → Select
ordered q keys = record { query = q; order = keys; fetch = None }

-- a query as a statement
abbrev pub select : Query → Stmt
select q = stmts.Select (ordered q [])

-- INSERT INTO table (columns) source
abbrev pub insert : Name → Option (List Name) → InsertSource → Stmt
insert table columns source = stmts.Insert (record { table = table; columns = columns; source = source })

-- n = e
abbrev pub set : Name → Expr → Assignment
set n e = record { column = n; value = e }

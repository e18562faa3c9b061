-- Short words for the trees of queries.
use Rattle.std.specs.Prelude.{ℕ, false, true, List, [], ◌∷◌, Option, Some, None, pos}
use Rattle.lb_tree.specs.declared.query.Aggregate.{Aggregate}
use Rattle.lb_tree.specs.declared.query.Atom.{Atom}
use Rattle.lb_tree.specs.declared.query.Atom.TheVariants as atoms
use Rattle.lb_tree.specs.declared.query.Column.{Column}
use Rattle.lb_tree.specs.declared.query.Comparison.{Comparison}
use Rattle.lb_tree.specs.declared.query.Comparison.TheVariants as comparisons
use Rattle.lb_tree.specs.declared.query.Direction.TheVariants.{Ascending, Descending}
use Rattle.lb_tree.specs.declared.query.Expr.{Expr}
use Rattle.lb_tree.specs.declared.query.Cond.{Cond}
use Rattle.lb_tree.specs.declared.query.Query.{Query}
use Rattle.lb_tree.specs.declared.query.Item.{Item}
use Rattle.lb_tree.specs.declared.query.Chain.{Chain}
use Rattle.lb_tree.specs.declared.query.Join.{Join}
use Rattle.lb_tree.specs.declared.query.Tab.{Tab}
use Rattle.lb_tree.specs.declared.query.Select.{Select}
use Rattle.lb_tree.specs.declared.query.SortKey.{SortKey}
use Rattle.lb_tree.specs.declared.query.Cond.TheOpen as layers
use Rattle.lb_tree.specs.declared.query.Cond.TheViews.{roll-Arm, roll-Cond, roll-Expr, roll-Item, roll-Join, roll-Query, roll-Signed, roll-Chain}

-- ---- expressions

-- an expression of one atom
abbrev pub atom : Atom → Expr
atom x = roll-Expr (layers.Expr-F.Atom x)

-- a bare column, and one with the correlation name before it
abbrev pub bare : List ℕ → Column
bare n = record { correlation = None; name = n }

-- a column with a correlation name
abbrev pub qualified : List ℕ → List ℕ → Column
qualified t n = record { correlation = Some t; name = n }

-- a column by its name alone
abbrev pub col : List ℕ → Expr
col n = atom (atoms.Column (bare n))

-- a column of that item
abbrev pub of : List ℕ → List ℕ → Expr
of t n = atom (atoms.Column (qualified t n))

-- an integer literal
abbrev pub int : ℕ → Expr
int n = atom (atoms.Int (pos n))

-- a text literal
abbrev pub text : List ℕ → Expr
text t = atom (atoms.Text t)

-- a + b
abbrev pub plus : Expr → Expr → Expr
plus a b = roll-Expr (layers.Expr-F.Sum (roll-Signed (record { minus = false; part = a }) ∷ roll-Signed (record { minus = false; part = b }) ∷ []))

-- CASE WHEN c THEN a ELSE b END
abbrev pub case : Cond → Expr → Expr → Expr
case c a b = roll-Expr (layers.Expr-F.Case (roll-Arm (record { when = c; result = a }) ∷ []) (Some b))

-- COALESCE of two
abbrev pub coalesce : Expr → Expr → Expr
coalesce a b = roll-Expr (layers.Expr-F.Coalesce (a ∷ b ∷ []))

-- an aggregate
abbrev pub aggregate : Aggregate → Expr → Expr
aggregate op e = roll-Expr (layers.Expr-F.Aggregate op e)

-- COUNT(*)
abbrev pub count_rows : Expr
count_rows = atom atoms.CountRows

-- ---- conditions

-- a comparison
abbrev pub compare : Comparison → Expr → Expr → Cond
compare by a b = roll-Cond (layers.Cond-F.Compare by a b)

-- `=`
abbrev pub equal : Expr → Expr → Cond
equal a b = compare comparisons.Equal a b

-- `>`
abbrev pub greater : Expr → Expr → Cond
greater a b = compare comparisons.Greater a b

-- AND
abbrev pub both : Cond → Cond → Cond
both a b = roll-Cond (layers.Cond-F.And (a ∷ b ∷ []))

-- NOT
abbrev pub no : Cond → Cond
no c = roll-Cond (layers.Cond-F.Not c)

-- IN with a list
abbrev pub in_list : Expr → List Expr → Cond
in_list a es = roll-Cond (layers.Cond-F.InList a es)

-- BETWEEN
abbrev pub between : Expr → Expr → Expr → Cond
between a low high = roll-Cond (layers.Cond-F.Between a low high)

-- EXISTS
abbrev pub exists : Query → Cond
exists q = roll-Cond (layers.Cond-F.Exists q)

-- `=` with a subquery
abbrev pub equal_query : Expr → Query → Cond
equal_query a q = roll-Cond (layers.Cond-F.CompareQuery comparisons.Equal a q)

-- ---- queries

-- an item without a name
abbrev pub item : Expr → Item
item e = roll-Item (layers.Item-F.Value e None)

-- a table of FROM, with its correlation name where it has one
abbrev pub tab : List ℕ → Tab
tab n = record { table = n; correlation = None }

-- a table with a correlation name
abbrev pub named : List ℕ → List ℕ → Tab
named n correlation = record { table = n; correlation = Some correlation }

-- one table
abbrev pub from : Tab → Chain
from t = roll-Chain (record { first = t; joins = [] })

-- a table with its joins
abbrev pub joined : Tab → List Join → Chain
joined t joins = roll-Chain (record { first = t; joins = joins })

-- INNER JOIN
abbrev pub inner_join : Tab → Cond → Join
inner_join t c = roll-Join (layers.Join-F.Inner t c)

-- LEFT JOIN
abbrev pub left_join : Tab → Cond → Join
left_join t c = roll-Join (layers.Join-F.Left t c)

-- SELECT items FROM tables WHERE condition
abbrev pub select : List Item → List Chain → Option Cond → Query
select items chains filter = roll-Query (record { distinct = false; items = items; from = chains; filter = filter; group = []; having = None })

-- SELECT DISTINCT items FROM tables
abbrev pub select_distinct : List Item → List Chain → Query
select_distinct items chains = roll-Query (record { distinct = true; items = items; from = chains; filter = None; group = []; having = None })

-- SELECT items FROM tables GROUP BY columns
abbrev pub select_groups : List Item → List Chain → List Column → Query
select_groups items chains columns = roll-Query (record { distinct = false; items = items; from = chains; filter = None; group = columns; having = None })

-- SELECT items FROM tables WHERE condition GROUP BY columns
abbrev pub select_groups_of : List Item → List Chain → Option Cond → List Column → Query
select_groups_of items chains filter columns = roll-Query (record { distinct = false; items = items; from = chains; filter = filter; group = columns; having = None })

-- SELECT items FROM tables WHERE condition GROUP BY columns HAVING condition
abbrev pub select_having : List Item → List Chain → Option Cond → List Column → Cond → Query
select_having items chains filter columns c = roll-Query (record { distinct = false; items = items; from = chains; filter = filter; group = columns; having = Some c })

-- ---- query statements

-- a query without ORDER BY
abbrev pub asked : Query → Select
asked q = record { query = q; order = []; fetch = None }

-- ORDER BY one key, ascending or descending
abbrev pub up : Expr → SortKey
up e = record { by = e; direction = Ascending }

-- a descending key
abbrev pub down : Expr → SortKey
down e = record { by = e; direction = Descending }

-- a query with one key
abbrev pub ordered : Query → SortKey → Select
ordered q k = record { query = q; order = k ∷ []; fetch = None }

-- the same with FETCH FIRST ROW ONLY
abbrev pub first_of : Query → SortKey → Select
first_of q k = record { query = q; order = k ∷ []; fetch = Some (pos 1) }

-- G (K VARCHAR(5), N BIGINT) with nulls in both columns: groups, HAVING, and aggregates over nulls and over no rows.
use Rattle.std.specs.Prelude.{◌≡◌, List, [], ◌∷◌, Option, Some, None, codes, negsuc}
use Rattle.lb_base.specs.declared.key.Ty.TheVariants as types
use Rattle.lb_base.specs.declared.value.Value.{Value}
use Rattle.lb_base.specs.declared.value.Value.TheVariants as values
use Rattle.lb_tree.specs.declared.query.Aggregate.TheVariants as aggregates
use Rattle.lb_tree.specs.declared.query.Cond.{Cond}
use Rattle.lb_tree.specs.declared.query.Expr.{Expr}
use Rattle.lb_tree.specs.declared.query.Item.{Item}
use Rattle.lb_tree.specs.declared.query.Query.{Query}
use Rattle.lb_stmt.specs.declared.write.Stmt.TheVariants as stmts
use Rattle.lb_cat.specs.declared.refusal.Refusal.TheVariants as refusals
use Rattle.lb_cat.specs.declared.reply.Reply.{Reply}
use Rattle.lb_cat.specs.declared.reply.Reply.TheVariants as replies
use Rattle.lb_cat.specs.Catalog.{Table}
use Rattle.lb_rows.specs.Tables.{Tables}
use Rattle.lb_worked.specs.Orders.{r, rows as sources}
use Rattle.lb_worked.specs.Trees.{bare, col, int, aggregate, count_rows, greater, no, item, tab, from, select, select_groups_of, select_having, asked}
use Rattle.lb_worked.specs.Tables.{column, plain, holding, number, greatest, word, with_tables, answered}

-- a table of texts and numbers
abbrev pub g : Table
g = plain (codes "G") (column (codes "K") (types.Text 5) ∷ column (codes "N") types.Int ∷ [])

-- a row of it
abbrev pub row : Value → Value → List Value
row k n = k ∷ n ∷ []

-- its rows, among them nulls
abbrev pub rows : Tables
rows = holding g (row (word (codes "b")) (number 1) ∷ row values.Null values.Null ∷ row (word (codes "a")) (number 2) ∷ row (word (codes "b")) values.Null
    ∷ row values.Null values.Null ∷ row (word (codes "a")) (number 2) ∷ []) ∷ sources

-- what a query is answered
abbrev pub reply : Query → Reply
reply q = (answered (with_tables (g ∷ r ∷ [])) rows (codes "ANN") (stmts.Select (asked q))).reply

-- the sum of the numbers
abbrev pub sum : Expr
sum = aggregate aggregates.Sum (col (codes "N"))

-- COUNT(*), COUNT(N), SUM(N)
abbrev pub totals : List Item
totals = item count_rows ∷ item (aggregate aggregates.Count (col (codes "N"))) ∷ item sum ∷ []

-- SELECT K, COUNT(*), COUNT(N), SUM(N) FROM G WHERE .. GROUP BY K
abbrev pub by_k : Option Cond → Query
by_k filter = select_groups_of (item (col (codes "K")) ∷ totals) (from (tab (codes "G")) ∷ []) filter (bare (codes "K") ∷ [])

-- groups stand in the order of their first rows and not sorted, and the two rows with null as K are one group; COUNT(*) counts rows
-- with null, and COUNT(N) doesn't; SUM over nulls alone is null and not 0
abbrev pub FirstRowsOrder : Type 0
FirstRowsOrder = reply (by_k None) ≡ replies.Rows ((word (codes "b") ∷ number 2 ∷ number 1 ∷ number 1 ∷ []) ∷ (values.Null ∷ number 2 ∷ number 0 ∷ values.Null ∷ []) ∷ (word (codes "a") ∷ number 2 ∷ number 2 ∷ number 4 ∷ []) ∷ [])

-- N > 100
abbrev pub none : Cond
none = greater (col (codes "N")) (int 100)

-- SELECT COUNT(*), COUNT(N), SUM(N) FROM G WHERE N > 100: without GROUP BY there is one group, also of no rows
abbrev pub OneGroup : Type 0
OneGroup = reply (select totals (from (tab (codes "G")) ∷ []) (Some none)) ≡ replies.Rows ((number 0 ∷ number 0 ∷ values.Null ∷ []) ∷ [])

-- the same with GROUP BY K: no row makes no group
abbrev pub NoGroup : Type 0
NoGroup = reply (by_k (Some none)) ≡ replies.Rows []

-- SELECT K FROM G GROUP BY K HAVING c
abbrev pub having : Cond → Reply
having c = reply (select_having (item (col (codes "K")) ∷ []) (from (tab (codes "G")) ∷ []) None (bare (codes "K") ∷ []) c)

-- HAVING SUM(N) > 1
abbrev pub HavingTrue : Type 0
HavingTrue = having (greater sum (int 1)) ≡ replies.Rows ((word (codes "a") ∷ []) ∷ [])

-- HAVING NOT SUM(N) > 1: for the group of null it is unknown, here as above; unknown taken for false would keep it here
abbrev pub HavingUnknown : Type 0
HavingUnknown = having (no (greater sum (int 1))) ≡ replies.Rows ((word (codes "b") ∷ []) ∷ [])

-- SELECT COUNT(DISTINCT N) FROM G: null is no value, which would make 3, and equal values count once
abbrev pub NullsNotCounted : Type 0
NullsNotCounted = reply (select (item (aggregate aggregates.CountDistinct (col (codes "N"))) ∷ []) (from (tab (codes "G")) ∷ []) None) ≡ replies.Rows ((number 2 ∷ []) ∷ [])

-- SELECT SUM(X) FROM R, over 1 and 9223372036854775807: a sum beyond 64 bits is refused, neither wrapped nor wider
abbrev pub SumOverflows : Type 0
SumOverflows = reply (select (item (aggregate aggregates.Sum (col (codes "X"))) ∷ []) (from (tab (codes "R")) ∷ []) None) ≡ replies.Refused refusals.Overflow

-- S (X BIGINT) with the rows 9223372036854775807, 1 and -5
abbrev pub summands : Table
summands = plain (codes "S") (column (codes "X") types.Int ∷ [])

-- SELECT SUM(X) FROM S: SUM adds in the order of the rows, so that it overflows at the second one; a wider sum would fit in the end
abbrev pub SumInRowOrder : Type 0
SumInRowOrder = (answered (with_tables (summands ∷ [])) (holding summands ((number greatest ∷ []) ∷ (number 1 ∷ []) ∷ (values.Int (negsuc 4) ∷ []) ∷ []) ∷ []) (codes "ANN")
    (stmts.Select (asked (select (item (aggregate aggregates.Sum (col (codes "X"))) ∷ []) (from (tab (codes "S")) ∷ []) None)))).reply ≡ replies.Refused refusals.Overflow

-- SELECT MAX(X) FROM R: other aggregates of the same column don't add
abbrev pub MaxFits : Type 0
MaxFits = reply (select (item (aggregate aggregates.Max (col (codes "X"))) ∷ []) (from (tab (codes "R")) ∷ []) None) ≡ replies.Rows ((number greatest ∷ []) ∷ [])

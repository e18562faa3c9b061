-- R (A BIGINT, X BIGINT) with the rows 1, 1 and 2, 9223372036854775807: the order of work, and what stays unevaluated.
use Rattle.std.specs.Prelude.{◌≡◌, List, [], ◌∷◌, Some, None, codes, Ok, Err}
use Rattle.lb_base.specs.declared.key.Ty.TheVariants as types
use Rattle.lb_base.specs.Evaluated.{Evaluated}
use Rattle.lb_base.specs.declared.fault.Fault.TheVariants.{Overflow, ManyRows}
use Rattle.lb_base.specs.declared.value.Value.{Value}
use Rattle.lb_base.specs.declared.value.Value.TheVariants as values
use Rattle.lb_tree.specs.declared.query.Cond.{Cond}
use Rattle.lb_tree.specs.declared.query.Expr.{Expr}
use Rattle.lb_tree.specs.declared.query.Query.{Query}
use Rattle.lb_tree.specs.declared.query.Select.{Select}
use Rattle.lb_stmt.specs.declared.write.Stmt.TheVariants as stmts
use Rattle.lb_cat.specs.declared.refusal.Refusal.TheVariants as refusals
use Rattle.lb_cat.specs.declared.reply.Reply.{Reply}
use Rattle.lb_cat.specs.declared.reply.Reply.TheVariants as replies
use Rattle.lb_cat.specs.Catalog.{Table}
use Rattle.lb_rows.specs.Tables.{Tables}
use Rattle.lb_worked.specs.Trees.{col, of, int, plus, coalesce, equal, in_list, between, exists, equal_query, item, tab, named, from, joined, left_join, select, select_distinct, asked, up, down, first_of}
use Rattle.lb_worked.specs.Tables.{column, plain, holding, number, greatest, with_tables, answered, given_rows}

-- a table of two numbers
abbrev pub r : Table
r = plain (codes "R") (column (codes "A") types.Int ∷ column (codes "X") types.Int ∷ [])

-- its first row
abbrev pub one : List Value
one = number 1 ∷ number 1 ∷ []

-- its second row, with the greatest number
abbrev pub two : List Value
two = number 2 ∷ number greatest ∷ []

-- the rows of the tables
abbrev pub rows : Tables
rows = holding r (one ∷ two ∷ []) ∷ []

-- what ANN is answered
abbrev pub reply : Select → Reply
reply s = (answered (with_tables (r ∷ [])) rows (codes "ANN") (stmts.Select s)).reply

-- the column A
abbrev pub a : Expr
a = col (codes "A")

-- the column X
abbrev pub x : Expr
x = col (codes "X")

-- X + 1, which overflows in the second row
abbrev pub more : Expr
more = plus x (int 1)

-- what a query gives
abbrev pub gives : Select → Evaluated (List (List Value))
gives s = given_rows (with_tables (r ∷ [])) rows (codes "ANN") s

-- SELECT e FROM R WHERE ..
abbrev pub all : Expr → Query
all e = select (item e ∷ []) (from (tab (codes "R")) ∷ []) None

-- the query of an expression under a condition
abbrev pub those : Expr → Cond → Query
those e c = select (item e ∷ []) (from (tab (codes "R")) ∷ []) (Some c)

-- SELECT X + 1 FROM R ORDER BY A FETCH FIRST ROW ONLY: outputs come after the cut
abbrev pub OutputsLast : Type 0
OutputsLast = reply (first_of (all more) (up a)) ≡ replies.Rows ((number 2 ∷ []) ∷ [])

-- the same with DESC
abbrev pub LastFirst : Type 0
LastFirst = reply (first_of (all more) (down a)) ≡ replies.Refused refusals.Overflow

-- SELECT DISTINCT X + 1 FROM R ORDER BY 1 FETCH FIRST ROW ONLY: DISTINCT wants the outputs of all rows
abbrev pub DistinctFirst : Type 0
DistinctFirst = reply (first_of (select_distinct (item more ∷ []) (from (tab (codes "R")) ∷ [])) (up (int 1))) ≡ replies.Refused refusals.Overflow

-- SELECT A FROM R ORDER BY X + 1 FETCH FIRST ROW ONLY: the keys of all rows come before the cut
abbrev pub KeysBeforeCut : Type 0
KeysBeforeCut = reply (first_of (all a) (up more)) ≡ replies.Refused refusals.Overflow

-- SELECT X FROM R WHERE A IN (2, X + 1): IN stops at the first value that is equal
abbrev pub InStops : Type 0
InStops = reply (asked (those x (in_list a (int 2 ∷ more ∷ [])))) ≡ replies.Rows ((number greatest ∷ []) ∷ [])

-- SELECT X FROM R WHERE A BETWEEN 3 AND X + 1: the upper bound isn't evaluated below the lower one
abbrev pub BetweenStops : Type 0
BetweenStops = reply (asked (those x (between a (int 3) more))) ≡ replies.Rows []

-- SELECT COALESCE(A, X + 1) FROM R stops at the first value that isn't null
abbrev pub CoalesceStops : Type 0
CoalesceStops = reply (asked (all (coalesce a more))) ≡ replies.Rows ((number 1 ∷ []) ∷ (number 2 ∷ []) ∷ [])

-- SELECT A FROM R WHERE A = (SELECT X + 1 FROM R): all outputs come before the count of rows
abbrev pub ScalarEvaluatesAll : Type 0
ScalarEvaluatesAll = gives (asked (those a (equal_query a (all more)))) ≡ Err Overflow

-- SELECT A FROM R WHERE A = (SELECT X FROM R)
abbrev pub ScalarHasOneRow : Type 0
ScalarHasOneRow = gives (asked (those a (equal_query a (all x)))) ≡ Err ManyRows

-- SELECT A FROM R WHERE EXISTS (SELECT X + 1 FROM R): EXISTS evaluates no outputs
abbrev pub ExistsHasNoOutputs : Type 0
ExistsHasNoOutputs = reply (asked (those a (exists (all more)))) ≡ replies.Rows ((number 1 ∷ []) ∷ (number 2 ∷ []) ∷ [])

-- SELECT R.A, S.X FROM R LEFT JOIN R AS S ON R.X = S.A: a row without match goes with nulls
abbrev pub LeftJoinNulls : Type 0
LeftJoinNulls = gives (asked (select (item (of (codes "R") (codes "A")) ∷ item (of (codes "S") (codes "X")) ∷ [])
    (joined (tab (codes "R")) (left_join (named (codes "R") (codes "S")) (equal (of (codes "R") (codes "X")) (of (codes "S") (codes "A"))) ∷ []) ∷ []) None))
    ≡ Ok ((number 1 ∷ number 1 ∷ []) ∷ (number 2 ∷ values.Null ∷ []) ∷ [])

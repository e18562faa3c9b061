-- Q (A BIGINT, X BIGINT) with the row NULL, 9223372036854775807: which parts of a condition are evaluated.
use Rattle.std.specs.Prelude.{◌≡◌, [], ◌∷◌, Some, None, codes}
use Rattle.lb_base.specs.declared.key.Ty.TheVariants as types
use Rattle.lb_base.specs.declared.value.Value.TheVariants as values
use Rattle.lb_tree.specs.declared.query.Cond.{Cond}
use Rattle.lb_tree.specs.declared.query.Expr.{Expr}
use Rattle.lb_stmt.specs.declared.write.Stmt.TheVariants as stmts
use Rattle.lb_cat.specs.declared.refusal.Refusal.TheVariants as refusals
use Rattle.lb_cat.specs.declared.reply.Reply.{Reply}
use Rattle.lb_cat.specs.declared.reply.Reply.TheVariants as replies
use Rattle.lb_cat.specs.Catalog.{Table}
use Rattle.lb_rows.specs.Tables.{Tables}
use Rattle.lb_worked.specs.Trees.{col, int, plus, case, equal, greater, both, no, item, tab, from, select, asked}
use Rattle.lb_worked.specs.Tables.{column, plain, holding, number, greatest, with_tables, answered}

-- a table of two numbers
abbrev pub q : Table
q = plain (codes "Q") (column (codes "A") types.Int ∷ column (codes "X") types.Int ∷ [])

-- one row: a null, and the greatest number
abbrev pub rows : Tables
rows = holding q ((values.Null ∷ number greatest ∷ []) ∷ []) ∷ []

-- the column A
abbrev pub a : Expr
a = col (codes "A")

-- the column X
abbrev pub x : Expr
x = col (codes "X")

-- X + 1 > 0
abbrev pub overflows : Cond
overflows = greater (plus x (int 1)) (int 0)

-- A = 1
abbrev pub is_one : Cond
is_one = equal a (int 1)

-- what SELECT X FROM Q WHERE .. is answered
abbrev pub selects : Cond → Reply
selects c = (answered (with_tables (q ∷ [])) rows (codes "ANN") (stmts.Select (asked (select (item x ∷ []) (from (tab (codes "Q")) ∷ []) (Some c))))).reply

-- WHERE X + 1 > 0 AND A = 1 gives no row: the part without arithmetic comes first, and isn't true
abbrev pub SurePartFirst : Type 0
SurePartFirst = selects (both overflows is_one) ≡ replies.Rows []

-- WHERE A + 0 = 1 AND X + 1 > 0 gives no row: the parts that aren't sure go from left to right, and stop at unknown
abbrev pub StopsAtUnknown : Type 0
StopsAtUnknown = selects (both (equal (plus a (int 0)) (int 1)) overflows) ≡ replies.Rows []

-- WHERE NOT (A = 1 AND X + 1 > 0) overflows: elsewhere AND goes from left to right, and stops at false alone
abbrev pub UnderNot : Type 0
UnderNot = selects (no (both is_one overflows)) ≡ replies.Refused refusals.Overflow

-- WHERE X + 1 > 0 AND X = 1 + 1 overflows: a part with arithmetic isn't sure, though it names one column
abbrev pub NotSure : Type 0
NotSure = selects (both overflows (equal x (plus (int 1) (int 1)))) ≡ replies.Refused refusals.Overflow

-- SELECT CASE WHEN A = 1 AND X + 1 > 0 THEN 1 ELSE 0 END FROM Q overflows
abbrev pub InCase : Type 0
InCase = (answered (with_tables (q ∷ [])) rows (codes "ANN") (stmts.Select (asked (select (item (case (both is_one overflows) (int 1) (int 0)) ∷ []) (from (tab (codes "Q")) ∷ []) None)))).reply
    ≡ replies.Refused refusals.Overflow

-- EMP (NAME, SAL, BAND, D) with a mask M2 on NAME, which shows names of band 1 alone, and ONE (A): column masks.
use Rattle.std.specs.Prelude.{◌≡◌, [], ◌∷◌, Some, None, codes, Ok}
use Rattle.lb_base.specs.declared.key.Ty.TheVariants as types
use Rattle.lb_tree.specs.declared.query.Aggregate.TheVariants as aggregates
use Rattle.lb_tree.specs.declared.query.Expr.{Expr}
use Rattle.lb_tree.specs.declared.query.Select.{Select}
use Rattle.lb_stmt.specs.declared.write.Stmt.TheVariants as stmts
use Rattle.lb_cat.specs.declared.catalog.MaskRec.{MaskRec}
use Rattle.lb_cat.specs.declared.refusal.Refusal.TheVariants as refusals
use Rattle.lb_cat.specs.declared.reply.Reply.{Reply}
use Rattle.lb_cat.specs.declared.reply.Reply.TheVariants as replies
use Rattle.lb_cat.specs.Catalog.{Cat, Table}
use Rattle.lb_rows.specs.Tables.{Tables}
use Rattle.lb_worked.specs.Trees.{qualified, of, col, int, text, case, aggregate, count_rows, equal, item, tab, named, from, joined, left_join, select, select_distinct, select_groups, asked, down, ordered}
use Rattle.lb_worked.specs.Tables.{column, plain, masked_by, mask, holding, number, word, with_tables, answered, given_rows}

-- employees with their salaries
abbrev pub emp : Table
emp = plain (codes "EMP") (column (codes "NAME") (types.Text 20) ∷ column (codes "SAL") types.Int ∷ column (codes "BAND") types.Int ∷ column (codes "D") types.Int ∷ [])

-- a table of one column
abbrev pub ones : Table
ones = plain (codes "ONE") (column (codes "A") (types.Text 20) ∷ [])

-- M2: CASE WHEN BAND = 1 THEN NAME ELSE 'HIDDEN' END
abbrev pub m2 : MaskRec
m2 = mask (codes "M2") emp 0 (case (equal (of (codes "EMP") (codes "BAND")) (int 1)) (of (codes "EMP") (codes "NAME")) (text (codes "HIDDEN")))

-- M3: CASE WHEN D = 1 THEN SAL ELSE 0 END
abbrev pub m3 : MaskRec
m3 = mask (codes "M3") emp 1 (case (equal (of (codes "EMP") (codes "D")) (int 1)) (of (codes "EMP") (codes "SAL")) (int 0))

-- the catalogue, in which two masks protect the employees
abbrev pub cat : Cat
cat = with_tables (masked_by (m2 ∷ m3 ∷ []) emp ∷ ones ∷ [])

-- AL and CY are of band 1, and BO is of band 2
abbrev pub rows : Tables
rows = holding emp ((word (codes "AL") ∷ number 10 ∷ number 1 ∷ number 1 ∷ []) ∷ (word (codes "BO") ∷ number 20 ∷ number 2 ∷ number 1 ∷ []) ∷ (word (codes "CY") ∷ number 30 ∷ number 1 ∷ number 2 ∷ []) ∷ [])
    ∷ holding ones ((word (codes "ZZ") ∷ []) ∷ []) ∷ []

-- what CARL is answered
abbrev pub reply : Select → Reply
reply s = (answered cat rows (codes "CARL") (stmts.Select s)).reply

-- the column NAME
abbrev pub name : Expr
name = col (codes "NAME")

-- SELECT MAX(NAME) FROM EMP: an aggregate takes masked values
abbrev pub AggregatesMasked : Type 0
AggregatesMasked = reply (asked (select (item (aggregate aggregates.Max name) ∷ []) (from (tab (codes "EMP")) ∷ []) None)) ≡ replies.Rows ((word (codes "HIDDEN") ∷ []) ∷ [])

-- SELECT NAME FROM EMP ORDER BY NAME DESC: ORDER BY sorts by unmasked values
abbrev pub SortsUnmasked : Type 0
SortsUnmasked = reply (ordered (select (item name ∷ []) (from (tab (codes "EMP")) ∷ []) None) (down name))
    ≡ replies.Rows ((word (codes "CY") ∷ []) ∷ (word (codes "HIDDEN") ∷ []) ∷ (word (codes "AL") ∷ []) ∷ [])

-- SELECT NAME FROM EMP WHERE NAME = 'BO': conditions see unmasked values
abbrev pub FiltersUnmasked : Type 0
FiltersUnmasked = reply (asked (select (item name ∷ []) (from (tab (codes "EMP")) ∷ []) (Some (equal name (text (codes "BO")))))) ≡ replies.Rows ((word (codes "HIDDEN") ∷ []) ∷ [])

-- SELECT DISTINCT NAME FROM EMP: M2 names BAND, which isn't selected
abbrev pub DistinctRefused : Type 0
DistinctRefused = reply (asked (select_distinct (item name ∷ []) (from (tab (codes "EMP")) ∷ []))) ≡ replies.Refused (refusals.MaskGroup (codes "M2"))

-- SELECT DISTINCT BAND, NAME FROM EMP
abbrev pub DistinctAllowed : Type 0
DistinctAllowed = reply (asked (select_distinct (item (col (codes "BAND")) ∷ item name ∷ []) (from (tab (codes "EMP")) ∷ [])))
    ≡ replies.Rows ((number 1 ∷ word (codes "AL") ∷ []) ∷ (number 2 ∷ word (codes "HIDDEN") ∷ []) ∷ (number 1 ∷ word (codes "CY") ∷ []) ∷ [])

-- SELECT E1.NAME, COUNT(*) FROM EMP AS E1, EMP AS E2 GROUP BY E1.NAME, E2.BAND: a grouping column of another item doesn't help
abbrev pub PerItem : Type 0
PerItem = reply (asked (select_groups (item (of (codes "E1") (codes "NAME")) ∷ item count_rows ∷ []) (from (named (codes "EMP") (codes "E1")) ∷ from (named (codes "EMP") (codes "E2")) ∷ [])
    (qualified (codes "E1") (codes "NAME") ∷ qualified (codes "E2") (codes "BAND") ∷ []))) ≡ replies.Refused (refusals.MaskGroup (codes "M2"))

-- SELECT E1.NAME, E1.SAL, E2.NAME FROM EMP AS E1, EMP AS E2 GROUP BY E1.NAME, E1.BAND, E1.SAL, E2.NAME: E1.SAL is the first use
-- that is refused, but the first use of M2 stands before that of M3
abbrev pub FirstMask : Type 0
FirstMask = reply (asked (select_groups (item (of (codes "E1") (codes "NAME")) ∷ item (of (codes "E1") (codes "SAL")) ∷ item (of (codes "E2") (codes "NAME")) ∷ [])
    (from (named (codes "EMP") (codes "E1")) ∷ from (named (codes "EMP") (codes "E2")) ∷ [])
    (qualified (codes "E1") (codes "NAME") ∷ qualified (codes "E1") (codes "BAND") ∷ qualified (codes "E1") (codes "SAL") ∷ qualified (codes "E2") (codes "NAME") ∷ [])))
    ≡ replies.Refused (refusals.MaskGroup (codes "M2"))

-- SELECT ONE.A, E.NAME FROM ONE LEFT JOIN EMP AS E ON ONE.A = E.NAME: in the row of nulls the CASE decides
abbrev pub NullRow : Type 0
NullRow = given_rows cat rows (codes "CARL") (asked (select (item (of (codes "ONE") (codes "A")) ∷ item (of (codes "E") (codes "NAME")) ∷ [])
    (joined (tab (codes "ONE")) (left_join (named (codes "EMP") (codes "E")) (equal (of (codes "ONE") (codes "A")) (of (codes "E") (codes "NAME"))) ∷ []) ∷ []) None))
    ≡ Ok ((word (codes "ZZ") ∷ word (codes "HIDDEN") ∷ []) ∷ [])

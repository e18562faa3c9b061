-- PAY (NAME VARCHAR(20), SAL BIGINT) with a mask MS on SAL, which shows 0 to all but ANN: masks with DISTINCT, GROUP BY and HAVING.
use Rattle.std.specs.Prelude.{ℕ, ◌≡◌, List, [], ◌∷◌, None, codes}
use Rattle.lb_base.specs.declared.key.Ty.TheVariants as types
use Rattle.lb_tree.specs.declared.query.Aggregate.TheVariants as aggregates
use Rattle.lb_tree.specs.declared.query.Atom.TheVariants as atoms
use Rattle.lb_tree.specs.declared.query.Expr.{Expr}
use Rattle.lb_tree.specs.declared.query.Query.{Query}
use Rattle.lb_stmt.specs.declared.write.Stmt.TheVariants as stmts
use Rattle.lb_cat.specs.declared.catalog.MaskRec.{MaskRec}
use Rattle.lb_cat.specs.declared.reply.Reply.{Reply}
use Rattle.lb_cat.specs.declared.reply.Reply.TheVariants as replies
use Rattle.lb_cat.specs.Catalog.{Cat, Table}
use Rattle.lb_rows.specs.Tables.{Tables}
use Rattle.lb_worked.specs.Trees.{atom, bare, of, col, int, text, case, aggregate, count_rows, equal, greater, item, tab, from, select, select_distinct, select_groups, select_having, asked}
use Rattle.lb_worked.specs.Tables.{column, plain, masked_by, mask, holding, number, word, with_tables, answered}

-- names and salaries
abbrev pub pay : Table
pay = plain (codes "PAY") (column (codes "NAME") (types.Text 20) ∷ column (codes "SAL") types.Int ∷ [])

-- MS: CASE WHEN SESSION_USER = 'ANN' THEN SAL ELSE 0 END
abbrev pub ms : MaskRec
ms = mask (codes "MS") pay 1 (case (equal (atom atoms.SessionUser) (text (codes "ANN"))) (of (codes "PAY") (codes "SAL")) (int 0))

-- the catalogue, in which a mask protects the salaries
abbrev pub cat : Cat
cat = with_tables (masked_by (ms ∷ []) pay ∷ [])

-- AL and CY have one salary, and BO has another
abbrev pub rows : Tables
rows = holding pay ((word (codes "AL") ∷ number 10 ∷ []) ∷ (word (codes "BO") ∷ number 20 ∷ []) ∷ (word (codes "CY") ∷ number 10 ∷ []) ∷ []) ∷ []

-- what a user is answered
abbrev pub reply : List ℕ → Query → Reply
reply user q = (answered cat rows user (stmts.Select (asked q))).reply

-- the column SAL
abbrev pub sal : Expr
sal = col (codes "SAL")

-- SELECT DISTINCT SAL FROM PAY
abbrev pub different : Query
different = select_distinct (item sal ∷ []) (from (tab (codes "PAY")) ∷ [])

-- by CARL: DISTINCT compares unmasked values, so that two rows are left, which look alike; on masked values there would be one
abbrev pub DistinctUnmasked : Type 0
DistinctUnmasked = reply (codes "CARL") different ≡ replies.Rows ((number 0 ∷ []) ∷ (number 0 ∷ []) ∷ [])

-- by ANN, to whom the mask shows the salaries; a mask that asked for another session's user would show 0
abbrev pub DistinctShown : Type 0
DistinctShown = reply (codes "ANN") different ≡ replies.Rows ((number 10 ∷ []) ∷ (number 20 ∷ []) ∷ [])

-- SELECT SAL, COUNT(*) FROM PAY GROUP BY SAL, by CARL: groups are made of unmasked values; on masked ones there would be one of 3
abbrev pub GroupsUnmasked : Type 0
GroupsUnmasked = reply (codes "CARL") (select_groups (item sal ∷ item count_rows ∷ []) (from (tab (codes "PAY")) ∷ []) (bare (codes "SAL") ∷ []))
    ≡ replies.Rows ((number 0 ∷ number 2 ∷ []) ∷ (number 0 ∷ number 1 ∷ []) ∷ [])

-- SELECT COUNT(DISTINCT SAL) FROM PAY, by CARL: an aggregate of the select list takes masked values; unmasked there would be 2
abbrev pub CountsMasked : Type 0
CountsMasked = reply (codes "CARL") (select (item (aggregate aggregates.CountDistinct sal) ∷ []) (from (tab (codes "PAY")) ∷ []) None) ≡ replies.Rows ((number 1 ∷ []) ∷ [])

-- SELECT SAL FROM PAY GROUP BY SAL HAVING MIN(SAL) > 15, by CARL: an aggregate of HAVING takes unmasked values; masked none is above 15
abbrev pub HavingUnmasked : Type 0
HavingUnmasked = reply (codes "CARL") (select_having (item sal ∷ []) (from (tab (codes "PAY")) ∷ []) None (bare (codes "SAL") ∷ []) (greater (aggregate aggregates.Min sal) (int 15)))
    ≡ replies.Rows ((number 0 ∷ []) ∷ [])

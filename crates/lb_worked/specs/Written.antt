-- Small writes: the order of checks, keys, places, masked sources.
use Rattle.std.specs.Prelude.{◌≡◌, true, List, [], ◌∷◌, Some, None, codes}
use Rattle.lb_base.specs.declared.key.Ty.TheVariants as types
use Rattle.lb_base.specs.declared.value.Value.{Value}
use Rattle.lb_stmt.specs.declared.write.Stmt.{Stmt}
use Rattle.lb_cat.specs.declared.refusal.Refusal.TheVariants as refusals
use Rattle.lb_cat.specs.declared.reply.Verb.TheVariants as verbs
use Rattle.lb_cat.specs.Catalog.{Table}
use Rattle.lb_answer.specs.Answer.{Answered}
use Rattle.lb_worked.specs.Changes.{insert, insert_where, update, delete, wrote, refused}
use Rattle.lb_worked.specs.Masked.{emp, m2, rows as employees}
use Rattle.lb_worked.specs.Orders.{r, rows as sources}
use Rattle.lb_worked.specs.Trees.{col, int, text, plus, case, equal, greater}
use Rattle.lb_worked.specs.Tables.{column, plain, guarded_by, masked_by, holding, number, word, with_tables, answered}

-- K (ID BIGINT PRIMARY KEY, X BIGINT) with the rows 1, 10 and 2, 20
abbrev pub k : Table
k = record (plain (codes "K") (record (column (codes "ID") types.Int) { not_null = true } ∷ column (codes "X") types.Int ∷ [])) { key = Some 0 }

-- the first row
abbrev pub one : List Value
one = number 1 ∷ number 10 ∷ []

-- the second row
abbrev pub two : List Value
two = number 2 ∷ number 20 ∷ []

-- R (A BIGINT, X BIGINT) of specs/Orders has the rows 1, 1 and 2, 9223372036854775807
abbrev pub to_k : Stmt → Answered
to_k s = answered (with_tables (k ∷ r ∷ [])) (holding k (one ∷ two ∷ []) ∷ sources) (codes "ANN") s

-- INSERT INTO K SELECT 3, A FROM R: two new rows have one key
abbrev pub DoubledKey : Type 0
DoubledKey = to_k (insert (codes "K") (int 3 ∷ col (codes "A") ∷ []) (codes "R")) ≡ refused (refusals.DuplicateKey (codes "K"))

-- INSERT INTO K SELECT 1, X + 1 FROM R: the first row has an old key, but keys are compared after all rows
abbrev pub KeysAfterRows : Type 0
KeysAfterRows = to_k (insert (codes "K") (int 1 ∷ plus (col (codes "X")) (int 1) ∷ []) (codes "R")) ≡ refused refusals.Overflow

-- UPDATE K SET ID = ID + 1: the keys of all new rows are compared, and none with an old one
abbrev pub KeysOfNewRows : Type 0
KeysOfNewRows = to_k (update (codes "K") (codes "ID") (plus (col (codes "ID")) (int 1)) None) ≡ wrote verbs.Updated 2 k ((number 2 ∷ number 10 ∷ []) ∷ (number 3 ∷ number 20 ∷ []) ∷ [])

-- UPDATE K SET X = 5 WHERE ID = 1: the row keeps its place, and the other stays
abbrev pub KeepsPlaces : Type 0
KeepsPlaces = to_k (update (codes "K") (codes "X") (int 5) (Some (equal (col (codes "ID")) (int 1)))) ≡ wrote verbs.Updated 1 k ((number 1 ∷ number 5 ∷ []) ∷ two ∷ [])

-- DELETE FROM K WHERE ID = 1
abbrev pub LeavesOthers : Type 0
LeavesOthers = to_k (delete (codes "K") (equal (col (codes "ID")) (int 1))) ≡ wrote verbs.Deleted 1 k (two ∷ [])

-- INSERT INTO K SELECT A + 2, A FROM R: inserted rows go last
abbrev pub GoLast : Type 0
GoLast = to_k (insert (codes "K") (plus (col (codes "A")) (int 2) ∷ col (codes "A") ∷ []) (codes "R")) ≡ wrote verbs.Inserted 2 k (one ∷ two ∷ (number 3 ∷ number 1 ∷ []) ∷ (number 4 ∷ number 2 ∷ []) ∷ [])

-- W (V VARCHAR(1))
abbrev pub w : Table
w = plain (codes "W") (column (codes "V") (types.Text 1) ∷ [])

-- INSERT INTO W SELECT CASE WHEN X + 1 > 0 THEN 'ab' ELSE 'c' END FROM R: the checks of a row come before the values of the next one
abbrev pub RowByRow : Type 0
RowByRow = answered (with_tables (w ∷ r ∷ [])) (holding w [] ∷ sources) (codes "ANN") (insert (codes "W") (case (greater (plus (col (codes "X")) (int 1)) (int 0)) (text (codes "ab")) (text (codes "c")) ∷ []) (codes "R"))
    ≡ refused (refusals.TooWide (codes "W") (codes "V") 1)

-- INSERT INTO W SELECT 'a' FROM R where row access control is active and no permission is there
abbrev pub NoPermission : Type 0
NoPermission = answered (with_tables (guarded_by [] w ∷ r ∷ [])) (holding w [] ∷ sources) (codes "ANN") (insert (codes "W") (text (codes "a") ∷ []) (codes "R")) ≡ refused (refusals.RowPermission (codes "W") [])

-- KEPT (A VARCHAR(20)) beside EMP, whose NAME is masked
abbrev pub copy : Table
copy = plain (codes "KEPT") (column (codes "A") (types.Text 20) ∷ [])

-- what CARL is answered where the masked rows are copied
abbrev pub to_copy : Stmt → Answered
to_copy s = answered (with_tables (copy ∷ masked_by (m2 ∷ []) emp ∷ [])) (holding copy [] ∷ employees) (codes "CARL") s

-- INSERT INTO KEPT SELECT NAME FROM EMP: the mask shows another value for BO
abbrev pub MaskedSource : Type 0
MaskedSource = to_copy (insert (codes "KEPT") (col (codes "NAME") ∷ []) (codes "EMP")) ≡ refused (refusals.MaskedSource (codes "M2"))

-- INSERT INTO KEPT SELECT NAME FROM EMP WHERE BAND = 1: for these rows the mask shows the column's own value
abbrev pub OwnValues : Type 0
OwnValues = to_copy (insert_where (codes "KEPT") (col (codes "NAME")) (codes "EMP") (equal (col (codes "BAND")) (int 1)))
    ≡ wrote verbs.Inserted 2 copy ((word (codes "AL") ∷ []) ∷ (word (codes "CY") ∷ []) ∷ [])

-- R of specs/Orders with a permission P1, which asks for A = 2: new rows that a permission denies, each beside one that it allows.
use Rattle.std.specs.Prelude.{◌≡◌, [], ◌∷◌, None, codes}
use Rattle.lb_stmt.specs.declared.write.Stmt.{Stmt}
use Rattle.lb_cat.specs.declared.refusal.Refusal.TheVariants as refusals
use Rattle.lb_cat.specs.declared.reply.Verb.TheVariants as verbs
use Rattle.lb_answer.specs.Answer.{Answered}
use Rattle.lb_worked.specs.Changes.{insert_values, update, wrote, refused}
use Rattle.lb_worked.specs.Orders.{r, one, two, rows as numbers}
use Rattle.lb_worked.specs.Permitted.{p1}
use Rattle.lb_worked.specs.Trees.{int}
use Rattle.lb_worked.specs.Tables.{guarded_by, number, with_tables, answered}

-- what ANN is answered where the first permission guards the table
abbrev pub permitted : Stmt → Answered
permitted s = answered (with_tables (guarded_by (p1 ∷ []) r ∷ [])) numbers (codes "ANN") s

-- INSERT INTO R VALUES (2, 7)
abbrev pub RowAllowed : Type 0
RowAllowed = permitted (insert_values (codes "R") ((int 2 ∷ int 7 ∷ []) ∷ [])) ≡ wrote verbs.Inserted 1 r (one ∷ two ∷ (number 2 ∷ number 7 ∷ []) ∷ [])

-- INSERT INTO R VALUES (2, 7), (3, 7): the second row is denied, so that the first isn't written
abbrev pub RowDenied : Type 0
RowDenied = permitted (insert_values (codes "R") ((int 2 ∷ int 7 ∷ []) ∷ (int 3 ∷ int 7 ∷ []) ∷ [])) ≡ refused (refusals.RowPermission (codes "R") (codes "P1" ∷ []))

-- UPDATE R SET A = 3: the row that is seen may not leave the permission
abbrev pub RowMayNotLeave : Type 0
RowMayNotLeave = permitted (update (codes "R") (codes "A") (int 3) None) ≡ refused (refusals.RowPermission (codes "R") (codes "P1" ∷ []))

-- UPDATE R SET X = 3: the row that isn't seen stays as it is, and isn't counted
abbrev pub RowUnseenStays : Type 0
RowUnseenStays = permitted (update (codes "R") (codes "X") (int 3) None) ≡ wrote verbs.Updated 1 r (one ∷ (number 2 ∷ number 3 ∷ []) ∷ [])

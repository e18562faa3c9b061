-- Statements that are refused for lack of a privilege or by a mask, each beside one that is accepted.
use Rattle.std.specs.Prelude.{ℕ, ◌≡◌, false, true, List, [], ◌∷◌, Some, None, codes}
use Rattle.lb_stmt.specs.declared.write.Stmt.{Stmt}
use Rattle.lb_stmt.specs.declared.write.Stmt.TheVariants as stmts
use Rattle.lb_cat.specs.declared.catalog.Privileges.{Privileges}
use Rattle.lb_cat.specs.declared.refusal.NeededPrivilege.TheVariants as needed
use Rattle.lb_cat.specs.declared.refusal.Refusal.TheVariants as refusals
use Rattle.lb_cat.specs.declared.reply.Reply.TheVariants as replies
use Rattle.lb_cat.specs.declared.reply.Verb.TheVariants as verbs
use Rattle.lb_cat.specs.Catalog.{Cat, Table, no_user}
use Rattle.lb_answer.specs.Answer.{Answered}
use Rattle.lb_worked.specs.Changes.{update, delete, wrote, refused}
use Rattle.lb_worked.specs.Masked.{emp, m2, rows as employees}
use Rattle.lb_worked.specs.Orders.{r, one, two, rows as numbers}
use Rattle.lb_worked.specs.Trees.{col, int, text, count_rows, equal, item, tab, from, select, asked}
use Rattle.lb_worked.specs.Tables.{masked_by, number, word, with_tables, answered}

-- ---- privileges

-- no privilege
abbrev pub nothing : Privileges
nothing = record { select = false; insert = false; update = false; delete = false }

-- R, on which PUBLIC has no privilege
abbrev pub closed : Table
closed = record r { public = nothing }

-- ANN was granted SELECT and DELETE on R
abbrev pub private : Cat
private = record (with_tables (closed ∷ [])) { users = record (no_user (codes "ANN")) { privileges = record { table = codes "R"; privileges = record nothing { select = true; delete = true } } ∷ [] } ∷ [] }

-- what a user is answered
abbrev pub by : List ℕ → Stmt → Answered
by user s = answered private numbers user s

-- SELECT COUNT(*) FROM R
abbrev pub count : Stmt
count = stmts.Select (asked (select (item count_rows ∷ []) (from (tab (codes "R")) ∷ []) None))

-- by ANN
abbrev pub MaySelect : Type 0
MaySelect = (by (codes "ANN") count).reply ≡ replies.Rows ((number 2 ∷ []) ∷ [])

-- by BOB, who isn't shown an empty table either
abbrev pub MayNotSelect : Type 0
MayNotSelect = by (codes "BOB") count ≡ refused (refusals.Privilege needed.Select (codes "R"))

-- UPDATE R SET X = 5 by ANN: one privilege doesn't stand for another
abbrev pub MayNotUpdate : Type 0
MayNotUpdate = by (codes "ANN") (update (codes "R") (codes "X") (int 5) None) ≡ refused (refusals.Privilege needed.Update (codes "R"))

-- DELETE FROM R WHERE A = 1 by ANN
abbrev pub MayDelete : Type 0
MayDelete = by (codes "ANN") (delete (codes "R") (equal (col (codes "A")) (int 1))) ≡ wrote verbs.Deleted 1 r (two ∷ [])

-- UPDATE R SET X = 5 by SECADMIN, who created R
abbrev pub OwnerMay : Type 0
OwnerMay = by (codes "SECADMIN") (update (codes "R") (codes "X") (int 5) (Some (equal (col (codes "A")) (int 2)))) ≡ wrote verbs.Updated 1 r (one ∷ (number 2 ∷ number 5 ∷ []) ∷ [])

-- ---- masked sources in SET, where M2 shows names of band 1 alone

-- UPDATE EMP SET NAME = NAME WHERE BAND = ..
abbrev pub renamed : ℕ → Answered
renamed band = answered (with_tables (masked_by (m2 ∷ []) emp ∷ [])) employees (codes "CARL") (update (codes "EMP") (codes "NAME") (col (codes "NAME")) (Some (equal (col (codes "BAND")) (int band))))

-- BAND = 2: the mask shows another value for BO, and neither is stored
abbrev pub SetMasked : Type 0
SetMasked = renamed 2 ≡ refused (refusals.MaskedSource (codes "M2"))

-- BAND = 1: the mask shows the names of AL and CY as they are; a test without rows would refuse here too
abbrev pub SetOwn : Type 0
SetOwn = renamed 1 ≡ wrote verbs.Updated 2 emp ((word (codes "AL") ∷ number 10 ∷ number 1 ∷ number 1 ∷ []) ∷ (word (codes "BO") ∷ number 20 ∷ number 2 ∷ number 1 ∷ []) ∷ (word (codes "CY") ∷ number 30 ∷ number 1 ∷ number 2 ∷ []) ∷ [])

-- UPDATE EMP SET NAME = 'XX' WHERE NAME = 'BO': a masked column may be the target, and WHERE sees unmasked names
abbrev pub SetTarget : Type 0
SetTarget = answered (with_tables (masked_by (m2 ∷ []) emp ∷ [])) employees (codes "CARL") (update (codes "EMP") (codes "NAME") (text (codes "XX")) (Some (equal (col (codes "NAME")) (text (codes "BO")))))
    ≡ wrote verbs.Updated 1 emp ((word (codes "AL") ∷ number 10 ∷ number 1 ∷ number 1 ∷ []) ∷ (word (codes "XX") ∷ number 20 ∷ number 2 ∷ number 1 ∷ []) ∷ (word (codes "CY") ∷ number 30 ∷ number 1 ∷ number 2 ∷ []) ∷ [])

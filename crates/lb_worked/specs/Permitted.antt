-- R (A BIGINT, X BIGINT) with the rows 1, 1 and 2, 9223372036854775807, and O (B BIGINT) without rows: row permissions.
use Rattle.std.specs.Prelude.{◌≡◌, false, List, [], ◌∷◌, None, codes, pos, Ok, Err, if◌then◌else◌}
use Rattle.lb_base.specs.declared.key.Ty.TheVariants as types
use Rattle.lb_base.specs.Evaluated.{Evaluated}
use Rattle.lb_base.specs.declared.fault.Fault.TheVariants.{Overflow}
use Rattle.lb_base.specs.declared.value.Value.{Value}
use Rattle.lb_tree.specs.declared.query.Expr.{Expr}
use Rattle.lb_tree.specs.declared.query.Query.{Query}
use Rattle.lb_stmt.specs.declared.write.Stmt.TheVariants as stmts
use Rattle.lb_cat.specs.declared.catalog.PermissionRec.{PermissionRec}
use Rattle.lb_cat.specs.declared.reply.Reply.{Reply}
use Rattle.lb_cat.specs.declared.reply.Reply.TheVariants as replies
use Rattle.std.specs.Str.{bytes_eq}
use Rattle.lb_cat.specs.Catalog.{Cat, Table}
use Rattle.lb_cat.specs.Credentials.{cred}
use Rattle.lb_rows.specs.Tables.{Tables}
use Rattle.lb_mean.specs.Laws.{seen_rows}
use Rattle.lb_mean.specs.Output.{rows_told}
use Rattle.lb_mean.specs.Setting.{Setting, given}
use Rattle.lb_mean.specs.Visible.{guarded}
use Rattle.lb_worked.specs.Orders.{r, one, two}
use Rattle.lb_worked.specs.Trees.{of, col, int, plus, count_rows, equal, greater, item, tab, from, select, asked}
use Rattle.lb_worked.specs.Tables.{column, plain, guarded_by, permission, holding, number, with_tables, answered}

-- a table without rows
abbrev pub o : Table
o = plain (codes "O") (column (codes "B") types.Int ∷ [])

-- A = 2
abbrev pub p1 : PermissionRec
p1 = permission (codes "P1") r (equal (of (codes "R") (codes "A")) (int 2))

-- X + 1 > 0
abbrev pub p2 : PermissionRec
p2 = permission (codes "P2") r (greater (plus (of (codes "R") (codes "X")) (int 1)) (int 0))

-- the catalogue with these permissions on R
abbrev pub cat : List PermissionRec → Cat
cat ps = with_tables (guarded_by ps r ∷ o ∷ [])

-- the rows of the tables
abbrev pub rows : Tables
rows = holding r (one ∷ two ∷ []) ∷ holding o [] ∷ []

-- the rows of R that a session sees under these permissions
abbrev pub sees : List PermissionRec → Evaluated (List (List Value))
sees ps = seen_rows (cat ps) (cred (cat ps) (codes "ANN") []) rows (pos 0) (codes "R")

-- what a query is answered under these permissions
abbrev pub reply : List PermissionRec → Query → Reply
reply ps q = (answered (cat ps) rows (codes "ANN") (stmts.Select (asked q))).reply

-- SELECT e FROM R
abbrev pub all : Expr → Query
all e = select (item e ∷ []) (from (tab (codes "R")) ∷ []) None

-- the second row is saved by P1, which stands before P2
abbrev pub TrueBeforeFault : Type 0
TrueBeforeFault = sees (p1 ∷ p2 ∷ []) ≡ Ok (one ∷ two ∷ [])

-- in the other order P2 faults before P1 is tested
abbrev pub FaultBeforeTrue : Type 0
FaultBeforeTrue = sees (p2 ∷ p1 ∷ []) ≡ Err Overflow

-- a disabled permission saves no row
abbrev pub DisabledSavesNone : Type 0
DisabledSavesNone = sees (record p1 { enabled = false } ∷ p2 ∷ []) ≡ Err Overflow

-- a row for which the one permission is false isn't seen
abbrev pub FalseIsHidden : Type 0
FalseIsHidden = sees (p1 ∷ []) ≡ Ok (two ∷ [])

-- without a permission nothing is visible
abbrev pub NoPermission : Type 0
NoPermission = reply [] (all (col (codes "A"))) ≡ replies.Rows []

-- and COUNT(*) counts nothing
abbrev pub NothingToCount : Type 0
NothingToCount = reply [] (all count_rows) ≡ replies.Rows ((number 0 ∷ []) ∷ [])

-- a setting in which O has no rows and a permission of R faults
abbrev pub faulting : Setting
faulting = record (guarded (cat []) (cred (cat []) (codes "ANN") []) rows (pos 0)) {
  sources = λ n. if bytes_eq n (codes "R")
      then record { columns = []; rows = Err Overflow; shown = given }
      else record { columns = record { name = codes "B"; policy = None } ∷ []; rows = Ok []; shown = given };
}

-- SELECT O.B FROM O, R: all tables are seen before any row is joined, also where the first has no rows
abbrev pub SeenBeforeJoined : Type 0
SeenBeforeJoined = rows_told faulting (asked (select (item (of (codes "O") (codes "B")) ∷ []) (from (tab (codes "O")) ∷ from (tab (codes "R")) ∷ []) None)) ≡ Err Overflow

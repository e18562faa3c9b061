-- DOC (OWNER VARCHAR(10), N BIGINT) under a permission that asks who the session is: SESSION_USER, and the VERIFY functions.
use Rattle.std.specs.Prelude.{ℕ, ◌≡◌, List, [], ◌∷◌, None, codes}
use Rattle.lb_base.specs.declared.key.Ty.TheVariants as types
use Rattle.lb_base.specs.declared.value.Value.{Value}
use Rattle.lb_tree.specs.declared.query.Atom.TheVariants as atoms
use Rattle.lb_tree.specs.declared.query.Expr.{Expr}
use Rattle.lb_tree.specs.declared.query.Query.{Query}
use Rattle.lb_stmt.specs.declared.write.Stmt.TheVariants as stmts
use Rattle.lb_cat.specs.declared.catalog.PermissionRec.{PermissionRec}
use Rattle.lb_cat.specs.declared.reply.Reply.{Reply}
use Rattle.lb_cat.specs.declared.reply.Reply.TheVariants as replies
use Rattle.lb_cat.specs.Catalog.{Cat, Table, no_user, first_cat}
use Rattle.lb_rows.specs.Tables.{Tables}
use Rattle.lb_worked.specs.Trees.{atom, of, col, int, count_rows, equal, item, tab, from, select, asked}
use Rattle.lb_worked.specs.Tables.{column, plain, guarded_by, permission, holding, number, word, with_tables, answered}

-- documents with their owners
abbrev pub doc : Table
doc = plain (codes "DOC") (column (codes "OWNER") (types.Text 10) ∷ column (codes "N") types.Int ∷ [])

-- a document of ANN
abbrev pub anns : List Value
anns = word (codes "ANN") ∷ number 1 ∷ []

-- a document of BOB
abbrev pub bobs : List Value
bobs = word (codes "BOB") ∷ number 2 ∷ []

-- both documents
abbrev pub rows : Tables
rows = holding doc (anns ∷ bobs ∷ []) ∷ []

-- VERIFY_ROLE_FOR_USER(SESSION_USER, 'AUDIT', 'BOSS')
abbrev pub role : Expr
role = atom (atoms.VerifyRole (codes "AUDIT" ∷ codes "BOSS" ∷ []))

-- VERIFY_GROUP_FOR_USER(SESSION_USER, 'AUDIT', 'BOSS')
abbrev pub group : Expr
group = atom (atoms.VerifyGroup (codes "AUDIT" ∷ codes "BOSS" ∷ []))

-- PO: OWNER = SESSION_USER
abbrev pub po : PermissionRec
po = permission (codes "PO") doc (equal (of (codes "DOC") (codes "OWNER")) (atom atoms.SessionUser))

-- PR: VERIFY_ROLE_FOR_USER(SESSION_USER, 'AUDIT', 'BOSS') = 1
abbrev pub pr : PermissionRec
pr = permission (codes "PR") doc (equal role (int 1))

-- PG: VERIFY_GROUP_FOR_USER(SESSION_USER, 'AUDIT', 'BOSS') = 1
abbrev pub pg : PermissionRec
pg = permission (codes "PG") doc (equal group (int 1))

-- BOB has the role BOSS, and SECADMIN has SECADM
abbrev pub cat : PermissionRec → Cat
cat p = record (with_tables (guarded_by (p ∷ []) doc ∷ [])) { users = record (no_user (codes "BOB")) { roles = codes "BOSS" ∷ [] } ∷ first_cat.users }

-- what a user is answered under the permission
abbrev pub reply : PermissionRec → List ℕ → Query → Reply
reply p user q = (answered (cat p) rows user (stmts.Select (asked q))).reply

-- SELECT N FROM DOC
abbrev pub all : Query
all = select (item (col (codes "N")) ∷ []) (from (tab (codes "DOC")) ∷ []) None

-- SELECT SESSION_USER, N FROM DOC under PO, by ANN: the permission and the query see the session's own user, and not the table's owner
abbrev pub SeesOwn : Type 0
SeesOwn = reply po (codes "ANN") (select (item (atom atoms.SessionUser) ∷ item (col (codes "N")) ∷ []) (from (tab (codes "DOC")) ∷ []) None) ≡ replies.Rows ((word (codes "ANN") ∷ number 1 ∷ []) ∷ [])

-- SELECT COUNT(*) FROM DOC under PO, by SECADMIN, who created DOC: neither the owner nor SECADM is free of permissions
abbrev pub OwnerIsNotFree : Type 0
OwnerIsNotFree = reply po (codes "SECADMIN") (select (item count_rows ∷ []) (from (tab (codes "DOC")) ∷ []) None) ≡ replies.Rows ((number 0 ∷ []) ∷ [])

-- SELECT N FROM DOC under PR, by BOB: one role of those that are named is enough
abbrev pub OneRole : Type 0
OneRole = reply pr (codes "BOB") all ≡ replies.Rows ((number 1 ∷ []) ∷ (number 2 ∷ []) ∷ [])

-- by ANN, who has no role
abbrev pub NoRole : Type 0
NoRole = reply pr (codes "ANN") all ≡ replies.Rows []

-- under PG, by BOB: a role isn't a group of that name
abbrev pub RoleIsNoGroup : Type 0
RoleIsNoGroup = reply pg (codes "BOB") all ≡ replies.Rows []

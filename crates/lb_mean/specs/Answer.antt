-- What a query is answered.
use Rattle.std.specs.Prelude.{List, [], ◌∷◌, ◌++◌, map, Option, Some, None, Ok, Err, ℤ}
use Rattle.lb_base.specs.declared.fault.Fault.{Fault}
use Rattle.lb_base.specs.declared.fault.Fault.TheVariants.{Overflow, ManyRows, Kept}
use Rattle.lb_base.specs.declared.value.Value.{Value}
use Rattle.lb_base.specs.Evaluated.{Evaluated}
use Rattle.lb_tree.specs.declared.query.Select.{Select}
use Rattle.lb_stmt.specs.declared.write.Stmt.{Stmt}
use Rattle.lb_stmt.specs.declared.write.Stmt.TheVariants as stmts
use Rattle.lb_cat.specs.declared.cred.Cred.{Cred}
use Rattle.lb_cat.specs.declared.refusal.LimitOf.TheVariants as limits
use Rattle.lb_cat.specs.declared.refusal.NeededPrivilege.TheVariants as needed
use Rattle.lb_cat.specs.declared.refusal.Refusal.{Refusal}
use Rattle.lb_cat.specs.declared.refusal.Refusal.TheVariants as refusals
use Rattle.lb_cat.specs.declared.reply.Reply.{Reply}
use Rattle.lb_cat.specs.declared.reply.Reply.TheVariants as replies
use Rattle.lb_cat.specs.Catalog.{Cat, Table, Policy}
use Rattle.lb_names.specs.Mentions.{in_select, tables_in}
use Rattle.lb_rows.specs.Tables.{Tables}
use Rattle.lb_mean.specs.Queries.{kept_limit}
use Rattle.lb_mean.specs.Visible.{guarded}
use Rattle.lb_mean.specs.Output.{rows_told}
use Rattle.lb_mean.specs.Refused.{first_some, privilege_lacked, columns_refused, masks_refused}

-- The first refusal of a statement by names and then by types, which is defined apart: a function of the tables and policies
-- of the catalogue and of the statement alone.
abbrev pub Checks : Type 0
Checks = List Table → List Policy → Stmt → Option Refusal

-- the refusal that a fault of evaluation comes to
abbrev pub refusal_for : Fault → Refusal
refusal_for Overflow = refusals.Overflow
refusal_for ManyRows = refusals.ManyRows
refusal_for Kept = refusals.Limit limits.Kept kept_limit

-- the first refusal by privileges, protected columns and masks
abbrev pub access_refused : Cat → Cred → Select → Option Refusal
access_refused C c s = first_some (map (privilege_lacked C c needed.Select) (tables_in (in_select s)) ++ (columns_refused C c s ∷ masks_refused C s ∷ []))

-- the first refusal before evaluation: names, types, Privilege, ColumnRead, MaskGroup
abbrev pub query_refused : Checks → Cat → Cred → Select → Option Refusal
query_refused checks C c s = first_some (checks C.tables C.policies (stmts.Select s) ∷ access_refused C c s ∷ [])

-- the reply with the rows, or with the fault as a refusal
abbrev pub reply_with : Evaluated (List (List Value)) → Reply
reply_with (Ok rows) = replies.Rows rows
reply_with (Err fault) = replies.Refused (refusal_for fault)

-- the refusal where there is one, else the rows
abbrev pub unless_refused : Option Refusal → Evaluated (List (List Value)) → Reply
unless_refused (Some refusal) rows = replies.Refused refusal
unless_refused None rows = reply_with rows

-- what a query of the session is answered on that day
abbrev pub query_answer : Checks → Cat → Cred → Tables → ℤ → Select → Reply
query_answer checks C c T day s = unless_refused (query_refused checks C c s) (rows_told (guarded C c T day) s)

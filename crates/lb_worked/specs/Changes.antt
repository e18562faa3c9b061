-- Short words for writes.
use Rattle.std.specs.Prelude.{ℕ, List, [], ◌∷◌, map, Option, Some, None}
use Rattle.lb_base.specs.declared.value.Value.{Value}
use Rattle.lb_tree.specs.declared.query.Cond.{Cond}
use Rattle.lb_tree.specs.declared.query.Expr.{Expr}
use Rattle.lb_stmt.specs.declared.write.InsertSource.TheVariants as sources
use Rattle.lb_stmt.specs.declared.write.Stmt.{Stmt}
use Rattle.lb_stmt.specs.declared.write.Stmt.TheVariants as stmts
use Rattle.lb_cat.specs.declared.refusal.Refusal.{Refusal}
use Rattle.lb_cat.specs.declared.reply.Reply.TheVariants as replies
use Rattle.lb_cat.specs.declared.reply.Verb.{Verb}
use Rattle.lb_cat.specs.Catalog.{Table}
use Rattle.lb_answer.specs.Answer.{Answered}
use Rattle.lb_worked.specs.Trees.{item, tab, from, select, asked}
use Rattle.lb_worked.specs.Tables.{holding}

-- INSERT INTO n SELECT items FROM m
abbrev pub insert : List ℕ → List Expr → List ℕ → Stmt
insert n es m = stmts.Insert (record { table = n; columns = None; source = sources.Query (asked (select (map item es) (from (tab m) ∷ []) None)) })

-- INSERT INTO n (columns) SELECT items FROM m
abbrev pub insert_into : List ℕ → List (List ℕ) → List Expr → List ℕ → Stmt
insert_into n columns es m = stmts.Insert (record { table = n; columns = Some columns; source = sources.Query (asked (select (map item es) (from (tab m) ∷ []) None)) })

-- INSERT INTO n SELECT e FROM m WHERE c
abbrev pub insert_where : List ℕ → Expr → List ℕ → Cond → Stmt
insert_where n e m c = stmts.Insert (record { table = n; columns = None; source = sources.Query (asked (select (item e ∷ []) (from (tab m) ∷ []) (Some c))) })

-- INSERT INTO n VALUES rows
abbrev pub insert_values : List ℕ → List (List Expr) → Stmt
insert_values n rows = stmts.Insert (record { table = n; columns = None; source = sources.Rows rows })

-- UPDATE n SET column = e WHERE c
abbrev pub update : List ℕ → List ℕ → Expr → Option Cond → Stmt
update n column e c = stmts.Update (record { target = tab n; assignments = record { column = column; value = e } ∷ []; filter = c })

-- UPDATE n SET column = e, other = f
abbrev pub update_both : List ℕ → List ℕ → Expr → List ℕ → Expr → Stmt
update_both n column e other f = stmts.Update (record { target = tab n; assignments = record { column = column; value = e } ∷ record { column = other; value = f } ∷ []; filter = None })

-- DELETE FROM n WHERE c
abbrev pub delete : List ℕ → Cond → Stmt
delete n c = stmts.Delete (record { target = tab n; filter = Some c })

-- so many rows were written, and these rows are left
abbrev pub wrote : Verb → ℕ → Table → List (List Value) → Answered
wrote verb n t rows = record { reply = replies.Wrote verb n; table = Some (holding t rows) }

-- nothing was written
abbrev pub refused : Refusal → Answered
refused r = record { reply = replies.Refused r; table = None }

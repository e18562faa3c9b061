-- Rows are left exactly by writes.
use Rattle.std.proofs.Common.{ℕ, ◌≡◌, refl, List, Option, Some, None, Ok, Err}
use Rattle.lb_stmt.specs.declared.write.Stmt.TheVariants as stmts
use Rattle.lb_cat.specs.declared.refusal.Refusal.{Refusal}
use Rattle.lb_cat.specs.declared.reply.Verb.{Verb}
use Rattle.lb_cat.specs.declared.reply.Verb.TheVariants as verbs
use Rattle.lb_cat.specs.Catalog.{Table, table_named}
use Rattle.lb_base.specs.declared.value.Value.{Value}
use Rattle.lb_base.specs.Evaluated.{Evaluated}
use Rattle.lb_mean.specs.Answer.{query_refused, unless_refused as query_unless}
use Rattle.lb_mean.specs.Output.{rows_told}
use Rattle.lb_mean.specs.Visible.{guarded}
use Rattle.lb_answer.specs.Answer.{Answered, done, unless_refused, with_target, insert_into, update_in, delete_from}
use Rattle.lb_answer.specs.Before.{insert_refused, update_refused, delete_refused}
use Rattle.lb_cat.specs.OrRefused.{OrRefused}
use Rattle.lb_answer.specs.Writes.{Written}
use Rattle.lb_answer.specs.Laws.{is_write, has_version, WroteExactly}

abbrev Exact : Answered → Type 0
Exact a = is_write a.reply ≡ has_version a.table

told : (r : Option Refusal) (rows : Evaluated (List (List Value))) → is_write (query_unless r rows) ≡ has_version None
told (Some r) rows = refl
told None (Ok rows) = refl
told None (Err e) = refl

done_exact : (verb : Verb) (target : List ℕ) (out : OrRefused Written) → Exact (done verb target out)
done_exact verb target (Ok w) = refl
done_exact verb target (Err e) = refl

target_exact : (verb : Verb) (o : Option Table) (target : List ℕ) (f : Table → OrRefused Written) → Exact (with_target o target (λ t. done verb target (f t)))
target_exact verb None target f = refl
target_exact verb (Some t) target f = done_exact verb target (f t)

unless_exact : (r : Option Refusal) (a : Answered) → Exact a → Exact (unless_refused r a)
unless_exact (Some r) a h = refl
unless_exact None a h = h

pub wrote_exactly : WroteExactly
wrote_exactly checks C c T day (stmts.Select s) = told (query_refused checks C c s) (rows_told (guarded C c T day) s)
wrote_exactly checks C c T day (stmts.Insert i) = unless_exact (insert_refused checks C c i) (with_target (table_named C i.table) i.table (λ t. done verbs.Inserted i.table (insert_into C c T day i i.source t)))
    (target_exact verbs.Inserted (table_named C i.table) i.table (insert_into C c T day i i.source))
wrote_exactly checks C c T day (stmts.Update u) = unless_exact (update_refused checks C c u) (with_target (table_named C u.target.table) u.target.table (λ t. done verbs.Updated u.target.table (update_in C c T day u t)))
    (target_exact verbs.Updated (table_named C u.target.table) u.target.table (update_in C c T day u))
wrote_exactly checks C c T day (stmts.Delete d) = unless_exact (delete_refused checks C c d) (with_target (table_named C d.target.table) d.target.table (λ t. done verbs.Deleted d.target.table (delete_from C c T day d t)))
    (target_exact verbs.Deleted (table_named C d.target.table) d.target.table (delete_from C c T day d))
wrote_exactly checks C c T day (stmts.Change change) = refl

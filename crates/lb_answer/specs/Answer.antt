-- What a query or a write is answered, and the rows that a write leaves.
use Rattle.std.specs.Prelude.{ℕ, List, map, filter_map, Option, Some, None, Ok, Err, ℤ}
use Rattle.std.specs.List.{position_from}
use Rattle.lb_stmt.specs.declared.write.Delete.{Delete}
use Rattle.lb_stmt.specs.declared.write.Insert.{Insert}
use Rattle.lb_stmt.specs.declared.write.InsertSource.{InsertSource}
use Rattle.lb_stmt.specs.declared.write.InsertSource.TheVariants as sources
use Rattle.lb_stmt.specs.declared.write.Stmt.{Stmt}
use Rattle.lb_stmt.specs.declared.write.Stmt.TheVariants as stmts
use Rattle.lb_stmt.specs.declared.write.Update.{Update}
use Rattle.lb_cat.specs.declared.cred.Cred.{Cred}
use Rattle.lb_cat.specs.declared.refusal.Refusal.{Refusal}
use Rattle.lb_cat.specs.declared.refusal.Refusal.TheVariants as refusals
use Rattle.lb_cat.specs.declared.reply.Reply.{Reply}
use Rattle.lb_cat.specs.declared.reply.Reply.TheVariants as replies
use Rattle.lb_cat.specs.declared.reply.Verb.{Verb}
use Rattle.lb_cat.specs.declared.reply.Verb.TheVariants as verbs
use Rattle.lb_cat.specs.Catalog.{Cat, Table, table_named, is_column}
use Rattle.lb_rows.specs.Tables.{Tables, Version, rows_of}
use Rattle.lb_mean.specs.Answer.{Checks, query_answer}
use Rattle.lb_mean.specs.Ordered.{chosen_by}
use Rattle.lb_mean.specs.Refused.{policy_of_table}
use Rattle.lb_mean.specs.Visible.{guarded, unguarded}
use Rattle.lb_cat.specs.OrRefused.{OrRefused}
use Rattle.lb_answer.specs.Bases.{update_basis, delete_basis, values_basis, query_basis}
use Rattle.lb_answer.specs.Before.{insert_refused, update_refused, delete_refused}
use Rattle.lb_answer.specs.Writes.{Written, updated, deleted, inserted}

-- a reply, and where a write was done the rows that it leaves in its target
pub record Answered : Type 0 where
  pub reply : Reply
  pub table : Option Version

-- a refusal changes no row
abbrev pub refused_with : Refusal → Answered
refused_with refusal = record { reply = replies.Refused refusal; table = None }

-- what was done to how many rows, and the rows that the target has afterwards
abbrev pub done : Verb → List ℕ → OrRefused Written → Answered
done verb target (Ok w) = record { reply = replies.Wrote verb w.count; table = Some (record { name = target; rows = w.rows }) }
done verb target (Err refusal) = refused_with refusal

-- the first refusal where there is one
abbrev pub unless_refused : Option Refusal → Answered → Answered
unless_refused (Some refusal) answered = refused_with refusal
unless_refused None answered = answered

-- what is done with the target; one that isn't there is refused among the names
abbrev pub with_target : Option Table → List ℕ → (Table → Answered) → Answered
with_target None target write = refused_with (refusals.Unknown target)
with_target (Some t) target write = write t

-- the places of some columns
abbrev pub places_of : Table → List (List ℕ) → List ℕ
places_of t names = filter_map (λ n. position_from (is_column n) 0 t.columns) names

-- an INSERT without a list gives all columns in their order
abbrev pub places_given : Table → Option (List (List ℕ)) → List ℕ
places_given t None = places_of t (map (λ column. column.name) t.columns)
places_given t (Some names) = places_of t names

-- of a session on a day
module _ (C : Cat) (c : Cred) (T : Tables) (day : ℤ) where
  -- the rows that an INSERT leaves; its query is evaluated up to the cut, and each row or group is a candidate
  abbrev pub insert_into : Insert → InsertSource → Table → OrRefused Written
  insert_into i (sources.Rows rows) t =
      inserted (policy_of_table C t) (values_basis C c (unguarded C c T day) (guarded C c T day) t (policy_of_table C t)) t
      (places_given t i.columns) (Ok rows) (rows_of i.table T)
  insert_into i (sources.Query s) t =
      inserted (policy_of_table C t) (query_basis C c (unguarded C c T day) (guarded C c T day) t (policy_of_table C t) s) t
      (places_given t i.columns) (chosen_by (guarded C c T day) s) (rows_of i.table T)

  -- the rows that an UPDATE leaves
  abbrev pub update_in : Update → Table → OrRefused Written
  update_in u t =
      updated (policy_of_table C t) (update_basis C c (unguarded C c T day) (guarded C c T day) t (policy_of_table C t) u) t
      (places_of t (map (λ a. a.column) u.assignments)) (rows_of u.target.table T)

  -- the rows that a DELETE leaves
  abbrev pub delete_from : Delete → Table → OrRefused Written
  delete_from d t =
      deleted (policy_of_table C t) (delete_basis C c (unguarded C c T day) (guarded C c T day) t (policy_of_table C t) d) t
      (rows_of d.target.table T)

  -- what an INSERT is answered
  abbrev pub insert_answer : Checks → Insert → Answered
  insert_answer checks i = unless_refused (insert_refused checks C c i)
      (with_target (table_named C i.table) i.table (λ t. done verbs.Inserted i.table (insert_into i i.source t)))

  -- what an UPDATE is answered
  abbrev pub update_answer : Checks → Update → Answered
  update_answer checks u = unless_refused (update_refused checks C c u)
      (with_target (table_named C u.target.table) u.target.table (λ t. done verbs.Updated u.target.table (update_in u t)))

  -- what a DELETE is answered
  abbrev pub delete_answer : Checks → Delete → Answered
  delete_answer checks d = unless_refused (delete_refused checks C c d)
      (with_target (table_named C d.target.table) d.target.table (λ t. done verbs.Deleted d.target.table (delete_from d t)))

-- What a query or a write of the session is answered on that day. A change of the catalogue is neither: what it is answered
-- stands with the changes.
abbrev pub answer : Checks → Cat → Cred → Tables → ℤ → Stmt → Answered
answer checks C c T day (stmts.Select s) = record { reply = query_answer checks C c T day s; table = None }
answer checks C c T day (stmts.Insert i) = insert_answer C c T day checks i
answer checks C c T day (stmts.Update u) = update_answer C c T day checks u
answer checks C c T day (stmts.Delete d) = delete_answer C c T day checks d
answer checks C c T day (stmts.Change change) = record { reply = replies.Done; table = None }

-- Rows are left only by a write that was not refused, in a table that is there.
use Rattle.std.proofs.Common.{ℕ, ℤ, ◌≡◌, refl, subst, ap, List, [], ◌∷◌, Option, Some, None, Ok, Err, is_some, true, ◌++◌}
use Rattle.std.specs.List.{flat_map}
use Rattle.std.specs.Option.{option_or}
use Rattle.lb_stmt.specs.declared.write.Stmt.{Stmt}
use Rattle.lb_stmt.specs.declared.write.Stmt.TheVariants as stmts
use Rattle.lb_cat.specs.declared.cred.Cred.{Cred}
use Rattle.lb_cat.specs.declared.refusal.NeededPrivilege.TheVariants as needed
use Rattle.lb_cat.specs.declared.refusal.Refusal.{Refusal}
use Rattle.lb_cat.specs.declared.reply.Verb.{Verb}
use Rattle.lb_cat.specs.declared.reply.Verb.TheVariants as verbs
use Rattle.lb_cat.specs.Catalog.{Cat, Table, table_named}
use Rattle.lb_names.specs.Mentions.{in_assignment, in_source, in_where}
use Rattle.lb_names.specs.Statements.{names_refused, types_refused}
use Rattle.lb_rows.specs.Tables.{Tables, Version}
use Rattle.lb_mean.specs.Answer.{Checks}
use Rattle.lb_mean.specs.Refused.{first_some}
use Rattle.lb_answer.specs.Answer.{Answered, answer, done, unless_refused, with_target, insert_into, update_in, delete_from}
use Rattle.lb_answer.specs.Before.{privileges_refused, source_reads_refused, writes_refused, source_masks_refused, reads_refused, is_listed_column, is_set}
use Rattle.lb_cat.specs.OrRefused.{OrRefused}
use Rattle.lb_answer.specs.Writes.{Written}
use Rattle.lb_alter.specs.Named.{HasTable}
use Rattle.lb_alter.specs.Naming.{named_in, statement_refused}
use Rattle.lb_journal.proofs.Steady.{none_told}

-- the table in which rows are left is there, and the test refused nothing
pub record Wrote (C : Cat) (test : Option Refusal) (v : Version) : Type 0 where
  pub there : HasTable C v.name
  pub passed : test ≡ None

neither : {A : Type 0} (o p : Option A) → option_or o p ≡ None → (o ≡ None) × (p ≡ None)
neither None p e = (refl, e)
neither (Some x) p e = absurd cc

abbrev some_or : Version → Option Version → Version
some_or d None = d
some_or d (Some v) = v

module _ (C : Cat) where
  abbrev LeavesThere : Answered → Type 0
  LeavesThere a = (v : Version) → a.table ≡ Some v → HasTable C v.name

  done_there : (verb : Verb) (n : List ℕ) → HasTable C n → (out : OrRefused Written) → LeavesThere (done verb n out)
  done_there verb n h (Err r) v i = absurd cc
  done_there verb n h (Ok w) v i = subst (λ (x : Version). HasTable C x.name) (ap (some_or v) i) h

  target_there : (verb : Verb) (n : List ℕ) (f : Table → OrRefused Written) (o : Option Table) → table_named C n ≡ o → LeavesThere (with_target o n (λ t. done verb n (f t)))
  target_there verb n f None e v i = absurd cc
  target_there verb n f (Some t) e v i = done_there verb n (ap is_some e) (f t) v i

  -- the first test of a write that left rows refused nothing
  unless_wrote : (test : Option Refusal) (tests : List (Option Refusal)) (a : Answered) → LeavesThere a → (r : Option Refusal) → first_some (test ∷ tests) ≡ r → (v : Version) → (unless_refused r a).table ≡ Some v → Wrote C test v
  unless_wrote test tests a h (Some r) e v i = absurd cc
  unless_wrote test tests a h None e v i = record { there = h v i; passed = (neither test (first_some tests) e).0 }

  write_wrote : (test : Option Refusal) (tests : List (Option Refusal)) (verb : Verb) (n : List ℕ) (f : Table → OrRefused Written) (v : Version)
      → (unless_refused (first_some (test ∷ tests)) (with_target (table_named C n) n (λ t. done verb n (f t)))).table ≡ Some v → Wrote C test v
  write_wrote test tests verb n f v i =
      unless_wrote test tests (with_target (table_named C n) n (λ t. done verb n (f t))) (target_there verb n f (table_named C n) refl) (first_some (test ∷ tests)) refl v i

  pub wrote : (checks : Checks) (c : Cred) (T : Tables) (day : ℤ) (s : Stmt) (v : Version) → (answer checks C c T day s).table ≡ Some v → Wrote C (checks C.tables C.policies s) v
  wrote checks c T day (stmts.Select s) v e = absurd cc
  wrote checks c T day (stmts.Insert i) v e =
      write_wrote (checks C.tables C.policies (stmts.Insert i)) (privileges_refused C c needed.Insert i.table (in_source i.source) ∷ source_reads_refused C c i.source ∷ writes_refused C c (is_listed_column i.columns) i.table ∷ source_masks_refused C i.source ∷ [])
      verbs.Inserted i.table (insert_into C c T day i i.source) v e
  wrote checks c T day (stmts.Update u) v e =
      write_wrote (checks C.tables C.policies (stmts.Update u)) (privileges_refused C c needed.Update u.target.table (flat_map in_assignment u.assignments ++ in_where u.filter) ∷ reads_refused C c u.target u.assignments u.filter ∷ writes_refused C c (is_set u.assignments) u.target.table ∷ [])
      verbs.Updated u.target.table (update_in C c T day u) v e
  wrote checks c T day (stmts.Delete d) v e =
      write_wrote (checks C.tables C.policies (stmts.Delete d)) (privileges_refused C c needed.Delete d.target.table (in_where d.filter) ∷ reads_refused C c d.target [] d.filter ∷ writes_refused C c (λ column. true) d.target.table ∷ [])
      verbs.Deleted d.target.table (delete_from C c T day d) v e
  wrote checks c T day (stmts.Change s) v e = absurd cc

  -- where the rules of names and types refused nothing, those of types refused nothing
  pub types_passed : (s : Stmt) → statement_refused C.tables C.policies s ≡ None → types_refused (named_in C) s ≡ None
  types_passed s e = (neither (names_refused (named_in C) s) (types_refused (named_in C) s) (none_told (option_or (names_refused (named_in C) s) (types_refused (named_in C) s)) e)).1

-- What a write leaves is what the next one begins with.
use Rattle.std.proofs.Common.{ℕ, ℤ, ◌≡◌, refl, sym, subst, ap, true, List, [], ◌∷◌, Option, Some, None, Ok, Err, is_some}
use Rattle.std.specs.List.{AllByRecursion, AllZip}
use Rattle.lb_base.specs.declared.value.Value.{Value}
use Rattle.lb_stmt.specs.declared.write.Stmt.TheVariants as stmts
use Rattle.lb_cat.specs.declared.cred.Cred.{Cred}
use Rattle.lb_cat.specs.declared.refusal.Refusal.{Refusal}
use Rattle.lb_cat.specs.declared.reply.Verb.{Verb}
use Rattle.lb_cat.specs.declared.reply.Verb.TheVariants as verbs
use Rattle.lb_cat.specs.Catalog.{Cat, Table, Policy, table_named, policy_named, is_policy}
use Rattle.lb_names.specs.Scopes.{Field, Catalogue, listed}
use Rattle.lb_rows.specs.Tables.{Tables, Version, put_version, rows_in, rows_of}
use Rattle.lb_mean.specs.Answer.{Checks}
use Rattle.lb_answer.specs.Answer.{Answered, answer, done, unless_refused, with_target, insert_into, update_in, delete_from}
use Rattle.lb_answer.specs.Before.{insert_refused, update_refused, delete_refused}
use Rattle.lb_cat.specs.OrRefused.{OrRefused}
use Rattle.lb_answer.specs.Writes.{Written}
use Rattle.lb_alter.specs.Fits.{FitsTable, RowsFit}
use Rattle.lb_alter.specs.Laws.{AllTablesFit}
use Rattle.lb_alter.specs.Named.{HasTable}
use Rattle.lb_alter.specs.Labelled.{HasItsShape}
use Rattle.lb_alter.specs.Sound.{IsSound}
use Rattle.lb_alter.specs.Stored.{StoredRules}
use Rattle.lb_alter.proofs.SoundUsers.{all_found}
use Rattle.lb_alter.proofs.SoundTables.{put_case, found_put}
use Rattle.lb_kinds.specs.Agreement.{RowFits, LabelsFit}
use Rattle.lb_kinds.specs.Settings.{SameColumn, Knows, columns_in}
use Rattle.lb_fits.specs.Statements.{FitsAreKnown, WritesFit, StaysReady}
use Rattle.lb_fits.proofs.Columns.{loosely}
use Rattle.lb_fits.proofs.Putting.{rows_there}
use Rattle.lb_fits.proofs.Evaluated.{of_fields}

-- ---- rows are left in a table that is there

module _ (C : Cat) where
  abbrev LeavesThere : Answered → Type 0
  LeavesThere a = (v : Version) → a.table ≡ Some v → HasTable C v.name

  abbrev some_or : Version → Option Version → Version
  some_or d None = d
  some_or d (Some v) = v

  done_there : (verb : Verb) (n : List ℕ) → HasTable C n → (out : OrRefused Written) → LeavesThere (done verb n out)
  done_there verb n h (Err r) v i = absurd cc
  done_there verb n h (Ok w) v i = subst (λ (x : Version). HasTable C x.name) (ap (some_or v) i) h

  target_there : (verb : Verb) (n : List ℕ) (f : Table → OrRefused Written) (o : Option Table) → table_named C n ≡ o → LeavesThere (with_target o n (λ t. done verb n (f t)))
  target_there verb n f None e v i = absurd cc
  target_there verb n f (Some t) e v i = done_there verb n (ap is_some e) (f t) v i

  unless_there : (r : Option Refusal) (a : Answered) → LeavesThere a → LeavesThere (unless_refused r a)
  unless_there (Some r) a h v i = absurd cc
  unless_there None a h v i = h v i

  answer_there : (r : Option Refusal) (verb : Verb) (n : List ℕ) (f : Table → OrRefused Written) → LeavesThere (unless_refused r (with_target (table_named C n) n (λ t. done verb n (f t))))
  answer_there r verb n f = unless_there r (with_target (table_named C n) n (λ t. done verb n (f t))) (target_there verb n f (table_named C n) refl)

  left_there : (checks : Checks) (c : Cred) (T : Tables) (day : ℤ) (s : _) → LeavesThere (answer checks C c T day s)
  left_there checks c T day (stmts.Select s) v e = absurd cc
  left_there checks c T day (stmts.Insert i) v e = answer_there (insert_refused checks C c i) verbs.Inserted i.table (insert_into C c T day i i.source) v e
  left_there checks c T day (stmts.Update u) v e = answer_there (update_refused checks C c u) verbs.Updated u.target.table (update_in C c T day u) v e
  left_there checks c T day (stmts.Delete d) v e = answer_there (delete_refused checks C c d) verbs.Deleted d.target.table (delete_from C c T day d) v e
  left_there checks c T day (stmts.Change s) v e = absurd cc

-- ---- names and types know the rows that are left

module _ (C : Cat) where
  as_fields : (fields : List Field) (t : Table) → AllZip SameColumn fields t.columns → (rows : List (List Value)) → AllByRecursion (FitsTable C t) rows → AllByRecursion (RowFits (policy_named C) fields) rows
  as_fields fields t same [] h = tt
  as_fields fields t same (row ∷ rows) h = (of_fields C fields t.columns row same (loosely C t.columns row h.0), as_fields fields t same rows h.1)

module _ (N : Catalogue) (C : Cat) (T : Tables) (v : Version) (knows : Knows N C T) (fits : AllTablesFit C (put_version v T)) where
  abbrev Known : List ℕ → Option Version → Type 0
  Known n o = AllByRecursion (RowFits (policy_named C) (listed (N.columns n))) (rows_in o)

  its_rows : (o : Option Table) → table_named C v.name ≡ o → is_some o ≡ true → Known v.name (Some v)
  its_rows None e h = absurd cc
  its_rows (Some t) e h =
      let r : RowsFit C t (rows_of v.name (put_version v T)) = rows_there C (put_version v T) fits v.name t e in
      let q : RowsFit C t v.rows = subst (λ (o : Option Version). RowsFit C t (rows_in o)) (found_put (λ (x : Version). x.name) v T) r in
      let same : AllZip SameColumn (listed (N.columns v.name)) t.columns = subst (λ (o : Option Table). AllZip SameColumn (listed (N.columns v.name)) (columns_in o)) e (knows.columns v.name) in
      as_fields C (listed (N.columns v.name)) t same v.rows q.each

  known_again : HasTable C v.name → Knows N C (put_version v T)
  known_again there = record {
    columns = knows.columns;
    rows = λ n. put_case (λ (x : Version). x.name) (Known n) v T n (λ same. subst (λ (m : List ℕ). Known m (Some v)) same (its_rows (table_named C v.name) refl there)) (knows.rows n);
    labels = knows.labels;
  }

-- ---- names and types know the rows that fit

module _ (rules : StoredRules) (C : Cat) (s : IsSound rules C) where
  labels_fit : (n : List ℕ) (o : Option Policy) → policy_named C n ≡ o → LabelsFit o
  labels_fit n None e = tt
  labels_fit n (Some p) e = let h : HasItsShape C p = all_found (HasItsShape C) (is_policy n) C.policies p s.shapes e in h.labels

  rows_fit : (fields : List Field) (T : Tables) (fits : AllTablesFit C T) (n : List ℕ) (o : Option Table) → table_named C n ≡ o → AllZip SameColumn fields (columns_in o) → (table_named C n ≡ None → rows_of n T ≡ [])
      → AllByRecursion (RowFits (policy_named C) fields) (rows_of n T)
  rows_fit fields T fits n None e same none = subst (AllByRecursion (RowFits (policy_named C) fields)) (sym (none e)) tt
  rows_fit fields T fits n (Some t) e same none = let r : RowsFit C t (rows_of n T) = rows_there C T fits n t e in as_fields C fields t same (rows_of n T) r.each

pub fits_are_known : FitsAreKnown
fits_are_known rules N C T s fits columns none = record {
  columns = columns;
  rows = λ n. rows_fit rules C s (listed (N.columns n)) T fits n (table_named C n) refl (columns n) (none n);
  labels = λ n. labels_fit rules C s n (policy_named C n) refl;
}

pub stays_ready : WritesFit → StaysReady
stays_ready writes_fit rules N checks C c T day s begins days types v e =
    let fits : AllTablesFit C (put_version v T) = writes_fit rules N checks C c T day s begins days types v e in
    record {
      sound = begins.sound;
      tables = fits;
      masks = begins.masks;
      knows = known_again N C T v begins.knows fits (left_there C checks c T day s v e);
      credentials = begins.credentials;
      is_day = begins.is_day;
    }

-- The rows of one table are put in the place of those that it had.
use Rattle.std.proofs.Common.{ℕ, ◌≡◌, refl, sym, subst, ap, List, Option, Some, None, Ok, Err}
use Rattle.std.specs.Prelude.{find}
use Rattle.lb_cat.specs.declared.refusal.Refusal.{Refusal}
use Rattle.lb_cat.specs.declared.reply.Verb.{Verb}
use Rattle.lb_cat.specs.Catalog.{Cat, Table, table_named}
use Rattle.lb_rows.specs.Tables.{Tables, Version, is_version, put_version, rows_in, rows_of}
use Rattle.lb_answer.specs.Answer.{Answered, done, unless_refused, with_target}
use Rattle.lb_cat.specs.OrRefused.{OrRefused}
use Rattle.lb_answer.specs.Writes.{Written}
use Rattle.lb_alter.specs.Fits.{FitsRecord, RowsFit}
use Rattle.lb_alter.specs.Laws.{AllTablesFit}
use Rattle.lb_alter.proofs.Fitting.{each_from, each_to}
use Rattle.lb_alter.proofs.SoundTables.{put_case}
use Rattle.lb_fits.specs.Laws.{LeavesFit}

module _ (C : Cat) (T : Tables) (fits : AllTablesFit C T) where
  -- the rows of a table that is there
  pub rows_there : (n : List ℕ) (t : Table) → table_named C n ≡ Some t → RowsFit C t (rows_of n T)
  rows_there n t e = its_rows (find (is_version n) T) (subst (λ (o : Option Table). FitsRecord C o (find (is_version n) T)) e (each_from C T fits n))
    where
      its_rows : (o : Option Version) → FitsRecord C (Some t) o → RowsFit C t (rows_in o)
      its_rows None h = absurd h
      its_rows (Some v) h = h

  pub put_fits : (v : Version) (t : Table) → table_named C v.name ≡ Some t → RowsFit C t v.rows → AllTablesFit C (put_version v T)
  put_fits v t e h = each_to C (put_version v T) (λ n.
      put_case (λ (x : Version). x.name) (FitsRecord C (table_named C n)) v T n
      (λ same. subst (λ (o : Option Table). FitsRecord C o (Some v)) (sym (subst (λ (m : List ℕ). table_named C m ≡ Some t) same e)) h)
      (each_from C T fits n))

  abbrev some_or : Version → Option Version → Version
  some_or d None = d
  some_or d (Some v) = v

  done_fits : (verb : Verb) (n : List ℕ) (t : Table) → table_named C n ≡ Some t → (out : OrRefused Written) → ((w : Written) → out ≡ Ok w → RowsFit C t w.rows) → LeavesFit C T (done verb n out)
  done_fits verb n t e (Err r) h v i = absurd cc
  done_fits verb n t e (Ok w) h v i = subst (λ (x : Version). AllTablesFit C (put_version x T)) (ap (some_or v) i) (put_fits (record { name = n; rows = w.rows }) t e (h w refl))

  target_fits : (verb : Verb) (n : List ℕ) (f : Table → OrRefused Written) → ((t : Table) (w : Written) → table_named C n ≡ Some t → f t ≡ Ok w → RowsFit C t w.rows)
      → (o : Option Table) → table_named C n ≡ o → LeavesFit C T (with_target o n (λ t. done verb n (f t)))
  target_fits verb n f h None e v i = absurd cc
  target_fits verb n f h (Some t) e v i = done_fits verb n t e (f t) (λ w. h t w e) v i

  unless_fits : (r : Option Refusal) (a : Answered) → (r ≡ None → LeavesFit C T a) → LeavesFit C T (unless_refused r a)
  unless_fits (Some r) a h v i = absurd cc
  unless_fits None a h v i = h refl v i

  -- an answer that refuses, or leaves in the target rows that fit it
  pub answer_fits : (r : Option Refusal) (verb : Verb) (n : List ℕ) (f : Table → OrRefused Written) → (r ≡ None → (t : Table) (w : Written) → table_named C n ≡ Some t → f t ≡ Ok w → RowsFit C t w.rows)
      → LeavesFit C T (unless_refused r (with_target (table_named C n) n (λ t. done verb n (f t))))
  answer_fits r verb n f h = unless_fits r (with_target (table_named C n) n (λ t. done verb n (f t))) (λ e. target_fits verb n f (h e) (table_named C n) refl)

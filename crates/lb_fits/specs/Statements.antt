-- What is said of whole statements: a write keeps that all tables fit.
use Rattle.std.specs.Prelude.{ℕ, ℤ, ◌≡◌, List, [], Some, None}
use Rattle.std.specs.List.{AllZip}
use Rattle.lb_base.specs.Days.{IsDay}
use Rattle.lb_base.specs.declared.key.Key.{Key}
use Rattle.lb_stmt.specs.declared.write.Insert.{Insert}
use Rattle.lb_stmt.specs.declared.write.Stmt.{Stmt}
use Rattle.lb_stmt.specs.declared.write.Stmt.TheVariants as stmts
use Rattle.lb_stmt.specs.declared.write.Update.{Update}
use Rattle.lb_cat.specs.declared.cred.Cred.{Cred}
use Rattle.lb_cat.specs.Catalog.{Cat, table_named}
use Rattle.lb_names.specs.Scopes.{Catalogue, listed}
use Rattle.lb_names.specs.Statements.{types_refused}
use Rattle.lb_rows.specs.Tables.{Tables, Version, put_version, rows_of}
use Rattle.lb_mean.specs.Answer.{Checks}
use Rattle.lb_answer.specs.Answer.{answer, insert_answer, update_answer}
use Rattle.lb_alter.specs.Fits.{CredFits}
use Rattle.lb_alter.specs.Laws.{AllTablesFit}
use Rattle.lb_alter.specs.Sound.{IsSound}
use Rattle.lb_alter.specs.Stored.{StoredRules}
use Rattle.lb_kinds.specs.Settings.{SameColumn, Knows, MasksFit, columns_in}
use Rattle.lb_fits.specs.Dated.{WritesDays}
use Rattle.lb_fits.specs.Laws.{LeavesFit}

-- ---- before a write

-- Where a session writes: a sound catalogue, all of whose tables and masks fit, as names and types know them, labels of the session
-- that are labels of their policies, and a day of the calendar.
pub record IsReady (rules : StoredRules) (N : Catalogue) (C : Cat) (c : Cred) (T : Tables) (day : ℤ) : Type 0 where
  pub sound : IsSound rules C
  pub tables : AllTablesFit C T
  pub masks : (n : List ℕ) → MasksFit N n (table_named C n)
  pub knows : Knows N C T
  pub credentials : (ks : List Key) → CredFits ks C c
  pub is_day : IsDay day

-- ---- what names and types know

-- A catalogue of names that has the columns of a sound catalogue knows its tables where all of them fit, and there are no rows
-- under a name that is no table's.
abbrev pub FitsAreKnown : Type 0
FitsAreKnown = (rules : StoredRules) (N : Catalogue) (C : Cat) (T : Tables) → IsSound rules C → AllTablesFit C T
    → ((n : List ℕ) → AllZip SameColumn (listed (N.columns n)) (columns_in (table_named C n)))
    → ((n : List ℕ) → table_named C n ≡ None → rows_of n T ≡ []) → Knows N C T

-- ---- statements

-- an UPDATE whose types are not refused keeps that all tables fit
abbrev pub UpdatesFit : Type 0
UpdatesFit = (rules : StoredRules) (N : Catalogue) (checks : Checks) (C : Cat) (c : Cred) (T : Tables) (day : ℤ) (u : Update)
    → IsReady rules N C c T day → WritesDays (stmts.Update u) → types_refused N (stmts.Update u) ≡ None → LeavesFit C T (update_answer C c T day checks u)

-- an INSERT whose types are not refused keeps it
abbrev pub InsertsFit : Type 0
InsertsFit = (rules : StoredRules) (N : Catalogue) (checks : Checks) (C : Cat) (c : Cred) (T : Tables) (day : ℤ) (i : Insert)
    → IsReady rules N C c T day → WritesDays (stmts.Insert i) → types_refused N (stmts.Insert i) ≡ None → LeavesFit C T (insert_answer C c T day checks i)

-- each query and each write whose types are not refused keeps it
abbrev pub WritesFit : Type 0
WritesFit = (rules : StoredRules) (N : Catalogue) (checks : Checks) (C : Cat) (c : Cred) (T : Tables) (day : ℤ) (s : Stmt)
    → IsReady rules N C c T day → WritesDays s → types_refused N s ≡ None → LeavesFit C T (answer checks C c T day s)

-- and the session is ready for its next statement over what it leaves
abbrev pub StaysReady : Type 0
StaysReady = (rules : StoredRules) (N : Catalogue) (checks : Checks) (C : Cat) (c : Cred) (T : Tables) (day : ℤ) (s : Stmt)
    → IsReady rules N C c T day → WritesDays s → types_refused N s ≡ None → (v : Version) → (answer checks C c T day s).table ≡ Some v → IsReady rules N C c (put_version v T) day

-- What an engine promises: a plan that it makes for a statement answers as the definitions do, wherever session and tables fit.
use Rattle.std.specs.Prelude.{ℤ, ◌≡◌, option_map}
use Rattle.std.specs.Arc.{arc_value}
use Rattle.lb_base.specs.Days.{IsDay}
use Rattle.lb_stmt.specs.declared.write.Stmt.{Stmt}
use Rattle.lb_rows.specs.Tables.{Tables}
use Rattle.lb_cat.specs.declared.cred.Cred.{Cred}
use Rattle.lb_cat.specs.Catalog.{Cat}
use Rattle.lb_alter.specs.Fits.{CredFits, TablesFit}
use Rattle.lb_alter.specs.Deps.{deps}
use Rattle.lb_answer.specs.Answer.{Answered}
use Rattle.lb_journal.specs.declared.engine.Outcome.{Outcome}
use Rattle.lb_journal.specs.Rules.{answered_to}

-- what a plan of an engine answers to a session, over tables, on a day
abbrev pub Meaning : Type 0 → Type 0
Meaning P = P → Cred → Tables → ℤ → Answered

-- what running a plan gave is this answer: its reply, and the new version of the table that it wrote, if it wrote one
pub record Gives (o : Outcome) (a : Answered) : Type 0 where
  pub reply : o.reply ≡ a.reply
  pub table : option_map arc_value o.table ≡ a.table

-- what the engine asks of session and tables to run a plan
abbrev pub Condition : Type 0 → Type 1
Condition P = P → Cred → Tables → Type 0

-- The plan is right for the statement in the catalogue: wherever session and tables fit it on what the statement depends on, and on every
-- day of the calendar, the plan may be run, and answers what the statement answers.
unfoldable pub RightFor : {P : Type 0} → Meaning P → Condition P → P → Cat → Stmt → Type 0
RightFor means takes p C s =
    (c : Cred) (T : Tables) (day : ℤ) → CredFits (deps C s) C c → TablesFit (deps C s) C T → IsDay day → takes p c T × (means p c T day ≡ answered_to C c T day s)

-- what a plan that is right gives for one session, the tables and the day
abbrev pub RightGives : {P : Type 0} → Meaning P → Condition P → Type 0
RightGives {P = P} means takes =
    (p : P) (C : Cat) (s : Stmt) (c : Cred) (T : Tables) (day : ℤ)
    → RightFor means takes p C s → CredFits (deps C s) C c → TablesFit (deps C s) C T → IsDay day → takes p c T × (means p c T day ≡ answered_to C c T day s)

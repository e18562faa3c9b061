-- What is said of what stands after a journal.
use Rattle.std.specs.Prelude.{ℕ, ℤ, List}
use Rattle.lb_base.specs.Days.{IsDay}
use Rattle.lb_stmt.specs.declared.change.Change.{Change}
use Rattle.lb_stmt.specs.declared.write.Stmt.{Stmt}
use Rattle.lb_stmt.specs.declared.write.Stmt.TheVariants as stmts
use Rattle.lb_tok.specs.Spelled.{IsSpoken}
use Rattle.lb_cat.specs.declared.entry.Entry.{Entry}
use Rattle.lb_journal.specs.State.{State, first, after}
use Rattle.lb_journal.specs.Journal.{IsMade}
use Rattle.lb_journal.specs.Replay.{Replay}
use Rattle.lb_standing.specs.Standing.{IsStanding}

-- the state before the first entry stands so
abbrev pub FirstIsStanding : Type 0
FirstIsStanding = IsStanding first

-- the statement, as an entry of a user with these groups on that day, keeps that a state stands so
abbrev pub KeepsStanding : Stmt → Type 0
KeepsStanding s = (at : ℕ) (S : State) (user : List ℕ) (groups : List (List ℕ)) (day : ℤ) → IsDay day → IsSpoken s → IsStanding S → IsStanding (after at S user groups day s)

-- the statement is a query or a write, and no change of the catalogue
abbrev pub IsAnswered : Stmt → Type 0
IsAnswered (stmts.Change c) = ⊥
IsAnswered s = Unit {0}

-- a query or a write that some text spells keeps it
abbrev pub WritesStayStanding : Type 0
WritesStayStanding = (s : Stmt) → IsAnswered s → KeepsStanding s

-- so does a change of the catalogue
abbrev pub ChangesStayStanding : Type 0
ChangesStayStanding = (c : Change) → KeepsStanding (stmts.Change c)

-- so does every statement
abbrev pub StepsStayStanding : Type 0
StepsStayStanding = (s : Stmt) → KeepsStanding s

-- what a well-made journal leaves stands so
abbrev pub ReplaysAreStanding : Type 0
ReplaysAreStanding = (J : List Entry) (S : State) → IsMade J → Replay J S → IsStanding S

-- What holds of every statement that some text spells.
use Rattle.lb_stmt.specs.declared.change.Change.{Change}
use Rattle.lb_stmt.specs.declared.change.Change.TheVariants as changes
use Rattle.lb_stmt.specs.declared.write.Stmt.{Stmt}
use Rattle.lb_stmt.specs.declared.write.Stmt.TheVariants as stmts
use Rattle.lb_tok.specs.Spelled.{IsSpoken}
use Rattle.lb_alter.specs.Laws.{IsAsRead}
use Rattle.lb_kinds.specs.Days.{days_in, days_in_cond, AreDays}
use Rattle.lb_fits.specs.Dated.{WritesDays, ReadsDays}

-- a change that some text spells is as it was read
abbrev pub ChangesAreAsRead : Type 0
ChangesAreAsRead = (c : Change) → IsSpoken (stmts.Change c) → IsAsRead c

-- the DATE literals of the values that a statement writes are days, where some text spells it
abbrev pub StatementsHaveDays : Type 0
StatementsHaveDays = (s : Stmt) → IsSpoken s → WritesDays s

-- the DATE literals of a new permission's condition and of a new mask's CASE expression are days
abbrev pub DefinesDays : Change → Type 0
DefinesDays (changes.CreatePermission p) = AreDays (days_in_cond p.condition)
DefinesDays (changes.CreateMask m) = AreDays (days_in m.value)
DefinesDays c = Unit {0}

-- so they are of every change that some text spells
abbrev pub ChangesHaveDays : Type 0
ChangesHaveDays = (c : Change) → IsSpoken (stmts.Change c) → DefinesDays c

-- so are those of the rows that a statement looks for, where some text spells it
abbrev pub StatementsReadDays : Type 0
StatementsReadDays = (s : Stmt) → IsSpoken s → ReadsDays s

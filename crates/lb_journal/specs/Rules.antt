-- What changes and answers are under the rules of names and types.
use Rattle.std.specs.Prelude.{ℕ, ℤ, List}
use Rattle.lb_stmt.specs.declared.write.Stmt.{Stmt}
use Rattle.lb_stmt.specs.declared.change.Change.{Change}
use Rattle.lb_rows.specs.Tables.{Tables}
use Rattle.lb_cat.specs.declared.cred.Cred.{Cred}
use Rattle.lb_cat.specs.Catalog.{Cat}
use Rattle.lb_alter.specs.Naming.{stored_rules, statement_refused}
use Rattle.lb_alter.specs.Change.{change}
use Rattle.lb_alter.specs.Refusing.{Changed}
use Rattle.lb_answer.specs.Answer.{Answered, answer}

-- what a change of the user makes of the catalogue and the rows, and its reply
abbrev pub changed : Cat → Tables → List ℕ → Change → Changed
changed C T user s = change stored_rules C T user s

-- what a query or a write of a session is answered on that day
abbrev pub answered_to : Cat → Cred → Tables → ℤ → Stmt → Answered
answered_to C c T day s = answer statement_refused C c T day s

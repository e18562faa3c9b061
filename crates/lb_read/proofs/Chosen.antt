-- What is said of a definition, or of a query or write, holds of all statements where the first token says which it is.
use Rattle.std.proofs.Common.{Bool, ◌≡◌, Result, Ok, Err}
use Rattle.std.specs.Prelude.{IfOk, IfErr}
use Rattle.lb_stmt.specs.declared.write.Stmt.{Stmt}
use Rattle.lb_tok.specs.declared.token.Tokens.{Tokens}
use Rattle.lb_tok.specs.declared.lex.ReadFault.{ReadFault}
use Rattle.lb_tok.specs.Form.{Lang}
use Rattle.lb_tok.specs.Changes.{IsStmt}
use Rattle.lb_tok.specs.Refusals.{IsSpelledWithin, FaultSays}
use Rattle.lb_readt.specs.Readers.{heads}
use Rattle.lb_readd.specs.Choosing.{definers, Decides}

pub all_read : (b : Bool) (P : Lang Stmt) (found : Tokens) (r : Result Stmt ReadFault) → Decides b P → heads definers found.tokens ≡ b → IfOk r (λ s. IsSpelledWithin P 64 found s) → IfOk r (λ s. IsSpelledWithin IsStmt 64 found s)
all_read b P found (Ok s) w e h = (w 64 found e).0 s h
all_read b P found (Err f) w e h = h

pub all_refused : (b : Bool) (P : Lang Stmt) (found : Tokens) (r : Result Stmt ReadFault) → Decides b P → heads definers found.tokens ≡ b → IfErr r (λ f. FaultSays P 64 found f) → IfErr r (λ f. FaultSays IsStmt 64 found f)
all_refused b P found (Ok s) w e h = h
all_refused b P found (Err f) w e h = (w 64 found e).1 f h

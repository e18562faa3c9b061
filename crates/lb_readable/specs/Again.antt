-- Statements whose canonical texts can be read again.
use Rattle.std.specs.Prelude.{ℕ, ◌≡◌, List}
use Rattle.lb_stmt.specs.declared.write.Stmt.{Stmt}
use Rattle.lb_tok.specs.declared.lex.ReadFault.{ReadFault}
use Rattle.lb_tok.specs.declared.lex.ReadFault.TheVariants as faults
use Rattle.lb_tok.specs.Canonical.{canonical}
use Rattle.lb_tok.specs.Limit.{most_statement_bytes}
use Rattle.lb_tok.specs.Syntax.{IsTextOf, IsBeyond, IsRepeatable, IsSyntaxAt}
use Rattle.lb_readable.specs.declared.statement.Readable.{Readable}

-- the text is read as the statement, and its canonical text, which keeps both limits, is read as the same
pub record HoldsStatementOf (text : List ℕ) (r : Readable) : Type 0 where
  pub reads : IsRepeatable text r.stmt
  pub canonical_text : r.text ≡ canonical r.stmt
  pub again : IsTextOf r.text r.stmt

-- why a text has no such statement: it is refused at that byte. Memory may always run out.
abbrev pub IsRefusedSo : List ℕ → ReadFault → Type 0
IsRefusedSo text faults.NoMemory = Unit {0}
IsRefusedSo text (faults.Syntax at) = IsSyntaxAt text at

-- the canonical text of the statement keeps both limits, and the statement is read from it
pub record IsReadAgain (s : Stmt) (r : Readable) : Type 0 where
  pub same : r.stmt ≡ s
  pub canonical_text : r.text ≡ canonical s
  pub reads : IsTextOf (canonical s) s
  pub within : IsBeyond s → ⊥

-- why a statement is not read from its canonical text: that goes beyond a limit. Memory may always run out.
abbrev pub FailsAgain : Stmt → ReadFault → Type 0
FailsAgain s faults.NoMemory = Unit {0}
FailsAgain s (faults.Syntax at) = IsBeyond s × (at ≡ most_statement_bytes)

-- When a text is no statement, and at which of its bytes it goes wrong.
use Rattle.std.specs.Prelude.{ℕ, ◌≡◌, ◌≤◌, ◌<◌, List, length, None, IsUtf8, ◌⊎◌}
use Rattle.std.specs.Str.{IsValidUpTo}
use Rattle.lb_stmt.specs.declared.write.Stmt.{Stmt}
use Rattle.lb_tok.specs.declared.lex.ReadFault.{ReadFault}
use Rattle.lb_tok.specs.declared.lex.ReadFault.TheVariants as faults
use Rattle.lb_tok.specs.declared.token.Tokens.{Tokens}
use Rattle.lb_tok.specs.Canonical.{canonical, tokens_of}
use Rattle.lb_tok.specs.Changes.{IsStmt}
use Rattle.lb_tok.specs.Lexing.{Lexed}
use Rattle.lb_tok.specs.Limit.{most_statement_bytes, most_brackets, walk}
use Rattle.lb_tok.specs.Refusals.{IsSpelledWithin, IsRefusedAt}

-- the text is read as the statement: it has at most 4,096 bytes, is UTF-8, and its tokens spell the statement with at most 64 brackets open
pub record IsTextOf (text : List ℕ) (s : Stmt) : Type 0 where
  pub short : length text ≤ most_statement_bytes
  pub utf8 : IsUtf8 text
  pub found : Tokens
  pub lexed : Lexed text found
  pub read : IsSpelledWithin IsStmt most_brackets found s

-- The text is read as no statement, and goes wrong at that byte: after 4,096 bytes where it has more; where it isn't UTF-8, after its longest
-- front that is; else at the first token with which no statement goes on, at the bracket that is one too many, at the byte that begins no token,
-- or at its end.
abbrev pub GoesWrong : List ℕ → ℕ → Type 0
GoesWrong text at =
    ((most_statement_bytes < length text) × (at ≡ most_statement_bytes))
    ⊎ ((length text ≤ most_statement_bytes) × IsValidUpTo text at)
    ⊎ ((length text ≤ most_statement_bytes) × IsUtf8 text × (found : Tokens) × Lexed text found × IsRefusedAt IsStmt most_brackets found at)

-- why a text is not read: it goes wrong at that byte. Memory may always run out.
abbrev pub FailsSo : List ℕ → ReadFault → Type 0
FailsSo text faults.NoMemory = Unit {0}
FailsSo text (faults.Syntax at) = GoesWrong text at

-- the canonical text of the statement can't be read again: it has more than 4,096 bytes or more than 64 open brackets
abbrev pub IsBeyond : Stmt → Type 0
IsBeyond s = (most_statement_bytes < length (canonical s)) ⊎ (walk (tokens_of s) most_brackets ≡ None)

-- the text is a statement whose canonical text keeps both limits, so that its entry can be read again
pub record IsRepeatable (text : List ℕ) (s : Stmt) : Type 0 where
  pub reads : IsTextOf text s
  pub again : IsBeyond s → ⊥

-- the text is refused at that byte: it goes wrong there, or it is read and its canonical text can't be read again
abbrev pub IsSyntaxAt : List ℕ → ℕ → Type 0
IsSyntaxAt text at = GoesWrong text at ⊎ ((s : Stmt) × IsTextOf text s × IsBeyond s × (at ≡ most_statement_bytes))

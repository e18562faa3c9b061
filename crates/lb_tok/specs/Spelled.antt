-- The statement that a text spells.
use Rattle.std.specs.Prelude.{ℕ, List, None}
use Rattle.lb_stmt.specs.declared.write.Stmt.{Stmt}
use Rattle.lb_tok.specs.declared.token.Token.{Token}
use Rattle.lb_tok.specs.declared.token.Span.{Span}
use Rattle.lb_tok.specs.Lexing.{LexedFrom}
use Rattle.lb_tok.specs.Changes.{IsStatement}

-- the tokens of the whole text, wherever they stand in it
abbrev pub AreTokens : List ℕ → List Token → Type 0
AreTokens text ts = (spans : List Span) × LexedFrom 0 text ts spans None

-- The tokens of the text spell the statement. The text may be of any length and have any number of brackets open.
abbrev pub Spelled : List ℕ → Stmt → Type 0
Spelled text s = (ts : List Token) × AreTokens text ts × IsStatement ts s

-- some text spells the statement
abbrev pub IsSpoken : Stmt → Type 0
IsSpoken s = (text : List ℕ) × Spelled text s

-- What reading owes to a language of statements: its answers are right, it misses none, and none is spelled twice.
use Rattle.std.specs.Prelude.{ℕ, ◌≡◌, List, [], ◌++◌, true, Some}
use Rattle.lb_stmt.specs.declared.write.Stmt.{Stmt}
use Rattle.lb_tok.specs.declared.token.Token.{Token}
use Rattle.lb_tok.specs.declared.kind.Kind.TheVariants as kinds
use Rattle.lb_tok.specs.Kinds.{Kinds, only}
use Rattle.lb_tok.specs.Form.{Lang}
use Rattle.lb_readt.specs.Readers.{Why, bad, deep, Answer, got, stop, Reader, heads}
use Rattle.lb_tok.specs.Limit.{walk}
use Rattle.lb_tok.specs.Refusals.{Spells, NoneThrough, TooDeep}

-- why reading stops after the tokens of front: no statement goes on with the next token, or it opens one bracket too many
abbrev pub Because : Lang Stmt → Why → ℕ → List Token → List Token → Type 0
Because P bad d front rest = ((e : ℕ) × (walk front d ≡ Some e)) × NoneThrough P front rest
Because P deep d front rest = TooDeep d front rest

-- the tokens before rest go on to a statement, and those through its first token do not
pub record Refused (P : Lang Stmt) (d : ℕ) (ts : List Token) (c : Why) (rest : List Token) : Type 0 where
  pub front : List Token
  pub whole : ts ≡ front ++ rest
  pub more : List Token
  pub tree : Stmt
  pub goes_on : Spells P (front ++ more) tree
  pub because : Because P c d front rest

-- an answer is right: all tokens spell the statement and keep the limit d, or they are refused
abbrev pub Judged : Lang Stmt → ℕ → List Token → Answer Stmt → Type 0
Judged P d ts (got s rest) = (rest ≡ []) × Spells P ts s × (walk ts d ≡ Some d)
Judged P d ts (stop c rest) = Refused P d ts c rest

-- no token list has two trees
abbrev pub Unique : Lang Stmt → Type 0
Unique P = (ts : List Token) (s t : Stmt) → Spells P ts s → Spells P ts t → s ≡ t

-- a statement that keeps the limit is read
abbrev pub Complete : Lang Stmt → (ℕ → Reader Stmt) → Type 0
Complete P f = (d e : ℕ) (ts : List Token) (s : Stmt) → Spells P ts s → walk ts d ≡ Some e → f d ts ≡ got s []

-- what begins a query or a write
abbrev pub starters : Kinds
starters = only kinds.Select ++ only kinds.Insert ++ only kinds.Update ++ only kinds.Delete

-- each statement begins with one of these
abbrev pub StartsSo : Lang Stmt → Type 0
StartsSo P = (ts : List Token) (s : Stmt) → Spells P ts s → heads starters ts ≡ true

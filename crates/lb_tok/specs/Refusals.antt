-- At which offset tokens that spell no statement go wrong.
use Rattle.std.specs.Prelude.{ℕ, ◌≡◌, List, [], ◌∷◌, ◌++◌, true, Some, None, length, slice_get, unwrap_or, ◌⊎◌}
use Rattle.lb_stmt.specs.declared.write.Stmt.{Stmt}
use Rattle.lb_tok.specs.declared.token.Token.{Token}
use Rattle.lb_tok.specs.declared.token.Span.{Span}
use Rattle.lb_tok.specs.declared.token.Tokens.{Tokens}
use Rattle.lb_tok.specs.declared.lex.ReadFault.{ReadFault}
use Rattle.lb_tok.specs.declared.lex.ReadFault.TheVariants.{Syntax, NoMemory}
use Rattle.lb_tok.specs.Form.{Lang}
use Rattle.lb_tok.specs.Grammar.{level}
use Rattle.lb_tok.specs.Kinds.{has, openers}
use Rattle.lb_tok.specs.Limit.{walk}

-- the tokens spell the statement, whatever number of brackets is open
abbrev pub Spells : Lang Stmt → List Token → Stmt → Type 0
Spells P ts s = (k : ℕ) × P (level k) ts s

-- no statement begins with the front and the next token; where there is no next token, the front is no statement
abbrev pub NoneThrough : Lang Stmt → List Token → List Token → Type 0
NoneThrough P front [] = (s : Stmt) → Spells P front s → ⊥
NoneThrough P front (t ∷ rest) = (r : List Token) (s : Stmt) → Spells P (front ++ t ∷ r) s → ⊥

-- the next token would open a bracket too many
abbrev pub TooDeep : ℕ → List Token → List Token → Type 0
TooDeep d front [] = ⊥
TooDeep d front (t ∷ rest) = (walk front d ≡ Some 0) × (has openers t.kind ≡ true)

-- the offset of the first token that is left, or of the byte that begins no token, or of the end
abbrev pub StandsAt : Tokens → List Token → List Token → ℕ → Type 0
StandsAt found front [] at = at ≡ unwrap_or found.stop found.length
StandsAt found front (t ∷ rest) at = (span : Span) × (slice_get found.spans (length front) ≡ Some span) × (at ≡ span.from)

-- why reading goes no further: no statement goes on with the next token, or it opens a bracket too many;
-- at the end, a byte begins no token, or the tokens are no statement
abbrev pub GoesNoFurther : Lang Stmt → ℕ → Tokens → List Token → List Token → Type 0
GoesNoFurther P d found front [] = ((b : ℕ) × (found.stop ≡ Some b)) ⊎ NoneThrough P front []
GoesNoFurther P d found front (t ∷ rest) = NoneThrough P front (t ∷ rest) ⊎ TooDeep d front (t ∷ rest)

-- The tokens before the offset keep the limit and go on to a statement; those through it do not.
pub record IsRefusedAt (P : Lang Stmt) (d : ℕ) (found : Tokens) (at : ℕ) : Type 0 where
  pub front : List Token
  pub rest : List Token
  pub whole : found.tokens ≡ front ++ rest
  pub more : List Token
  pub tree : Stmt
  pub goes_on : Spells P (front ++ more) tree
  pub fits : (e : ℕ) × (walk front d ≡ Some e)
  pub stands : StandsAt found front rest at
  pub because : GoesNoFurther P d found front rest

abbrev pub FaultSays : Lang Stmt → ℕ → Tokens → ReadFault → Type 0
FaultSays P d found NoMemory = Unit {0}
FaultSays P d found (Syntax at) = IsRefusedAt P d found at

-- all of the text is tokens, which spell the statement and keep the limit
abbrev pub IsSpelledWithin : Lang Stmt → ℕ → Tokens → Stmt → Type 0
IsSpelledWithin P d found s = (found.stop ≡ None) × Spells P found.tokens s × (walk found.tokens d ≡ Some d)

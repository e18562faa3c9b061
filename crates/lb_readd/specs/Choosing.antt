-- Which statements are definitions: the first token says it.
use Rattle.std.specs.Prelude.{ℕ, ◌≡◌, List, ◌++◌, Bool, true, ◌⊎◌}
use Rattle.lb_stmt.specs.declared.write.Stmt.{Stmt}
use Rattle.lb_tok.specs.declared.kind.Kind.TheVariants as kinds
use Rattle.lb_tok.specs.declared.token.Token.{Token}
use Rattle.lb_tok.specs.declared.token.Tokens.{Tokens}
use Rattle.lb_tok.specs.declared.lex.ReadFault.{ReadFault}
use Rattle.lb_tok.specs.Kinds.{Kinds, only}
use Rattle.lb_tok.specs.Form.{Lang}
use Rattle.lb_tok.specs.Changes.{IsStmt, IsStatement}
use Rattle.lb_readt.specs.Readers.{heads}
use Rattle.lb_tok.specs.Refusals.{Spells, IsSpelledWithin, FaultSays}

-- what begins a definition
abbrev pub definers : Kinds
definers = only kinds.Create ++ only kinds.Alter ++ only kinds.Drop ++ only kinds.Grant ++ only kinds.Revoke

-- each statement of the language begins with one of the kinds
abbrev pub BeginsWith : Kinds → Lang Stmt → Type 0
BeginsWith ks P = (ts : List Token) (s : Stmt) → Spells P ts s → heads ks ts ≡ true

-- no tokens spell a statement of the one language and one of the other
abbrev pub AreApart : Lang Stmt → Lang Stmt → Type 0
AreApart P Q = (ts : List Token) (s t : Stmt) → Spells P ts s → Spells Q ts t → ⊥

-- the statements of the two languages are all statements
abbrev pub AreAll : Lang Stmt → Lang Stmt → Type 0
AreAll P Q = (ts : List Token) (s : Stmt) → (IsStatement ts s → Spells P ts s ⊎ Spells Q ts s) × (Spells P ts s ⊎ Spells Q ts s → IsStatement ts s)

-- where the first token begins a definition, or where it does not, as b says, what is said of P's statements holds of all
abbrev pub Decides : Bool → Lang Stmt → Type 0
Decides b P = (d : ℕ) (found : Tokens) → heads definers found.tokens ≡ b
    → ((s : Stmt) → IsSpelledWithin P d found s → IsSpelledWithin IsStmt d found s) × ((e : ReadFault) → FaultSays P d found e → FaultSays IsStmt d found e)

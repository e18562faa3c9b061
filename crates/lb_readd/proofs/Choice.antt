-- The first token tells definitions from queries and writes.
use Rattle.std.proofs.Common.{Bool, true, false, ◌⊎◌, inl, inr, ◌≡◌, ℕ, List, [], ◌∷◌, ◌++◌, refl, sym, ap, ◌∙◌}
use Rattle.lb_stmt.specs.declared.write.Stmt.{Stmt}
use Rattle.lb_tok.specs.declared.token.Token.{Token}
use Rattle.lb_tok.specs.declared.token.Tokens.{Tokens}
use Rattle.lb_tok.specs.declared.lex.ReadFault.{ReadFault}
use Rattle.lb_tok.specs.declared.lex.ReadFault.TheVariants.{Syntax, NoMemory}
use Rattle.lb_tok.specs.Kinds.{Kinds}
use Rattle.lb_tok.specs.Form.{Lang}
use Rattle.lb_tok.specs.Grammar.{IsQueryOrWrite}
use Rattle.lb_tok.specs.Changes.{IsDefinition, IsStmt, IsStatement}
use Rattle.lb_readt.specs.Readers.{heads}
use Rattle.lb_tok.specs.Refusals.{Spells, GoesNoFurther, FaultSays}
use Rattle.lb_readt.proofs.Sets.{disjoint, apart}
use Rattle.lb_readt.proofs.Joined.{heads_alike}
use Rattle.lb_readt.proofs.Languages.{nil}
use Rattle.lb_readq.proofs.Whole.{starts}
use Rattle.lb_readq.proofs.Writes as writes
use Rattle.lb_readd.specs.Choosing.{definers, BeginsWith, AreApart, AreAll, Decides}
use Rattle.lb_readd.proofs.Defined as defined

pub definitions_begin : BeginsWith definers IsDefinition
definitions_begin = starts defined.whole

not_both : (xs ys : Kinds) (ts : List Token) → disjoint xs ys ≡ true → heads xs ts ≡ true → heads ys ts ≡ false
not_both xs ys [] d h = refl
not_both xs ys (t ∷ ts) d h = apart xs ys t.kind d h

no_definer : (ts : List Token) (s : Stmt) → Spells IsQueryOrWrite ts s → heads definers ts ≡ false
no_definer ts s p = not_both writes.in_statement definers ts refl (starts writes.whole ts s p)

no_truth : (b : Bool) → b ≡ true → b ≡ false → ⊥
no_truth true e h = cc
no_truth false e h = cc

pub are_apart : AreApart IsQueryOrWrite IsDefinition
are_apart ts s t p q = no_truth (heads definers ts) (definitions_begin ts t q) (no_definer ts s p)

parted : (ts : List Token) (s : Stmt) → IsStatement ts s → Spells IsQueryOrWrite ts s ⊎ Spells IsDefinition ts s
parted ts s p = elim p.1 [
  | inl q ↦ inl (p.0, q)
  | inr q ↦ inr (p.0, q)
]

joined : (ts : List Token) (s : Stmt) → Spells IsQueryOrWrite ts s ⊎ Spells IsDefinition ts s → IsStatement ts s
joined ts s (inl p) = (p.0, inl p.1)
joined ts s (inr p) = (p.0, inr p.1)

pub are_all : AreAll IsQueryOrWrite IsDefinition
are_all ts s = (parted ts s, joined ts s)

-- what is said of P's statements, where each statement that begins so is one of P

pub record Settles (b : Bool) (P : Lang Stmt) : Type 0 where
  pub into : (ts : List Token) (s : Stmt) → Spells P ts s → Spells IsStmt ts s
  pub back : (ts : List Token) (s : Stmt) → heads definers ts ≡ b → Spells IsStmt ts s → Spells P ts s

no_further : {b : Bool} {P : Lang Stmt} → Settles b P → (d : ℕ) (found : Tokens) → heads definers found.tokens ≡ b → (front rest : List Token) → found.tokens ≡ front ++ rest → GoesNoFurther P d found front rest → GoesNoFurther IsStmt d found front rest
no_further w d found h front [] e (inl p) = inl p
no_further w d found h front [] e (inr p) = inr (λ s z. p s (w.back front s (ap (λ (u : List Token). heads definers u) (sym (e ∙ nil front)) ∙ h) z))
no_further w d found h front (t ∷ rest) e (inr p) = inr p
no_further w d found h front (t ∷ rest) e (inl p) = inl (λ r s z. p r s (w.back (front ++ t ∷ r) s (heads_alike definers found.tokens front (t ∷ rest) (t ∷ r) e refl ∙ h) z))

fault_of_all : {b : Bool} {P : Lang Stmt} → Settles b P → (d : ℕ) (found : Tokens) → heads definers found.tokens ≡ b → (e : ReadFault) → FaultSays P d found e → FaultSays IsStmt d found e
fault_of_all w d found h NoMemory p = tt
fault_of_all w d found h (Syntax at) p =
    record {
      front = p.front;
      rest = p.rest;
      whole = p.whole;
      more = p.more;
      tree = p.tree;
      goes_on = w.into (p.front ++ p.more) p.tree p.goes_on;
      fits = p.fits;
      stands = p.stands;
      because = no_further w d found h p.front p.rest p.whole p.because;
    }

decides : {b : Bool} {P : Lang Stmt} → Settles b P → Decides b P
decides w d found h = (λ s p. (p.0, w.into found.tokens s p.1, p.2), fault_of_all w d found h)

pub definitions_decide : Decides true IsDefinition
definitions_decide = decides (record { into = λ ts s p. (p.0, inr p.1); back = back })
  where
    back : (ts : List Token) (s : Stmt) → heads definers ts ≡ true → Spells IsStmt ts s → Spells IsDefinition ts s
    back ts s h p = elim (parted ts s p) [
      | inl q ↦ absurd (no_truth (heads definers ts) h (no_definer ts s q))
      | inr q ↦ q
    ]

pub others_decide : Decides false IsQueryOrWrite
others_decide = decides (record { into = λ ts s p. (p.0, inl p.1); back = back })
  where
    back : (ts : List Token) (s : Stmt) → heads definers ts ≡ false → Spells IsStmt ts s → Spells IsQueryOrWrite ts s
    back ts s h p = elim (parted ts s p) [
      | inl q ↦ q
      | inr q ↦ absurd (no_truth (heads definers ts) (definitions_begin ts s q) h)
    ]

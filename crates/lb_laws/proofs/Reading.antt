-- What is known of the reader, as far as the laws of this crate need it.
use Rattle.std.proofs.Common.{◌≡◌, ℕ, List, inl, inr, subst, sym, ◌∙◌}
use Rattle.lb_stmt.specs.declared.write.Stmt.{Stmt}
use Rattle.lb_tok.specs.Canonical.{canonical}
use Rattle.lb_tok.specs.Spelled.{IsSpoken}
use Rattle.lb_tok.specs.Syntax.{IsTextOf, GoesWrong, IsBeyond, IsRepeatable, IsSyntaxAt}
use Rattle.lb_model.specs.Catalog.{Cat, Tables}
use Rattle.lb_model.specs.NotYet.{IsUnbuilt, IsNotYet, IsBuilt}

-- Canonical texts tell statements apart; a text is read as one statement at most, or goes wrong at one byte, and never both.
pub record ReaderLaws : Type 0 where
  pub apart : (s t : Stmt) → IsSpoken s → IsSpoken t → canonical s ≡ canonical t → s ≡ t
  pub one_statement : (text : List ℕ) (s t : Stmt) → IsTextOf text s → IsTextOf text t → s ≡ t
  pub not_both : (text : List ℕ) (at : ℕ) (s : Stmt) → GoesWrong text at → IsTextOf text s → ⊥
  pub one_byte : (text : List ℕ) (a b : ℕ) → GoesWrong text a → GoesWrong text b → a ≡ b

-- a text is refused at one byte
pub one_syntax : (W : ReaderLaws) (text : List ℕ) (a b : ℕ) → IsSyntaxAt text a → IsSyntaxAt text b → a ≡ b
one_syntax W text a b (inl g) (inl h) = W.one_byte text a b g h
one_syntax W text a b (inl g) (inr h) = absurd (W.not_both text a h.0 g h.1)
one_syntax W text a b (inr g) (inl h) = absurd (W.not_both text b g.0 h g.1)
one_syntax W text a b (inr g) (inr h) = g.3 ∙ sym h.3

-- a text that is refused can't be read
pub not_readable : (W : ReaderLaws) (text : List ℕ) (at : ℕ) (s : Stmt) → IsSyntaxAt text at → IsRepeatable text s → ⊥
not_readable W text at s (inl g) r = W.not_both text at s g r.reads
not_readable W text at s (inr g) r = r.again (subst (λ (t : Stmt). IsBeyond t) (W.one_statement text g.0 s g.1 r.reads) g.2)

-- where one state stands, a text is built or not
pub not_built : (W : ReaderLaws) (C : Cat) (T : Tables) (user text : List ℕ) (s t : Stmt) → IsNotYet C T user text s → IsBuilt C T user text t → ⊥
not_built W C T user text s t h i = i.built (subst (λ (x : Stmt). IsUnbuilt C T user x) (W.one_statement text s t h.reads.reads i.reads.reads) h.unbuilt)

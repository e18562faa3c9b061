-- No tokens spell two statements, and so no text does.
use Rattle.std.proofs.Common.{◌⊎◌, inl, inr, ◌≡◌, ℕ, List, None, subst}
use Rattle.lb_stmt.specs.declared.write.Stmt.{Stmt}
use Rattle.lb_tok.specs.declared.token.Token.{Token}
use Rattle.lb_tok.specs.Canonical.{canonical, tokens_of}
use Rattle.lb_tok.specs.Changes.{IsDefinition, IsStatement}
use Rattle.lb_tok.specs.Grammar.{IsQueryOrWrite}
use Rattle.lb_tok.specs.Refusals.{Spells}
use Rattle.lb_tok.specs.Spelled.{IsSpoken}
use Rattle.lb_tok.specs.Syntax.{IsTextOf, IsBeyond}
use Rattle.lb_tok.proofs.Spoken.{canonical_lexes, canonical_is_spelled, same_text}
use Rattle.lb_tok.proofs.Texts.{one_lexing}
use Rattle.lb_readq.proofs.Whole.{unique}
use Rattle.lb_readq.proofs.Writes as writes
use Rattle.lb_readd.proofs.Defined as defined
use Rattle.lb_readd.proofs.Choice.{are_apart, are_all}
use Rattle.lb_read.proofs.Texts.{same}
use Rattle.lb_read.proofs.Again.{not_beyond}

pub one_tree : (ts : List Token) (s t : Stmt) → IsStatement ts s → IsStatement ts t → s ≡ t
one_tree ts s t p q = go ((are_all ts s).0 p) ((are_all ts t).0 q)
  where
    go : Spells IsQueryOrWrite ts s ⊎ Spells IsDefinition ts s → Spells IsQueryOrWrite ts t ⊎ Spells IsDefinition ts t → s ≡ t
    go (inl a) (inl b) = unique writes.whole ts s t a b
    go (inl a) (inr b) = absurd (are_apart ts s t a b)
    go (inr a) (inl b) = absurd (are_apart ts t s b a)
    go (inr a) (inr b) = unique defined.whole ts s t a b

pub one_statement : (text : List ℕ) (s t : Stmt) → IsTextOf text s → IsTextOf text t → s ≡ t
one_statement text s t r q =
    one_tree q.found.tokens s t (subst (λ (u : List Token). IsStatement u s) (same text r.found q.found r.lexed q.lexed).tokens r.read.1) q.read.1

-- a canonical text is read as its own statement
pub itself : (s t : Stmt) → IsSpoken s → IsTextOf (canonical s) t → t ≡ s
itself s t h r =
    let e = canonical_lexes s h in
    let f = one_lexing r.found.tokens (tokens_of s) 0 (canonical s) r.found.spans e.0 r.found.stop None r.lexed.0 e.1 in
    one_tree (tokens_of s) t s (subst (λ (u : List Token). IsStatement u t) f.tokens r.read.1) (canonical_is_spelled s h)

pub keeps : (s t : Stmt) → IsSpoken s → IsTextOf (canonical s) t → (t ≡ s) × (IsBeyond s → ⊥)
keeps s t h r = (itself s t h r, not_beyond s t h r)

pub apart : (s t : Stmt) → IsSpoken s → IsSpoken t → canonical s ≡ canonical t → s ≡ t
apart = same_text one_tree

-- A canonical text that is read is read as its own statement. The laws of the crate on canonical texts rest on it.
use Rattle.std.proofs.Common.{inl, inr, ◌≡◌, ℕ, List, [], ◌∷◌, ◌++◌, Bool, true, false, Option, Some, None, refl, sym, ap, subst, ◌∙◌, arith}
use Rattle.std.specs.Prelude.{IsUtf8}
use Rattle.lb_stmt.specs.declared.write.Stmt.{Stmt}
use Rattle.lb_tok.specs.declared.token.Token.{Token}
use Rattle.lb_tok.specs.declared.token.Tokens.{Tokens}
use Rattle.lb_tok.specs.Kinds.{has, openers, closers}
use Rattle.lb_tok.specs.Canonical.{canonical, tokens_of}
use Rattle.lb_tok.specs.Changes.{IsStmt, IsStatement}
use Rattle.lb_tok.specs.Lexing.{Lexed, LexedFrom}
use Rattle.lb_tok.specs.Limit.{passed, walk_on, walk}
use Rattle.lb_tok.specs.Refusals.{TooDeep, GoesNoFurther, IsRefusedAt}
use Rattle.lb_tok.specs.Spelled.{IsSpoken}
use Rattle.lb_tok.specs.Syntax.{IsTextOf, GoesWrong, IsBeyond}
use Rattle.lb_tok.proofs.Spoken.{canonical_lexes, canonical_is_spelled}
use Rattle.lb_tok.proofs.Texts.{one_lexing}
use Rattle.lb_readt.proofs.Joined.{walk-append}
use Rattle.lb_readt.proofs.Languages.{nil}
use Rattle.lb_read.proofs.Texts.{not_utf8}

-- what is read is spoken
pub spoken : (text : List ℕ) (s : Stmt) → IsTextOf text s → IsSpoken s
spoken text s r =
    let lexed : LexedFrom 0 text r.found.tokens r.found.spans None = subst (λ (o : Option ℕ). LexedFrom 0 text r.found.tokens r.found.spans o) r.read.0 r.lexed.0 in
    (text, (r.found.tokens, (r.found.spans, lexed), r.read.1))

-- the tokens of the canonical text are the statement's
same : (s : Stmt) (found : Tokens) → IsSpoken s → Lexed (canonical s) found → (found.tokens ≡ tokens_of s) × (found.stop ≡ None)
same s found h l =
    let p = canonical_lexes s h in
    let e = one_lexing found.tokens (tokens_of s) 0 (canonical s) found.spans p.0 found.stop None l.0 p.1 in
    (e.tokens, e.stops)

none_is_some : (o : Option ℕ) (x : ℕ) → o ≡ None → o ≡ Some x → ⊥
none_is_some None x h k = absurd cc
none_is_some (Some y) x h k = absurd cc

-- a canonical text that is read goes beyond no limit
pub not_beyond : (s t : Stmt) → IsSpoken s → IsTextOf (canonical s) t → IsBeyond s → ⊥
not_beyond s t h r (inl long) = absurd (omega (arith, long, r.short))
not_beyond s t h r (inr deep) = none_is_some (walk (tokens_of s) 64) 64 deep (ap (λ (u : List Token). walk u 64) (sym (same s r.found h r.lexed).0) ∙ r.read.2)

-- a bracket too many
no_room : (c o : Bool) (f : ℕ → Option ℕ) → o ≡ true → walk_on (passed o c 0) f ≡ None
no_room c true f h = refl
no_room c false f h = absurd cc

too_deep : (front : List Token) (t : Token) (rest : List Token) → TooDeep 64 front (t ∷ rest) → walk (front ++ t ∷ rest) 64 ≡ None
unfolding walk
too_deep front t rest w = walk-append front (t ∷ rest) 64 0 w.0 ∙ no_room (has closers t.kind) (has openers t.kind) (walk rest) w.1

-- a canonical text that goes wrong goes beyond a limit
pub beyond : (s : Stmt) (at : ℕ) → IsSpoken s → IsUtf8 (canonical s) → GoesWrong (canonical s) at → IsBeyond s
beyond s at h u (inl p) = inl p.0
beyond s at h u (inr (inl p)) = absurd (not_utf8 (canonical s) at p.1 u)
beyond s at h u (inr (inr p)) = inr (go w.rest (sym tokens.0 ∙ w.whole) w.because)
  where
    found : Tokens
    found = p.2

    w : IsRefusedAt IsStmt 64 found at
    w = p.4

    tokens : (found.tokens ≡ tokens_of s) × (found.stop ≡ None)
    tokens = same s found h p.3

    spelled : IsStatement (tokens_of s) s
    spelled = canonical_is_spelled s h

    go : (rest : List Token) → tokens_of s ≡ w.front ++ rest → GoesNoFurther IsStmt 64 found w.front rest → walk (tokens_of s) 64 ≡ None
    go [] e (inl b) = absurd (none_is_some found.stop b.0 tokens.1 b.1)
    go [] e (inr n) = absurd (n s (subst (λ (v : List Token). IsStatement v s) (e ∙ nil w.front) spelled))
    go (t ∷ rest) e (inl n) = absurd (n rest s (subst (λ (v : List Token). IsStatement v s) e spelled))
    go (t ∷ rest) e (inr d) = ap (λ (v : List Token). walk v 64) e ∙ too_deep w.front t rest d

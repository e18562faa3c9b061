-- Where the first token of a text stands: after the gap that pieces pass over.
use Rattle.std.proofs.Common.{◌≡◌, ℕ, ◌+◌, List, [], ◌∷◌, ◌++◌, length, Option, Some, None, sym, ap, subst, ◌∙◌, refl, arith}
use Rattle.lb_split.specs.Lexing.{gap_len}
use Rattle.lb_split.specs.Lexing as split
use Rattle.lb_tok.specs.declared.token.Token.{Token}
use Rattle.lb_tok.specs.declared.token.Span.{Span}
use Rattle.lb_tok.specs.declared.token.Tokens.{Tokens}
use Rattle.lb_tok.specs.Lexing.{begins_gap, LexedFrom, Lexed, StandsBefore}
use Rattle.lb_tok.proofs.Scanned.{no_gap_before}
use Rattle.lb_agree.proofs.Quits.{gap_len_of, gap_blank, is_length}

first_of_spans : (ts : List Token) (s : Span) (ss : List Span) (stop : Option ℕ) (bs : List ℕ) → LexedFrom 0 bs ts (s ∷ ss) stop → s.from ≡ gap_len bs
first_of_spans [] s ss stop bs h = absurd h
first_of_spans (t ∷ ts) s ss stop bs h =
    let rest : List ℕ = h.1 ++ h.2 in
    let stands : StandsBefore rest t h.2 = (h.1, h.4, h.5, refl) in
    let size : gap_len (h.0 ++ rest) ≡ length h.0 = gap_len_of h.0 rest h.3 (no_gap_before rest h.2 t stands) in
    let at : s.from ≡ 0 + length h.0 = ap (λ (u : Span). u.from) h.7 in
    let whole : gap_len bs ≡ length h.0 = ap gap_len h.6 ∙ size in
    omega (arith, at, whole)

pub first : (text : List ℕ) (found : Tokens) (s : Span) (ss : List Span) → Lexed text found → found.spans ≡ s ∷ ss → s.from ≡ gap_len text
first text found s ss h e = first_of_spans found.tokens s ss found.stop text (subst (λ (u : List Span). LexedFrom 0 text found.tokens u found.stop) e h.0)

stopped_at : (ss : List Span) (at : ℕ) (bs : List ℕ) → LexedFrom 0 bs [] ss (Some at) → at ≡ gap_len bs
stopped_at (s ∷ ss) at bs h = absurd h
stopped_at [] at bs h =
    let rest : List ℕ = h.1 ∷ h.2 in
    let whole : gap_len bs ≡ length h.0 = ap gap_len h.4 ∙ gap_len_of h.0 rest h.3 h.6 in
    let stops : at ≡ 0 + length h.0 = h.5 in
    omega (arith, stops, whole)

pub stopped : (text : List ℕ) (found : Tokens) (at : ℕ) → Lexed text found → found.tokens ≡ [] → found.stop ≡ Some at → at ≡ gap_len text
stopped text found at h none e =
    stopped_at found.spans at text (subst (λ (o : Option ℕ). LexedFrom 0 text [] found.spans o) e (subst (λ (u : List Token). LexedFrom 0 text u found.spans found.stop) none h.0))

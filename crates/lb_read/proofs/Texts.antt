-- Texts and what they are read as: one statement at most, or one byte at which they go wrong.
use Rattle.std.proofs.Common.{◌⊎◌, inl, inr, ◌≡◌, ℕ, List, [], ◌∷◌, ◌++◌, length, Bool, true, false, Option, Some, None, refl, sym, ap, subst, ◌∙◌, append_assoc, arith}
use Rattle.std.specs.Prelude.{IsUtf8, unwrap_or}
use Rattle.std.specs.Str.{IsValidUpTo}
use Rattle.std.proofs.lemmas.List.{take_all}
use Rattle.std.proofs.lemmas.Str.{utf8_valid_len-IsValidUpTo}
use Rattle.lb_stmt.specs.declared.write.Stmt.{Stmt}
use Rattle.lb_tok.specs.declared.token.Token.{Token}
use Rattle.lb_tok.specs.declared.token.Tokens.{Tokens}
use Rattle.lb_tok.specs.declared.token.Span.{Span}
use Rattle.lb_tok.specs.Kinds.{has, openers, closers}
use Rattle.lb_tok.specs.Changes.{IsStmt}
use Rattle.lb_tok.specs.Lexing.{Lexed}
use Rattle.lb_tok.specs.Limit.{passed, walk_on, walk}
use Rattle.lb_tok.specs.Refusals.{Spells, TooDeep, StandsAt, GoesNoFurther, IsRefusedAt, IsSpelledWithin}
use Rattle.lb_tok.specs.Syntax.{IsTextOf, GoesWrong}
use Rattle.lb_tok.proofs.Texts.{SameLexing, one_lexing}
use Rattle.lb_readt.proofs.Joined.{walk-append}
use Rattle.lb_readt.proofs.Languages.{nil}

-- ---- one text, one lexing

pub same : (text : List ℕ) (f g : Tokens) → Lexed text f → Lexed text g → SameLexing f.tokens g.tokens f.spans g.spans f.stop g.stop
same text f g h k = one_lexing f.tokens g.tokens 0 text f.spans g.spans f.stop g.stop h.0 k.0

none_is_some : {A : Type 0} {x : A} (o : Option A) → o ≡ None → o ≡ Some x → ⊥
none_is_some None h k = absurd cc
none_is_some (Some y) h k = absurd cc

-- ---- no bracket too many

no_room : (c : Bool) (o : Bool) (e : ℕ) (f : ℕ → Option ℕ) → o ≡ true → walk_on (passed o c 0) f ≡ Some e → ⊥
no_room c true e f h k = absurd cc
no_room c false e f h k = absurd cc

too_deep : (front : List Token) (t : Token) (rest : List Token) (d e : ℕ) → TooDeep d front (t ∷ rest) → walk (front ++ t ∷ rest) d ≡ Some e → ⊥
unfolding walk
too_deep front t rest d e w h = no_room (has closers t.kind) (has openers t.kind) e (walk rest) w.1 (sym (walk-append front (t ∷ rest) d 0 w.0) ∙ h)

-- ---- what is read is not refused

not_refused : (found : Tokens) (at : ℕ) (s : Stmt) → IsRefusedAt IsStmt 64 found at → IsSpelledWithin IsStmt 64 found s → ⊥
not_refused found at s w r = go w.rest w.whole w.because
  where
    go : (rest : List Token) → found.tokens ≡ w.front ++ rest → GoesNoFurther IsStmt 64 found w.front rest → ⊥
    go [] e (inl b) = none_is_some found.stop r.0 b.1
    go [] e (inr n) = n s (subst (λ (u : List Token). Spells IsStmt u s) (e ∙ nil w.front) r.1)
    go (t ∷ rest) e (inl n) = n rest s (subst (λ (u : List Token). Spells IsStmt u s) e r.1)
    go (t ∷ rest) e (inr d) = too_deep w.front t rest 64 64 d (ap (λ (u : List Token). walk u 64) (sym e) ∙ r.2)

read_of : (f g : Tokens) (s : Stmt) → SameLexing f.tokens g.tokens f.spans g.spans f.stop g.stop → IsSpelledWithin IsStmt 64 f s → IsSpelledWithin IsStmt 64 g s
read_of f g s e r =
    (sym e.stops ∙ r.0, subst (λ (u : List Token). Spells IsStmt u s) e.tokens r.1, ap (λ (u : List Token). walk u 64) (sym e.tokens) ∙ r.2)

pub not_both : (text : List ℕ) (at : ℕ) (s : Stmt) → GoesWrong text at → IsTextOf text s → ⊥
not_both text at s (inl p) r = absurd (omega (arith, p.0, r.short))
not_both text at s (inr (inl p)) r =
    p.1.longest (length text) p.1.short (subst (λ (u : List ℕ). IsUtf8 u) (sym (take_all (length text) text (omega arith))) r.utf8)
not_both text at s (inr (inr p)) r = not_refused p.2 at s p.4 (read_of r.found p.2 s (same text r.found p.2 r.lexed p.3) r.read)

-- ---- one list in two halves, in two ways

-- the one front is longer, by this token and more
record Ahead (a b x y : List Token) : Type 0 where
  pub next : Token
  pub more : List Token
  pub longer : b ≡ a ++ next ∷ more
  pub left : x ≡ next ∷ (more ++ y)

first : Token → List Token → Token
first d [] = d
first d (t ∷ ts) = t

others : List Token → List Token
others [] = []
others (t ∷ ts) = ts

longer_by : (t u : Token) (a b x y : List Token) → t ≡ u → Ahead a b x y → Ahead (t ∷ a) (u ∷ b) x y
longer_by t u a b x y h w =
    record { next = w.next; more = w.more; longer = ap (λ (v : List Token). u ∷ v) w.longer ∙ ap (λ (v : Token). v ∷ (a ++ w.next ∷ w.more)) (sym h); left = w.left }

compare : (a b x y : List Token) → a ++ x ≡ b ++ y → ((a ≡ b) × (x ≡ y)) ⊎ Ahead a b x y ⊎ Ahead b a y x
unfolding first others
compare [] [] x y e = inl (refl, e)
compare [] (t ∷ b) x y e = inr (inl (record { next = t; more = b; longer = refl; left = e }))
compare (t ∷ a) [] x y e = inr (inr (record { next = t; more = a; longer = refl; left = sym e }))
compare (t ∷ a) (u ∷ b) x y e =
    let h : t ≡ u = ap (λ (v : List Token). first t v) e in
    elim (compare a b x y (ap (λ (v : List Token). others v) e)) [
      | inl p ↦ inl (ap (λ (v : Token). v ∷ a) h ∙ ap (λ (v : List Token). u ∷ v) p.0, p.1)
      | inr (inl w) ↦ inr (inl (longer_by t u a b x y h w))
      | inr (inr w) ↦ inr (inr (longer_by u t b a y x (sym h) w))
    ]

-- ---- tokens go wrong in one place

-- the tokens through the first refusal's next one don't go on, and the second's front has them
no_longer : (found : Tokens) (a b : ℕ) (p : IsRefusedAt IsStmt 64 found a) (q : IsRefusedAt IsStmt 64 found b) → Ahead p.front q.front p.rest q.rest → ⊥
unfolding first
no_longer found a b p q w = go p.rest w.left p.because
  where
    go : (rest : List Token) → rest ≡ w.next ∷ (w.more ++ q.rest) → GoesNoFurther IsStmt 64 found p.front rest → ⊥
    go [] e g = absurd cc
    go (t ∷ rest) e g =
        let h : t ≡ w.next = ap (λ (v : List Token). first t v) e in
        elim g [
          | inl n ↦
              let through : q.front ++ q.more ≡ p.front ++ t ∷ (w.more ++ q.more) =
              ap (λ (v : List Token). v ++ q.more) w.longer ∙ append_assoc p.front (w.next ∷ w.more) q.more ∙ ap (λ (v : Token). p.front ++ v ∷ (w.more ++ q.more)) (sym h) in
              n (w.more ++ q.more) q.tree (subst (λ (u : List Token). Spells IsStmt u q.tree) through q.goes_on)
          | inr d ↦
              let through : q.front ≡ p.front ++ t ∷ w.more = w.longer ∙ ap (λ (v : Token). p.front ++ v ∷ w.more) (sym h) in
              too_deep p.front t w.more 64 q.fits.0 d (ap (λ (u : List Token). walk u 64) (sym through) ∙ q.fits.1)
        ]

one_place : (found : Tokens) (front rest : List Token) (a b : ℕ) → StandsAt found front rest a → StandsAt found front rest b → a ≡ b
one_place found front [] a b h k = h ∙ sym k
one_place found front (t ∷ rest) a b h k =
    let spans : ◌≡◌ {A = Option Span} (Some h.0) (Some k.0) = sym h.1 ∙ k.1 in
    h.2 ∙ ap (λ (o : Option Span). (unwrap_or o h.0).from) spans ∙ sym k.2

one_refusal : (found : Tokens) (a b : ℕ) → IsRefusedAt IsStmt 64 found a → IsRefusedAt IsStmt 64 found b → a ≡ b
one_refusal found a b p q = elim (compare p.front q.front p.rest q.rest (sym p.whole ∙ q.whole)) [
  | inl e ↦ one_place found q.front q.rest a b (subst (λ (u : List Token). StandsAt found u q.rest a) e.0 (subst (λ (u : List Token). StandsAt found p.front u a) e.1 p.stands)) q.stands
  | inr (inl w) ↦ absurd (no_longer found a b p q w)
  | inr (inr w) ↦ absurd (no_longer found b a q p w)
]

moved : (f g : Tokens) (at : ℕ) → f ≡ g → IsRefusedAt IsStmt 64 f at → IsRefusedAt IsStmt 64 g at
moved f g at e w = subst (λ (h : Tokens). IsRefusedAt IsStmt 64 h at) e w

-- texts of one lexing have equal tokens and spans, and their length is one
one_found : (text : List ℕ) (f g : Tokens) → Lexed text f → Lexed text g → f ≡ g
one_found text f g h k =
    let e = same text f g h k in
    let l : f.length ≡ g.length = h.1 ∙ sym k.1 in
    ap (λ (v : List Token). record { tokens = v; spans = f.spans; stop = f.stop; length = f.length }) e.tokens
    ∙ ap (λ (v : List Span). record { tokens = g.tokens; spans = v; stop = f.stop; length = f.length }) e.spans
    ∙ ap (λ (v : Option ℕ). record { tokens = g.tokens; spans = g.spans; stop = v; length = f.length }) e.stops
    ∙ ap (λ (v : ℕ). record { tokens = g.tokens; spans = g.spans; stop = g.stop; length = v }) l

pub not_utf8 : (text : List ℕ) (at : ℕ) → IsValidUpTo text at → IsUtf8 text → ⊥
not_utf8 text at w u = w.longest (length text) w.short (subst (λ (v : List ℕ). IsUtf8 v) (sym (take_all (length text) text (omega arith))) u)

pub one_byte : (text : List ℕ) (a b : ℕ) → GoesWrong text a → GoesWrong text b → a ≡ b
one_byte text a b (inl p) (inl q) = p.1 ∙ sym q.1
one_byte text a b (inl p) (inr (inl q)) = absurd (omega (arith, p.0, q.0))
one_byte text a b (inl p) (inr (inr q)) = absurd (omega (arith, p.0, q.0))
one_byte text a b (inr (inl p)) (inl q) = absurd (omega (arith, p.0, q.0))
one_byte text a b (inr (inl p)) (inr (inl q)) = sym (utf8_valid_len-IsValidUpTo text a p.1) ∙ utf8_valid_len-IsValidUpTo text b q.1
one_byte text a b (inr (inl p)) (inr (inr q)) = absurd (not_utf8 text a p.1 q.1)
one_byte text a b (inr (inr p)) (inl q) = absurd (omega (arith, p.0, q.0))
one_byte text a b (inr (inr p)) (inr (inl q)) = absurd (not_utf8 text b q.1 p.1)
one_byte text a b (inr (inr p)) (inr (inr q)) = one_refusal q.2 a b (moved p.2 q.2 a (one_found text p.2 q.2 p.3 q.3) p.4) q.4

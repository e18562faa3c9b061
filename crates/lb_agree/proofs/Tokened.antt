-- How pieces go through a text of tokens.
use Rattle.std.proofs.Common.{Bool, true, false, ◌≡◌, ℕ, suc, ◌+◌, ◌<◌, List, [], ◌∷◌, ◌++◌, length, drop, Option, Some, None, refl, sym, ap, subst, ◌∙◌, arith}
use Rattle.std.specs.Prelude.{◌==◌}
use Rattle.std.proofs.lemmas.Bool.Decides.{nat_tests}
use Rattle.std.proofs.lemmas.List.{append-nil, length-append}
use Rattle.std.proofs.Math.Seq.{drop-append_seam, drop-append-add}
use Rattle.lb_stmt.specs.declared.write.Stmt.{Stmt}
use Rattle.lb_split.specs.Lexing.{begins, passed_len, is_inside, statement_len}
use Rattle.lb_split.specs.declared.scan.Place.TheVariants as places
use Rattle.lb_tok.specs.declared.token.Token.{Token}
use Rattle.lb_tok.specs.declared.token.Span.{Span}
use Rattle.lb_tok.specs.declared.token.Tokens.{Tokens}
use Rattle.lb_tok.specs.Lexing.{LexedFrom, Lexed}
use Rattle.lb_tok.specs.Syntax.{IsTextOf}
use Rattle.lb_agree.proofs.Passed.{inside_passes, gap_passed, token_passed}

-- the text from an offset on, of which tokens were found up to a byte or to the end
Agrees : ℕ → List ℕ → Option ℕ → Type 0
Agrees at bs None = passed_len is_inside places.Open bs ≡ length bs
Agrees at bs (Some stop) = (n : ℕ) × (stop ≡ at + n) × (passed_len is_inside places.Open bs ≡ n + passed_len is_inside places.Open (drop n bs))

-- a gap and a token before it
agrees_on : (at : ℕ) (gap front rest : List ℕ) (stop : Option ℕ) → passed_len is_inside places.Open (gap ++ (front ++ rest)) ≡ length gap + (length front + passed_len is_inside places.Open rest)
    → Agrees (at + length gap + length front) rest stop → Agrees at (gap ++ (front ++ rest)) stop
unfolding Agrees
agrees_on at gap front rest None h k = omega (arith, h, k, length-append gap (front ++ rest), length-append front rest)
agrees_on at gap front rest (Some stop) h k =
    let n : ℕ = length gap + (length front + k.0) in
    let there : drop n (gap ++ (front ++ rest)) ≡ drop k.0 rest = drop-append-add gap (front ++ rest) (length front + k.0) ∙ drop-append-add front rest k.0 in
    let stops : stop ≡ at + n = omega (arith, k.1) in
    let passed : passed_len is_inside places.Open (gap ++ (front ++ rest)) ≡ n + passed_len is_inside places.Open (drop k.0 rest) = omega (arith, h, k.2) in
    (n, stops, passed ∙ ap (λ (u : List ℕ). n + passed_len is_inside places.Open u) (sym there))

agrees : (ts : List Token) (ss : List Span) (stop : Option ℕ) (at : ℕ) (bs : List ℕ) → LexedFrom at bs ts ss stop → Agrees at bs stop
unfolding Agrees
agrees [] [] None at bs h =
    let whole : bs ++ [] ≡ bs = append-nil bs in
    let passed = gap_passed is_inside inside_passes bs [] h in
    ap (passed_len is_inside places.Open) (sym whole) ∙ passed ∙ omega arith
agrees [] [] (Some stop) at bs h =
    let gap : List ℕ = h.0 in
    let rest : List ℕ = h.1 ∷ h.2 in
    let passed = gap_passed is_inside inside_passes gap rest h.3 in
    let there : drop (length gap) bs ≡ rest = ap (drop (length gap)) h.4 ∙ drop-append_seam gap rest in
    (length gap, h.5, ap (passed_len is_inside places.Open) h.4 ∙ passed ∙ ap (λ (u : List ℕ). length gap + passed_len is_inside places.Open u) (sym there))
agrees [] (s ∷ ss) stop at bs h = absurd h
agrees (t ∷ ts) [] stop at bs h = absurd h
agrees (t ∷ ts) (s ∷ ss) stop at bs h =
    let gap : List ℕ = h.0 in
    let front : List ℕ = h.1 in
    let rest : List ℕ = h.2 in
    let passed : passed_len is_inside places.Open (gap ++ (front ++ rest)) ≡ length gap + (length front + passed_len is_inside places.Open rest) =
    gap_passed is_inside inside_passes gap (front ++ rest) h.3 ∙ ap (λ (n : ℕ). length gap + n) (token_passed front rest t h.4 h.5) in
    subst (λ (u : List ℕ). Agrees at u stop) (sym h.6) (agrees_on at gap front rest stop passed (agrees ts ss stop (at + length gap + length front) rest h.8))

pub whole : (text : List ℕ) (found : Tokens) → Lexed text found → found.stop ≡ None → statement_len text ≡ length text
unfolding Agrees
whole text found h e = subst (λ (o : Option ℕ). Agrees 0 text o) e (agrees found.tokens found.spans found.stop 0 text h.0)

pub stop : (text : List ℕ) (found : Tokens) (at : ℕ) → Lexed text found → found.stop ≡ Some at → statement_len text ≡ at + statement_len (drop at text)
unfolding Agrees
stop text found at h e =
    let a : Agrees 0 text (Some at) = subst (λ (o : Option ℕ). Agrees 0 text o) e (agrees found.tokens found.spans found.stop 0 text h.0) in
    let same : a.0 ≡ at = omega (arith, a.1) in
    a.2 ∙ ap (λ (n : ℕ). n + passed_len is_inside places.Open (drop n text)) same

-- the byte that stops the tokens stands in the text
within : (ts : List Token) (ss : List Span) (n at : ℕ) (bs : List ℕ) → LexedFrom at bs ts ss (Some n) → n < at + length bs
within [] [] n at bs h = let size : length bs ≡ length h.0 + suc (length h.2) = ap (λ (u : List ℕ). length u) h.4 ∙ length-append h.0 (h.1 ∷ h.2) in omega (arith, size, h.5)
within [] (s ∷ ss) n at bs h = absurd h
within (t ∷ ts) [] n at bs h = absurd h
within (t ∷ ts) (s ∷ ss) n at bs h =
    let more = within ts ss n (at + length h.0 + length h.1) h.2 h.8 in
    let size : length bs ≡ length h.0 + (length h.1 + length h.2) = ap (λ (u : List ℕ). length u) h.6 ∙ length-append h.0 (h.1 ++ h.2) ∙ ap (λ (m : ℕ). length h.0 + m) (length-append h.1 h.2) in
    omega (arith, more, size)

-- a `;` at the start ends a statement
ends_at_once : (t : List ℕ) → begins 59 t ≡ true → statement_len t ≡ 0
ends_at_once [] h = refl
ends_at_once (b ∷ t) h = let same : b ≡ 59 = at_end b h in rw same refl
  where
    at_end : (b : ℕ) → (b == 59) ≡ true → b ≡ 59
    at_end b h = grind (arith, nat_tests)

pub no_end : (text : List ℕ) (found : Tokens) (at : ℕ) → Lexed text found → found.stop ≡ Some at → statement_len text ≡ length text → begins 59 (drop at text) ≡ false
no_end text found at h e k = go (begins 59 (drop at text)) refl
  where
    go : (b : Bool) → begins 59 (drop at text) ≡ b → b ≡ false
    go false f = refl
    go true f =
        let none = ends_at_once (drop at text) f in
        let far = stop text found at h e in
        let in_text = within found.tokens found.spans at 0 text (subst (λ (o : Option ℕ). LexedFrom 0 text found.tokens found.spans o) e h.0) in
        absurd (omega (arith, none, far, in_text, k))

pub read_whole : (text : List ℕ) (s : Stmt) → IsTextOf text s → statement_len text ≡ length text
read_whole text s r = whole text r.found r.lexed r.read.0

-- Whole texts: what the lexer's loop has found so far, and that a text has one list of tokens.
use Rattle.std.proofs.Common.{true, false, ◌==◌, ◌≡◌, ℕ, suc, ◌+◌, ◌-◌, ◌≤◌, ◌<◌, List, [], ◌∷◌, ◌++◌, length, Option, Some, None, refl, sym, ap, subst, ◌∙◌, append_assoc, arith}
use Rattle.std.proofs.lemmas.List.{length-append}
use Rattle.lb_tok.specs.declared.token.Token.{Token}
use Rattle.lb_tok.specs.declared.token.Span.{Span}
use Rattle.lb_tok.specs.Lexing.{begins_gap, Gap, StandsBefore, LexedFrom}
use Rattle.lb_tok.specs.Scanning.{past_gap, token_from}
use Rattle.lb_tok.proofs.Gaps.{gap_of, gap_done, past_of, is_same}
use Rattle.lb_tok.proofs.Scanned.{token_sound, token_only, no_gap_before, written_filled}

-- Some tokens were found, and rest is what follows the gap after them.
pub record Tracked (text : List ℕ) (tokens : List Token) (spans : List Span) (rest : List ℕ) : Type 0 where
  pub before : List ℕ
  pub passed : past_gap before ≡ rest
  pub fits : length before ≤ length text
  pub goes_on : (ts : List Token) (ss : List Span) (stop : Option ℕ) → LexedFrom (length text - length before) before ts ss stop → LexedFrom 0 text (tokens ++ ts) (spans ++ ss) stop

pub begun : (text : List ℕ) → Tracked text [] [] (past_gap text)
begun text = record { before = text; passed = refl; fits = omega arith; goes_on = λ ts ss stop h. subst (λ (n : ℕ). LexedFrom n text ts ss stop) (zeroed (length text)) h }
  where
    zeroed : (n : ℕ) → n - n ≡ 0
    zeroed n = omega arith

nil : {A : Type 0} (a : List A) → a ++ [] ≡ a
nil [] = refl
nil (x ∷ a) = ap (λ u. x ∷ u) (nil a)

-- the gap before what is left
record GapBefore (before rest : List ℕ) : Type 0 where
  gap : List ℕ
  is_gap : Gap gap rest
  whole : before ≡ gap ++ rest
  size : length before ≡ length gap + length rest

gap_before : (before rest : List ℕ) → past_gap before ≡ rest → GapBefore before rest
gap_before before rest e =
    let g = gap_of before in
    let w : before ≡ g.0 ++ rest = g.2 ∙ ap (λ (u : List ℕ). g.0 ++ u) e in
    record { gap = g.0; is_gap = subst (λ (u : List ℕ). Gap g.0 u) e g.1; whole = w; size = ap (λ (u : List ℕ). length u) w ∙ length-append g.0 rest }

-- nothing is left
pub all_found : (text : List ℕ) (tokens : List Token) (spans : List Span) (rest : List ℕ) → Tracked text tokens spans rest → rest ≡ [] → LexedFrom 0 text tokens spans None
all_found text tokens spans rest t e =
    let g = gap_before t.before [] (t.passed ∙ e) in
    let h : Gap t.before [] = subst (λ (u : List ℕ). Gap u []) (sym (g.whole ∙ nil g.gap)) g.is_gap in
    subst (λ (ts : List Token). LexedFrom 0 text ts spans None) (nil tokens) (subst (λ (ss : List Span). LexedFrom 0 text (tokens ++ []) ss None) (nil spans) (t.goes_on [] [] None h))

-- no token begins with what is left
pub stopped : (text : List ℕ) (tokens : List Token) (spans : List Span) (rest : List ℕ) → Tracked text tokens spans rest → 0 < length rest → token_from rest ≡ None → LexedFrom 0 text tokens spans (Some (length text - length rest))
stopped text tokens spans [] t lt e = absurd (omega arith)
stopped text tokens spans (b ∷ rest) t lt e =
    let g = gap_before t.before (b ∷ rest) t.passed in
    let at : length text - length (b ∷ rest) ≡ (length text - length t.before) + length g.gap = omega (arith, g.size, t.fits) in
    let no_gap : begins_gap (b ∷ rest) ≡ false = subst (λ (u : List ℕ). begins_gap u ≡ false) t.passed (gap_done t.before) in
    subst (λ (ts : List Token). LexedFrom 0 text ts spans (Some (length text - length (b ∷ rest)))) (nil tokens) (subst (λ (ss : List Span). LexedFrom 0 text (tokens ++ []) ss (Some (length text - length (b ∷ rest)))) (nil spans)
    (t.goes_on [] [] (Some (length text - length (b ∷ rest))) (g.gap, b, rest, g.is_gap, g.whole, at, no_gap, λ u after s. no u after (sym e ∙ token_only (b ∷ rest) after u s))))
  where
    no : (u : Token) (after : List ℕ) → ◌≡◌ {A = Option (Token × List ℕ)} None (Some (u, after)) → ⊥
    no u after h = cc

-- one token more
pub one_more : (text : List ℕ) (tokens : List Token) (spans : List Span) (rest : List ℕ) (u : Token) (after : List ℕ) → Tracked text tokens spans rest → token_from rest ≡ Some (u, after)
    → Tracked text (tokens ++ u ∷ []) (spans ++ record { from = length text - length rest; to = length text - length after } ∷ []) (past_gap after)
one_more text tokens spans rest u after t e =
    let g = gap_before t.before rest t.passed in
    let no_gap : begins_gap rest ≡ false = subst (λ (u : List ℕ). begins_gap u ≡ false) t.passed (gap_done t.before) in
    let s = token_sound rest u after no_gap e in
    let size : length rest ≡ length s.0 + length after = ap (λ (v : List ℕ). length v) s.3 ∙ length-append s.0 after in
    let from : length text - length rest ≡ (length text - length t.before) + length g.gap = omega (arith, g.size, t.fits) in
    let to : length text - length after ≡ (length text - length t.before) + length g.gap + length s.0 = omega (arith, g.size, size, t.fits) in
    let span : Span = record { from = length text - length rest; to = length text - length after } in
    record {
      before = after;
      passed = refl;
      fits = omega (arith, g.size, size, t.fits);
      goes_on = λ ts ss stop h.
          subst (λ (v : List Token). LexedFrom 0 text v ((spans ++ span ∷ []) ++ ss) stop) (sym (append_assoc tokens (u ∷ []) ts))
          (subst (λ (v : List Span). LexedFrom 0 text (tokens ++ u ∷ ts) v stop) (sym (append_assoc spans (span ∷ []) ss))
          (t.goes_on (u ∷ ts) (span ∷ ss) stop (
            g.gap,
            s.0,
            after,
            subst (λ (v : List ℕ). Gap g.gap v) s.3 g.is_gap,
            s.1,
            s.2,
            g.whole ∙ ap (λ (v : List ℕ). g.gap ++ v) s.3,
            spans_are _ _ _ _ from to,
            subst (λ (n : ℕ). LexedFrom n after ts ss stop) to h,
          )));
    }
  where
    spans_are : (a b c d : ℕ) → a ≡ c → b ≡ d → ◌≡◌ {A = Span} (record { from = a; to = b }) (record { from = c; to = d })
    spans_are a b c d e f = ap (λ (n : ℕ). record { from = n; to = b }) e ∙ ap (λ (n : ℕ). record { from = c; to = n }) f

-- ---- what is left grows shorter

pub is_nothing : (bs : List ℕ) → true ≡ (length bs == 0) → bs ≡ []
is_nothing [] e = refl
is_nothing (b ∷ bs) e = let q : length (b ∷ bs) ≡ 0 = is_same (length (b ∷ bs)) 0 (sym e) in absurd (omega arith)

pub rest_fits : (text : List ℕ) (tokens : List Token) (spans : List Span) (rest : List ℕ) → Tracked text tokens spans rest → length rest ≤ length text
rest_fits text tokens spans rest t = let g = gap_before t.before rest t.passed in omega (arith, g.size, t.fits)

pub after_shorter : (text : List ℕ) (tokens : List Token) (spans : List Span) (rest : List ℕ) (u : Token) (after : List ℕ) → Tracked text tokens spans rest → token_from rest ≡ Some (u, after) → length after < length rest
after_shorter text tokens spans rest u after t e =
    let no_gap : begins_gap rest ≡ false = subst (λ (u : List ℕ). begins_gap u ≡ false) t.passed (gap_done t.before) in
    let s = token_sound rest u after no_gap e in
    let size : length rest ≡ length s.0 + length after = ap (λ (v : List ℕ). length v) s.3 ∙ length-append s.0 after in
    let filled = written_filled s.0 u s.1 in omega (arith, size, filled)

pub gap_shorter : (bs : List ℕ) → length (past_gap bs) ≤ length bs
gap_shorter bs = let g = gap_before bs (past_gap bs) refl in omega (arith, g.size)

-- ---- a text has one list of tokens

pub record SameLexing (ts us : List Token) (ss rs : List Span) (stop end : Option ℕ) : Type 0 where
  pub tokens : ts ≡ us
  pub spans : ss ≡ rs
  pub stops : stop ≡ end

-- what follows the gap at the front
after_gap : (bs gap rest : List ℕ) → bs ≡ gap ++ rest → Gap gap rest → begins_gap rest ≡ false → past_gap bs ≡ rest
after_gap bs gap rest e g h = ap (λ (u : List ℕ). past_gap u) e ∙ past_of g.0 gap rest g.1 h

no_cons : (b : ℕ) (bs : List ℕ) → ◌≡◌ {A = List ℕ} [] (b ∷ bs) → ⊥
no_cons b bs e = cc

no_token : (u : Token) (after : List ℕ) → token_from [] ≡ Some (u, after) → ⊥
unfolding token_from
no_token u after e = let h : ◌≡◌ {A = Option (Token × List ℕ)} None (Some (u, after)) = e in absurd cc

same_pair : (t u : Token) (a b : List ℕ) → ◌≡◌ {A = Option (Token × List ℕ)} (Some (t, a)) (Some (u, b)) → (t ≡ u) × (a ≡ b)
same_pair t u a b e = let q : ◌≡◌ {A = Token × List ℕ} (t, a) (u, b) = cc in (ap (λ (r : Token × List ℕ). r.0) q, ap (λ (r : Token × List ℕ). r.1) q)

-- as many spans as tokens
pub paired : (ts : List Token) (at : ℕ) (bs : List ℕ) (ss : List Span) (stop : Option ℕ) → LexedFrom at bs ts ss stop → length ss ≡ length ts
paired [] at bs [] stop h = refl
paired [] at bs (s ∷ ss) stop h = absurd h
paired (t ∷ ts) at bs [] stop h = absurd h
paired (t ∷ ts) at bs (s ∷ ss) stop h = ap (λ (n : ℕ). suc n) (paired ts _ h.2 ss stop h.8)

pub one_lexing : (ts us : List Token) (at : ℕ) (bs : List ℕ) (ss rs : List Span) (stop end : Option ℕ) → LexedFrom at bs ts ss stop → LexedFrom at bs us rs end → SameLexing ts us ss rs stop end
one_lexing [] [] at bs (s ∷ ss) rs stop end h k = absurd h
one_lexing [] [] at bs [] (r ∷ rs) stop end h k = absurd k
one_lexing [] [] at bs [] [] None None h k = record { tokens = refl; spans = refl; stops = refl }
one_lexing [] [] at bs [] [] None (Some n) h k = absurd (no_cons k.1 k.2 (sym (after_gap bs bs [] (sym (nil bs)) h refl) ∙ after_gap bs k.0 (k.1 ∷ k.2) k.4 k.3 k.6))
one_lexing [] [] at bs [] [] (Some n) None h k = absurd (no_cons h.1 h.2 (sym (after_gap bs bs [] (sym (nil bs)) k refl) ∙ after_gap bs h.0 (h.1 ∷ h.2) h.4 h.3 h.6))
one_lexing [] [] at bs [] [] (Some n) (Some m) h k =
    let same : h.1 ∷ h.2 ≡ k.1 ∷ k.2 = sym (after_gap bs h.0 (h.1 ∷ h.2) h.4 h.3 h.6) ∙ after_gap bs k.0 (k.1 ∷ k.2) k.4 k.3 k.6 in
    let one : length bs ≡ length h.0 + length (h.1 ∷ h.2) = ap (λ (u : List ℕ). length u) h.4 ∙ length-append h.0 (h.1 ∷ h.2) in
    let two : length bs ≡ length k.0 + length (k.1 ∷ k.2) = ap (λ (u : List ℕ). length u) k.4 ∙ length-append k.0 (k.1 ∷ k.2) in
    let len : length (h.1 ∷ h.2) ≡ length (k.1 ∷ k.2) = ap (λ (u : List ℕ). length u) same in
    let eq : n ≡ m = omega (arith, one, two, len, h.5, k.5) in
    record { tokens = refl; spans = refl; stops = ap (λ (i : ℕ). Some i) eq }
one_lexing [] (u ∷ us) at bs (s ∷ ss) rs stop end h k = absurd h
one_lexing [] (u ∷ us) at bs [] [] stop end h k = absurd k
one_lexing [] (u ∷ us) at bs [] (r ∷ rs) None end h k =
    let front : StandsBefore (k.1 ++ k.2) u k.2 = (k.1, k.4, k.5, refl) in
    let gone = after_gap bs k.0 (k.1 ++ k.2) k.6 k.3 (no_gap_before (k.1 ++ k.2) k.2 u front) in
    absurd (no_token u k.2 (ap token_from (sym (after_gap bs bs [] (sym (nil bs)) h refl) ∙ gone) ∙ token_only (k.1 ++ k.2) k.2 u front))
one_lexing [] (u ∷ us) at bs [] (r ∷ rs) (Some n) end h k =
    let front : StandsBefore (k.1 ++ k.2) u k.2 = (k.1, k.4, k.5, refl) in
    let gone = after_gap bs k.0 (k.1 ++ k.2) k.6 k.3 (no_gap_before (k.1 ++ k.2) k.2 u front) in
    let same : k.1 ++ k.2 ≡ h.1 ∷ h.2 = sym gone ∙ after_gap bs h.0 (h.1 ∷ h.2) h.4 h.3 h.6 in
    absurd (h.7 u k.2 (subst (λ (v : List ℕ). StandsBefore v u k.2) same front))
one_lexing (t ∷ ts) [] at bs ss (r ∷ rs) stop end h k = absurd k
one_lexing (t ∷ ts) [] at bs [] [] stop end h k = absurd h
one_lexing (t ∷ ts) [] at bs (s ∷ ss) [] stop None h k =
    let front : StandsBefore (h.1 ++ h.2) t h.2 = (h.1, h.4, h.5, refl) in
    let gone = after_gap bs h.0 (h.1 ++ h.2) h.6 h.3 (no_gap_before (h.1 ++ h.2) h.2 t front) in
    absurd (no_token t h.2 (ap token_from (sym (after_gap bs bs [] (sym (nil bs)) k refl) ∙ gone) ∙ token_only (h.1 ++ h.2) h.2 t front))
one_lexing (t ∷ ts) [] at bs (s ∷ ss) [] stop (Some n) h k =
    let front : StandsBefore (h.1 ++ h.2) t h.2 = (h.1, h.4, h.5, refl) in
    let gone = after_gap bs h.0 (h.1 ++ h.2) h.6 h.3 (no_gap_before (h.1 ++ h.2) h.2 t front) in
    let same : h.1 ++ h.2 ≡ k.1 ∷ k.2 = sym gone ∙ after_gap bs k.0 (k.1 ∷ k.2) k.4 k.3 k.6 in
    absurd (k.7 t h.2 (subst (λ (v : List ℕ). StandsBefore v t h.2) same front))
one_lexing (t ∷ ts) (u ∷ us) at bs [] rs stop end h k = absurd h
one_lexing (t ∷ ts) (u ∷ us) at bs (s ∷ ss) [] stop end h k = absurd k
one_lexing (t ∷ ts) (u ∷ us) at bs (s ∷ ss) (r ∷ rs) stop end h k =
    let f : StandsBefore (h.1 ++ h.2) t h.2 = (h.1, h.4, h.5, refl) in
    let g : StandsBefore (k.1 ++ k.2) u k.2 = (k.1, k.4, k.5, refl) in
    let a = after_gap bs h.0 (h.1 ++ h.2) h.6 h.3 (no_gap_before (h.1 ++ h.2) h.2 t f) in
    let b = after_gap bs k.0 (k.1 ++ k.2) k.6 k.3 (no_gap_before (k.1 ++ k.2) k.2 u g) in
    let both : ◌≡◌ {A = Option (Token × List ℕ)} (Some (t, h.2)) (Some (u, k.2)) = sym (token_only (h.1 ++ h.2) h.2 t f) ∙ ap token_from (sym a ∙ b) ∙ token_only (k.1 ++ k.2) k.2 u g in
    let pair = same_pair t u h.2 k.2 both in
    let token : t ≡ u = pair.0 in
    let rest : h.2 ≡ k.2 = pair.1 in
    let whole : length (h.1 ++ h.2) ≡ length (k.1 ++ k.2) = ap (λ (v : List ℕ). length v) (sym a ∙ b) in
    let one : length bs ≡ length h.0 + length (h.1 ++ h.2) = ap (λ (v : List ℕ). length v) h.6 ∙ length-append h.0 (h.1 ++ h.2) in
    let two : length bs ≡ length k.0 + length (k.1 ++ k.2) = ap (λ (v : List ℕ). length v) k.6 ∙ length-append k.0 (k.1 ++ k.2) in
    let three = length-append h.1 h.2 in
    let four = length-append k.1 k.2 in
    let left : length h.2 ≡ length k.2 = ap (λ (v : List ℕ). length v) rest in
    let from : at + length h.0 ≡ at + length k.0 = omega (arith, one, two, whole) in
    let to : at + length h.0 + length h.1 ≡ at + length k.0 + length k.1 = omega (arith, one, two, whole, three, four, left) in
    let next : LexedFrom (at + length h.0 + length h.1) h.2 us rs end = subst (λ (n : ℕ). LexedFrom n h.2 us rs end) (sym to) (subst (λ (v : List ℕ). LexedFrom (at + length k.0 + length k.1) v us rs end) (sym rest) k.8) in
    let more = one_lexing ts us (at + length h.0 + length h.1) h.2 ss rs stop end h.8 next in
    let span : s ≡ r = h.7 ∙ ap (λ (n : ℕ). record { from = n; to = at + length h.0 + length h.1 }) from ∙ ap (λ (n : ℕ). record { from = at + length k.0; to = n }) to ∙ sym k.7 in
    record { tokens = ap (λ (v : Token). v ∷ ts) token ∙ ap (λ (v : List Token). u ∷ v) more.tokens; spans = ap (λ (v : Span). v ∷ ss) span ∙ ap (λ (v : List Span). r ∷ v) more.spans; stops = more.stops }

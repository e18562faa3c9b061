-- Blank statements and QUIT, as pieces and as tokens.
use Rattle.std.proofs.Common.{Bool, true, false, cond, inl, inr, ◌≡◌, ℕ, ◌+◌, ◌≤◌, List, [], ◌∷◌, ◌++◌, length, take, drop, Some, None, refl, sym, ap, subst, ◌∙◌, arith, codes}
use Rattle.std.specs.Prelude.{◌==◌, ◌&&◌, ◌||◌, ◌↔◌}
use Rattle.std.specs.Str.{bytes_eq}
use Rattle.std.specs.Char.{is_ascii_alphabetic, to_ascii_uppercase}
use Rattle.std.proofs.lemmas.Bool.{eq-eqb}
use Rattle.std.proofs.lemmas.Bool.Decides.{nat_tests}
use Rattle.std.proofs.lemmas.Slice.Eq.{bytes_eq-Decides}
use Rattle.std.proofs.lemmas.List.{append-nil, length-append, length-map, take-append-drop}
use Rattle.std.proofs.Math.Seq.{drop-append_seam, take-append_seam}
use Rattle.lb_base.specs.Names.{is_name_byte, name_of, folded}
use Rattle.lb_split.specs.Lexing.{is_white, behind, passed_len, is_gap, gap_len, is_quit}
use Rattle.lb_split.specs.Lexing as split
use Rattle.lb_tok.specs.declared.kind.Kind.{Kind}
use Rattle.lb_tok.specs.declared.kind.Kind.TheVariants as kinds
use Rattle.lb_tok.specs.declared.token.Token.{Token}
use Rattle.lb_tok.specs.declared.token.Content.TheVariants as contents
use Rattle.lb_tok.specs.declared.token.Span.{Span}
use Rattle.lb_tok.specs.Kinds.{from_to, has, names, kind_of, keywords, spelling}
use Rattle.lb_tok.specs.Lexing.{is_blank, begins, begins_gap, goes_on, Writes, Piece, a_blank, a_comment, GapOf, Gap, LexedFrom}
use Rattle.lb_tok.specs.Scanning.{past_gap}
use Rattle.lb_tok.specs.Spelled.{AreTokens}
use Rattle.lb_tok.proofs.Gaps.{gap_of, gap_done}
use Rattle.lb_tok.proofs.Scanned.{no_gap_before}
use Rattle.lb_agree.specs.Agreeing.{quit_token}
use Rattle.lb_agree.proofs.Passed.{gaps_pass, gap_passed, name_bytes}

-- ---- a gap is as long to pieces as to tokens

dash : (bs : List ℕ) → begins (λ c. c == 45) bs ≡ split.begins 45 bs
dash [] = refl
dash (b ∷ bs) = refl

-- nothing is passed where no gap begins
none_passed : (bs : List ℕ) → begins_gap bs ≡ false → gap_len bs ≡ 0
none_passed [] h = refl
none_passed (b ∷ bs) h = go (b == 39) (b == 45) (split.begins 45 bs) (is_white b) refl refl refl refl (ap (λ (v : Bool). is_blank b || (b == 45 && v)) (sym (dash bs)) ∙ h)
  where
    go : (q d m w : Bool) → (b == 39) ≡ q → (b == 45) ≡ d → split.begins 45 bs ≡ m → is_white b ≡ w → (is_blank b || (b == 45 && split.begins 45 bs)) ≡ false → gap_len (b ∷ bs) ≡ 0
    go q d m true e f g k h = absurd (on k f g h)
      where
        on : is_white b ≡ true → (b == 45) ≡ d → split.begins 45 bs ≡ m → (is_white b || (b == 45 && split.begins 45 bs)) ≡ false → ⊥
        on k f g h = absurd (no (is_white b) (b == 45 && split.begins 45 bs) k h)
          where
            no : (x y : Bool) → x ≡ true → (x || y) ≡ false → ⊥
            no true y e z = absurd cc
            no false y e z = absurd cc
    go true d m false e f g k h = rw e refl
    go false false m false e f g k h = rw (e, f, k) refl
    go false true false false e f g k h = rw (e, f, g, k) refl
    go false true true false e f g k h = absurd (no (is_white b) (b == 45) (split.begins 45 bs) f g h)
      where
        no : (x y z : Bool) → y ≡ true → z ≡ true → (x || (y && z)) ≡ false → ⊥
        no true y z e f h = absurd cc
        no false true true e f h = absurd cc
        no false true false e f h = absurd cc
        no false false z e f h = absurd cc

pub gap_len_of : (gap rest : List ℕ) → Gap gap rest → begins_gap rest ≡ false → gap_len (gap ++ rest) ≡ length gap
gap_len_of gap rest g h = let passed = gap_passed is_gap gaps_pass gap rest g in let none = none_passed rest h in omega (arith, passed, none)

-- the gap that a text begins with, and what follows it
record Begins (text : List ℕ) : Type 0 where
  gap : List ℕ
  rest : List ℕ
  is_gap : Gap gap rest
  whole : text ≡ gap ++ rest
  size : gap_len text ≡ length gap
  after : drop (gap_len text) text ≡ rest
  no_gap : begins_gap rest ≡ false

begun : (text : List ℕ) → Begins text
begun text =
    let g = gap_of text in
    let size : gap_len text ≡ length g.0 = ap gap_len g.2 ∙ gap_len_of g.0 (past_gap text) g.1 (gap_done text) in
    record {
      gap = g.0;
      rest = past_gap text;
      is_gap = g.1;
      whole = g.2;
      size = size;
      after = ap (λ (n : ℕ). drop n text) size ∙ ap (drop (length g.0)) g.2 ∙ drop-append_seam g.0 (past_gap text);
      no_gap = gap_done text;
    }

-- ---- blank statements

pub is_length : (n m : ℕ) → (n == m) ≡ true → n ≡ m
is_length n m h = grind (arith, nat_tests)

empty : (xs : List ℕ) → length xs ≡ 0 → xs ≡ []
empty [] h = refl
empty (x ∷ xs) h = absurd (omega (arith, h))

blank_gap : (text : List ℕ) → split.is_blank text ≡ true → Gap text []
blank_gap text h =
    let b = begun text in
    let size : length text ≡ length b.gap + length b.rest = ap (λ (u : List ℕ). length u) b.whole ∙ length-append b.gap b.rest in
    let none : b.rest ≡ [] = empty b.rest (omega (arith, size, b.size, is_length (gap_len text) (length text) h)) in
    let all : text ≡ b.gap = b.whole ∙ ap (λ (u : List ℕ). b.gap ++ u) none ∙ append-nil b.gap in
    subst (λ (u : List ℕ). Gap u []) (sym all) (subst (λ (u : List ℕ). Gap b.gap u) none b.is_gap)

pub gap_blank : (text : List ℕ) → Gap text [] → split.is_blank text ≡ true
gap_blank text g =
    let passed = gap_passed is_gap gaps_pass text [] g in
    let size : gap_len text ≡ length text = ap gap_len (sym (append-nil text)) ∙ passed ∙ omega arith in
    eq-eqb (gap_len text) (length text) size

pub no_tokens_gap : (text : List ℕ) (ss : List Span) → LexedFrom 0 text [] ss None → Gap text []
no_tokens_gap text [] h = h
no_tokens_gap text (s ∷ ss) h = absurd h

pub blank_is_empty : (text : List ℕ) → (split.is_blank text ≡ true) ↔ AreTokens text []
blank_is_empty text = (λ h. ([], blank_gap text h), λ t. gap_blank text (no_tokens_gap text t.0 t.1))

-- ---- QUIT

both : (a b : Bool) → (a && b) ≡ true → (a ≡ true) × (b ≡ true)
both true true e = (refl, refl)
both true false e = absurd cc
both false b e = absurd cc

folds_to : (b n : ℕ) → 65 ≤ n → n ≤ 90 → to_ascii_uppercase b ≡ n → is_ascii_alphabetic b ≡ true
folds_to b n low high h = grind (arith, nat_tests)

-- four bytes that fold to QUIT are a name
spelled : (front : List ℕ) → folded front ≡ codes "QUIT" → name_of front ≡ Some (codes "QUIT")
spelled [] h = absurd cc
spelled (a ∷ []) h = absurd cc
spelled (a ∷ b ∷ []) h = absurd cc
spelled (a ∷ b ∷ c ∷ []) h = absurd cc
spelled (a ∷ b ∷ c ∷ d ∷ []) h =
    let ea : to_ascii_uppercase a ≡ 81 = cc in
    let eb : to_ascii_uppercase b ≡ 85 = cc in
    let ec : to_ascii_uppercase c ≡ 73 = cc in
    let ed : to_ascii_uppercase d ≡ 84 = cc in
    named a b c d (folds_to a 81 (omega arith) (omega arith) ea) (folds_to b 85 (omega arith) (omega arith) eb) (folds_to c 73 (omega arith) (omega arith) ec) (folds_to d 84 (omega arith) (omega arith) ed)
    ∙ ap (λ (u : List ℕ). Some u) h
  where
    letter_byte : (x : ℕ) → is_ascii_alphabetic x ≡ true → is_name_byte x ≡ true
    letter_byte x h = grind (arith, nat_tests)

    named : (a b c d : ℕ) → is_ascii_alphabetic a ≡ true → is_ascii_alphabetic b ≡ true → is_ascii_alphabetic c ≡ true → is_ascii_alphabetic d ≡ true → name_of (a ∷ b ∷ c ∷ d ∷ []) ≡ Some (folded (a ∷ b ∷ c ∷ d ∷ []))
    named a b c d ha hb hc hd = rw (ha, letter_byte a ha, letter_byte b hb, letter_byte c hc, letter_byte d hd) refl
spelled (a ∷ b ∷ c ∷ d ∷ x ∷ more) h = absurd cc

-- no name goes on with a gap
blank_no_name : (b : ℕ) → is_blank b ≡ true → is_name_byte b ≡ false
blank_no_name b h = grind (arith, nat_tests)

gap_no_name : (ps : List Piece) (rest : List ℕ) → GapOf ps rest [] → begins is_name_byte rest ≡ false
gap_no_name [] rest (inl h) = rw h refl
gap_no_name [] rest (inr h) = rw h.3 refl
gap_no_name (a_blank b ∷ ps) rest h = rw h.3 (blank_no_name b h.1)
gap_no_name (a_comment line ∷ ps) rest h = rw h.3 refl

quit_kind : kind_of (codes "QUIT") ≡ kinds.Word
unfolding has spelling kind_of keywords
quit_kind = refl

word_goes_on : (b : ℕ) → goes_on kinds.Word b ≡ is_name_byte b
unfolding has
word_goes_on b = refl

quit_ends : (rest : List ℕ) → begins is_name_byte rest ≡ false → begins (goes_on quit_token.kind) rest ≡ false
quit_ends [] h = refl
quit_ends (b ∷ rest) h = ap (λ (k : Kind). goes_on k b) quit_kind ∙ word_goes_on b ∙ h

-- what stands after the gap, as pieces see it
seen : List ℕ → Bool
seen u = bytes_eq (folded (take 4 u)) (codes "QUIT") && split.is_blank (drop 4 u)

quit_tokens : (text : List ℕ) → is_quit text ≡ true → AreTokens text (quit_token ∷ [])
unfolding seen
quit_tokens text h =
    let b = begun text in
    let front : List ℕ = take 4 b.rest in
    let rest : List ℕ = drop 4 b.rest in
    let here : seen b.rest ≡ true = ap seen (sym b.after) ∙ h in
    let p = both (bytes_eq (folded front) (codes "QUIT")) (split.is_blank rest) here in
    let folds : folded front ≡ codes "QUIT" = (bytes_eq-Decides (folded front) (codes "QUIT")).0 p.0 in
    let parts : b.rest ≡ front ++ rest = sym (take-append-drop 4 b.rest) in
    let gap : Gap b.gap (front ++ rest) = subst (λ (u : List ℕ). Gap b.gap u) parts b.is_gap in
    let blank : Gap rest [] = blank_gap rest p.1 in
    let writes : Writes front quit_token = inl (codes "QUIT", spelled front folds, refl) in
    let span : Span = record { from = 0 + length b.gap; to = 0 + length b.gap + length front } in
    (span ∷ [], (b.gap, front, rest, gap, writes, quit_ends rest (gap_no_name blank.0 rest blank.1), b.whole ∙ ap (λ (u : List ℕ). b.gap ++ u) parts, refl, blank))

-- the bytes of the token
quit_content : quit_token.content ≡ contents.Word (codes "QUIT")
unfolding has spelling kind_of keywords
quit_content = refl

word_content : (n m : List ℕ) (v : Bool) → contents.Word n ≡ cond v (contents.Word m) contents.Nothing → n ≡ m
word_content n m true e = cc
word_content n m false e = absurd cc

no_symbol : (k : Kind) → kinds.Word ≡ k → has (from_to kinds.Open kinds.RightBrace) k ≡ true → ⊥
unfolding has
no_symbol k e h = word_is (subst (λ (j : Kind). has (from_to kinds.Open kinds.RightBrace) j ≡ true) (sym e) h)
  where
    word_is : has (from_to kinds.Open kinds.RightBrace) kinds.Word ≡ true → ⊥
    word_is h = absurd cc

kind_is : (t : Token) → quit_token ≡ t → kinds.Word ≡ t.kind
kind_is t e = sym quit_kind ∙ ap (λ (u : Token). u.kind) e

writes_quit : (front : List ℕ) → Writes front quit_token → folded front ≡ codes "QUIT"
writes_quit front (inl w) = (name_bytes front w.0 w.1).1 ∙ sym (word_content (codes "QUIT") w.0 (has names (kind_of w.0)) (sym quit_content ∙ ap (λ (u : Token). u.content) w.2))
writes_quit front (inr (inl w)) = absurd (let e = kind_is _ w.5 in not_numeral e)
  where
    not_numeral : kinds.Word ≡ kinds.Numeral → ⊥
    not_numeral e = cc
writes_quit front (inr (inr (inl w))) = absurd (let e = kind_is _ w.2 in not_text e)
  where
    not_text : kinds.Word ≡ kinds.Text → ⊥
    not_text e = cc
writes_quit front (inr (inr (inr (inl w)))) = absurd (no_symbol w.0 (kind_is _ w.3) w.1)
writes_quit front (inr (inr (inr (inr w)))) = absurd (let e = kind_is _ w.1 in not_symbol e)
  where
    not_symbol : kinds.Word ≡ kinds.NotEqual → ⊥
    not_symbol e = cc

seen_is : (front rest : List ℕ) → folded front ≡ codes "QUIT" → Gap rest [] → seen (front ++ rest) ≡ true
unfolding seen
seen_is front rest f g =
    let size : length front ≡ 4 = sym (length-map front to_ascii_uppercase) ∙ ap (λ (u : List ℕ). length u) f in
    let first : take 4 (front ++ rest) ≡ front = ap (λ (n : ℕ). take n (front ++ rest)) (sym size) ∙ take-append_seam front rest in
    let then : drop 4 (front ++ rest) ≡ rest = ap (λ (n : ℕ). drop n (front ++ rest)) (sym size) ∙ drop-append_seam front rest in
    let spells : bytes_eq (folded (take 4 (front ++ rest))) (codes "QUIT") ≡ true = (bytes_eq-Decides (folded (take 4 (front ++ rest))) (codes "QUIT")).1 (ap folded first ∙ f) in
    let blank : split.is_blank (drop 4 (front ++ rest)) ≡ true = ap split.is_blank then ∙ gap_blank rest g in
    rw (spells, blank) refl

tokens_quit : (text : List ℕ) (ss : List Span) → LexedFrom 0 text (quit_token ∷ []) ss None → is_quit text ≡ true
unfolding seen
tokens_quit text [] h = absurd h
tokens_quit text (s ∷ (r ∷ ss)) h = absurd h.8
tokens_quit text (s ∷ []) h =
    let gap : List ℕ = h.0 in
    let front : List ℕ = h.1 in
    let rest : List ℕ = h.2 in
    let no_gap : begins_gap (front ++ rest) ≡ false = no_gap_before (front ++ rest) rest quit_token (front, h.4, h.5, refl) in
    let size : gap_len text ≡ length gap = ap gap_len h.6 ∙ gap_len_of gap (front ++ rest) h.3 no_gap in
    let after : drop (gap_len text) text ≡ front ++ rest = ap (λ (n : ℕ). drop n text) size ∙ ap (drop (length gap)) h.6 ∙ drop-append_seam gap (front ++ rest) in
    ap seen after ∙ seen_is front rest (writes_quit front h.4) h.8

pub quit_is_quit : (text : List ℕ) → (is_quit text ≡ true) ↔ AreTokens text (quit_token ∷ [])
quit_is_quit text = (quit_tokens text, λ t. tokens_quit text t.0 t.1)

-- How pieces go through what tokens are made of: white space, comments, and each kind of token.
use Rattle.std.proofs.Common.{Bool, true, false, cond, ◌&&◌, ◌==◌, not, inl, inr, ◌≡◌, ℕ, suc, ◌+◌, List, [], ◌∷◌, ◌++◌, length, Some, None, refl, ap, subst, ◌∙◌, append_assoc, arith}
use Rattle.std.specs.List.{list_all}
use Rattle.std.specs.Prelude.{nat_le}
use Rattle.std.specs.Char.{is_ascii_digit, is_ascii_alphabetic}
use Rattle.std.proofs.lemmas.Bool.Decides.{nat_tests}
use Rattle.std.proofs.lemmas.List.{length-append}
use Rattle.lb_base.specs.Names.{is_name_byte, is_name, name_of, folded}
use Rattle.lb_split.specs.Lexing.{is_white, behind, passed_len, is_gap, is_inside}
use Rattle.lb_split.specs.Lexing as split
use Rattle.lb_split.specs.declared.scan.Place.{Place}
use Rattle.lb_split.specs.declared.scan.Place.TheVariants as places
use Rattle.lb_tok.specs.declared.kind.Kind.{Kind}
use Rattle.lb_tok.specs.declared.kind.Kind.TheVariants as kinds
use Rattle.lb_tok.specs.declared.token.Token.{Token}
use Rattle.lb_tok.specs.Kinds.{from_to, has, spelling}
use Rattle.lb_tok.specs.Lexing.{is_line, Piece, a_blank, a_comment, GapOf, Gap, doubled, goes_on, begins, Writes}

-- ---- a test that white space and comments pass

pub record PassesGaps (test : Place → ℕ → Bool) : Type 0 where
  pub white : (b : ℕ) → is_white b ≡ true → test places.Open b ≡ true
  pub comment : (b : ℕ) → test places.Comment b ≡ true

pub gaps_pass : PassesGaps is_gap
gaps_pass = record { white = λ b h. h; comment = λ b. refl }

pub inside_passes : PassesGaps is_inside
inside_passes = record { white = no_end; comment = λ b. refl }
  where
    no_end : (b : ℕ) → is_white b ≡ true → not (b == 59) ≡ true
    no_end b h = grind (arith, nat_tests)

-- one byte more
pub one : (test : Place → ℕ → Bool) (p q : Place) (b : ℕ) (bs : List ℕ) → behind p b bs ≡ q → test q b ≡ true → passed_len test p (b ∷ bs) ≡ suc (passed_len test q bs)
one test p q b bs e h = rw (e, h) (omega arith)

white_stays : (b : ℕ) (bs : List ℕ) → is_white b ≡ true → behind places.Open b bs ≡ places.Open
white_stays b bs h = go (b == 39) (b == 45) refl refl
  where
    go : (q d : Bool) → (b == 39) ≡ q → (b == 45) ≡ d → cond q places.Quoted (cond (d && split.begins 45 bs) places.Comment places.Open) ≡ places.Open
    go true d e f = absurd (grind (arith, nat_tests))
    go false true e f = absurd (grind (arith, nat_tests))
    go false false e f = refl

both : (a b : Bool) → (a && b) ≡ true → (a ≡ true) × (b ≡ true)
both true true e = (refl, refl)
both true false e = absurd cc
both false b e = absurd cc

untrue : (b : Bool) → not b ≡ true → b ≡ false
untrue true e = absurd cc
untrue false e = refl

-- the bytes of a line stay in a comment
line_passed : (test : Place → ℕ → Bool) → PassesGaps test → (line rest : List ℕ) → is_line line ≡ true
    → passed_len test places.Comment (line ++ rest) ≡ length line + passed_len test places.Comment rest
line_passed test t [] rest h = omega arith
line_passed test t (b ∷ line) rest h =
    let p = both (not (b == 10)) (is_line line) h in
    let stays : behind places.Comment b (line ++ rest) ≡ places.Comment = ap (λ (v : Bool). cond v places.Open places.Comment) (untrue (b == 10) p.0) in
    let more = line_passed test t line rest p.1 in
    one test places.Comment places.Comment b (line ++ rest) stays (t.comment b) ∙ omega (arith, more)

-- `--` begins a comment
dashes_passed : (test : Place → ℕ → Bool) → PassesGaps test → (rest : List ℕ) → passed_len test places.Open (45 ∷ 45 ∷ rest) ≡ suc (suc (passed_len test places.Comment rest))
dashes_passed test t rest =
    one test places.Open places.Comment 45 (45 ∷ rest) refl (t.comment 45) ∙ ap (λ (n : ℕ). suc n) (one test places.Comment places.Comment 45 rest refl (t.comment 45))

-- a line's end ends it
end_passed : (test : Place → ℕ → Bool) → PassesGaps test → (rest : List ℕ) → passed_len test places.Comment (10 ∷ rest) ≡ suc (passed_len test places.Open rest)
end_passed test t rest = one test places.Comment places.Open 10 rest refl (t.white 10 refl)

pub gap_of_passed : (test : Place → ℕ → Bool) → PassesGaps test → (ps : List Piece) (gap rest : List ℕ) → GapOf ps gap rest
    → passed_len test places.Open (gap ++ rest) ≡ length gap + passed_len test places.Open rest
gap_of_passed test t [] gap rest (inl h) = rw h (omega arith)
gap_of_passed test t [] gap rest (inr h) =
    let none : rest ≡ [] = h.0 in
    let line : List ℕ = h.1 in
    let in_line = line_passed test t line [] h.2 in
    let whole : passed_len test places.Open (45 ∷ 45 ∷ (line ++ [])) ≡ length (45 ∷ 45 ∷ line) + 0 = dashes_passed test t (line ++ []) ∙ omega (arith, in_line) in
    rw (h.3, none) whole
gap_of_passed test t (a_blank b ∷ ps) gap rest h =
    let more : List ℕ = h.0 in
    let then = gap_of_passed test t ps more rest h.2 in
    let whole : passed_len test places.Open (b ∷ (more ++ rest)) ≡ length (b ∷ more) + passed_len test places.Open rest =
    one test places.Open places.Open b (more ++ rest) (white_stays b (more ++ rest) h.1) (t.white b h.1) ∙ omega (arith, then) in
    rw h.3 whole
gap_of_passed test t (a_comment line ∷ ps) gap rest h =
    let more : List ℕ = h.0 in
    let then = gap_of_passed test t ps more rest h.2 in
    let in_line = line_passed test t line (10 ∷ (more ++ rest)) h.1 in
    let laid : (line ++ 10 ∷ more) ++ rest ≡ line ++ 10 ∷ (more ++ rest) = append_assoc line (10 ∷ more) rest in
    let end = end_passed test t (more ++ rest) in
    let size = length-append line (10 ∷ more) in
    let whole : passed_len test places.Open (45 ∷ 45 ∷ ((line ++ 10 ∷ more) ++ rest)) ≡ length (45 ∷ 45 ∷ (line ++ 10 ∷ more)) + passed_len test places.Open rest =
    dashes_passed test t ((line ++ 10 ∷ more) ++ rest) ∙ ap (λ (u : List ℕ). suc (suc (passed_len test places.Comment u))) laid ∙ omega (arith, in_line, end, then, size) in
    rw h.3 whole

pub gap_passed : (test : Place → ℕ → Bool) → PassesGaps test → (gap rest : List ℕ) → Gap gap rest → passed_len test places.Open (gap ++ rest) ≡ length gap + passed_len test places.Open rest
gap_passed test t gap rest h = gap_of_passed test t h.0 gap rest h.1

-- ---- tokens

-- a byte that begins neither a text nor a comment and ends no statement
abbrev is_plain : ℕ → Bool
is_plain b = not (b == 39) && not (b == 45) && not (b == 59)

plain_passed : (b : ℕ) (bs : List ℕ) → is_plain b ≡ true → passed_len is_inside places.Open (b ∷ bs) ≡ suc (passed_len is_inside places.Open bs)
plain_passed b bs h =
    let p = both (not (b == 39) && not (b == 45)) (not (b == 59)) h in
    let q = both (not (b == 39)) (not (b == 45)) p.0 in
    let stays : behind places.Open b bs ≡ places.Open =
    ap (λ (v : Bool). cond v places.Quoted (cond (b == 45 && split.begins 45 bs) places.Comment places.Open)) (untrue (b == 39) q.0)
    ∙ ap (λ (v : Bool). cond (v && split.begins 45 bs) places.Comment places.Open) (untrue (b == 45) q.1) in
    one is_inside places.Open places.Open b bs stays p.1

all_plain_passed : (front rest : List ℕ) → list_all is_plain front ≡ true → passed_len is_inside places.Open (front ++ rest) ≡ length front + passed_len is_inside places.Open rest
all_plain_passed [] rest h = omega arith
all_plain_passed (b ∷ front) rest h =
    let p = both (is_plain b) (list_all is_plain front) h in
    let more = all_plain_passed front rest p.1 in
    plain_passed b (front ++ rest) p.0 ∙ omega (arith, more)

all_by : (p q : ℕ → Bool) → ((b : ℕ) → p b ≡ true → q b ≡ true) → (bs : List ℕ) → list_all p bs ≡ true → list_all q bs ≡ true
all_by p q f [] h = refl
all_by p q f (b ∷ bs) h = let k = both (p b) (list_all p bs) h in and_true (q b) (list_all q bs) (f b k.0) (all_by p q f bs k.1)
  where
    and_true : (x y : Bool) → x ≡ true → y ≡ true → (x && y) ≡ true
    and_true true y e g = g
    and_true false y e g = absurd cc

plain_by : (b : ℕ) → (b == 39) ≡ false → (b == 45) ≡ false → (b == 59) ≡ false → is_plain b ≡ true
plain_by b e f g = rw (e, f, g) refl

digit_plain : (b : ℕ) → is_ascii_digit b ≡ true → is_plain b ≡ true
digit_plain b h = plain_by b (no39 b h) (no45 b h) (no59 b h)
  where
    no39 : (b : ℕ) → is_ascii_digit b ≡ true → (b == 39) ≡ false
    no39 b e = grind (arith, nat_tests)

    no45 : (b : ℕ) → is_ascii_digit b ≡ true → (b == 45) ≡ false
    no45 b e = grind (arith, nat_tests)

    no59 : (b : ℕ) → is_ascii_digit b ≡ true → (b == 59) ≡ false
    no59 b e = grind (arith, nat_tests)

name_plain : (b : ℕ) → is_name_byte b ≡ true → is_plain b ≡ true
name_plain b h = plain_by b (no39 b h) (no45 b h) (no59 b h)
  where
    no39 : (b : ℕ) → is_name_byte b ≡ true → (b == 39) ≡ false
    no39 b e = grind (arith, nat_tests)

    no45 : (b : ℕ) → is_name_byte b ≡ true → (b == 45) ≡ false
    no45 b e = grind (arith, nat_tests)

    no59 : (b : ℕ) → is_name_byte b ≡ true → (b == 59) ≡ false
    no59 b e = grind (arith, nat_tests)

pub name_bytes : (front n : List ℕ) → name_of front ≡ Some n → (list_all is_name_byte front ≡ true) × (folded front ≡ n)
name_bytes [] n e = absurd cc
name_bytes (b ∷ bs) n e = go (is_name (b ∷ bs)) refl e
  where
    go : (v : Bool) → is_name (b ∷ bs) ≡ v → cond v (Some (folded (b ∷ bs))) None ≡ Some n → (list_all is_name_byte (b ∷ bs) ≡ true) × (folded (b ∷ bs) ≡ n)
    go true h f = ((both (is_ascii_alphabetic b && nat_le (length (b ∷ bs)) 64) (list_all is_name_byte (b ∷ bs)) h).1, cc)
    go false h f = absurd cc

-- the inside of a text
doubled_passed : (text rest : List ℕ) → passed_len is_inside places.Quoted (doubled text ++ rest) ≡ length (doubled text) + passed_len is_inside places.Quoted rest
doubled_passed [] rest = omega arith
doubled_passed (b ∷ text) rest = go (b == 39) refl (doubled_passed text rest)
  where
    go : (q : Bool) → (b == 39) ≡ q → passed_len is_inside places.Quoted (doubled text ++ rest) ≡ length (doubled text) + passed_len is_inside places.Quoted rest
        → passed_len is_inside places.Quoted (cond q (39 ∷ 39 ∷ doubled text) (b ∷ doubled text) ++ rest) ≡ length (cond q (39 ∷ 39 ∷ doubled text) (b ∷ doubled text)) + passed_len is_inside places.Quoted rest
    go true e more =
        one is_inside places.Quoted places.Open 39 (39 ∷ (doubled text ++ rest)) refl refl
        ∙ ap (λ (n : ℕ). suc n) (one is_inside places.Open places.Quoted 39 (doubled text ++ rest) refl refl) ∙ omega (arith, more)
    go false e more =
        let stays : behind places.Quoted b (doubled text ++ rest) ≡ places.Quoted = ap (λ (v : Bool). cond v places.Open places.Quoted) e in
        one is_inside places.Quoted places.Quoted b (doubled text ++ rest) stays refl ∙ omega (arith, more)

quoted_passed : (text rest : List ℕ) → passed_len is_inside places.Open ((39 ∷ doubled text ++ 39 ∷ []) ++ rest) ≡ length (39 ∷ doubled text ++ 39 ∷ []) + passed_len is_inside places.Open rest
quoted_passed text rest =
    let laid : (doubled text ++ 39 ∷ []) ++ rest ≡ doubled text ++ 39 ∷ rest = append_assoc (doubled text) (39 ∷ []) rest in
    let inner = doubled_passed text (39 ∷ rest) in
    let close = one is_inside places.Quoted places.Open 39 rest refl refl in
    let size = length-append (doubled text) (39 ∷ []) in
    one is_inside places.Open places.Quoted 39 ((doubled text ++ 39 ∷ []) ++ rest) refl refl
    ∙ ap (λ (u : List ℕ). suc (passed_len is_inside places.Quoted u)) laid ∙ omega (arith, inner, close, size)

-- a minus before another byte is no comment
minus_passed : (rest : List ℕ) → begins (goes_on kinds.Minus) rest ≡ false → passed_len is_inside places.Open (45 ∷ rest) ≡ 1 + passed_len is_inside places.Open rest
unfolding has
minus_passed [] h = refl
minus_passed (c ∷ rest) h =
    let stays : behind places.Open 45 (c ∷ rest) ≡ places.Open = ap (λ (v : Bool). cond v places.Comment places.Open) h in
    one is_inside places.Open places.Open 45 (c ∷ rest) stays refl ∙ omega arith

symbol_passed : (k : Kind) (rest : List ℕ) → has (from_to kinds.Open kinds.RightBrace) k ≡ true → begins (goes_on k) rest ≡ false
    → passed_len is_inside places.Open (spelling k ++ rest) ≡ length (spelling k) + passed_len is_inside places.Open rest
unfolding spelling has
symbol_passed kinds.Open rest e h = all_plain_passed (40 ∷ []) rest refl
symbol_passed kinds.Close rest e h = all_plain_passed (41 ∷ []) rest refl
symbol_passed kinds.Comma rest e h = all_plain_passed (44 ∷ []) rest refl
symbol_passed kinds.Dot rest e h = all_plain_passed (46 ∷ []) rest refl
symbol_passed kinds.Equal rest e h = all_plain_passed (61 ∷ []) rest refl
symbol_passed kinds.NotEqual rest e h = all_plain_passed (60 ∷ 62 ∷ []) rest refl
symbol_passed kinds.Less rest e h = all_plain_passed (60 ∷ []) rest refl
symbol_passed kinds.AtMost rest e h = all_plain_passed (60 ∷ 61 ∷ []) rest refl
symbol_passed kinds.Greater rest e h = all_plain_passed (62 ∷ []) rest refl
symbol_passed kinds.AtLeast rest e h = all_plain_passed (62 ∷ 61 ∷ []) rest refl
symbol_passed kinds.Plus rest e h = all_plain_passed (43 ∷ []) rest refl
symbol_passed kinds.Minus rest e h = minus_passed rest h
symbol_passed kinds.Star rest e h = all_plain_passed (42 ∷ []) rest refl
symbol_passed kinds.Bars rest e h = all_plain_passed (124 ∷ 124 ∷ []) rest refl
symbol_passed kinds.LeftBracket rest e h = all_plain_passed (91 ∷ []) rest refl
symbol_passed kinds.RightBracket rest e h = all_plain_passed (93 ∷ []) rest refl
symbol_passed kinds.LeftBrace rest e h = all_plain_passed (123 ∷ []) rest refl
symbol_passed kinds.RightBrace rest e h = all_plain_passed (125 ∷ []) rest refl
symbol_passed k rest e h = absurd cc

pub token_passed : (front rest : List ℕ) (t : Token) → Writes front t → begins (goes_on t.kind) rest ≡ false
    → passed_len is_inside places.Open (front ++ rest) ≡ length front + passed_len is_inside places.Open rest
token_passed front rest t (inl w) h = all_plain_passed front rest (all_by is_name_byte is_plain name_plain front (name_bytes front w.0 w.1).0)
token_passed front rest t (inr (inl w)) h = all_plain_passed front rest (all_by is_ascii_digit is_plain digit_plain front w.3)
token_passed front rest t (inr (inr (inl w))) h = rw w.1 (quoted_passed w.0 rest)
token_passed front rest t (inr (inr (inr (inl w)))) h = rw w.2 (symbol_passed w.0 rest w.1 (subst (λ (u : Token). begins (goes_on u.kind) rest ≡ false) w.3 h))
token_passed front rest t (inr (inr (inr (inr w)))) h = rw w.0 (all_plain_passed (33 ∷ 61 ∷ []) rest refl)

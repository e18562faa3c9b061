-- Pieces whose text has their tokens, and nothing else.
use Rattle.std.proofs.Common.{Bool, true, false, cond, ◌&&◌, ◌==◌, inl, inr, ◌≡◌, ℕ, ◌+◌, ◌-◌, ◌*◌, ◌^◌, ◌/◌, ◌%◌, ◌≤◌, ◌<◌, List, [], ◌∷◌, ◌++◌, length, Some, None, refl, sym, ap, subst, ◌∙◌, append_assoc, arith}
use Rattle.std.specs.List.{list_all}
use Rattle.std.specs.Char.{is_ascii_digit}
use Rattle.std.specs.Fmt.{decimal}
use Rattle.std.proofs.lemmas.Fmt.{decimal_by_steps}
use Rattle.std.proofs.lemmas.Bool.Decides.{nat_tests}
use Rattle.lb_base.specs.Names.{name_of}
use Rattle.lb_tok.specs.declared.kind.Kind.{Kind}
use Rattle.lb_tok.specs.declared.kind.Kind.TheVariants as kinds
use Rattle.lb_tok.specs.declared.token.Token.{Token}
use Rattle.lb_tok.specs.declared.token.Content.TheVariants as contents
use Rattle.lb_tok.specs.declared.token.Span.{Span}
use Rattle.lb_tok.specs.Kinds.{only, names, has, kind_of, spelling}
use Rattle.lb_tok.specs.Lexing.{words, goes_on, begins, Gap, a_blank, decimal_on, word_token, Writes, LexedFrom, number_token, text_token}
use Rattle.lb_tok.specs.Spacing.{keyword, quoted, written, token_text, Piece, mark, name, dotted, all_of, opening, literal, digits, negative, tokens_in, openings, closings, begins_closing, ends_opening, piece_text, Layout, start, gap, lay, laid, spaced}
use Rattle.lb_tok.proofs.Scanned.{word_kind}
use Rattle.lb_tok.proofs.Layouts.{nil}
use Rattle.lb_tok.proofs.Signs.{signs, sign_writes}

-- ---- which bytes go on with a token

six : (a b c d e f : Bool) → cond a false (cond b false (cond c false (cond d false (cond e false (cond f false false))))) ≡ false
six true b c d e f = refl
six false true c d e f = refl
six false false true d e f = refl
six false false false true e f = refl
six false false false false true f = refl
six false false false false false true = refl
six false false false false false false = refl

no_blank : (k : Kind) → goes_on k 32 ≡ false
no_blank k = six (has words k) (has (only kinds.Numeral) k) (has (only kinds.Text) k) (has (only kinds.Less) k) (has (only kinds.Greater) k) (has (only kinds.Minus) k)

no_open : (k : Kind) → goes_on k 40 ≡ false
no_open k = six (has words k) (has (only kinds.Numeral) k) (has (only kinds.Text) k) (has (only kinds.Less) k) (has (only kinds.Greater) k) (has (only kinds.Minus) k)

no_close : (k : Kind) → goes_on k 41 ≡ false
no_close k = six (has words k) (has (only kinds.Numeral) k) (has (only kinds.Text) k) (has (only kinds.Less) k) (has (only kinds.Greater) k) (has (only kinds.Minus) k)

no_comma : (k : Kind) → goes_on k 44 ≡ false
no_comma k = six (has words k) (has (only kinds.Numeral) k) (has (only kinds.Text) k) (has (only kinds.Less) k) (has (only kinds.Greater) k) (has (only kinds.Minus) k)

no_dot : (k : Kind) → goes_on k 46 ≡ false
no_dot k = six (has words k) (has (only kinds.Numeral) k) (has (only kinds.Text) k) (has (only kinds.Less) k) (has (only kinds.Greater) k) (has (only kinds.Minus) k)

no_right_bracket : (k : Kind) → goes_on k 93 ≡ false
no_right_bracket k = six (has words k) (has (only kinds.Numeral) k) (has (only kinds.Text) k) (has (only kinds.Less) k) (has (only kinds.Greater) k) (has (only kinds.Minus) k)

no_right_brace : (k : Kind) → goes_on k 125 ≡ false
no_right_brace k = six (has words k) (has (only kinds.Numeral) k) (has (only kinds.Text) k) (has (only kinds.Less) k) (has (only kinds.Greater) k) (has (only kinds.Minus) k)

none_behind_opening : (k : Kind) (bs : List ℕ) → has openings k ≡ true → begins (goes_on k) bs ≡ false
unfolding has
none_behind_opening k [] e = refl
none_behind_opening kinds.Open (b ∷ bs) e = refl
none_behind_opening kinds.LeftBracket (b ∷ bs) e = refl
none_behind_opening kinds.LeftBrace (b ∷ bs) e = refl
none_behind_opening k (b ∷ bs) e = absurd cc

none_before_closing : (j k : Kind) (rest : List ℕ) → has closings j ≡ true → begins (goes_on k) (spelling j ++ rest) ≡ false
unfolding has spelling
none_before_closing kinds.Comma k rest e = no_comma k
none_before_closing kinds.Close k rest e = no_close k
none_before_closing kinds.RightBracket k rest e = no_right_bracket k
none_before_closing kinds.RightBrace k rest e = no_right_brace k
none_before_closing j k rest e = absurd cc

-- ---- how tokens are written

-- a name that may stand in a statement
pub record IsFree (n : List ℕ) : Type 0 where
  pub folded : name_of n ≡ Some n
  pub allowed : has names (kind_of n) ≡ true

pub sign_text : (k : Kind) → token_text (keyword k) ≡ spelling k
sign_text k = go (has names k)
  where
    go : (b : Bool) → written k (cond b (contents.Word (spelling k)) contents.Nothing) ≡ spelling k
    go true = refl
    go false = refl

pub name_text : (n : List ℕ) → IsFree n → token_text (word_token n) ≡ n
name_text n f = ap (λ (b : Bool). written (kind_of n) (cond b (contents.Word n) contents.Nothing)) f.allowed

sign_written : (k : Kind) → has signs k ≡ true → Writes (token_text (keyword k)) (keyword k)
sign_written k e = subst (λ (u : List ℕ). Writes u (keyword k)) (sym (sign_text k)) (sign_writes k e)

name_written : (n : List ℕ) → IsFree n → Writes (token_text (word_token n)) (word_token n)
name_written n f = subst (λ (u : List ℕ). Writes u (word_token n)) (sym (name_text n f)) (inl (n, f.folded, refl))

literal_written : (text : List ℕ) → Writes (quoted text) (text_token text)
literal_written text = inr (inr (inl (text, refl, refl)))

-- decimal digits

record AreDigits (n : ℕ) (ds : List ℕ) : Type 0 where
  pub first : ℕ
  pub others : List ℕ
  pub whole : ds ≡ first ∷ others
  pub all : list_all is_ascii_digit ds ≡ true
  pub value : decimal_on 0 ds ≡ n

both_true : (a b : Bool) → a ≡ true → b ≡ true → (a && b) ≡ true
both_true true b e f = f
both_true false b e f = absurd cc

all_more : (ds : List ℕ) (d : ℕ) → list_all is_ascii_digit ds ≡ true → is_ascii_digit d ≡ true → list_all is_ascii_digit (ds ++ d ∷ []) ≡ true
all_more [] d h e = both_true (is_ascii_digit d) true e refl
all_more (x ∷ ds) d h e = go (is_ascii_digit x) h (λ k. all_more ds d k e)
  where
    go : (b : Bool) → (b && list_all is_ascii_digit ds) ≡ true → (list_all is_ascii_digit ds ≡ true → list_all is_ascii_digit (ds ++ d ∷ []) ≡ true) → (b && list_all is_ascii_digit (ds ++ d ∷ [])) ≡ true
    go true h f = f h
    go false h f = absurd cc

value_more : (v : ℕ) (ds : List ℕ) (d : ℕ) → decimal_on v (ds ++ d ∷ []) ≡ decimal_on v ds * 10 + (d - 48)
value_more v [] d = refl
value_more v (x ∷ ds) d = value_more (v * 10 + (x - 48)) ds d

is_digit : (n : ℕ) → n < 10 → is_ascii_digit (48 + n) ≡ true
is_digit n h = grind (arith, nat_tests)

one_digit : (n : ℕ) → n < 10 → AreDigits n ((48 + n) ∷ [])
one_digit n h = record { first = 48 + n; others = []; whole = refl; all = both_true (is_ascii_digit (48 + n)) true (is_digit n h) refl; value = omega arith }

more_digits : (n : ℕ) (ds : List ℕ) → 10 ≤ n → AreDigits (n / 10) ds → AreDigits n (ds ++ (48 + n % 10) ∷ [])
more_digits n ds le a =
    let lt : n % 10 < 10 = omega arith in
    let v : decimal_on 0 (ds ++ (48 + n % 10) ∷ []) ≡ n / 10 * 10 + (48 + n % 10 - 48) = value_more 0 ds (48 + n % 10) ∙ ap (λ (m : ℕ). m * 10 + (48 + n % 10 - 48)) a.value in
    record {
      first = a.first;
      others = a.others ++ (48 + n % 10) ∷ [];
      whole = ap (λ (u : List ℕ). u ++ (48 + n % 10) ∷ []) a.whole;
      all = all_more ds (48 + n % 10) a.all (is_digit (n % 10) lt);
      value = omega (arith, v);
    }

decimal_digits : (n : ℕ) → n < 2 ^ 64 → AreDigits n (decimal n)
decimal_digits n h = decimal_by_steps (λ n ds. AreDigits n ds) one_digit more_digits n h

digits_written : (n : ℕ) → n ≤ 2 ^ 63 → Writes (decimal n) (number_token n)
digits_written n h =
    let d = decimal_digits n (omega arith) in
    let le : decimal_on 0 (decimal n) ≤ 2 ^ 63 = omega (arith, h, d.value) in
    inr (inl (d.first, d.others, d.whole, d.all, le, ap (λ (m : ℕ). number_token m) (sym d.value)))

digit_no_dash : (b : ℕ) → is_ascii_digit b ≡ true → (b == 45) ≡ false
digit_no_dash b e = grind (arith, nat_tests)

first_digit : (b : ℕ) (bs : List ℕ) → list_all is_ascii_digit (b ∷ bs) ≡ true → is_ascii_digit b ≡ true
first_digit b bs e = go (is_ascii_digit b) e
  where
    go : (v : Bool) → (v && list_all is_ascii_digit bs) ≡ true → v ≡ true
    go true e = refl
    go false e = e

no_digits_behind_minus : (n : ℕ) (rest : List ℕ) → n ≤ 2 ^ 63 → begins (goes_on kinds.Minus) (decimal n ++ rest) ≡ false
unfolding has
no_digits_behind_minus n rest h =
    let d = decimal_digits n (omega arith) in
    subst (λ (u : List ℕ). begins (goes_on kinds.Minus) (u ++ rest) ≡ false) (sym d.whole)
    (digit_no_dash d.first (first_digit d.first d.others (subst (λ (u : List ℕ). list_all is_ascii_digit u ≡ true) d.whole d.all)))

-- ---- pieces

-- the tokens of the piece, one against the other, with rest after them
abbrev pub Joined : Piece → List ℕ → Type 0
Joined [] rest = ⊥
Joined (t ∷ []) rest = Writes (token_text t) t × (begins (goes_on t.kind) rest ≡ false)
Joined (t ∷ u ∷ ts) rest = Writes (token_text t) t × (begins (goes_on t.kind) (piece_text (u ∷ ts) ++ rest) ≡ false) × Joined (u ∷ ts) rest

pub record IsRun (p : Piece) : Type 0 where
  pub last : Kind
  pub ends : ends_opening p ≡ has openings last
  pub joined : (rest : List ℕ) → begins (goes_on last) rest ≡ false → Joined p rest
  pub closes : begins_closing p ≡ true → (k : Kind) (rest : List ℕ) → begins (goes_on k) (piece_text p ++ rest) ≡ false

abbrev pub AreRuns : List Piece → Type 0
AreRuns [] = Unit {0}
AreRuns (p ∷ ps) = IsRun p × AreRuns ps

pub runs_append : (ps qs : List Piece) → AreRuns ps → AreRuns qs → AreRuns (ps ++ qs)
runs_append [] qs a b = b
runs_append (p ∷ ps) qs a b = (a.0, runs_append ps qs a.1 b)

no_word_closes : (k : Kind) → has words k ≡ true → has closings k ≡ true → ⊥
unfolding has
no_word_closes kinds.Comma e h = absurd cc
no_word_closes kinds.Close e h = absurd cc
no_word_closes kinds.RightBracket e h = absurd cc
no_word_closes kinds.RightBrace e h = absurd cc
no_word_closes k e h = absurd cc

name_no_closing : {A : Type 0} (n : List ℕ) → has closings (kind_of n) ≡ true → A
name_no_closing n h = absurd (no_word_closes (kind_of n) (word_kind n) h)

mark_nil : (k : Kind) (rest : List ℕ) → spelling k ++ rest ≡ piece_text (mark k) ++ rest
mark_nil k rest = ap (λ (u : List ℕ). u ++ rest) (sym (nil (token_text (keyword k)) ∙ sign_text k))

pub mark_run : (k : Kind) → has signs k ≡ true → IsRun (mark k)
mark_run k e = record {
  last = k;
  ends = refl;
  joined = λ rest h. (sign_written k e, h);
  closes = λ c j rest. subst (λ (u : List ℕ). begins (goes_on j) u ≡ false) (mark_nil k rest) (none_before_closing k j rest c);
}

pub name_run : (n : List ℕ) → IsFree n → IsRun (name n)
name_run n f = record { last = kind_of n; ends = refl; joined = λ rest h. (name_written n f, h); closes = λ c j rest. name_no_closing n c }

dot_written : Writes (token_text (keyword kinds.Dot)) (keyword kinds.Dot)
unfolding has
dot_written = sign_written kinds.Dot refl

dot_text : (ts : Piece) (rest : List ℕ) → piece_text (keyword kinds.Dot ∷ ts) ++ rest ≡ 46 ∷ (piece_text ts ++ rest)
unfolding has spelling
dot_text ts rest = refl

before_dot : (k : Kind) (ts : Piece) (rest : List ℕ) → begins (goes_on k) (piece_text (keyword kinds.Dot ∷ ts) ++ rest) ≡ false
before_dot k ts rest = subst (λ (u : List ℕ). begins (goes_on k) u ≡ false) (sym (dot_text ts rest)) (no_dot k)

none_behind_dot : (bs : List ℕ) → begins (goes_on kinds.Dot) bs ≡ false
unfolding has
none_behind_dot [] = refl
none_behind_dot (b ∷ bs) = refl

pub dotted_run : (a b : List ℕ) → IsFree a → IsFree b → IsRun (dotted a b)
dotted_run a b f g = record {
  last = kind_of b;
  ends = refl;
  joined = λ rest h. (name_written a f, before_dot (kind_of a) (name b) rest, (dot_written, none_behind_dot (piece_text (name b) ++ rest), (name_written b g, h)));
  closes = λ c j rest. name_no_closing a c;
}

star_written : Writes (token_text (keyword kinds.Star)) (keyword kinds.Star)
unfolding has
star_written = sign_written kinds.Star refl

pub all_of_run : (a : List ℕ) → IsFree a → IsRun (all_of a)
all_of_run a f = record {
  last = kinds.Star;
  ends = refl;
  joined = λ rest h. (name_written a f, before_dot (kind_of a) (mark kinds.Star) rest, (dot_written, none_behind_dot (piece_text (mark kinds.Star) ++ rest), (star_written, h)));
  closes = λ c j rest. name_no_closing a c;
}

open_written : Writes (token_text (keyword kinds.Open)) (keyword kinds.Open)
unfolding has
open_written = sign_written kinds.Open refl

open_text : (rest : List ℕ) → piece_text (mark kinds.Open) ++ rest ≡ 40 ∷ rest
unfolding has spelling
open_text rest = refl

before_open : (k : Kind) (rest : List ℕ) → begins (goes_on k) (piece_text (mark kinds.Open) ++ rest) ≡ false
before_open k rest = subst (λ (u : List ℕ). begins (goes_on k) u ≡ false) (sym (open_text rest)) (no_open k)

pub opening_run : (k : Kind) → has signs k ≡ true → has words k ≡ true → IsRun (opening k)
opening_run k e w = record {
  last = kinds.Open;
  ends = refl;
  joined = λ rest h. (sign_written k e, before_open k rest, (open_written, h));
  closes = λ c j rest. absurd (no_word_closes k w c);
}

pub literal_run : (text : List ℕ) → IsRun (literal text)
unfolding has
literal_run text = record { last = kinds.Text; ends = refl; joined = λ rest h. (literal_written text, h); closes = λ c j rest. absurd cc }

pub digits_run : (n : ℕ) → n ≤ 2 ^ 63 → IsRun (digits n)
unfolding has
digits_run n h = record { last = kinds.Numeral; ends = refl; joined = λ rest k. (digits_written n h, k); closes = λ c j rest. absurd cc }

minus_written : Writes (token_text (keyword kinds.Minus)) (keyword kinds.Minus)
unfolding has
minus_written = sign_written kinds.Minus refl

pub negative_run : (n : ℕ) → n ≤ 2 ^ 63 → IsRun (negative n)
unfolding has
negative_run n h = record {
  last = kinds.Numeral;
  ends = refl;
  joined = λ rest k. (minus_written, subst (λ (u : List ℕ). begins (goes_on kinds.Minus) (u ++ rest) ≡ false) (sym (nil (decimal n))) (no_digits_behind_minus n rest h), (digits_written n h, k));
  closes = λ c j rest. absurd cc;
}

-- ---- texts

-- what pieces add to a text
pub added : Bool → List Piece → List ℕ
added f [] = []
added f (p ∷ ps) = gap f (begins_closing p) ++ (piece_text p ++ added (ends_opening p) ps)

laid_added : (l : Layout) (ps : List Piece) → (laid l ps).text ≡ l.text ++ added l.fresh ps
unfolding lay added
laid_added l [] = sym (nil l.text)
laid_added l (p ∷ ps) =
    laid_added (lay l p) ps
    ∙ append_assoc l.text (gap l.fresh (begins_closing p) ++ piece_text p) (added (ends_opening p) ps)
    ∙ ap (λ (u : List ℕ). l.text ++ u) (append_assoc (gap l.fresh (begins_closing p)) (piece_text p) (added (ends_opening p) ps))

-- the bytes have these tokens, wherever they stand in a text
abbrev Lex : List ℕ → List Token → Type 0
Lex bs ts = (at : ℕ) → (spans : List Span) × LexedFrom at bs ts spans None

lex_one : (g front rest : List ℕ) (t : Token) (ts : List Token) → Gap g (front ++ rest) → Writes front t → begins (goes_on t.kind) rest ≡ false → Lex rest ts → Lex (g ++ (front ++ rest)) (t ∷ ts)
lex_one g front rest t ts h w e l at =
    let r = l (at + length g + length front) in
    (record { from = at + length g; to = at + length g + length front } ∷ r.0, (g, front, rest, h, w, e, refl, refl, r.1))

no_gap : (bs : List ℕ) → Gap [] bs
no_gap bs = ([], inl refl)

is_gap : (f c : Bool) (bs : List ℕ) → Gap (gap f c) bs
is_gap true c bs = no_gap bs
is_gap false true bs = no_gap bs
is_gap false false bs = (a_blank 32 ∷ [], ([], refl, inl refl, refl))

lex_piece : (p : Piece) (g rest : List ℕ) (more : List Token) → Joined p rest → ((bs : List ℕ) → Gap g bs) → Lex rest more → Lex (g ++ (piece_text p ++ rest)) (p ++ more)
lex_piece [] g rest more j h l = absurd j
lex_piece (t ∷ []) g rest more j h l =
    subst (λ (u : List ℕ). Lex (g ++ (u ++ rest)) (t ∷ more)) (sym (nil (token_text t))) (lex_one g (token_text t) rest t more (h (token_text t ++ rest)) j.0 j.1 l)
lex_piece (t ∷ u ∷ ts) g rest more j h l =
    subst (λ (v : List ℕ). Lex (g ++ v) (t ∷ u ∷ (ts ++ more))) (sym (append_assoc (token_text t) (piece_text (u ∷ ts)) rest))
    (lex_one g (token_text t) (piece_text (u ∷ ts) ++ rest) t (u ∷ (ts ++ more)) (h (token_text t ++ (piece_text (u ∷ ts) ++ rest))) j.0 j.1 (lex_piece (u ∷ ts) [] rest more j.2 no_gap l))

stops : (k : Kind) (ps : List Piece) → AreRuns ps → begins (goes_on k) (added (has openings k) ps) ≡ false
unfolding added
stops k [] r = refl
stops k (p ∷ ps) r = go (has openings k) refl (begins_closing p) refl
  where
    go : (o : Bool) → has openings k ≡ o → (c : Bool) → begins_closing p ≡ c → begins (goes_on k) (gap o c ++ (piece_text p ++ added (ends_opening p) ps)) ≡ false
    go true e c h = none_behind_opening k (piece_text p ++ added (ends_opening p) ps) e
    go false e true h = r.0.closes h k (added (ends_opening p) ps)
    go false e false h = no_blank k

lex_all : (f : Bool) (ps : List Piece) → AreRuns ps → Lex (added f ps) (tokens_in ps)
unfolding added
lex_all f [] r = λ at. ([], ([], inl refl))
lex_all f (p ∷ ps) r =
    let e : begins (goes_on r.0.last) (added (ends_opening p) ps) ≡ false = subst (λ (b : Bool). begins (goes_on r.0.last) (added b ps) ≡ false) (sym r.0.ends) (stops r.0.last ps r.1) in
    lex_piece p (gap f (begins_closing p)) (added (ends_opening p) ps) (tokens_in ps) (r.0.joined (added (ends_opening p) ps) e) (is_gap f (begins_closing p)) (lex_all (ends_opening p) ps r.1)

-- the text of pieces has their tokens
pub spaced_lexes : (ps : List Piece) → AreRuns ps → (spans : List Span) × LexedFrom 0 (spaced ps) (tokens_in ps) spans None
spaced_lexes ps r = subst (λ (u : List ℕ). (spans : List Span) × LexedFrom 0 u (tokens_in ps) spans None) (sym (laid_added start ps)) (lex_all true ps r 0)

-- Names, literals and columns, spelled by canonical pieces.
use Rattle.std.proofs.Common.{Bool, true, false, cond, inl, inr, ◌≡◌, ℕ, zero, suc, ◌≤◌, ◌<◌, ◌^◌, List, [], ◌∷◌, Option, Some, None, refl, sym, ap, subst, ◌∙◌, arith, ℤ, pos, negsuc, neg_ℤ}
use Rattle.std.specs.Prelude.{nat_lt, nat_le, ◌&&◌}
use Rattle.std.proofs.lemmas.Bool.Decides.{nat_tests}
use Rattle.lb_base.specs.Names.{is_name, name_of, folded}
use Rattle.lb_base.specs.Days.{day_of}
use Rattle.lb_base.proofs.Upper.{folded_name}
use Rattle.lb_tree.specs.declared.query.Column.{Column}
use Rattle.lb_tree.specs.declared.query.Expr.{Expr}
use Rattle.lb_tree.specs.declared.query.Expr.TheVariants as exprs
use Rattle.lb_tree.specs.declared.query.Atom.TheVariants as atoms
use Rattle.lb_tok.specs.declared.kind.Kind.{Kind}
use Rattle.lb_tok.specs.declared.kind.Kind.TheVariants as kinds
use Rattle.lb_tok.specs.declared.token.Token.{Token}
use Rattle.lb_tok.specs.declared.token.Content.{Content}
use Rattle.lb_tok.specs.declared.token.Content.TheVariants as contents
use Rattle.lb_tok.specs.Kinds.{from_to, has, names, kind_of}
use Rattle.lb_tok.specs.Lexing.{Writes, word_token, number_token, text_token}
use Rattle.lb_tok.specs.Words.{name_in, int_in, negative_in, count_in, day_in}
use Rattle.lb_tok.specs.Form.{Below, Lang}
use Rattle.lb_tok.specs.Spacing.{Piece, mark, name, dotted, literal, digits, negative}
use Rattle.lb_tok.specs.QueryPieces.{name_pieces, text_pieces, int_piece, column_pieces, verified, two_texts}
use Rattle.lb_tok.specs.Dates.{date_text}
use Rattle.lb_tok.specs.Grammar.{IsName, IsText, IsInt, IsNegative, IsCount, IsDayLiteral, alone, IsColumn, IsNumber, IsVerified, IsTwoTexts}
use Rattle.lb_tok.proofs.Fitting.{IsFree, name_run, dotted_run, literal_run, digits_run, negative_run}
use Rattle.lb_tok.proofs.SpelledPieces.{Got, AreTokens, split, follow, unmake, nothing_is, which, Spells, seq, give, made, after, left, right, regroup, many_after, has_only}
use Rattle.lb_tok.proofs.Written.{day_again}

-- ---- names

symbol_no_name : (k : Kind) → has (from_to kinds.Open kinds.RightBrace) k ≡ true → has names k ≡ true → ⊥
unfolding has
symbol_no_name kinds.Open e h = absurd cc
symbol_no_name kinds.Close e h = absurd cc
symbol_no_name kinds.Comma e h = absurd cc
symbol_no_name kinds.Dot e h = absurd cc
symbol_no_name kinds.Equal e h = absurd cc
symbol_no_name kinds.NotEqual e h = absurd cc
symbol_no_name kinds.Less e h = absurd cc
symbol_no_name kinds.AtMost e h = absurd cc
symbol_no_name kinds.Greater e h = absurd cc
symbol_no_name kinds.AtLeast e h = absurd cc
symbol_no_name kinds.Plus e h = absurd cc
symbol_no_name kinds.Minus e h = absurd cc
symbol_no_name kinds.Star e h = absurd cc
symbol_no_name kinds.Bars e h = absurd cc
symbol_no_name kinds.LeftBracket e h = absurd cc
symbol_no_name kinds.RightBracket e h = absurd cc
symbol_no_name kinds.LeftBrace e h = absurd cc
symbol_no_name kinds.RightBrace e h = absurd cc
symbol_no_name k e h = absurd cc

folded_again : (front m : List ℕ) → name_of front ≡ Some m → name_of m ≡ Some m
folded_again front m e = go (is_name front) refl e
  where
    go : (b : Bool) → is_name front ≡ b → cond b (Some (folded front)) None ≡ Some m → name_of m ≡ Some m
    go true h e =
        let q : folded front ≡ m = cc in
        let f = folded_name front h in
        subst (λ (u : List ℕ). name_of u ≡ Some u) q (ap (λ (b : Bool). cond b (Some (folded (folded front))) None) f.0 ∙ ap (λ (u : List ℕ). Some u) f.1)
    go false h e = absurd cc

free_word : (t : Token) (n front : List ℕ) → Writes front t → has names t.kind ≡ true → name_in t.content ≡ Some n → IsFree n
unfolding has
free_word t n front (inl w) h v =
    let k : has names (kind_of w.0) ≡ true = subst (λ (u : Token). has names u.kind ≡ true) w.2 h in
    let c : name_in (cond (has names (kind_of w.0)) (contents.Word w.0) contents.Nothing) ≡ Some n = subst (λ (u : Token). name_in u.content ≡ Some n) w.2 v in
    let d : ◌≡◌ {A = Option (List ℕ)} (Some w.0) (Some n) = sym (ap (λ (b : Bool). name_in (cond b (contents.Word w.0) contents.Nothing)) k) ∙ c in
    let e : w.0 ≡ n = cc in
    subst IsFree e (record { folded = folded_again front w.0 w.1; allowed = k })
free_word t n front (inr (inl w)) h v = let k : has names kinds.Numeral ≡ true = subst (λ (u : Token). has names u.kind ≡ true) w.5 h in absurd cc
free_word t n front (inr (inr (inl w))) h v = let k : has names kinds.Text ≡ true = subst (λ (u : Token). has names u.kind ≡ true) w.2 h in absurd cc
free_word t n front (inr (inr (inr (inl w)))) h v = absurd (symbol_no_name w.0 w.1 (subst (λ (u : Token). has names u.kind ≡ true) w.3 h))
free_word t n front (inr (inr (inr (inr w)))) h v = let k : has names kinds.NotEqual ≡ true = subst (λ (u : Token). has names u.kind ≡ true) w.1 h in absurd cc

pub free : {s : Below} {ts : List Token} {n : List ℕ} → Got IsName s ts n → IsFree n
free {s} {ts} {n} g = let p = g.spelled in let w = subst AreTokens p.1 g.written in free_word p.0 n w.0.0 w.0.1 p.2 p.3

pub free_spells : {t : Below} (n : List ℕ) → IsFree n → Spells IsName t (name_pieces n) n
free_spells n f = record { spelled = (word_token n, refl, f.allowed, ap (λ (b : Bool). name_in (cond b (contents.Word n) contents.Nothing)) f.allowed); runs = (name_run n f, tt) }

pub name-turn : {s t : Below} (ts : List Token) (n : List ℕ) → Got IsName s ts n → Spells IsName t (name_pieces n) n
name-turn ts n g = free_spells n (free g)

pub dotted_spells : {A : Type 0} {P : Lang A} {t : Below} {ps : List Piece} {x : A} (a b : List ℕ) → IsFree a → IsFree b → Spells P t (name a ∷ mark kinds.Dot ∷ name b ∷ ps) x → Spells P t (dotted a b ∷ ps) x
dotted_spells {A} {P} {t} {ps} a b f g p = regroup (dotted a b ∷ ps) refl (dotted_run a b f g, p.runs.1.1.1) p

pub column-turn : {s t : Below} (ts : List Token) (c : Column) → Got IsColumn s ts c → Spells IsColumn t (column_pieces c) c
unfolding has
column-turn {s} {t} ts c g =
    let p = split g in
    which p.right
    (λ a. let q = unmake (follow a).got in
    subst (λ (y : Column). Spells IsColumn t (column_pieces y) y) (sym q.is)
    (dotted_spells p.tree q.tree (free p.left) (free q.got) (seq (name-turn p.front p.tree p.left) (left (after kinds.Dot refl (made (name-turn q.tokens q.tree q.got)))))))
    (λ b. subst (λ (y : Column). Spells IsColumn t (column_pieces y) y) (sym (nothing_is b)) (seq (name-turn p.front p.tree p.left) (right (give (alone p.tree)))))

-- ---- literals

pub text-turn : {s t : Below} (ts : List Token) (x : List ℕ) → Got IsText s ts x → Spells IsText t (text_pieces x) x
text-turn ts x g = record { spelled = (text_token x, refl, has_only kinds.Text, refl); runs = (literal_run x, tt) }

below : (n m : ℕ) → nat_lt n m ≡ true → n < m
below n m e = grind (arith, nat_tests)

at_most : (n m : ℕ) → nat_le n m ≡ true → n ≤ m
at_most n m e = grind (arith, nat_tests)

is_below : (n m : ℕ) → n < m → nat_lt n m ≡ true
is_below n m h = grind (arith, nat_tests)

is_at_most : (n m : ℕ) → n ≤ m → nat_le n m ≡ true
is_at_most n m h = grind (arith, nat_tests)

int_of : (c : Content) (z : ℤ) → int_in c ≡ Some z → (n : ℕ) × (n < 2 ^ 63) × (z ≡ pos n)
int_of contents.Nothing z e = absurd cc
int_of (contents.Word w) z e = absurd cc
int_of (contents.Text w) z e = absurd cc
int_of (contents.Number n) z e = go (nat_lt n (2 ^ 63)) refl e
  where
    go : (b : Bool) → nat_lt n (2 ^ 63) ≡ b → cond b (Some (pos n)) None ≡ Some z → (n : ℕ) × (n < 2 ^ 63) × (z ≡ pos n)
    go true h e = (n, below n (2 ^ 63) h, cc)
    go false h e = absurd cc

count_of : (c : Content) (z : ℤ) → count_in c ≡ Some z → (n : ℕ) × (0 < n) × (n < 2 ^ 63) × (z ≡ pos n)
count_of contents.Nothing z e = absurd cc
count_of (contents.Word w) z e = absurd cc
count_of (contents.Text w) z e = absurd cc
count_of (contents.Number n) z e = go (nat_lt 0 n) refl (nat_lt n (2 ^ 63)) refl e
  where
    go : (a : Bool) → nat_lt 0 n ≡ a → (b : Bool) → nat_lt n (2 ^ 63) ≡ b → cond (a && b) (Some (pos n)) None ≡ Some z → (n : ℕ) × (0 < n) × (n < 2 ^ 63) × (z ≡ pos n)
    go true h true k e = (n, below 0 n h, below n (2 ^ 63) k, cc)
    go true h false k e = absurd cc
    go false h b k e = absurd cc

negative_of : (c : Content) (z : ℤ) → negative_in c ≡ Some z → (n : ℕ) × (n ≤ 2 ^ 63) × (z ≡ neg_ℤ (pos n))
negative_of contents.Nothing z e = absurd cc
negative_of (contents.Word w) z e = absurd cc
negative_of (contents.Text w) z e = absurd cc
negative_of (contents.Number n) z e = go (nat_le n (2 ^ 63)) refl e
  where
    go : (b : Bool) → nat_le n (2 ^ 63) ≡ b → cond b (Some (neg_ℤ (pos n))) None ≡ Some z → (n : ℕ) × (n ≤ 2 ^ 63) × (z ≡ neg_ℤ (pos n))
    go true h e = (n, at_most n (2 ^ 63) h, cc)
    go false h e = absurd cc

day_text_of : (c : Content) (z : ℤ) → day_in c ≡ Some z → (text : List ℕ) × (day_of text ≡ Some z)
day_text_of contents.Nothing z e = absurd cc
day_text_of (contents.Word w) z e = absurd cc
day_text_of (contents.Number n) z e = absurd cc
day_text_of (contents.Text text) z e = (text, e)

int_spells : {t : Below} (n : ℕ) → n < 2 ^ 63 → Spells IsInt t (digits n ∷ []) (pos n)
int_spells n h = record { spelled = (number_token n, refl, has_only kinds.Numeral, ap (λ (b : Bool). cond b (Some (pos n)) None) (is_below n (2 ^ 63) h)); runs = (digits_run n (omega arith), tt) }

pub int-turn : {s t : Below} (ts : List Token) (z : ℤ) → Got IsInt s ts z → Spells IsInt t (int_piece z ∷ []) z
int-turn {s} {t} ts z g =
    let q = int_of g.spelled.0.content z g.spelled.3 in
    subst (λ (y : ℤ). Spells IsInt t (int_piece y ∷ []) y) (sym q.2) (int_spells q.0 q.1)

pub count-turn : {s t : Below} (ts : List Token) (z : ℤ) → Got IsCount s ts z → Spells IsCount t (int_piece z ∷ []) z
count-turn {s} {t} ts z g =
    let q = count_of g.spelled.0.content z g.spelled.3 in
    let e : count_in (contents.Number q.0) ≡ Some (pos q.0) = ap (λ (b : Bool). cond (b && nat_lt q.0 (2 ^ 63)) (Some (pos q.0)) None) (is_below 0 q.0 q.1) ∙ ap (λ (b : Bool). cond b (Some (pos q.0)) None) (is_below q.0 (2 ^ 63) q.2) in
    subst (λ (y : ℤ). Spells IsCount t (int_piece y ∷ []) y) (sym q.3) (record { spelled = (number_token q.0, refl, has_only kinds.Numeral, e); runs = (digits_run q.0 (omega (arith, q.2)), tt) })

pub day-turn : {s t : Below} (ts : List Token) (z : ℤ) → Got IsDayLiteral s ts z → Spells IsDayLiteral t (literal (date_text z) ∷ []) z
day-turn ts z g =
    let q = day_text_of g.spelled.0.content z g.spelled.3 in
    record { spelled = (text_token (date_text z), refl, has_only kinds.Text, day_again q.0 z q.1); runs = (literal_run (date_text z), tt) }

-- - int | int
an_int : ℤ → Expr
an_int n = exprs.Atom (atoms.Int n)

negative_spells : {t : Below} (n : ℕ) → n ≤ 2 ^ 63 → Spells IsNumber t (int_piece (neg_ℤ (pos n)) ∷ []) (exprs.Atom (atoms.Int (neg_ℤ (pos n))))
unfolding has
negative_spells zero h = right (made (int_spells 0 (omega arith)))
negative_spells {t} (suc n) h =
    let one : Spells IsNegative t (digits (suc n) ∷ []) (negsuc n) = record { spelled = (number_token (suc n), refl, has_only kinds.Numeral, ap (λ (b : Bool). cond b (Some (neg_ℤ (pos (suc n)))) None) (is_at_most (suc n) (2 ^ 63) h)); runs = (digits_run (suc n) h, tt) } in
    regroup (negative (suc n) ∷ []) refl (negative_run (suc n) h, tt) (left (after kinds.Minus refl (made one)))

pub number-turn : {s t : Below} (ts : List Token) (e : Expr) → Got IsNumber s ts e → (n : ℤ) × (e ≡ exprs.Atom (atoms.Int n)) × Spells IsNumber t (int_piece n ∷ []) (exprs.Atom (atoms.Int n))
number-turn {s} {t} ts e g =
    which g
    (λ a. let q = unmake (follow a).got in let m = negative_of q.got.spelled.0.content q.tree q.got.spelled.3 in
    (q.tree, q.is, subst (λ (y : ℤ). Spells IsNumber t (int_piece y ∷ []) (exprs.Atom (atoms.Int y))) (sym m.2) (negative_spells m.0 m.1)))
    (λ b. let q = unmake b in (q.tree, q.is, right (made (int-turn q.tokens q.tree q.got))))

-- ---- the arguments of some functions

-- SESSION_USER , text {, text}
pub verified-turn : {s t : Below} (ts : List Token) (xs : List (List ℕ)) → Got IsVerified s ts xs → Spells IsVerified t (verified xs) xs
unfolding has
verified-turn {s} {t} ts xs g =
    let p = follow (follow g).got in
    let q = split p.got in
    let r = unmake q.right in
    subst (λ (ys : List (List ℕ)). Spells IsVerified t (verified ys) ys) (sym r.is)
    (after kinds.SessionUser refl (after kinds.Comma refl (seq (text-turn q.front q.tree q.left) (made (many_after kinds.Comma refl text_pieces text-turn r.tree r.tokens r.got)))))

pub two_texts-turn : {s t : Below} (ts : List Token) (p : List ℕ × List ℕ) → Got IsTwoTexts s ts p → Spells IsTwoTexts t (two_texts p.0 p.1) p
unfolding has
two_texts-turn {s} {t} ts p g =
    let q = split g in
    let r = unmake (follow q.right).got in
    subst (λ (y : List ℕ × List ℕ). Spells IsTwoTexts t (two_texts y.0 y.1) y) (sym r.is)
    (seq (text-turn q.front q.tree q.left) (after kinds.Comma refl (made (text-turn r.tokens r.tree r.got))))

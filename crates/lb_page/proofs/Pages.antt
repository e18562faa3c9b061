-- Pieces as the page writes them.
use Rattle.std.proofs.Common.{Bool, true, false, cond, ◌&&◌, ◌⊎◌, inl, inr, ◌≡◌, ◌==◌, ℕ, suc, ◌+◌, ◌<◌, ◌≤◌, ◌/◌, ◌%◌, List, [], ◌∷◌, ◌++◌, Option, Some, None, refl, ap, subst, ◌∙◌, append_assoc, arith, ℤ, pos, negsuc, unsigned_abs}
use Rattle.std.specs.Prelude.{find, unwrap_or}
use Rattle.std.specs.Fmt.{decimal, signed_decimal}
use Rattle.std.specs.Str.{bytes_eq}
use Rattle.std.proofs.lemmas.Bool.Decides.{nat_tests}
use Rattle.std.proofs.lemmas.Slice.Eq.{bytes_eq-Decides}
use Rattle.lb_tok.specs.declared.kind.Kind.{Kind}
use Rattle.lb_tok.specs.declared.kind.Kind.TheVariants as kinds
use Rattle.lb_tok.specs.declared.token.Content.TheVariants as contents
use Rattle.lb_tok.specs.Kinds.{names, has, kind_of, keywords, spelling}
use Rattle.lb_tok.specs.Lexing.{words, doubled, word_token}
use Rattle.lb_tok.specs.QueryPieces.{int_piece}
use Rattle.lb_tok.specs.Dates.{two, day_text, date_text, has_begun, is_day, year_on, month_on, day_on}
use Rattle.lb_tok.specs.Spacing.{Piece, name, dotted, all_of, opening, literal, quoted, token_text, written, piece_text, begins_closing, ends_opening, closings, openings, Layout, gap, lay}
use Rattle.lb_tok.proofs.Scanned.{word_kind}
use Rattle.std.proofs.lemmas.Int.{ints}
use borrow.Author.Differences.{up, down}
use Rattle.jiff_core.specs.Calendar.{days_from_civil, IsDate}
use Rattle.lb_tok.proofs.Written.{not_begun, date_is}
use Rattle.lb_tok.proofs.Layouts.{nil}

-- a gap, and then the text of a piece
pub piece_laid : (l : Layout) (t one two body : List ℕ) (f c o : Bool) (p : Piece) → record { text = t; fresh = f } ≡ l → begins_closing p ≡ c → ends_opening p ≡ o → piece_text p ≡ body → one ≡ t ++ gap f c → two ≡ one ++ body
    → ◌≡◌ {A = Layout} (record { text = two; fresh = o }) (lay l p)
unfolding lay
piece_laid l t one two body f c o p e hc ho hb h k =
    let whole : two ≡ t ++ (gap f (begins_closing p) ++ piece_text p) = rw (k, h, hc, hb) (append_assoc t (gap f c) body) in
    (rw (whole, ho) refl) ∙ ap (λ (m : Layout). lay m p) e

-- texts one after the other
pub two_behind : (t one two a b : List ℕ) → one ≡ t ++ a → two ≡ one ++ b → two ≡ t ++ (a ++ b)
two_behind t one two a b h k = k ∙ ap (λ (u : List ℕ). u ++ b) h ∙ append_assoc t a b

pub three_behind : (t one two three a b c : List ℕ) → one ≡ t ++ a → two ≡ one ++ b → three ≡ two ++ c → three ≡ t ++ (a ++ (b ++ c))
three_behind t one two three a b c h k l = l ∙ ap (λ (u : List ℕ). u ++ c) (two_behind t one two a b h k) ∙ append_assoc t (a ++ b) c ∙ ap (λ (u : List ℕ). t ++ u) (append_assoc a b c)

-- ---- names

found : (p : Kind → Bool) (ks : List Kind) (k : Kind) → find p ks ≡ Some k → p k ≡ true
found p [] k e = absurd cc
found p (j ∷ ks) k e = go (p j) refl e (found p ks k)
  where
    go : (b : Bool) → p j ≡ b → cond b (Some j) (find p ks) ≡ Some k → (find p ks ≡ Some k → p k ≡ true) → p k ≡ true
    go true h e f = let q : j ≡ k = cc in subst (λ (i : Kind). p i ≡ true) q h
    go false h e f = f e

equal : (xs ys : List ℕ) → bytes_eq xs ys ≡ true → xs ≡ ys
equal xs ys e = (bytes_eq-Decides xs ys).0 e

-- a name is written as it is kept, also where it is a keyword
pub word_text : (n : List ℕ) → token_text (word_token n) ≡ n
unfolding kind_of has
word_text n = go (find (λ k. bytes_eq (spelling k) n) keywords) refl
  where
    either : (k : Kind) (b : Bool) → spelling k ≡ n → written k (cond b (contents.Word n) contents.Nothing) ≡ n
    either k true e = refl
    either k false e = e

    go : (o : Option Kind) → find (λ k. bytes_eq (spelling k) n) keywords ≡ o → written (unwrap_or o kinds.Word) (cond (has names (unwrap_or o kinds.Word)) (contents.Word n) contents.Nothing) ≡ n
    go None e = refl
    go (Some k) e = either k (has names k) (equal (spelling k) n (found (λ k. bytes_eq (spelling k) n) keywords k e))

pub name_text : (n : List ℕ) → piece_text (name n) ≡ n
name_text n = nil (token_text (word_token n)) ∙ word_text n

pub dotted_text : (a b : List ℕ) → piece_text (dotted a b) ≡ a ++ (46 ∷ b)
unfolding has spelling
dotted_text a b = rw (word_text a, word_text b, nil b) refl

pub all_of_text : (a : List ℕ) → piece_text (all_of a) ≡ a ++ (46 ∷ 42 ∷ [])
unfolding has spelling
all_of_text a = rw (word_text a) refl

pub opening_text : (k : Kind) → piece_text (opening k) ≡ spelling k ++ (40 ∷ [])
unfolding has spelling
opening_text k = go (has names k)
  where
    go : (b : Bool) → written k (cond b (contents.Word (spelling k)) contents.Nothing) ++ (40 ∷ []) ≡ spelling k ++ (40 ∷ [])
    go true = refl
    go false = refl

pub literal_text : (t : List ℕ) → piece_text (literal t) ≡ quoted t
literal_text t = nil (quoted t)

pub int_text : (n : ℤ) → piece_text (int_piece n) ≡ signed_decimal n
unfolding has spelling
int_text (pos n) = nil (decimal n)
int_text (negsuc n) = ap (λ (u : List ℕ). 45 ∷ u) (nil (decimal (suc n)))

pub int_closes : (n : ℤ) → begins_closing (int_piece n) ≡ false
unfolding has
int_closes (pos n) = refl
int_closes (negsuc n) = refl

pub int_opens : (n : ℤ) → ends_opening (int_piece n) ≡ false
unfolding has
int_opens (pos n) = refl
int_opens (negsuc n) = refl

no_word_closes : (k : Kind) → has words k ≡ true → has closings k ≡ false
unfolding has
no_word_closes kinds.Open e = absurd cc
no_word_closes kinds.Comma e = absurd cc
no_word_closes kinds.Close e = absurd cc
no_word_closes kinds.RightBracket e = absurd cc
no_word_closes kinds.RightBrace e = absurd cc
no_word_closes k e = refl

no_word_opens : (k : Kind) → has words k ≡ true → has openings k ≡ false
unfolding has
no_word_opens kinds.Open e = absurd cc
no_word_opens kinds.LeftBracket e = absurd cc
no_word_opens kinds.LeftBrace e = absurd cc
no_word_opens k e = refl

pub name_closes : (n : List ℕ) → has closings (kind_of n) ≡ false
name_closes n = no_word_closes (kind_of n) (word_kind n)

pub name_opens : (n : List ℕ) → has openings (kind_of n) ≡ false
name_opens n = no_word_opens (kind_of n) (word_kind n)

-- ---- days

digit_plain : (n : ℕ) → (48 + n % 10 == 39) ≡ false
digit_plain n = grind (arith, nat_tests)

keeps : (x : ℕ) (xs : List ℕ) → (x == 39) ≡ false → doubled xs ≡ xs → doubled (x ∷ xs) ≡ x ∷ xs
keeps x xs e h = ap (λ (b : Bool). cond b (39 ∷ 39 ∷ doubled xs) (x ∷ doubled xs)) e ∙ ap (λ (u : List ℕ). x ∷ u) h

day_plain : (y m d : ℕ) → doubled (day_text y m d) ≡ day_text y m d
day_plain y m d =
    keeps _ _ (digit_plain (y / 100 / 10)) (keeps _ _ (digit_plain (y / 100)) (keeps _ _ (digit_plain (y / 10)) (keeps _ _ (digit_plain y) (keeps 45 _ refl
    (keeps _ _ (digit_plain (m / 10)) (keeps _ _ (digit_plain m) (keeps 45 _ refl (keeps _ _ (digit_plain (d / 10)) (keeps _ [] (digit_plain d) refl)))))))))

-- the text of a day has no quote
pub date_plain : (day : ℤ) → doubled (date_text day) ≡ date_text day
unfolding date_text
date_plain day = go (is_day day)
  where
    go : (b : Bool) → doubled (cond b (day_text (year_on day) (month_on day) (day_on day)) []) ≡ cond b (day_text (year_on day) (month_on day) (day_on day)) []
    go true = day_plain (year_on day) (month_on day) (day_on day)
    go false = refl

pub star_opens : has openings kinds.Star ≡ false
unfolding has
star_opens = refl

pub open_opens : has openings kinds.Open ≡ true
unfolding has
open_opens = refl

pub text_opens : has openings kinds.Text ≡ false
unfolding has
text_opens = refl

pub text_closes : has closings kinds.Text ≡ false
unfolding has
text_closes = refl

-- a number that is no day gives no text
pub too_early : (day : ℤ) → up day + 719_162 < down day → date_text day ≡ []
unfolding date_text
too_early day h = ap (λ (b : Bool). cond (b && has_begun (pos 2932896) day) (day_text (year_on day) (month_on day) (day_on day)) []) (not_begun day (negsuc 719161) (omega (arith, ints)))

pub too_late : (day : ℤ) → down day + 2_932_896 < up day → date_text day ≡ []
unfolding date_text
too_late day h = go (has_begun day (negsuc 719161)) (not_begun (pos 2932896) day (omega (arith, ints)))
  where
    go : (a : Bool) → has_begun (pos 2932896) day ≡ false → cond (a && has_begun (pos 2932896) day) (day_text (year_on day) (month_on day) (day_on day)) [] ≡ []
    go true e = ap (λ (b : Bool). cond b (day_text (year_on day) (month_on day) (day_on day)) []) e
    go false e = refl

pub early_or_late : (day : ℤ) → (up day + 719_162 < down day) ⊎ (down day + 2_932_896 < up day) → date_text day ≡ []
early_or_late day (inl h) = too_early day h
early_or_late day (inr h) = too_late day h

pub date_parts : (day y m d : ℤ) → IsDate y m d → days_from_civil y (unsigned_abs m) (unsigned_abs d) ≡ day → down day ≤ up day + 719_162 → date_text day ≡ day_text (unsigned_abs y) (unsigned_abs m) (unsigned_abs d)
date_parts day y (pos m) (pos d) h e low =
    let a = h.1.0 in
    let b = h.1.1 in
    let c = h.2.0 in
    let f = h.2.1 in
    date_is day y m d (h.0, (omega (arith, ints), omega (arith, ints)), (omega (arith, ints), omega (arith, ints))) e low
date_parts day y (negsuc m) d h e low = let a = h.1.0 in absurd (omega (arith, ints))
date_parts day y (pos m) (negsuc d) h e low = let a = h.2.0 in absurd (omega (arith, ints))

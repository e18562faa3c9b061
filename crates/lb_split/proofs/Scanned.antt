-- Going through a text byte by byte.
use Rattle.std.proofs.Common.{Bool, true, false, cond, ◌≡◌, ℕ, zero, suc, ◌+◌, ◌-◌, ◌<◌, ◌≤◌, List, [], ◌∷◌, length, take, drop, get_or, refl, ap, ◌∙◌, arith}
use Rattle.std.proofs.Math.Seq.{drop-cons}
use Rattle.std.proofs.lemmas.Bool.Decides.{nat_tests}
use Rattle.std.specs.Prelude.{◌==◌, ◌&&◌, ◌||◌}
use Rattle.std.specs.List.{prefix_len}
use Rattle.lb_split.specs.Lexing.{is_white, begins, behind, passed_len, gap_len, line_len, next_line}
use Rattle.lb_split.specs.declared.scan.Place.{Place}
use Rattle.lb_split.specs.declared.scan.Place.TheVariants.{Open, Quoted, Comment}

drop_at : (text : List ℕ) (i d : ℕ) → i < length text → drop i text ≡ get_or text i d ∷ drop (i + 1) text
drop_at text i d lt = let k : i + 1 ≡ suc i = omega arith in rw k (drop-cons text i d lt)

pub passed_cons : (test : Place → ℕ → Bool) (p : Place) (b : ℕ) (bs : List ℕ) → test (behind p b bs) b ≡ true
    → passed_len test p (b ∷ bs) ≡ passed_len test (behind p b bs) bs + 1
passed_cons test p b bs h = rw h refl

pub passed_stop : (test : Place → ℕ → Bool) (p : Place) (b : ℕ) (bs : List ℕ) → test (behind p b bs) b ≡ false
    → passed_len test p (b ∷ bs) ≡ 0
passed_stop test p b bs h = rw h refl

pub passed_more : (test : Place → ℕ → Bool) (p : Place) (text : List ℕ) (i d : ℕ) → i < length text
    → test (behind p (get_or text i d) (drop (i + 1) text)) (get_or text i d) ≡ true
    → passed_len test p (drop i text) ≡ passed_len test (behind p (get_or text i d) (drop (i + 1) text)) (drop (i + 1) text) + 1
passed_more test p text i d lt h = ap (passed_len test p) (drop_at text i d lt) ∙ passed_cons test p (get_or text i d) (drop (i + 1) text) h

pub passed_there : (test : Place → ℕ → Bool) (p : Place) (text : List ℕ) (i d : ℕ) → i < length text
    → test (behind p (get_or text i d) (drop (i + 1) text)) (get_or text i d) ≡ false
    → passed_len test p (drop i text) ≡ 0
passed_there test p text i d lt h = ap (passed_len test p) (drop_at text i d lt) ∙ passed_stop test p (get_or text i d) (drop (i + 1) text) h

pub passed_none : (test : Place → ℕ → Bool) (p : Place) (text : List ℕ) (i : ℕ) → length text ≤ i → passed_len test p (drop i text) ≡ 0
passed_none test p [] zero h = refl
passed_none test p [] (suc i) h = refl
passed_none test p (b ∷ bs) zero h = absurd (omega arith)
passed_none test p (b ∷ bs) (suc i) h = passed_none test p bs i (omega arith)

-- a line's end is never after the next line's start
line_cons : (b : ℕ) (bs : List ℕ) → (b == 10 || b == 13 && begins 10 bs) ≡ false → line_len (b ∷ bs) ≡ line_len bs + 1
line_cons b bs h = rw h refl

line_stop : (b : ℕ) (bs : List ℕ) → (b == 10 || b == 13 && begins 10 bs) ≡ true → line_len (b ∷ bs) ≡ 0
line_stop b bs h = rw h refl

next_cons : (b : ℕ) (bs : List ℕ) → (b == 10) ≡ false → next_line (b ∷ bs) ≡ next_line bs + 1
next_cons b bs h = rw h refl

or_first : (a b : Bool) → (a || b) ≡ false → a ≡ false
or_first true b h = absurd cc
or_first false b h = refl

drop_more : (n b : ℕ) (bs : List ℕ) → drop (n + 1) (b ∷ bs) ≡ drop n bs
drop_more n b bs = let k : n + 1 ≡ suc n = omega arith in rw k refl

pub line_then_next : (t : List ℕ) → line_len t + next_line (drop (line_len t) t) ≡ next_line t
line_then_next [] = refl
line_then_next (b ∷ bs) = by_end (b == 10 || b == 13 && begins 10 bs) refl (line_then_next bs)
  where
    by_end : (e : Bool) → (b == 10 || b == 13 && begins 10 bs) ≡ e → line_len bs + next_line (drop (line_len bs) bs) ≡ next_line bs
        → line_len (b ∷ bs) + next_line (drop (line_len (b ∷ bs)) (b ∷ bs)) ≡ next_line (b ∷ bs)
    by_end true e hyp = rw (line_stop b bs e) (omega arith)
    by_end false e hyp = rw (line_cons b bs e, drop_more (line_len bs) b bs, next_cons b bs (or_first (b == 10) (b == 13 && begins 10 bs) e)) (omega (arith, hyp))

pub next_some : (t : List ℕ) → begins 64 t ≡ true → 1 ≤ next_line t
next_some [] h = absurd cc
next_some (b ∷ bs) h = some_by (b == 10)
  where
    some_by : (e : Bool) → 1 ≤ cond e 1 (next_line bs + 1)
    some_by true = omega arith
    some_by false = omega arith

pub line_some : (t : List ℕ) → begins 64 t ≡ true → 1 ≤ line_len t
line_some [] h = absurd cc
line_some (b ∷ bs) h = rw (eq64 b h) (omega arith)
  where
    eq64 : (b : ℕ) → (b == 64) ≡ true → b ≡ 64
    eq64 b h = grind arith

-- white space alone is blank
white_open : (b : ℕ) (bs : List ℕ) → is_white b ≡ true → behind Open b bs ≡ Open
white_open b bs h = white_by (b == 39) (b == 45) refl refl
  where
    white_by : (q d : Bool) → (b == 39) ≡ q → (b == 45) ≡ d → cond q Quoted (cond (d && begins 45 bs) Comment Open) ≡ Open
    white_by true d e f = absurd (grind (arith, nat_tests))
    white_by false true e f = absurd (grind (arith, nat_tests))
    white_by false false e f = refl

gap_cons : (b : ℕ) (bs : List ℕ) → is_white b ≡ true → gap_len (b ∷ bs) ≡ gap_len bs + 1
gap_cons b bs h = rw (white_open b bs h, h) refl

white_cons : (b : ℕ) (bs : List ℕ) → is_white b ≡ true → prefix_len is_white (b ∷ bs) ≡ 1 + prefix_len is_white bs
white_cons b bs h = rw h refl

white_stop : (b : ℕ) (bs : List ℕ) → is_white b ≡ false → prefix_len is_white (b ∷ bs) ≡ 0
white_stop b bs h = rw h refl

-- where white space goes on up to a place, all before it is blank
pub white_blank : (n : ℕ) (t : List ℕ) → n ≤ prefix_len is_white t → gap_len (take n t) ≡ length (take n t)
white_blank zero t h = refl
white_blank (suc n) [] h = refl
white_blank (suc n) (b ∷ bs) h = blank_by (is_white b) refl (white_blank n bs)
  where
    blank_by : (w : Bool) → is_white b ≡ w → (n ≤ prefix_len is_white bs → gap_len (take n bs) ≡ length (take n bs))
        → gap_len (b ∷ take n bs) ≡ length (b ∷ take n bs)
    blank_by true e hyp =
        let le : n ≤ prefix_len is_white bs = omega (arith, h, white_cons b bs e) in
        gap_cons b (take n bs) e ∙ omega (arith, hyp le)
    blank_by false e hyp = absurd (omega (arith, h, white_stop b bs e))

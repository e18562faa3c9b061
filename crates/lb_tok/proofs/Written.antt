-- The text of a day writes the day.
use Rattle.std.proofs.Common.{Bool, true, false, cond, not, ◌&&◌, ◌≡◌, ℕ, zero, suc, ◌+◌, ◌-◌, ◌*◌, ◌/◌, ◌%◌, ◌≤◌, ◌<◌, List, [], Some, None, refl, sym, ap, subst, ◌∙◌, arith, ℤ, pos, negsuc, unsigned_abs}
use Rattle.std.specs.Prelude.{nat_le, int_lt}
use Rattle.std.specs.Char.{is_ascii_digit}
use Rattle.std.proofs.lemmas.Bool.Decides.{nat_tests}
use Rattle.std.proofs.lemmas.Int.{ints, by_lt_z}
use Rattle.jiff_core.specs.Calendar.{day_count, days_from_civil, days_in_month, IsCivilDate}
use Rattle.jiff_core.proofs.SignedLemmas.{signed_arith}
use Rattle.jiff_core.proofs.CalendarLemmas.{days_from_civil-day_count, day_count_bounds, day_count-lt_year, day_count-lt_month, day_count-day}
use Rattle.jiff_core.proofs.MarchLemmas.{day_count-early}
use borrow.Author.Differences.{up, down}
use Rattle.lb_base.specs.Days.{day_of, is_written_day, is_true_day, year_in, two_digits}
use Rattle.lb_tok.specs.Dates.{last_to, has_begun, year_on, month_on, day_on, day_text, is_day, date_text}

-- ---- the last number that passes a test

last_here : (n k : ℕ) (p : ℕ → Bool) → 1 ≤ k → k ≤ n → p k ≡ true → ((j : ℕ) → k < j → j ≤ n → p j ≡ false) → last_to n p ≡ k
unfolding last_to
last_here zero k p low le h f = absurd (omega arith)
last_here (suc n) k p low le h f = go (nat_le (suc n) k) refl (λ l. last_here n k p low l h (λ j lt lj. f j lt (omega arith)))
  where
    at_end : nat_le (suc n) k ≡ true → k ≡ suc n
    at_end e = grind (arith, nat_tests)

    before : nat_le (suc n) k ≡ false → k ≤ n
    before e = grind (arith, nat_tests)

    go : (b : Bool) → nat_le (suc n) k ≡ b → (k ≤ n → last_to n p ≡ k) → cond (p (suc n)) (suc n) (last_to n p) ≡ k
    go true e r = let q = at_end e in ap (λ (b : Bool). cond b (suc n) (last_to n p)) (subst (λ (i : ℕ). p i ≡ true) q h) ∙ sym q
    go false e r = let l = before e in ap (λ (b : Bool). cond b (suc n) (last_to n p)) (f (suc n) (omega arith) (omega arith)) ∙ r l

begun : (a b : ℤ) → up b + down a ≤ down b + up a → has_begun a b ≡ true
begun a b h = go (int_lt a b) refl
  where
    go : (t : Bool) → int_lt a b ≡ t → not t ≡ true
    go true e = absurd (omega (arith, ints))
    go false e = refl

pub not_begun : (a b : ℤ) → up a + down b < down a + up b → has_begun a b ≡ false
not_begun a b h = go (int_lt a b) refl
  where
    go : (t : Bool) → int_lt a b ≡ t → not t ≡ false
    go true e = refl
    go false e = absurd (omega (arith, ints))

-- ---- the parts of a day

by_count : (y z : ℤ) (m d n e : ℕ) → day_count z n e ≤ day_count y m d → has_begun (days_from_civil y m d) (days_from_civil z n e) ≡ true
by_count y z m d n e h = begun (days_from_civil y m d) (days_from_civil z n e) (omega (arith, days_from_civil-day_count y m d, days_from_civil-day_count z n e))

by_later : (y z : ℤ) (m d n e : ℕ) → day_count y m d < day_count z n e → has_begun (days_from_civil y m d) (days_from_civil z n e) ≡ false
by_later y z m d n e h = not_begun (days_from_civil y m d) (days_from_civil z n e) (omega (arith, days_from_civil-day_count y m d, days_from_civil-day_count z n e))

-- a day of the years from 1 to 9999
record IsGood (y m d : ℕ) : Type 0 where
  pub low : 1 ≤ y
  pub high : y ≤ 9999
  pub month : 1 ≤ m
  pub months : m ≤ 12
  pub day : 1 ≤ d
  pub days : d ≤ days_in_month (pos y) m

long : (y : ℤ) (m : ℕ) → days_in_month y m ≤ 31
long y m = grind arith

short : (y : ℤ) (m : ℕ) → 28 ≤ days_in_month y m
short y m = grind arith

civil : (y m d : ℕ) → IsGood y m d → IsCivilDate (pos y) m d
civil y m d g = let a = g.low in let b = g.high in let c = g.month in let e = g.months in let f = g.day in let h = g.days in (omega (arith, signed_arith), (c, e), (f, h))

first_civil : (y m d : ℕ) → IsGood y m d → IsCivilDate (pos y) 1 1
first_civil y m d g = let a = g.low in let b = g.high in let s = short (pos y) 1 in (omega (arith, signed_arith), (omega arith, omega arith), (omega arith, omega arith))

from_first : (y m d : ℕ) → IsGood y m d → day_count (pos y) 1 1 ≤ day_count (pos y) m d
from_first y zero d g = let c = g.month in absurd (omega arith)
from_first y (suc zero) d g = let f = g.day in let e = day_count-day (pos y) 1 1 d (omega arith) f in omega arith
from_first y (suc (suc m)) d g = let e = day_count-lt_month (pos y) 1 1 (suc (suc m)) d (first_civil y (suc (suc m)) d g) g.day (omega arith) in omega arith

year_is : (y m d : ℕ) → IsGood y m d → year_on (days_from_civil (pos y) m d) ≡ y
unfolding year_on
year_is y m d g =
    last_here 9999 y (λ j. has_begun (days_from_civil (pos y) m d) (days_from_civil (pos j) 1 1)) g.low g.high (by_count (pos y) (pos y) m d 1 1 (from_first y m d g))
    (λ j lt le. by_later (pos y) (pos j) m d 1 1 (day_count-lt_year (pos y) m d (pos j) 1 1 (civil y m d g) (omega arith) (omega (arith, signed_arith))))

month_is : (y m d : ℕ) → IsGood y m d → month_on (days_from_civil (pos y) m d) ≡ m
unfolding month_on
month_is y m d g =
    ap (λ (i : ℕ). last_to 12 (λ k. has_begun (days_from_civil (pos y) m d) (days_from_civil (pos i) k 1))) (year_is y m d g)
    ∙ last_here 12 m (λ k. has_begun (days_from_civil (pos y) m d) (days_from_civil (pos y) k 1)) g.month g.months
    (by_count (pos y) (pos y) m d m 1 (let e = day_count-day (pos y) m 1 d (omega arith) g.day in let f = g.day in omega arith))
    (λ k lt le. by_later (pos y) (pos y) m d k 1 (day_count-lt_month (pos y) m d k 1 (civil y m d g) (omega arith) lt))

day_is : (y m d : ℕ) → IsGood y m d → day_on (days_from_civil (pos y) m d) ≡ d
unfolding day_on
day_is y m d g =
    ap (λ (i : ℕ). last_to 31 (λ k. has_begun (days_from_civil (pos y) m d) (days_from_civil (pos i) (month_on (days_from_civil (pos y) m d)) k))) (year_is y m d g)
    ∙ ap (λ (i : ℕ). last_to 31 (λ k. has_begun (days_from_civil (pos y) m d) (days_from_civil (pos y) i k))) (month_is y m d g)
    ∙ last_here 31 d (λ k. has_begun (days_from_civil (pos y) m d) (days_from_civil (pos y) m k)) g.day (let h = g.days in let l = long (pos y) m in omega arith)
    (by_count (pos y) (pos y) m d m d (omega arith))
    (λ k lt le. by_later (pos y) (pos y) m d m k (let f = g.day in let e = day_count-day (pos y) m d k f (omega arith) in omega arith))

day_count-one : day_count (pos 1) 1 1 ≡ 3_652_791
day_count-one = day_count-early (pos 1) 10000 1 1 refl (omega arith) (omega arith) (omega arith)

one_civil : IsCivilDate (pos 1) 1 1
one_civil = (omega (arith, signed_arith), (omega arith, omega arith), (omega arith, let s = short (pos 1) 1 in omega arith))

from_one : (y m d : ℕ) → IsGood y m d → 3_652_791 ≤ day_count (pos y) m d
from_one zero m d g = let a = g.low in absurd (omega arith)
from_one (suc zero) m d g = let e = from_first 1 m d g in omega (arith, e, day_count-one)
from_one (suc (suc y)) m d g =
    let e = day_count-lt_year (pos 1) 1 1 (pos (suc (suc y))) m d one_civil g.day (omega (arith, signed_arith)) in
    omega (arith, e, day_count-one)

and_true : (a b : Bool) → a ≡ true → b ≡ true → (a && b) ≡ true
and_true true b e f = f
and_true false b e f = absurd cc

is_day_good : (y m d : ℕ) → IsGood y m d → is_day (days_from_civil (pos y) m d) ≡ true
is_day_good y m d g =
    let low = from_one y m d g in
    let high = (day_count_bounds (pos y) m d (civil y m d g)).1 in
    let e = days_from_civil-day_count (pos y) m d in
    and_true (has_begun (days_from_civil (pos y) m d) (negsuc 719161)) (has_begun (pos 2932896) (days_from_civil (pos y) m d))
    (begun (days_from_civil (pos y) m d) (negsuc 719161) (omega (arith, signed_arith)))
    (begun (pos 2932896) (days_from_civil (pos y) m d) (omega (arith, signed_arith)))

text_is : (y m d : ℕ) → IsGood y m d → date_text (days_from_civil (pos y) m d) ≡ day_text y m d
unfolding date_text
text_is y m d g =
    ap (λ (b : Bool). cond b (day_text (year_on (days_from_civil (pos y) m d)) (month_on (days_from_civil (pos y) m d)) (day_on (days_from_civil (pos y) m d))) []) (is_day_good y m d g)
    ∙ ap (λ (i : ℕ). day_text i (month_on (days_from_civil (pos y) m d)) (day_on (days_from_civil (pos y) m d))) (year_is y m d g)
    ∙ ap (λ (i : ℕ). day_text y i (day_on (days_from_civil (pos y) m d))) (month_is y m d g)
    ∙ ap (λ (i : ℕ). day_text y m i) (day_is y m d g)

-- ---- reading it again

both : (a b : Bool) → (a && b) ≡ true → (a ≡ true) × (b ≡ true)
both true true e = (refl, refl)
both true false e = absurd cc
both false b e = absurd cc

at_most : (n m : ℕ) → nat_le n m ≡ true → n ≤ m
at_most n m e = grind (arith, nat_tests)

is_at_most : (n m : ℕ) → n ≤ m → nat_le n m ≡ true
is_at_most n m h = grind (arith, nat_tests)

good_of : (y m d : ℕ) → is_true_day y m d ≡ true → IsGood y m d
good_of y m d e =
    let a = both (nat_le 1 y && nat_le y 9999 && nat_le 1 m && nat_le m 12 && nat_le 1 d) (nat_le d (days_in_month (pos y) m)) e in
    let b = both (nat_le 1 y && nat_le y 9999 && nat_le 1 m && nat_le m 12) (nat_le 1 d) a.0 in
    let c = both (nat_le 1 y && nat_le y 9999 && nat_le 1 m) (nat_le m 12) b.0 in
    let f = both (nat_le 1 y && nat_le y 9999) (nat_le 1 m) c.0 in
    let g = both (nat_le 1 y) (nat_le y 9999) f.0 in
    record { low = at_most 1 y g.0; high = at_most y 9999 g.1; month = at_most 1 m f.1; months = at_most m 12 c.1; day = at_most 1 d b.1; days = at_most d (days_in_month (pos y) m) a.1 }

digit : (n : ℕ) → is_ascii_digit (48 + n % 10) ≡ true
digit n = let h : n % 10 < 10 = omega arith in grind (arith, nat_tests)

two_back : (n : ℕ) → n ≤ 99 → (48 + n / 10 % 10 - 48) * 10 + (48 + n % 10 - 48) ≡ n
two_back n h = omega arith

year_back : (y : ℕ) → y ≤ 9999 → ((48 + y / 100 / 10 % 10 - 48) * 10 + (48 + y / 100 % 10 - 48)) * 100 + ((48 + y / 10 % 10 - 48) * 10 + (48 + y % 10 - 48)) ≡ y
year_back y h = omega arith

written : (y m d : ℕ) → is_written_day (day_text y m d) ≡ true
written y m d =
    and_true _ _ (and_true _ _ (and_true _ _ (and_true _ _ (and_true _ _ (and_true _ _ (and_true _ _ (and_true _ _ (and_true _ _ (and_true _ _ refl
    (digit (y / 100 / 10))) (digit (y / 100))) (digit (y / 10))) (digit y)) refl) (digit (m / 10))) (digit m)) refl) (digit (d / 10))) (digit d)

read_again : (y m d : ℕ) → IsGood y m d → is_true_day y m d ≡ true → day_of (day_text y m d) ≡ Some (days_from_civil (pos y) m d)
unfolding day_of
read_again y m d g e =
    let a : year_in (day_text y m d) ≡ y = year_back y g.high in
    let b : two_digits (day_text y m d) 5 ≡ m = two_back m (let h = g.months in omega arith) in
    let c : two_digits (day_text y m d) 8 ≡ d = two_back d (let h = g.days in let l = long (pos y) m in omega arith) in
    let t : is_true_day (year_in (day_text y m d)) (two_digits (day_text y m d) 5) (two_digits (day_text y m d) 8) ≡ true = rw (a, b, c) e in
    ap (λ (v : Bool). cond v (Some (days_from_civil (pos (year_in (day_text y m d))) (two_digits (day_text y m d) 5) (two_digits (day_text y m d) 8))) None) (and_true _ _ (written y m d) t)
    ∙ ap (λ (i : ℕ). Some (days_from_civil (pos i) (two_digits (day_text y m d) 5) (two_digits (day_text y m d) 8))) a
    ∙ ap (λ (i : ℕ). Some (days_from_civil (pos y) i (two_digits (day_text y m d) 8))) b
    ∙ ap (λ (i : ℕ). Some (days_from_civil (pos y) m i)) c

pub day_again : (text : List ℕ) (z : ℤ) → day_of text ≡ Some z → day_of (date_text z) ≡ Some z
unfolding day_of
day_again text z e = go (is_written_day text && is_true_day (year_in text) (two_digits text 5) (two_digits text 8)) refl e
  where
    again : (y m d : ℕ) → is_true_day y m d ≡ true → days_from_civil (pos y) m d ≡ z → day_of (date_text z) ≡ Some z
    again y m d t q =
        let g = good_of y m d t in
        subst (λ (x : ℤ). day_of (date_text x) ≡ Some x) q (ap day_of (text_is y m d g) ∙ read_again y m d g t)

    go : (b : Bool) → (is_written_day text && is_true_day (year_in text) (two_digits text 5) (two_digits text 8)) ≡ b → cond b (Some (days_from_civil (pos (year_in text)) (two_digits text 5) (two_digits text 8))) None ≡ Some z → day_of (date_text z) ≡ Some z
    go true h f = again (year_in text) (two_digits text 5) (two_digits text 8) (both (is_written_day text) (is_true_day (year_in text) (two_digits text 5) (two_digits text 8)) h).1 cc
    go false h f = absurd cc

-- ---- from a date of the calendar

pub date_is : (day y : ℤ) (m d : ℕ) → IsCivilDate y m d → days_from_civil y m d ≡ day → down day ≤ up day + 719_162 → date_text day ≡ day_text (unsigned_abs y) m d
date_is day (pos y) m d c e low =
    let g : 1 ≤ y = by_lt_z (pos y) (pos 1)
    (λ lt. let h = day_count-lt_year (pos y) m d (pos 1) 1 1 c (omega arith) lt in let f = days_from_civil-day_count (pos y) m d in let k = ap up e in let l = ap down e in absurd (omega (arith, h, f, k, l, low, day_count-one)))
    (λ le. omega (arith, signed_arith)) in
    let high : y ≤ 9999 = let b = c.0 in omega (arith, signed_arith) in
    subst (λ (z : ℤ). date_text z ≡ day_text y m d) e (text_is y m d (record { low = g; high = high; month = c.1.0; months = c.1.1; day = c.2.0; days = c.2.1 }))
date_is day (negsuc y) m d c e low =
    let h = day_count-lt_year (negsuc y) m d (pos 1) 1 1 c (omega arith) (omega (arith, signed_arith)) in
    let f = days_from_civil-day_count (negsuc y) m d in
    let k = ap up e in
    let l = ap down e in
    absurd (omega (arith, h, f, k, l, low, day_count-one))

-- The day that a DATE literal writes is a day of the calendar.
use Rattle.std.proofs.Common.{Bool, true, false, cond, not, ◌&&◌, ◌≡◌, List, [], ℕ, Option, Some, None, refl, sym, ap, ◌∙◌, arith, ℤ, pos, negsuc}
use Rattle.std.specs.Prelude.{int_lt, ◌≤ℤ◌}
use Rattle.std.proofs.lemmas.Int.{ints}
use Rattle.lb_base.specs.Days.{day_of, IsDay}
use Rattle.lb_tok.specs.declared.token.Content.{Content}
use Rattle.lb_tok.specs.declared.token.Content.TheVariants as contents
use Rattle.lb_tok.specs.Dates.{has_begun, year_on, month_on, day_on, day_text, is_day, date_text}
use Rattle.lb_tok.specs.Words.{day_in}
use Rattle.lb_tok.specs.Form.{Below}
use Rattle.lb_tok.specs.Grammar.{IsDayLiteral}
use Rattle.lb_tok.proofs.Written.{day_again}
use Rattle.lb_spoken.proofs.Gives.{Gives}

both : (a b : Bool) → (a && b) ≡ true → (a ≡ true) × (b ≡ true)
both true true e = (refl, refl)
both true false e = absurd cc
both false b e = absurd cc

begun_is : (a b : ℤ) → has_begun a b ≡ true → b ≤ℤ a
begun_is a b h = go (int_lt a b) refl h
  where
    go : (t : Bool) → int_lt a b ≡ t → not t ≡ true → b ≤ℤ a
    go true e f = absurd cc
    go false e f = omega (arith, ints)

-- a number that is no day has no text, and so no text writes it
is_day_true : (text : List ℕ) (z : ℤ) → day_of text ≡ Some z → is_day z ≡ true
unfolding day_of date_text
is_day_true text z h = go (is_day z) refl
  where
    go : (b : Bool) → is_day z ≡ b → b ≡ true
    go true e = refl
    go false e =
        let none : date_text z ≡ [] = ap (λ (b : Bool). cond b (day_text (year_on z) (month_on z) (day_on z)) []) e in
        let f : ◌≡◌ {A = Option ℤ} None (Some z) = sym (ap day_of none) ∙ day_again text z h in
        absurd cc

day_of_is_day : (text : List ℕ) (z : ℤ) → day_of text ≡ Some z → IsDay z
day_of_is_day text z h =
    let p = both (has_begun z (negsuc 719161)) (has_begun (pos 2932896) z) (is_day_true text z h) in
    (begun_is z (negsuc 719161) p.0, begun_is (pos 2932896) z p.1)

day_in_is_day : (c : Content) (z : ℤ) → day_in c ≡ Some z → IsDay z
day_in_is_day contents.Nothing z e = absurd cc
day_in_is_day (contents.Word w) z e = absurd cc
day_in_is_day (contents.Number n) z e = absurd cc
day_in_is_day (contents.Text text) z e = day_of_is_day text z e

pub literal_is_day : {s : Below} → Gives IsDayLiteral s IsDay
literal_is_day = record { of = λ ts z g. day_in_is_day g.spelled.0.content z g.spelled.3 }

-- What the form of a day says of its bytes.
use Rattle.std.proofs.Common.{Bool, true, false, ◌&&◌, ◌≡◌, ℕ, List, length, get_or, ◌==◌, refl, arith}
use Rattle.std.specs.Char.{IsAsciiDigit, is_ascii_digit}
use Rattle.std.proofs.lemmas.Bool.Decides.{nat_tests}
use Rattle.lb_base.specs.Days.{is_written_day}

both : (a b : Bool) → (a && b) ≡ true → (a ≡ true) × (b ≡ true)
both true true e = (refl, refl)
both true false e = absurd cc
both false b e = absurd cc

digit : (n : ℕ) → is_ascii_digit n ≡ true → IsAsciiDigit n
digit n e = grind (arith, nat_tests)

pub record Digits (text : List ℕ) : Type 0 where
  pub size : length text ≡ 10
  pub first : IsAsciiDigit (get_or text 0 0)
  pub second : IsAsciiDigit (get_or text 1 0)
  pub third : IsAsciiDigit (get_or text 2 0)
  pub fourth : IsAsciiDigit (get_or text 3 0)
  pub sixth : IsAsciiDigit (get_or text 5 0)
  pub seventh : IsAsciiDigit (get_or text 6 0)
  pub ninth : IsAsciiDigit (get_or text 8 0)
  pub tenth : IsAsciiDigit (get_or text 9 0)

ten : (n : ℕ) → (n == 10) ≡ true → n ≡ 10
ten n e = grind (arith, nat_tests)

-- which places hold digits
pub digits : (text : List ℕ) → is_written_day text ≡ true → Digits text
digits text e =
    let a = both _ _ e in
    let b = both _ _ a.0 in
    let c = both _ _ b.0 in
    let d = both _ _ c.0 in
    let f = both _ _ d.0 in
    let g = both _ _ f.0 in
    let h = both _ _ g.0 in
    let i = both _ _ h.0 in
    let j = both _ _ i.0 in
    let k = both _ _ j.0 in
    record {
      size = ten _ k.0;
      first = digit _ k.1;
      second = digit _ j.1;
      third = digit _ i.1;
      fourth = digit _ h.1;
      sixth = digit _ f.1;
      seventh = digit _ d.1;
      ninth = digit _ b.1;
      tenth = digit _ a.1;
    }

-- How the bytes that a source gave add up while a whole input is read, and what follows for the caller.
use Rattle.std.proofs.Common.{◌≡◌, ℕ, ◌+◌, ◌-◌, ◌≤◌, ◌<◌, ◌↔◌, List, ◌++◌, length, take, refl, Option, Some, Result, Err, arith, ap, ◌∙◌, length-append}
use Rattle.lb_wire.specs.declared.transfer.InputFault.{InputFault}
use Rattle.lb_wire.specs.declared.transfer.InputFault.TheVariants.{TooLong}
use Rattle.lb_wire.specs.Told.{Took}
use Rattle.lb_wire.specs.Reading.{TookUpTo}
use Rattle.lb_wire.proofs.Told.{Took-then}

-- the bytes so far, and the n that one more read gave, are more than the limit
pub TookUpTo-too_long : {T : Type 0} (a b c : Option (List ℕ)) (xs buf : List ℕ) (most n : ℕ) → Took a b xs → Took b c (take n buf) → n ≡ length (take n buf)
    → length xs ≤ most → most - length xs < n → n ≤ most - length xs + 1 → TookUpTo {T = T} a c most (Err TooLong)
TookUpTo-too_long a b c xs buf most n p q size within above below =
    let all : length (xs ++ take n buf) ≡ length xs + n = omega (arith, length-append xs (take n buf), size) in
    record {
      taken = xs ++ take n buf;
      took = Took-then a b c xs (take n buf) p q;
      bound = omega (arith, all, within, below);
      too_long = (λ _. omega (arith, all, within, above), λ _. refl);
    }

-- they are not, and the reading ends for another reason
pub TookUpTo-within : {T : Type 0} (a b c : Option (List ℕ)) (xs buf : List ℕ) (most n : ℕ) (r : Result T InputFault) → (r ≡ Err TooLong → ⊥) → Took a b xs → Took b c (take n buf)
    → n ≡ length (take n buf) → length xs ≤ most → n ≤ most - length xs → TookUpTo a c most r
TookUpTo-within a b c xs buf most n r other p q size within below =
    let all : length (xs ++ take n buf) ≡ length xs + n = omega (arith, length-append xs (take n buf), size) in
    record {
      taken = xs ++ take n buf;
      took = Took-then a b c xs (take n buf) p q;
      bound = omega (arith, all, within, below);
      too_long = (λ e. absurd (other e), λ h. absurd (omega (arith, all, within, below, h)));
    }

-- the input was too long exactly where what is left fell by more than the limit
pub too_long_by_length : {T : Type 0} (before after : List ℕ) (most : ℕ) (result : Result T InputFault) → TookUpTo (Some before) (Some after) most result
    → (result ≡ Err TooLong) ↔ (most + length after < length before)
too_long_by_length before after most result p =
    let sizes : length before ≡ length p.taken + length after = ap length p.took ∙ length-append p.taken after in
    (λ e. omega (arith, sizes, p.too_long.0 e), λ h. p.too_long.1 (omega (arith, sizes, h)))

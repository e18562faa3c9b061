-- How counts of faults go on over several calls.
use Rattle.std.proofs.Common.{ℕ, ◌≤◌, Result, Ok, Err, arith}
use Rattle.lb_wire.specs.Causes.{Rose, HasCause}

-- what has risen stays so
pub Rose-later : (a b c : ℕ) → Rose a b → b ≤ c → Rose a c
Rose-later a b c p q = omega (arith, p, q)

pub Rose-after : (a b c : ℕ) → a ≤ b → Rose b c → Rose a c
Rose-after a b c p q = omega (arith, p, q)

-- one call, and then others in which the count did not fall
pub HasCause-later : {T E : Type 0} (a b c : ℕ) (r : Result T E) → HasCause a b r → b ≤ c → HasCause a c r
HasCause-later a b c (Ok x) p q = record { later = omega (arith, p.later, q); failed = tt }
HasCause-later a b c (Err e) p q = record { later = omega (arith, p.later, q); failed = Rose-later a b c p.failed q }

-- one call after calls in which the count did not fall
pub HasCause-after : {T E : Type 0} (a b c : ℕ) (r : Result T E) → a ≤ b → HasCause b c r → HasCause a c r
HasCause-after a b c (Ok x) p q = record { later = omega (arith, p, q.later); failed = tt }
HasCause-after a b c (Err e) p q = record { later = omega (arith, p, q.later); failed = Rose-after a b c p q.failed }

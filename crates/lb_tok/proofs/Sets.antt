-- A run of kinds is a set: the test by number is the test by list.
use Rattle.std.proofs.Common.{Bool, true, false, cond, ◌&&◌, ◌≡◌, ◌==◌, ℕ, refl, arith}
use Rattle.std.specs.Prelude.{nat_le}
use Rattle.std.proofs.lemmas.Bool.Decides.{nat_tests}
use Rattle.lb_tok.specs.declared.kind.Kind.{Kind}
use Rattle.lb_tok.specs.Kinds.{has, number, only, from_to}

same : (n m : ℕ) → (nat_le n m && nat_le m n) ≡ (m == n)
same n m = grind (arith, nat_tests)

kept : (b : Bool) → cond b true false ≡ b
kept true = refl
kept false = refl

pub alone : (o k : Kind) → has (only o) k ≡ (number k == number o)
unfolding has
alone o k = rw (kept (nat_le (number o) (number k) && nat_le (number k) (number o))) (same (number o) (number k))

pub run : (a b k : Kind) → has (from_to a b) k ≡ (nat_le (number a) (number k) && nat_le (number k) (number b))
unfolding has
run a b k = kept (nat_le (number a) (number k) && nat_le (number k) (number b))

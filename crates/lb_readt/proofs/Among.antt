-- A test of a kind against two.
use Rattle.std.proofs.Common.{Bool, true, false, cond, ◌||◌, ◌≡◌, ◌++◌, refl}
use Rattle.lb_tok.specs.declared.kind.Kind.{Kind}
use Rattle.lb_tok.specs.Kinds.{has, only}

or2 : (a b : Bool) → cond a true (cond b true false) ≡ ((cond a true false) || (cond b true false))
or2 true b = refl
or2 false b = refl

pub two : (a b k : Kind) → has (only a ++ only b) k ≡ (has (only a) k || has (only b) k)
unfolding has
two a b k = or2 _ _

-- What begins a predicate, as tests of a kind.
use Rattle.std.proofs.Common.{Bool, true, false, cond, ◌||◌, ◌≡◌, refl}
use Rattle.lb_tok.specs.declared.kind.Kind.{Kind}
use Rattle.lb_tok.specs.declared.kind.Kind.TheVariants as kinds
use Rattle.lb_tok.specs.Kinds.{has, only, from_to}
use Rattle.lb_reade.specs.Expressions.{in_pred}

or5 : (a b c d e : Bool) → cond a true (cond b true (cond c true (cond d true (cond e true false)))) ≡ ((cond a true false) || (cond b true false) || (cond c true false) || (cond d true false) || (cond e true false))
or5 true b c d e = refl
or5 false true c d e = refl
or5 false false true d e = refl
or5 false false false true e = refl
or5 false false false false e = refl

pub in_pred_is : (k : Kind) → has in_pred k ≡ (has (from_to kinds.Equal kinds.AtLeast) k || has (only kinds.Is) k || has (only kinds.Not) k || has (only kinds.In) k || has (only kinds.Between) k)
unfolding has
in_pred_is k = or5 _ _ _ _ _

-- Which tokens begin a join: a chain of tables ends before any other.
use Rattle.std.proofs.Common.{Bool, true, false, cond, ◌||◌, ◌≡◌, refl}
use Rattle.lb_tok.specs.declared.kind.Kind.{Kind}
use Rattle.lb_tok.specs.declared.kind.Kind.TheVariants as kinds
use Rattle.lb_tok.specs.Kinds.{has, only}
use Rattle.lb_readq.specs.Queries.{in_join}

or4 : (a b c d : Bool) → cond a true (cond b true (cond c true (cond d true false))) ≡ ((cond a true false) || (cond b true false) || (cond c true false) || (cond d true false))
or4 true b c d = refl
or4 false true c d = refl
or4 false false true d = refl
or4 false false false d = refl

pub in_join_is : (k : Kind) → has in_join k ≡ (has (only kinds.Left) k || has (only kinds.Cross) k || has (only kinds.Inner) k || has (only kinds.Join) k)
unfolding has
in_join_is k = or4 _ _ _ _

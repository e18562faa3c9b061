-- The test of a kind against several runs.
use Rattle.std.proofs.Common.{Bool, true, false, cond, ◌||◌, ◌≡◌, refl}
use Rattle.lb_tok.specs.declared.kind.Kind.{Kind}
use Rattle.lb_tok.specs.declared.kind.Kind.TheVariants as kinds
use Rattle.lb_tok.specs.Kinds.{has, only, names}
use Rattle.lb_readg.specs.Granting.{in_grantee}

or3 : (a b c : Bool) → cond a true (cond b true (cond c true false)) ≡ ((cond a true false) || (cond b true false) || (cond c true false))
or3 true b c = refl
or3 false true c = refl
or3 false false c = refl

pub grantee_is : (k : Kind) → has in_grantee k ≡ (has (only kinds.Public) k || has (only kinds.User) k || has names k)
unfolding has
grantee_is k = or3 _ _ _

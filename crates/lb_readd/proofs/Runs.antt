-- The test of a kind against two runs.
use Rattle.std.proofs.Common.{Bool, true, false, cond, ◌||◌, ◌≡◌, ◌++◌, refl}
use Rattle.lb_tok.specs.declared.kind.Kind.{Kind}
use Rattle.lb_tok.specs.declared.kind.Kind.TheVariants as kinds
use Rattle.lb_tok.specs.Kinds.{has, from_to}

or2 : (a b : Bool) → cond a true (cond b true false) ≡ ((cond a true false) || (cond b true false))
or2 true b = refl
or2 false b = refl

pub other_is : (k : Kind) → has (from_to kinds.Count kinds.SecLabelToChar ++ from_to kinds.First kinds.Word) k ≡ (has (from_to kinds.Count kinds.SecLabelToChar) k || has (from_to kinds.First kinds.Word) k)
unfolding has
other_is k = or2 _ _

use Rattle.std.proofs.Common.{◌≡◌, drop, length}
use Rattle.lb_names.specs.Same.{same_names}
use Rattle.lb_same.proofs.same.are_same_names.Given as goal

abbrev pub invariant-loop-i : goal.invariant-loop-i
invariant-loop-i l = (length l.names ≡ length l.others) × (same_names l.names l.others ≡ same_names (drop l.i l.names) (drop l.i l.others))

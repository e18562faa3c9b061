use Rattle.std.proofs.Common.{◌≡◌, take}
use Rattle.lb_label.proofs.shape.Shape.copy.Given as goal

abbrev pub invariant-loop-at : goal.invariant-loop-at
invariant-loop-at l = l.copy ≡ take l.at l.self

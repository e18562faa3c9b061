use Rattle.std.proofs.Common.{◌≡◌, map, length}
use Rattle.lb_model.specs.Small.{are_different}
use Rattle.lb_refr.specs.Shapes.{element_name}
use Rattle.lb_refr.proofs.small.have_different_names.Given as goal

abbrev pub invariant-loop-first : goal.invariant-loop-first
invariant-loop-first l = are_different (map element_name l.elements) ≡ are_different (map element_name l.rest)

abbrev pub decreases-loop-first : goal.decreases-loop-first
decreases-loop-first l = length l.rest

use Rattle.std.proofs.Common.{◌≡◌, take, map}
use Rattle.lb_resolve.proofs.target.assigned.Given as goal

abbrev pub invariant-loop-assignment : goal.invariant-loop-assignment
invariant-loop-assignment l = l.names ≡ map (λ a. a.column) (take l.assignment-index l.assignments)

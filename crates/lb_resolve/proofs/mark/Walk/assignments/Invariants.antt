use Rattle.std.proofs.Common.{◌≡◌, drop}
use Rattle.lb_resolve.specs.Parts as parts
use Rattle.lb_resolve.proofs.mark.Walk.assignments.Given as goal

abbrev pub invariant-loop-assignment : goal.invariant-loop-assignment
invariant-loop-assignment l = parts.of_all (parts.in_assignment l.self) l.assignments l.sight ≡ parts.of_all (parts.in_assignment l.self) (drop l.assignment-index l.assignments) l.sight

use Rattle.std.proofs.Common.{◌≡◌, take}
use Rattle.lb_stmt.proofs.copy_stmt.copy_assignments.Given as goal

-- the copies so far are the items so far
abbrev pub invariant-loop-assignment : goal.invariant-loop-assignment
invariant-loop-assignment l = l.copied ≡ take l.assignment-index l.assignments

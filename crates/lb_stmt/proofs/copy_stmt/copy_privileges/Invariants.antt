use Rattle.std.proofs.Common.{◌≡◌, take}
use Rattle.lb_stmt.proofs.copy_stmt.copy_privileges.Given as goal

-- the copies so far are the items so far
abbrev pub invariant-loop-privilege : goal.invariant-loop-privilege
invariant-loop-privilege l = l.copied ≡ take l.privilege-index l.privileges

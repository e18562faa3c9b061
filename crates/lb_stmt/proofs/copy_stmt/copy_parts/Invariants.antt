use Rattle.std.proofs.Common.{◌≡◌, take}
use Rattle.lb_stmt.proofs.copy_stmt.copy_parts.Given as goal

-- the copies so far are the items so far
abbrev pub invariant-loop-part : goal.invariant-loop-part
invariant-loop-part l = l.copied ≡ take l.part-index l.parts

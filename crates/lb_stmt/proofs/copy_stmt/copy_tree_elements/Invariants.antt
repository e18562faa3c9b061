use Rattle.std.proofs.Common.{◌≡◌, take}
use Rattle.lb_stmt.proofs.copy_stmt.copy_tree_elements.Given as goal

-- the copies so far are the items so far
abbrev pub invariant-loop-element : goal.invariant-loop-element
invariant-loop-element l = l.copied ≡ take l.element-index l.elements

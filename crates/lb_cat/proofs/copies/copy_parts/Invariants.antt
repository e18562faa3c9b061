use Rattle.std.proofs.Common.{◌≡◌, take}
use Rattle.lb_cat.proofs.copies.copy_parts.Given as goal

-- the copies so far are the parts so far
abbrev pub invariant-loop-part : goal.invariant-loop-part
invariant-loop-part l = l.copied.items ≡ take l.part-index l.parts.items

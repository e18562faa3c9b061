use Rattle.std.proofs.Common.{◌≡◌, take}
use Rattle.lb_base.proofs.value.copy_row.Given as goal

-- the copies so far are the items so far
abbrev pub invariant-loop-value : goal.invariant-loop-value
invariant-loop-value l = l.copied ≡ take l.value-index l.row

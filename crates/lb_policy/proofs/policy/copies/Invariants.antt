use Rattle.std.proofs.Common.{◌≡◌, take}
use Rattle.lb_policy.proofs.policy.copies.Given as goal

-- so many are copied
abbrev pub invariant-loop-name : goal.invariant-loop-name
invariant-loop-name l = l.copies ≡ take l.name-index l.names

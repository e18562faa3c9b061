use Rattle.std.proofs.Common.{◌≡◌, take}
use Rattle.lb_scope.proofs.sight.copy_seen.Given as goal

abbrev pub invariant-loop-one : goal.invariant-loop-one
invariant-loop-one l = l.copied ≡ take l.one-index l.seen

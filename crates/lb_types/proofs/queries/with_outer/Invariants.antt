use Rattle.std.proofs.Common.{◌≡◌, ◌++◌, take}
use Rattle.lb_types.proofs.queries.with_outer.Given as goal

abbrev pub invariant-loop-group : goal.invariant-loop-group
invariant-loop-group l = l.all ≡ l.fn.groups ++ take l.group-index l.outer

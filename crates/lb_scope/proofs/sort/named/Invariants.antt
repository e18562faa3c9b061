use Rattle.std.proofs.Common.{◌≡◌, drop}
use Rattle.lb_names.specs.SortNames.{named}
use Rattle.lb_scope.proofs.sort.named.Given as goal

abbrev pub invariant-loop-item : goal.invariant-loop-item
invariant-loop-item l = named l.name l.items ≡ named l.name (drop l.item-index l.items)

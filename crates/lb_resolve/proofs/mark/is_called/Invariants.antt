use Rattle.std.proofs.Common.{◌≡◌, drop}
use Rattle.lb_names.specs.Passes.{is_called}
use Rattle.lb_resolve.proofs.mark.is_called.Given as goal

abbrev pub invariant-loop-item : goal.invariant-loop-item
invariant-loop-item l = is_called l.name l.items ≡ is_called l.name (drop l.item-index l.items)

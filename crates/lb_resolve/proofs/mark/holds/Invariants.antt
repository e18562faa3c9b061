use Rattle.std.proofs.Common.{◌≡◌, drop}
use Rattle.lb_names.specs.Passes.{holds}
use Rattle.lb_resolve.proofs.mark.holds.Given as goal

abbrev pub invariant-loop-other : goal.invariant-loop-other
invariant-loop-other l = holds l.name l.names ≡ holds l.name (drop l.other-index l.names)

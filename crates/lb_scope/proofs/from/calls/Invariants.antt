use Rattle.std.proofs.Common.{◌≡◌, take}
use Rattle.lb_names.specs.Sights.{calls_of}
use Rattle.lb_scope.proofs.from.calls.Given as goal

abbrev pub invariant-loop-tab : goal.invariant-loop-tab
invariant-loop-tab l = l.names ≡ calls_of (take l.tab-index l.tabs)

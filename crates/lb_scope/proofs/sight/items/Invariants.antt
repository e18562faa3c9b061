use Rattle.std.proofs.Common.{◌≡◌, take, map}
use Rattle.lb_names.specs.Sights.{at_level}
use Rattle.lb_scope.proofs.sight.items.Given as goal

abbrev pub invariant-loop-tab : goal.invariant-loop-tab
invariant-loop-tab l = l.items ≡ map (at_level l.level) (take l.tab-index l.tabs)

use Rattle.std.proofs.Common.{◌≢◌}
use Rattle.lb_label.specs.declared.kind.ComponentKind.TheVariants.{Tree}
use Rattle.part_tests.proofs.label.overfill.Given as goal

abbrev pub invariant-loop-number : goal.invariant-loop-number
invariant-loop-number l = l.component.kind ≢ Tree

use Rattle.std.proofs.Common.{◌≡◌, ◌<◌, length}
use Rattle.lb_label.specs.declared.kind.ComponentKind.TheVariants.{Tree}
use Rattle.part_tests.proofs.label.tree.Given as goal

abbrev pub invariant-loop-element : goal.invariant-loop-element
invariant-loop-element l = (l.component.kind ≡ Tree) × (0 < length l.component.elements)

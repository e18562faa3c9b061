use Rattle.std.proofs.Common.{◌≡◌}
use Rattle.std.specs.Prelude.{filter}
use Rattle.std.specs.List.{range_with_len}
use Rattle.lb_label.specs.Label.{part_of}
use Rattle.lb_label.specs.LabelText.{is_named}
use Rattle.lb_label.specs.declared.kind.ComponentKind.TheVariants as kinds
use Rattle.lb_policy.proofs.numbers.bits_named.Given as goal

-- the bits so far
abbrev pub invariant-loop-number : goal.invariant-loop-number
invariant-loop-number l = l.bits ≡ part_of kinds.Set (filter (is_named l.component l.names) (range_with_len 0 l.number))

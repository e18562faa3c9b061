use Rattle.std.proofs.Common.{◌≡◌}
use Rattle.lb_label.proofs.Elements.{members}
use Rattle.lb_label.proofs.text.numbers_of_bits.Given as goal

abbrev pub invariant-loop-number : goal.invariant-loop-number
invariant-loop-number l = l.numbers.items ≡ members l.number l.part

use Rattle.std.proofs.Common.{◌≡◌}
use Rattle.lb_label.specs.Exemption.{is_exempt}
use Rattle.lb_label.proofs.LabelLemmas.{failure_left}
use Rattle.lb_label.proofs.access.first_fail.Given as goal

abbrev pub invariant-loop-at : goal.invariant-loop-at
invariant-loop-at l = failure_left l.access (is_exempt l.exempt) l.shape l.user l.value l.at ≡ failure_left l.access (is_exempt l.exempt) l.shape l.user l.value 0

use Rattle.std.proofs.Common.{◌≡◌}
use Rattle.lb_label.proofs.LabelLemmas.{disagreement_left}
use Rattle.lb_label.proofs.access.grant_fits.Given as goal

abbrev pub invariant-loop-at : goal.invariant-loop-at
invariant-loop-at l = disagreement_left l.shape l.read l.write l.at ≡ disagreement_left l.shape l.read l.write 0

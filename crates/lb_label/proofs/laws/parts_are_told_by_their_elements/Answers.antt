use Rattle.lb_label.proofs.OneLabel.{one_label}
use Rattle.lb_label.proofs.laws.parts_are_told_by_their_elements.Goals as goal

pub returns : goal.returns
returns c = one_label

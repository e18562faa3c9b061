use Rattle.lb_kinds.proofs.Selected.{selects_give}
use Rattle.lb_kinds.proofs.laws.typed_selects_give_outputs_of_their_kinds.Goals as goal

pub returns : goal.returns
returns c = selects_give

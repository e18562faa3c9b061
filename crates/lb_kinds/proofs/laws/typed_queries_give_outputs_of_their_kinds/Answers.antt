use Rattle.lb_kinds.proofs.Outputs.{outputs_fit}
use Rattle.lb_kinds.proofs.laws.typed_queries_give_outputs_of_their_kinds.Goals as goal

pub returns : goal.returns
returns c = outputs_fit

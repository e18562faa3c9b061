use Rattle.lb_kinds.proofs.Lookups.{columns_give}
use Rattle.lb_kinds.proofs.laws.columns_give_values_of_their_kind.Goals as goal

pub returns : goal.returns
returns c = columns_give

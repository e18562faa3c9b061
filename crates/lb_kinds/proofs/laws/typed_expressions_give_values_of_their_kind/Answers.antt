use Rattle.lb_kinds.proofs.Expressions.{expressions_give}
use Rattle.lb_kinds.proofs.laws.typed_expressions_give_values_of_their_kind.Goals as goal

pub returns : goal.returns
returns c = expressions_give

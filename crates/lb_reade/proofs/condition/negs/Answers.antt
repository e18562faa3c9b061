use Rattle.std.proofs.Common.{of_calls}
use Rattle.lb_reade.specs.Expressions.{neg_at}
use Rattle.lb_reade.proofs.condition.negs.Goals as goal

pub returns : goal.returns
returns g c = c.further.ensures (neg_at (g.B.Brackets.readers c.args.brackets.now)) (search of_calls)

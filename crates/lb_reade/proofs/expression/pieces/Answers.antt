use Rattle.std.proofs.Common.{of_calls}
use Rattle.lb_reade.specs.Expressions.{term_at}
use Rattle.lb_reade.proofs.expression.pieces.Goals as goal

pub returns : goal.returns
returns g c = c.further.ensures (term_at (g.B.Brackets.readers c.args.brackets.now)) (search of_calls)

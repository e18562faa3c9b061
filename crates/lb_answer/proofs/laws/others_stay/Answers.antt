use Rattle.lb_answer.proofs.Fit.{others_stay}
use Rattle.lb_answer.proofs.laws.others_stay.Goals as goal

pub returns : goal.returns
returns c = others_stay

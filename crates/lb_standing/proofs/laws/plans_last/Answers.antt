use Rattle.lb_standing.proofs.Lasting.{plans_last}
use Rattle.lb_standing.proofs.laws.plans_last.Goals as goal

pub returns : goal.returns
returns g c = plans_last _ _ c.first_is_standing.ensures c.steps_stay_standing.ensures c.right_plans_last.ensures.lasts

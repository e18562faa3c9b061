use Rattle.lb_standing.proofs.Steps.{steps_stay}
use Rattle.lb_standing.proofs.laws.steps_stay_standing.Goals as goal

pub returns : goal.returns
returns c = steps_stay c.writes_stay_standing.ensures c.changes_stay_standing.ensures

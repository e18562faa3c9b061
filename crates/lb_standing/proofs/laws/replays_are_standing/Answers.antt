use Rattle.lb_standing.proofs.Steps.{replays_stand}
use Rattle.lb_standing.proofs.laws.replays_are_standing.Goals as goal

pub returns : goal.returns
returns c = replays_stand c.first_is_standing.ensures c.steps_stay_standing.ensures

use Rattle.lb_standing.proofs.Lasting.{answers_last}
use Rattle.lb_standing.proofs.laws.answers_last.Goals as goal

pub returns : goal.returns
returns c = answers_last c.first_is_standing.ensures c.steps_stay_standing.ensures c.written_again.ensures

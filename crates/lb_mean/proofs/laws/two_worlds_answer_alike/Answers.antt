use Rattle.lb_mean.proofs.Seen.{two_worlds}
use Rattle.lb_mean.proofs.laws.two_worlds_answer_alike.Goals as goal

pub returns : goal.returns
returns c = two_worlds

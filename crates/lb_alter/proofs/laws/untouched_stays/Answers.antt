use Rattle.lb_alter.proofs.Untouched.{untouched_stays}
use Rattle.lb_alter.proofs.laws.untouched_stays.Goals as goal

pub returns : goal.returns
returns c = untouched_stays

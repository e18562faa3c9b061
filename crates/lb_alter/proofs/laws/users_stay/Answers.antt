use Rattle.lb_alter.proofs.Untouched.{users_stay}
use Rattle.lb_alter.proofs.laws.users_stay.Goals as goal

pub returns : goal.returns
returns c = users_stay

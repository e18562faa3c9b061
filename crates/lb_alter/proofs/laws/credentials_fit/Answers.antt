use Rattle.lb_alter.proofs.Fitting.{credentials_fit}
use Rattle.lb_alter.proofs.laws.credentials_fit.Goals as goal

pub returns : goal.returns
returns c = credentials_fit

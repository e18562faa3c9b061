use Rattle.lb_alter.proofs.Fitting.{first_fits}
use Rattle.lb_alter.proofs.laws.first_tables_fit.Goals as goal

pub returns : goal.returns
returns c = first_fits

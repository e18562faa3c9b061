use Rattle.lb_alter.proofs.StayingFit.{stays_fit}
use Rattle.lb_alter.proofs.laws.changes_keep_fits.Goals as goal

pub returns : goal.returns
returns c = stays_fit

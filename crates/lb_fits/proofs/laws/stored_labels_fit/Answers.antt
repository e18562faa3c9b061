use Rattle.lb_fits.proofs.Stored.{stored_fits}
use Rattle.lb_fits.proofs.laws.stored_labels_fit.Goals as goal

pub returns : goal.returns
returns g c p b t l stored = stored_fits p b t l stored

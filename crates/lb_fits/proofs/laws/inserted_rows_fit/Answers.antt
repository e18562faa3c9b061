use Rattle.lb_fits.proofs.Written.{inserted_fits}
use Rattle.lb_fits.proofs.laws.inserted_rows_fit.Goals as goal

pub returns : goal.returns
returns g c = inserted_fits

use Rattle.lb_fits.proofs.NewRows.{new_fits}
use Rattle.lb_fits.proofs.laws.candidate_rows_fit.Goals as goal

pub returns : goal.returns
returns g c = new_fits

use Rattle.lb_fits.proofs.Again.{fits_are_known}
use Rattle.lb_fits.proofs.laws.fitting_rows_are_known.Goals as goal

pub returns : goal.returns
returns c = fits_are_known

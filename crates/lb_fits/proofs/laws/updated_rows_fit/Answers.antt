use Rattle.lb_fits.proofs.Written.{updated_fits}
use Rattle.lb_fits.proofs.laws.updated_rows_fit.Goals as goal

pub returns : goal.returns
returns c = updated_fits c.candidates_are_kept_rows.ensures.rows

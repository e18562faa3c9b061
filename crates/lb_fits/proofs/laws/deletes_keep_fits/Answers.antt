use Rattle.lb_fits.proofs.Deleting.{deleted_fits, deletes_fit}
use Rattle.lb_fits.proofs.laws.deletes_keep_fits.Goals as goal

pub returns-clause-rows : goal.returns-clause-rows
returns-clause-rows c = deleted_fits c.candidates_are_kept_rows.ensures.rows

pub returns-clause-statements : goal.returns-clause-statements
returns-clause-statements c = deletes_fit c.candidates_are_kept_rows.ensures.rows

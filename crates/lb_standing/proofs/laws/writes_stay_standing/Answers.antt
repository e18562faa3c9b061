use Rattle.lb_alter.specs.Naming.{stored_rules}
use Rattle.lb_standing.proofs.Writes.{writes_stay}
use Rattle.lb_standing.proofs.laws.writes_stay_standing.Goals as goal

pub returns : goal.returns
returns c = writes_stay (c.credentials_fit.ensures stored_rules) c.writes_keep_fits.ensures.statements c.fitting_rows_are_known.ensures c.sound_masks_fit.ensures c.spoken_statements_have_days.ensures.statements

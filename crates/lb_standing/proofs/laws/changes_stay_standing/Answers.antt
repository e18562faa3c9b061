use Rattle.lb_alter.specs.Naming.{stored_rules}
use Rattle.lb_standing.proofs.Steps.{changes_stay}
use Rattle.lb_standing.proofs.laws.changes_stay_standing.Goals as goal

pub returns : goal.returns
returns c = changes_stay c.stored_rules_are_steady.ensures (c.changes_stay_sound.ensures stored_rules) (c.changes_keep_fits.ensures stored_rules) c.spoken_changes_are_as_read.ensures c.spoken_statements_have_days.ensures.changes

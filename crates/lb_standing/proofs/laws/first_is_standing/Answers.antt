use Rattle.std.proofs.Common.{refl}
use Rattle.lb_alter.specs.Naming.{stored_rules}
use Rattle.lb_standing.proofs.laws.first_is_standing.Goals as goal

pub returns : goal.returns
returns c = record { sound = c.first_is_sound.ensures stored_rules; tables = c.first_tables_fit.ensures; days = tt; nowhere = λ n e. refl; one_each = refl }

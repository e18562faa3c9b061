use Rattle.lb_kinds.proofs.Settings.{unguarded_agrees, guarded_agrees}
use Rattle.lb_kinds.proofs.laws.settings_agree_with_names.Goals as goal

pub returns-clause-stored : goal.returns-clause-stored
returns-clause-stored c = unguarded_agrees

pub returns-clause-statements : goal.returns-clause-statements
returns-clause-statements c = guarded_agrees

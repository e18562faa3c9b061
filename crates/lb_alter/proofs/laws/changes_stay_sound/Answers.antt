use Rattle.lb_alter.proofs.Staying.{stays_sound}
use Rattle.lb_alter.proofs.laws.changes_stay_sound.Goals as goal

pub returns : goal.returns
returns c K = stays_sound K

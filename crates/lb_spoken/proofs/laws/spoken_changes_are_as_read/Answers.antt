use Rattle.lb_spoken.proofs.AsRead.{changes_are_as_read}
use Rattle.lb_spoken.proofs.laws.spoken_changes_are_as_read.Goals as goal

pub returns : goal.returns
returns g c h = changes_are_as_read c h

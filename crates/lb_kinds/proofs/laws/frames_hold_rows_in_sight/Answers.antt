use Rattle.lb_kinds.proofs.Frames.{frames_hold}
use Rattle.lb_kinds.proofs.laws.frames_hold_rows_in_sight.Goals as goal

pub returns : goal.returns
returns c = frames_hold

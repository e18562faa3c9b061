use Rattle.lb_turn.proofs.Live as live
use Rattle.lb_turn.proofs.laws.live_views.Goals as goal

pub returns : goal.returns
returns g c = live.live_views _ _ _

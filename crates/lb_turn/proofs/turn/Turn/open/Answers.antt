use Rattle.std.proofs.Common.{ap, sym}
use Rattle.lb_turn.proofs.Kept.{begins}
use Rattle.lb_turn.proofs.turn.Turn.open.Goals as goal

pub new-requires : goal.new-requires
new-requires g c = rw (c.in_ok-push.ensures.items, c.new-slots.ensures.items) (begins _ _ _ _ _ c.requires (ap g.S.Standing.number (sym c.of-key.ensures)))

use Rattle.std.proofs.Common.{arith}
use Rattle.lb_turn.proofs.Kept.{splits}
use Rattle.lb_turn.proofs.turn.Turn.split_seat.Goals as goal

pub split_seat-requires : goal.split_seat-requires
split_seat-requires g c = (
  c.requires.same,
  rw c.args.self.now.shape.0 (omega arith),
  splits _ _ _ _ g.S.Standing.root_before g.S.Standing.root_stays g.H.Handing.kept g.H.Handing.given _ _ c.requires.idle.0 c.requires.idle.1 c.requires.idle.2 c.requires.idle.3 c.requires.divided,
)

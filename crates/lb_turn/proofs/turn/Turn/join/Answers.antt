use Rattle.std.proofs.Common.{sym, subst}
use Rattle.lb_turn.specs.Known.{IsWithin}
use Rattle.lb_turn.specs.Passes.{view_of}
use Rattle.lb_turn.proofs.turn.Turn.join.Goals as goal

pub returns-clause-within : goal.returns-clause-within
returns-clause-within g c = subst (λ vs. IsWithin (view_of vs).known) (sym c.into_badge.ensures.2) c.join_seat.ensures.within

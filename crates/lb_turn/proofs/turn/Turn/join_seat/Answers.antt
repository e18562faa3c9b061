use Rattle.std.proofs.Common.{arith, ap, sym, subst, ◌∙◌}
use Rattle.lb_turn.specs.Known.{IsWithin}
use Rattle.lb_turn.proofs.Kept.{joins, merges}
use Rattle.lb_turn.proofs.turn.Turn.join_seat.Goals as goal

pub join_seat-requires : goal.join_seat-requires
join_seat-requires g c =
    let idle = c.requires.idle in let other = c.requires.other in (
      c.requires.same.0,
      c.requires.same.1,
      other.2,
      rw c.args.self.now.shape.0 (omega arith),
      joins _ _ _ _ _ _ _ _ idle.0 idle.1 idle.2 idle.3 other.0 other.1,
    )

pub load-requires : goal.load-requires
load-requires g c =
    let idle = ap (λ m. m.0.role) c.join_seat.ensures.2 ∙ c.requires.idle.0 in
    (c.join_seat.ensures.0 ∙ c.requires.same.0, rw c.args.self.now.shape.0 (omega arith), rw c.args.self.now.shape.1 (merges _ _ _ _ g.S.Standing.root_before g.S.Standing.root_stays _ _ idle))

pub returns-clause-within : goal.returns-clause-within
returns-clause-within g c = subst (λ m. IsWithin m.0.known) (sym c.load.ensures.2.0) c.load.ensures.2.4

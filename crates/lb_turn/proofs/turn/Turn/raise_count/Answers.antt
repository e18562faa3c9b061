use Rattle.std.proofs.Common.{◌∙◌, length, arith, ap, subst, sym}
use Rattle.lb_turn.specs.Known.{Belongs}
use Rattle.lb_turn.specs.Holding.{history_of}
use Rattle.lb_turn.proofs.Kept.{records, some_there}
use Rattle.lb_turn.proofs.turn.Turn.raise_count.Goals as goal

pub compare_exchange_with-requires : goal.compare_exchange_with-requires
compare_exchange_with-requires g c =
    let held = c.requires.held in
    let there = some_there c.args.state.now c.requires.there in
    let same = ap (history_of g.S.Standing.history) there.1 in
    let one = sym same ∙ c.requires.one.1 in
    let known = c.args.seat.now.me.0.known in
    let own = subst (λ l. Belongs g.S.Standing.root known.own l (length known.seen)) same c.requires.own in
    (c.requires.same, rw c.args.self.now.shape.0 (omega arith), rw (c.args.self.now.shape.1, there.1) (records _ _ _ _ g.S.Standing.root_before g.S.Standing.root_stays _ _ _ _ there.0 c.requires.one.0 held.1 held.2 (sym c.requires.count.0) one own))

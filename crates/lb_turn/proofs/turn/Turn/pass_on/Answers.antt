use Rattle.std.proofs.Common.{arith, ap, sym, ◌∙◌}
use Rattle.lb_turn.specs.Holding.{history_of, number_of}
use Rattle.lb_turn.proofs.Kept.{passes, some_there}
use Rattle.lb_turn.proofs.turn.Turn.pass_on.Goals as goal

pub fetch_add-requires : goal.fetch_add-requires
fetch_add-requires g c =
    let held = c.requires.held in
    let there = some_there c.args.state c.requires.there in
    let seen = ap (history_of g.S.Standing.history) (sym there.1) ∙ c.requires.history in
    let mine = ap (number_of g.S.Standing.number) (sym there.1) ∙ c.requires.number in
    let me = c.exchange-away.ensures.3 in
    (c.exchange-away.ensures.0 ∙ c.requires.same, rw c.args.self.now.shape.0 (omega arith), rw (c.args.self.now.shape.1, me, held.3, there.1) (passes _ _ _ _ _ held.0 _ there.0 held.1 seen mine))

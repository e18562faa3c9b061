use Rattle.std.proofs.Common.{◌≡◌, ◌∙◌, ap, subst, sym}
use Rattle.lb_turn.specs.Known.{IsWithin, IsWhole}
use Rattle.lb_turn.specs.Passes.{view_of, view_by}
use Rattle.lb_turn.proofs.turn.Turn.hold.Goals as goal

pub returns-clause-within : goal.returns-clause-within
returns-clause-within g c =
    let one : view_by c.args.pass.now ≡ c.into_seat-seat.result.me.0 = ap (λ b. view_of b.views) (sym c.replace-badge.ensures.value) ∙ ap view_of c.into_seat-seat.ensures.2 in
    subst (λ v. IsWithin v.known) (sym one) c.take_turn-state.ensures.within

pub returns-clause-whole : goal.returns-clause-whole
returns-clause-whole g c all =
    let one : view_by c.args.pass.now ≡ c.into_seat-seat.result.me.0 = ap (λ b. view_of b.views) (sym c.replace-badge.ensures.value) ∙ ap view_of c.into_seat-seat.ensures.2 in
    subst (λ v. IsWhole v.known c.take_turn-state.new.seat.me.0.known.seen) (sym one) (c.take_turn-state.ensures.whole (ap (λ v. v.parts) (sym one) ∙ all))

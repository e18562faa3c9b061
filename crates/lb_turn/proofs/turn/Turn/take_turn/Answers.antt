use Rattle.std.proofs.Common.{arith, ap, ◌∙◌, ◌≡◌, refl, sym, subst, Some, ◌∷◌}
use Rattle.lb_turn.specs.declared.rule.Role.TheVariants.{Waits}
use Rattle.lb_turn.specs.Known.{IsWithin, IsWhole}
use Rattle.lb_turn.proofs.Kept.{draws, looks, counts}
use Rattle.lb_turn.proofs.turn.Turn.take_turn.Goals as goal

pub fetch_add-ticket-requires : goal.fetch_add-ticket-requires
fetch_add-ticket-requires g c = (c.requires.same, rw c.args.self.now.shape.0 (omega arith), rw c.args.self.now.shape.1 (draws _ _ _ _ _ _ c.requires.idle.0 c.requires.idle.2))

pub load-served-requires : goal.load-served-requires
load-served-requires g c =
    let waits : c.loop.seat.me.0.role ≡ Waits c.fetch_add-ticket.result = ap (λ m. m.0.role) c.loop.invariant.2 ∙ ap (λ v. v.role) c.fetch_add-ticket.ensures.2.0 in
    (c.loop.invariant.0 ∙ (c.fetch_add-ticket.ensures.0 ∙ c.requires.same), rw c.args.self.now.shape.0 (omega arith), rw c.args.self.now.shape.1 (looks _ _ _ _ _ _ _ waits))

pub load-count-requires : goal.load-count-requires
load-count-requires g c =
    let waits : c.loop.seat.me.0.role ≡ Waits c.fetch_add-ticket.result = ap (λ m. m.0.role) c.loop.invariant.2 ∙ ap (λ v. v.role) c.fetch_add-ticket.ensures.2.0 in
    let took = (c.load-served.ensures.2 c.fetch_add-ticket.result waits).1 c.if-served-ticket.true in (
      c.load-served.ensures.0 ∙ (c.loop.invariant.0 ∙ (c.fetch_add-ticket.ensures.0 ∙ c.requires.same)),
      rw c.args.self.now.shape.0 (omega arith),
      rw c.args.self.now.shape.1 (counts _ _ _ _ _ c.fetch_add-ticket.result _ (ap (λ v. v.role) took.2)),
    )

pub exchange-state-requires : goal.exchange-state-requires
exchange-state-requires g c =
    let waits : c.loop.seat.me.0.role ≡ Waits c.fetch_add-ticket.result = ap (λ m. m.0.role) c.loop.invariant.2 ∙ ap (λ v. v.role) c.fetch_add-ticket.ensures.2.0 in
    let took = (c.load-served.ensures.2 c.fetch_add-ticket.result waits).1 c.if-served-ticket.true in
    let taken : c.load-count.new.seat.me.1 ≡ (0, Some took.0) ∷ c.loop.seat.me.1 = ap (λ m. m.1) c.load-count.ensures.2.1 ∙ took.1 in
    (c.load-count.ensures.0 ∙ (c.load-served.ensures.0 ∙ (c.loop.invariant.0 ∙ (c.fetch_add-ticket.ensures.0 ∙ c.requires.same))), (Some took.0, rw taken refl))

pub returns-then-served-ticket-clause-within : goal.returns-then-served-ticket-clause-within
returns-then-served-ticket-clause-within g c =
    let waits : c.loop.seat.me.0.role ≡ Waits c.fetch_add-ticket.result = ap (λ m. m.0.role) c.loop.invariant.2 ∙ ap (λ v. v.role) c.fetch_add-ticket.ensures.2.0 in
    let took = (c.load-served.ensures.2 c.fetch_add-ticket.result waits).1 c.if-served-ticket.true in
    subst (λ v. IsWithin v.known) (ap (λ m. m.0) c.loop.invariant.2 ∙ c.fetch_add-ticket.ensures.2.0) took.5

pub returns-then-served-ticket-clause-whole : goal.returns-then-served-ticket-clause-whole
returns-then-served-ticket-clause-whole g c all =
    let waits : c.loop.seat.me.0.role ≡ Waits c.fetch_add-ticket.result = ap (λ m. m.0.role) c.loop.invariant.2 ∙ ap (λ v. v.role) c.fetch_add-ticket.ensures.2.0 in
    let took = (c.load-served.ensures.2 c.fetch_add-ticket.result waits).1 c.if-served-ticket.true in
    let start = ap (λ m. m.0) c.loop.invariant.2 ∙ c.fetch_add-ticket.ensures.2.0 in
    let whole = took.6 (ap (λ v. v.parts) start ∙ all) (ap (λ v. v.other) start ∙ c.requires.idle.1) in
    let seen = ap (λ m. m.0.known.seen) c.exchange-state.ensures.3 ∙ (ap (λ m. m.0.known.seen) c.load-count.ensures.2.1 ∙ ap (λ v. v.known.seen) took.2) in
    subst (λ v. IsWhole v.known c.exchange-state.new.seat.me.0.known.seen) start (subst (IsWhole c.loop.seat.me.0.known) (sym seen) whole)

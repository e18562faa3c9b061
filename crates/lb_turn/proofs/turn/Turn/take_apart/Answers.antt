use Rattle.std.proofs.Common.{◌≡◌, ◌∙◌, Some, IsSome, refl, subst, sym}
use mathlib.Core.Option.{some-injective}
use Rattle.lb_turn.specs.Holding.{history_of, number_of}
use Rattle.lb_turn.specs.Known.{IsWhole}
use Rattle.lb_turn.proofs.Kept.{ends}
use Rattle.lb_turn.proofs.turn.Turn.take_apart.Goals as goal

pub returns-clause-there : goal.returns-clause-there
returns-clause-there g c =
    let end = ends _ _ _ _ _ _ _ _ c.requires.idle.0 c.requires.idle.1 c.requires.all c.close_with-closed.ensures.values.2 in
    let same : Some end.0 ≡ c.take-state.result = some-injective _ _ (sym end.1 ∙ c.take-state.ensures.value) in
    subst IsSome same refl

pub returns-clause-whole : goal.returns-clause-whole
returns-clause-whole g c =
    let end = ends _ _ _ _ _ _ _ _ c.requires.idle.0 c.requires.idle.1 c.requires.all c.close_with-closed.ensures.values.2 in
    let same : Some end.0 ≡ c.take-state.result = some-injective _ _ (sym end.1 ∙ c.take-state.ensures.value) in
    subst (λ x. IsWhole c.args.seat.me.0.known (history_of g.S.Standing.history x)) same end.2

pub returns-clause-number : goal.returns-clause-number
returns-clause-number g c =
    let end = ends _ _ _ _ _ _ _ _ c.requires.idle.0 c.requires.idle.1 c.requires.all c.close_with-closed.ensures.values.2 in
    let same : Some end.0 ≡ c.take-state.result = some-injective _ _ (sym end.1 ∙ c.take-state.ensures.value) in
    subst (λ x. number_of g.S.Standing.number x ≡ g.S.Standing.number c.args.self.table.shared.key.value) same end.3

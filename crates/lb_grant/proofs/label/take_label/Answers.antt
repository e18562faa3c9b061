use Rattle.std.proofs.Common.{ap, sym, ◌∙◌}
use Rattle.lb_cat.specs.declared.catalog.Holding.{Holding}
use Rattle.lb_cat.specs.Holdings.{with_holding}
use Rattle.lb_cat.specs.Stamps.{bare_user}
use Rattle.lb_grant.proofs.Revoking.{label_kept, label_left}
use Rattle.lb_grant.proofs.label.take_label.Goals as goal

pub returns-in_ok-changed : goal.returns-in_ok-changed
returns-in_ok-changed c T =
    label_left c.args.catalog.now T c.leaves.result c.args.label.now c.args.user c.in_ok-changed.changed c.in_ok-held.held c.in_ok-held.ensures (sym c.holds.ensures ∙ c.if-holds.true)
    (c.in_ok-changed.ensures.record ∙ ap (λ (x : Holding). with_holding x (bare_user c.args.user)) c.without_label.ensures)
    c.in_ok-changed.ensures.name
    (c.leaves.ensures T)

pub returns-else-holds : goal.returns-else-holds
returns-else-holds c T =
    label_kept c.args.catalog.now T c.args.label.now c.args.user c.in_ok-held.held c.unknown.result c.in_ok-held.ensures (sym c.holds.ensures ∙ c.if-holds.false) c.unknown.ensures

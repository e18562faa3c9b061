use Rattle.std.proofs.Common.{ap, ◌∙◌}
use Rattle.lb_cat.specs.Catalog.{User}
use Rattle.lb_cat.specs.Holdings.{with_exemptions}
use Rattle.lb_cat.specs.Stamps.{Kept}
use Rattle.lb_alter.specs.ChangeGrant.{exempting}
use Rattle.lb_grant.proofs.Leaving.{granted}
use Rattle.lb_changed.proofs.Steps.{given_then, passes_then}
use Rattle.lb_grant.proofs.exemption.grant_exemption.Goals as goal

pub returns : goal.returns
returns c T =
    let K : Kept = c.args.catalog.now in
    let f : User → User = exempting with_exemptions c.args.rule c.args.policy.now in
    passes_then K T c.leaves.result _ _ c.in_ok-secadm.ensures
    (given_then K T c.leaves.result _ _ _ c.in_ok-the_policy.ensures.gives
    (granted K T c.leaves.result c.args.to.now f c.in_ok-changed.changed
    (c.in_ok-changed.ensures.record ∙ ap f c.in_ok-before.ensures.record)
    (c.in_ok-changed.ensures.name ∙ c.in_ok-before.ensures.name)
    (c.leaves.ensures T)))

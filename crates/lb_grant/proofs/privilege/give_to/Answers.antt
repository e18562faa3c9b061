use Rattle.std.proofs.Common.{ap, ◌∙◌, true}
use Rattle.lb_cat.specs.Catalog.{User}
use Rattle.lb_alter.specs.ChangeGrant.{with_user_privileges}
use Rattle.lb_grant.proofs.Leaving.{granted}
use Rattle.lb_grant.proofs.privilege.give_to.Goals as goal

pub returns : goal.returns
returns c T =
    let f : User → User = with_user_privileges true c.args.privileges.now c.args.table.now in
    granted c.args.catalog.now T c.leaves.result c.args.to.now f c.in_ok-changed.changed
    (c.in_ok-changed.ensures.record ∙ ap f c.in_ok-before.ensures.record)
    (c.in_ok-changed.ensures.name ∙ c.in_ok-before.ensures.name)
    (c.leaves.ensures T)

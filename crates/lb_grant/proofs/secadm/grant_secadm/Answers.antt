use Rattle.std.proofs.Common.{true, ap}
use Rattle.lb_cat.specs.declared.catalog.UserRec.{UserRec}
use Rattle.lb_alter.specs.ChangeGrant.{with_secadm}
use Rattle.lb_grant.proofs.Leaving.{granted}
use Rattle.lb_changed.proofs.Steps.{passes_then}
use Rattle.lb_grant.proofs.secadm.grant_secadm.Goals as goal

pub returns : goal.returns
returns c T =
    let u : UserRec = record c.in_ok-changed.changed { secadm = true } in
    passes_then c.args.catalog.now T c.leaves.result _ _ c.in_ok-secadm.ensures
    (granted c.args.catalog.now T c.leaves.result c.args.to.now (with_secadm true) u (ap (with_secadm true) c.in_ok-changed.ensures.record) c.in_ok-changed.ensures.name (c.leaves.ensures T))

use Rattle.std.proofs.Common.{◌≡◌, refl, false, subst, Option}
use Rattle.std.specs.Prelude.{IfSome, option_map}
use Rattle.lb_cat.specs.declared.catalog.UserRec.{UserRec}
use Rattle.lb_cat.specs.Catalog.{user_named}
use Rattle.lb_cat.specs.Stamps.{bare, bare_user}
use Rattle.lb_alter.specs.ChangeGrant.{with_secadm}
use Rattle.lb_grant.proofs.Leaving.{revoked, revoked_none}
use Rattle.lb_changed.proofs.Steps.{passes_then}
use Rattle.lb_grant.proofs.secadm.revoke_secadm.Goals as goal

pub returns-in-Some : goal.returns-in-Some
returns-in-Some c T =
    let u : UserRec = record c.in-Some.changed { secadm = false } in
    passes_then c.args.catalog.now T c.leaves.result _ _ c.in_ok-secadm.ensures
    (revoked c.args.catalog.now T c.leaves.result c.args.from.now (with_secadm false) u (bare_user c.in-Some.changed)
    (subst (λ (o : Option UserRec). option_map bare_user o ≡ user_named (bare c.args.catalog.now) c.args.from.now) c.in-Some.is c.in_ok-found.ensures.record)
    refl
    (subst (λ (o : Option UserRec). IfSome o (λ u. u.name ≡ c.args.from.now)) c.in-Some.is c.in_ok-found.ensures.name)
    (c.leaves.ensures T))

pub returns-in-None : goal.returns-in-None
returns-in-None c T =
    passes_then c.args.catalog.now T c.leaves_none.result _ _ c.in_ok-secadm.ensures
    (revoked_none c.args.catalog.now T c.leaves_none.result c.args.from.now (with_secadm false)
    (subst (λ (o : Option UserRec). option_map bare_user o ≡ user_named (bare c.args.catalog.now) c.args.from.now) c.in-None.is c.in_ok-found.ensures.record)
    (c.leaves_none.ensures T))

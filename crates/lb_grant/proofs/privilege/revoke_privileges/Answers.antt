use Rattle.std.proofs.Common.{subst}
use Rattle.lb_cat.specs.declared.catalog.TableRec.{TableRec}
use Rattle.lb_cat.specs.Stamps.{Kept, bare, bare_table}
use Rattle.lb_alter.specs.ChangeGrant.{revoke_from}
use Rattle.lb_changed.specs.Made.{Makes}
use Rattle.lb_changed.proofs.Steps.{given_then}
use Rattle.lb_grant.proofs.privilege.revoke_privileges.Goals as goal

pub returns : goal.returns
returns c T =
    let K : Kept = c.args.catalog.now in
    given_then K T c.revoke_from.result _ _ _ c.in_ok-table.ensures.gives
    (subst (λ (t : TableRec). Makes K T (revoke_from (bare K) T (bare_table t) c.args.privileges.now c.args.from.now) c.revoke_from.result) c.deref.ensures (c.revoke_from.ensures T))

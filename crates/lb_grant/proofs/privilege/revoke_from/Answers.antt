use Rattle.std.proofs.Common.{sym, subst}
use Rattle.lb_stmt.specs.declared.change.Grantee.{Grantee}
use Rattle.lb_cat.specs.Stamps.{bare, bare_table}
use Rattle.lb_alter.specs.ChangeGrant.{revoke_from}
use Rattle.lb_changed.specs.Made.{Makes}
use Rattle.lb_grant.proofs.privilege.revoke_from.Goals as goal

pub returns-in-User : goal.returns-in-User
returns-in-User c T =
    subst (λ (g : Grantee). Makes c.args.catalog.now T (revoke_from (bare c.args.catalog.now) T (bare_table c.args.table.now) c.args.privileges.now g) c.take_from.result) (sym c.in-User.is) (c.take_from.ensures T)

pub returns-in-Public : goal.returns-in-Public
returns-in-Public c T =
    subst (λ (g : Grantee). Makes c.args.catalog.now T (revoke_from (bare c.args.catalog.now) T (bare_table c.args.table.now) c.args.privileges.now g) c.to_all.result) (sym c.in-Public.is) (c.to_all.ensures T)

use Rattle.std.proofs.Common.{ap, ◌∙◌, subst}
use Rattle.lb_cat.specs.declared.catalog.TableRec.{TableRec}
use Rattle.lb_cat.specs.declared.catalog.Privileges.{Privileges}
use Rattle.lb_cat.specs.Catalog.{Table}
use Rattle.lb_cat.specs.Stamps.{bare, bare_table}
use Rattle.lb_alter.specs.ChangeGrant.{with_public}
use Rattle.lb_alter.specs.Refusing.{alters}
use Rattle.lb_changed.specs.Made.{Makes}
use Rattle.lb_grant.proofs.privilege.to_all.Goals as goal

pub returns : goal.returns
returns c T =
    subst (λ (t : Table). Makes c.args.catalog.now T (alters (bare c.args.catalog.now) T t) c.alters.result)
    (ap (λ (p : Privileges). record (bare_table c.in_ok-changed.changed) { public = p }) c.with_privileges-changed.ensures
    ∙ ap (λ (t : TableRec). with_public c.args.given c.args.privileges.now (bare_table t)) c.in_ok-changed.ensures)
    (c.alters.ensures T)

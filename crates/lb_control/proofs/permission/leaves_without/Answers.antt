use Rattle.std.proofs.Common.{ap, ◌∙◌, List}
use Rattle.lb_cat.specs.Catalog.{is_permission}
use Rattle.lb_cat.specs.Stamps.{bare_table}
use Rattle.lb_cat.specs.declared.catalog.PermissionRec.{PermissionRec}
use Rattle.lb_cat.specs.declared.catalog.TableRec.{TableRec}
use Rattle.lb_rows.specs.Lists.{without}
use Rattle.lb_control.proofs.Altered.{altered}
use Rattle.lb_control.proofs.permission.leaves_without.Goals as goal

pub returns : goal.returns
returns c T =
    altered c.args.catalog.now T _ _ c.alters_table.result (c.alters_table.ensures T)
    (ap (λ (t : TableRec). bare_table (record t { permissions = c.in_ok-rec-2.field-0 })) c.in_ok-rec.ensures
    ∙ ap (λ (xs : List PermissionRec). record (bare_table c.args.table.now) { permissions = xs }) (c.in_ok-rec-2.ensures ∙ ap (without (is_permission c.args.name.now)) c.as_slice.ensures))

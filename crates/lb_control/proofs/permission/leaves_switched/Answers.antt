use Rattle.std.proofs.Common.{ap, ◌∙◌, Bool, List, map}
use Rattle.std.specs.Prelude.{if◌then◌else◌}
use Rattle.lb_cat.specs.Catalog.{is_permission}
use Rattle.lb_cat.specs.Stamps.{bare_table}
use Rattle.lb_cat.specs.declared.catalog.PermissionRec.{PermissionRec}
use Rattle.lb_cat.specs.declared.catalog.TableRec.{TableRec}
use Rattle.lb_control.proofs.Altered.{altered}
use Rattle.lb_control.proofs.permission.leaves_switched.Goals as goal

pub returns : goal.returns
returns c T =
    altered c.args.catalog.now T _ _ c.alters_table.result (c.alters_table.ensures T)
    (ap (λ (t : TableRec). bare_table (record t { permissions = c.in_ok-rec-2.field-0 })) c.in_ok-rec.ensures
    ∙ ap (λ (xs : List PermissionRec). record (bare_table c.args.table.now) { permissions = xs })
    (c.in_ok-rec-2.ensures
    ∙ ap (λ (xs : List PermissionRec). map (λ x. if is_permission c.args.name.now x then record x { enabled = c.is_enabled.result } else x) xs) c.as_slice-permissions.ensures
    ∙ ap (λ (b : Bool). map (λ x. if is_permission c.args.name.now x then record x { enabled = b } else x) c.args.table.now.permissions) c.is_enabled.ensures))

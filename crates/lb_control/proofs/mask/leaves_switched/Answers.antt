use Rattle.std.proofs.Common.{ap, ◌∙◌, Bool, List, map}
use Rattle.std.specs.Prelude.{if◌then◌else◌}
use Rattle.lb_cat.specs.Catalog.{is_mask}
use Rattle.lb_cat.specs.Stamps.{bare_table}
use Rattle.lb_cat.specs.declared.catalog.MaskRec.{MaskRec}
use Rattle.lb_cat.specs.declared.catalog.TableRec.{TableRec}
use Rattle.lb_control.proofs.Altered.{altered}
use Rattle.lb_control.proofs.mask.leaves_switched.Goals as goal

pub returns : goal.returns
returns c T =
    altered c.args.catalog.now T _ _ c.alters_table.result (c.alters_table.ensures T)
    (ap (λ (t : TableRec). bare_table (record t { masks = c.in_ok-rec-2.field-0 })) c.in_ok-rec.ensures
    ∙ ap (λ (xs : List MaskRec). record (bare_table c.args.table.now) { masks = xs })
    (c.in_ok-rec-2.ensures
    ∙ ap (λ (xs : List MaskRec). map (λ x. if is_mask c.args.name.now x then record x { enabled = c.is_enabled.result } else x) xs) c.as_slice-masks.ensures
    ∙ ap (λ (b : Bool). map (λ x. if is_mask c.args.name.now x then record x { enabled = b } else x) c.args.table.now.masks) c.is_enabled.ensures))

use Rattle.std.proofs.Common.{ap, ◌∙◌, List}
use Rattle.lb_cat.specs.Catalog.{is_mask}
use Rattle.lb_cat.specs.Stamps.{bare_table}
use Rattle.lb_cat.specs.declared.catalog.MaskRec.{MaskRec}
use Rattle.lb_cat.specs.declared.catalog.TableRec.{TableRec}
use Rattle.lb_rows.specs.Lists.{without}
use Rattle.lb_control.proofs.Altered.{altered}
use Rattle.lb_control.proofs.mask.leaves_without.Goals as goal

pub returns : goal.returns
returns c T =
    altered c.args.catalog.now T _ _ c.alters_table.result (c.alters_table.ensures T)
    (ap (λ (t : TableRec). bare_table (record t { masks = c.in_ok-rec-2.field-0 })) c.in_ok-rec.ensures
    ∙ ap (λ (xs : List MaskRec). record (bare_table c.args.table.now) { masks = xs }) (c.in_ok-rec-2.ensures ∙ ap (without (is_mask c.args.name.now)) c.as_slice.ensures))

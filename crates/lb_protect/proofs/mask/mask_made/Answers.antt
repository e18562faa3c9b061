use Rattle.std.proofs.Common.{ap, ◌∙◌}
use Rattle.lb_alter.specs.ChangeControl.{with_mask}
use Rattle.lb_cat.specs.Stamps.{bare, bare_table}
use Rattle.lb_protect.proofs.Tables.{alters_same}
use Rattle.lb_protect.proofs.mask.mask_made.Goals as goal

pub returns : goal.returns
returns c T =
    alters_same c.args.catalog.now T (bare c.args.catalog.now) (bare_table c.in_ok-rec.rec) _ c.alters.result
    (c.in_ok-rec.ensures.bare ∙ ap (λ x. with_mask x (bare_table c.args.table.now)) c.in_ok-mask.ensures)
    (c.alters.ensures T)

use Rattle.std.proofs.Common.{◌∙◌, ap, List}
use Rattle.lb_rows.specs.Kept.{versions_in}
use Rattle.lb_rows.specs.Lists.{without}
use Rattle.lb_rows.specs.Stamped.{Stamped, is_stamped, rows_only, stamped_in}
use Rattle.lb_rows.proofs.There.{seen_without, rows_without}
use Rattle.lb_rows.proofs.snap.Snap.remove.Goals as goal

pub returns-clause-stamped : goal.returns-clause-stamped
returns-clause-stamped c =
    ap stamped_in c.take_out.ensures.rest ∙ seen_without c.args.table.now (versions_in c.self.inside.versions.items) ∙ ap (λ (seen : List Stamped). without (is_stamped c.args.table.now) seen) c.self.view_is

pub returns-clause-rows : goal.returns-clause-rows
returns-clause-rows c =
    ap rows_only (ap stamped_in c.take_out.ensures.rest ∙ seen_without c.args.table.now (versions_in c.self.inside.versions.items) ∙ ap (λ (seen : List Stamped). without (is_stamped c.args.table.now) seen) c.self.view_is)
    ∙ rows_without c.args.table.now c.args.self.now

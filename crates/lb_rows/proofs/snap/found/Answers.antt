use Rattle.std.proofs.Common.{◌∙◌, ap}
use Rattle.std.specs.List.{slice_get}
use Rattle.lb_rows.specs.Kept.{versions_in}
use Rattle.lb_rows.proofs.There.{found_at}
use Rattle.lb_rows.proofs.snap.found.Goals as goal

pub returns : goal.returns
returns c = c.held.ensures ∙ ap (slice_get (versions_in c.args.versions.now)) c.place_of.ensures ∙ found_at c.args.table.now c.args.versions.now c.requires

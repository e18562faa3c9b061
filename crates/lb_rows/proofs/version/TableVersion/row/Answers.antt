use Rattle.std.proofs.Common.{◌∙◌}
use Rattle.lb_rows.proofs.Placed.{first_of_run}
use Rattle.lb_rows.proofs.version.TableVersion.row.Goals as goal

pub returns : goal.returns
returns c = c.first.ensures.value ∙ first_of_run c.args.self.now.rows c.rows_from.result.now c.args.place c.rows_from.ensures

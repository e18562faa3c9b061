use Rattle.std.specs.Arc.{arc_value}
use Rattle.lb_changed.proofs.Found.{table_found}
use Rattle.lb_changed.proofs.may.the_table.Goals as goal

pub returns-in-Some-clause-stamp : goal.returns-in-Some-clause-stamp
returns-in-Some-clause-stamp c = table_found c.args.catalog.now c.args.name.now (arc_value c.in-Some.table.now) c.in-Some.ensures.kept

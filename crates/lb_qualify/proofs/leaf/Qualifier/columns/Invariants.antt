use Rattle.std.proofs.Common.{◌≡◌, take, map}
use Rattle.lb_names.specs.Qualify.{with_item}
use Rattle.lb_scope.specs.Found.{catalogue}
use Rattle.lb_qualify.proofs.leaf.Qualifier.columns.Given as goal

abbrev pub invariant-loop-column : goal.invariant-loop-column
invariant-loop-column l = l.made ≡ map (with_item (catalogue l.self.catalog.now) l.seen) (take l.column-index l.columns)

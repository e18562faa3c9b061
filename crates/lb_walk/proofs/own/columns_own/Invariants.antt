use Rattle.std.proofs.Common.{◌≡◌, drop, map}
use Rattle.lb_names.specs.Marks.{column}
use Rattle.lb_names.specs.Passes.{all_own}
use Rattle.lb_scope.specs.Found.{catalogue}
use Rattle.lb_walk.proofs.own.columns_own.Given as goal

abbrev pub invariant-loop-column : goal.invariant-loop-column
invariant-loop-column l = all_own (catalogue l.catalog) l.level (map (column l.seen) l.columns) ≡ all_own (catalogue l.catalog) l.level (map (column l.seen) (drop l.column-index l.columns))

use Rattle.std.proofs.Common.{◌≡◌, drop}
use Rattle.lb_names.specs.Typing as trees
use Rattle.lb_scope.specs.Found.{catalogue}
use Rattle.lb_types.specs.Given.{place_in}
use Rattle.lb_types.proofs.queries.group_typed.Given as goal

abbrev pub invariant-loop-column : goal.invariant-loop-column
invariant-loop-column l = trees.group_typed (catalogue l.catalog) (place_in (catalogue l.catalog) l.place) l.columns l.number ≡ trees.group_typed (catalogue l.catalog) (place_in (catalogue l.catalog) l.place) (drop l.column-index l.columns) l.n

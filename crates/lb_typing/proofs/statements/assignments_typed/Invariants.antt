use Rattle.std.proofs.Common.{◌≡◌, drop, map}
use Rattle.lb_alter.specs.Naming.{field_of}
use Rattle.lb_names.specs.Statements as statements
use Rattle.lb_scope.specs.Found.{catalogue}
use Rattle.lb_types.specs.Given.{place_in}
use Rattle.lb_typing.proofs.statements.assignments_typed.Given as goal

abbrev pub invariant-loop-assignment : goal.invariant-loop-assignment
invariant-loop-assignment l = statements.assignments_typed (catalogue l.catalog) (map field_of l.columns) (place_in (catalogue l.catalog) l.place) l.assignments 0 ≡ statements.assignments_typed (catalogue l.catalog) (map field_of l.columns) (place_in (catalogue l.catalog) l.place) (drop l.assignment-index l.assignments) l.n

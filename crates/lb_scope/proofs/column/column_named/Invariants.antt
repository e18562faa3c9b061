use Rattle.std.proofs.Common.{◌≡◌, drop, map}
use Rattle.lb_names.specs.Scopes.{field_named}
use Rattle.lb_alter.specs.Naming.{field_of}
use Rattle.lb_scope.proofs.column.column_named.Given as goal

abbrev pub invariant-loop-column : goal.invariant-loop-column
invariant-loop-column l = field_named l.name (map field_of l.columns) ≡ field_named l.name (map field_of (drop l.column-index l.columns))

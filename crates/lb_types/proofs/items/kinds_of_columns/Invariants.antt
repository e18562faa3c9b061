use Rattle.std.proofs.Common.{◌≡◌, take, map}
use Rattle.lb_alter.specs.Naming.{field_of}
use Rattle.lb_types.specs.Given.{kinds_in}
use Rattle.lb_types.proofs.items.kinds_of_columns.Given as goal

abbrev pub invariant-loop-column : goal.invariant-loop-column
invariant-loop-column l = kinds_in l.kinds ≡ map (λ f. f.kind) (map field_of (take l.column-index l.columns))

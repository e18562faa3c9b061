use Rattle.std.proofs.Common.{◌≡◌, ◌++◌, drop, map}
use Rattle.lb_alter.specs.Naming.{field_of}
use Rattle.lb_names.specs.Statements as statements
use Rattle.lb_types.specs.Given.{kinds_in}
use Rattle.lb_typing.proofs.insert.kinds_of_all.Given as goal

abbrev pub invariant-loop-column : goal.invariant-loop-column
invariant-loop-column l = statements.kinds_wanted (map field_of l.columns) (map (λ f. f.name) (map field_of l.columns)) ≡ kinds_in l.kinds ++ statements.kinds_wanted (map field_of l.columns) (map (λ f. f.name) (map field_of (drop l.column-index l.columns)))

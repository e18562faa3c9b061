use Rattle.std.proofs.Common.{◌≡◌, ◌++◌, drop, map}
use Rattle.lb_alter.specs.Naming.{field_of}
use Rattle.lb_names.specs.Statements as statements
use Rattle.lb_types.specs.Given.{kinds_in}
use Rattle.lb_typing.proofs.insert.kinds_wanted.Given as goal

abbrev pub invariant-loop-name : goal.invariant-loop-name
invariant-loop-name l = statements.kinds_wanted (map field_of l.columns) l.names ≡ kinds_in l.kinds ++ statements.kinds_wanted (map field_of l.columns) (drop l.name-index l.names)

use Rattle.std.proofs.Common.{◌≡◌, [], take, drop, map}
use Rattle.lb_alter.specs.Naming.{field_of}
use Rattle.lb_names.specs.Statements.{targets_refused}
use Rattle.lb_resolve.proofs.target.targets.Given as goal

abbrev pub invariant-loop-place : goal.invariant-loop-place
invariant-loop-place l = targets_refused (map field_of l.columns) [] l.names ≡ targets_refused (map field_of l.columns) (take l.place l.names) (drop l.place l.names)

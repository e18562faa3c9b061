use Rattle.std.proofs.Common.{◌≡◌, drop}
use Rattle.lb_names.specs.Scopes.{unqualified}
use Rattle.lb_scope.specs.Found.{catalogue}
use Rattle.lb_scope.proofs.column.unqualified.Given as goal

abbrev pub invariant-loop-place : goal.invariant-loop-place
invariant-loop-place l = unqualified (catalogue l.catalog) l.name l.seen ≡ unqualified (catalogue l.catalog) l.name (drop l.place l.seen)

use Rattle.std.proofs.Common.{◌≡◌, drop}
use Rattle.lb_names.specs.Scopes.{qualified}
use Rattle.lb_scope.specs.Found.{catalogue}
use Rattle.lb_scope.proofs.column.qualified.Given as goal

abbrev pub invariant-loop-item : goal.invariant-loop-item
invariant-loop-item l = qualified (catalogue l.catalog) l.by l.name l.seen ≡ qualified (catalogue l.catalog) l.by l.name (drop l.item-index l.seen)

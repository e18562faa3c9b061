use Rattle.std.proofs.Common.{◌≡◌, drop}
use Rattle.lb_names.specs.Scopes.{is_shared}
use Rattle.lb_scope.specs.Found.{catalogue}
use Rattle.lb_scope.proofs.column.is_shared.Given as goal

abbrev pub invariant-loop-item : goal.invariant-loop-item
invariant-loop-item l = is_shared (catalogue l.catalog) l.name l.level l.seen ≡ is_shared (catalogue l.catalog) l.name l.level (drop l.item-index l.seen)

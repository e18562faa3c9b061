use Rattle.std.proofs.Common.{◌≡◌, drop}
use Rattle.lb_model.specs.Catalog.{has_permission}
use Rattle.lb_refr.proofs.find.is_permission.Given as goal

abbrev pub invariant-loop-table : goal.invariant-loop-table
invariant-loop-table l = has_permission l.name l.tables ≡ has_permission l.name (drop l.table-index l.tables)

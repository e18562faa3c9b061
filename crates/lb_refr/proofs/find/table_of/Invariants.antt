use Rattle.std.proofs.Common.{◌≡◌, drop}
use Rattle.lb_model.specs.Catalog.{table_named}
use Rattle.lb_refr.proofs.find.table_of.Given as goal

abbrev pub invariant-loop-table : goal.invariant-loop-table
invariant-loop-table l = table_named l.name l.tables ≡ table_named l.name (drop l.table-index l.tables)

use Rattle.std.proofs.Common.{◌≡◌, ◌++◌, drop}
use Rattle.std.specs.List.{filter_map}
use Rattle.lb_model.specs.Change.{column_of}
use Rattle.lb_refr.proofs.change.column_records.Given as goal

abbrev pub invariant-loop-element : goal.invariant-loop-element
invariant-loop-element l = filter_map column_of l.elements ≡ l.columns ++ filter_map column_of (drop l.element-index l.elements)

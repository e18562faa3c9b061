use Rattle.std.proofs.Common.{◌≡◌, ◌≤◌, drop, length}
use Rattle.lb_names.specs.SelectLists as lists
use Rattle.lb_types.specs.Given.{kinds_in}
use Rattle.lb_types.proofs.items.each_takes.Given as goal

abbrev pub invariant-loop-place : goal.invariant-loop-place
invariant-loop-place l = (length l.outputs ≤ length l.columns) × (lists.each_takes (kinds_in l.columns) (kinds_in l.outputs) ≡ lists.each_takes (kinds_in (drop l.place l.columns)) (kinds_in (drop l.place l.outputs)))

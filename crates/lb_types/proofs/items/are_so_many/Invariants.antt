use Rattle.std.proofs.Common.{◌≡◌, ◌==◌, drop, map}
use Rattle.lb_names.specs.SelectLists as lists
use Rattle.lb_names.specs.Typing as trees
use Rattle.lb_scope.specs.Found.{catalogue}
use Rattle.lb_types.proofs.items.are_so_many.Given as goal

abbrev pub invariant-loop-item : goal.invariant-loop-item
invariant-loop-item l = (l.outputs == lists.widths (map (trees.shows (catalogue l.catalog)) l.items) l.own) ≡ (l.rest == lists.widths (map (trees.shows (catalogue l.catalog)) (drop l.item-index l.items)) l.own)

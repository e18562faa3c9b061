use Rattle.std.proofs.Common.{◌≡◌, drop, length}
use Rattle.std.specs.List.{filter}
use Rattle.std.specs.Option.{option_copied}
use Rattle.lb_names.specs.SelectLists as lists
use Rattle.lb_scope.specs.Found.{catalogue}
use Rattle.lb_types.specs.Within.{is_starred, left}
use Rattle.lb_types.proofs.items.left_after_star.Given as goal

abbrev pub invariant-loop-item : goal.invariant-loop-item
invariant-loop-item l = left l.outputs (length (lists.column_kinds (catalogue l.catalog) (filter (is_starred (option_copied l.by)) l.own))) ≡ left l.rest (length (lists.column_kinds (catalogue l.catalog) (filter (is_starred (option_copied l.by)) (drop l.item-index l.own))))

use Rattle.std.proofs.Common.{◌≡◌, ◌++◌, drop}
use Rattle.std.specs.List.{filter}
use Rattle.std.specs.Option.{option_copied}
use Rattle.lb_names.specs.SelectLists as lists
use Rattle.lb_scope.specs.Found.{catalogue}
use Rattle.lb_types.specs.Given.{kinds_in}
use Rattle.lb_types.specs.Within.{is_starred}
use Rattle.lb_types.proofs.items.column_kinds.Given as goal

abbrev pub invariant-loop-item : goal.invariant-loop-item
invariant-loop-item l = lists.column_kinds (catalogue l.catalog) (filter (is_starred (option_copied l.by)) l.own) ≡ kinds_in l.kinds ++ lists.column_kinds (catalogue l.catalog) (filter (is_starred (option_copied l.by)) (drop l.item-index l.own))

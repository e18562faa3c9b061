use Rattle.std.proofs.Common.{◌≡◌, take, map}
use Rattle.lb_tree.specs.Folds.{join_of}
use Rattle.lb_names.specs.Marks.{marked, mark_steps}
use Rattle.lb_scope.proofs.from.tables_of_joins.Given as goal

abbrev pub invariant-loop-join : goal.invariant-loop-join
invariant-loop-join l = l.tabs ≡ map (λ j. j.tab) (map (join_of marked mark_steps) (take l.join-index l.joins))

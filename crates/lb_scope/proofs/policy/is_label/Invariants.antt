use Rattle.std.proofs.Common.{◌≡◌, drop}
use Rattle.std.specs.Prelude.{find, is_some}
use Rattle.lb_cat.specs.Catalog as cat
use Rattle.lb_scope.proofs.policy.is_label.Given as goal

abbrev pub invariant-loop-label : goal.invariant-loop-label
invariant-loop-label l = is_some (find (cat.is_label l.name) l.labels) ≡ is_some (find (cat.is_label l.name) (drop l.label-index l.labels))

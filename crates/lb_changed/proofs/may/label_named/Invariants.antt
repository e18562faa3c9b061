use Rattle.std.proofs.Common.{◌≡◌, drop}
use Rattle.std.specs.Prelude.{find}
use Rattle.lb_cat.specs.Catalog.{is_label}
use Rattle.lb_changed.proofs.may.label_named.Given as goal

-- the label is among those that are left
abbrev pub invariant-loop-label : goal.invariant-loop-label
invariant-loop-label l = find (is_label l.name) l.labels ≡ find (is_label l.name) (drop l.label-index l.labels)

use Rattle.std.proofs.Common.{◌≡◌, drop}
use Rattle.std.specs.Prelude.{option_map}
use Rattle.std.specs.Arc.{arc_value}
use Rattle.lb_cat.specs.Stamps.{bare_policy}
use Rattle.lb_alter.specs.ChangeTable.{columns_in, secured_refusal}
use Rattle.lb_alter.specs.Refusing.{each_passes}
use Rattle.lb_tables.proofs.secured.labels_refusal.Given as goal

-- the refusal is that of a column that is left
abbrev pub invariant-loop-element : goal.invariant-loop-element
invariant-loop-element l =
    each_passes (λ d. secured_refusal (option_map (λ p. bare_policy (arc_value p.now)) l.policy) d.secured) (columns_in l.elements)
    ≡ each_passes (λ d. secured_refusal (option_map (λ p. bare_policy (arc_value p.now)) l.policy) d.secured) (columns_in (drop l.element-index l.elements))

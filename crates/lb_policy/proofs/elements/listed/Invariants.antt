use Rattle.std.proofs.Common.{◌≡◌, drop, length, map, None}
use Rattle.lb_label.specs.Component.{empty_component}
use Rattle.lb_alter.specs.ChangePolicy.{with_elements}
use Rattle.lb_policy.proofs.elements.listed.Given as goal

-- the elements that are left go to those that are added
abbrev pub invariant-loop-element : goal.invariant-loop-element
invariant-loop-element l = (with_elements 0 (empty_component l.fn.kind) (map (λ e. (e, None)) l.elements) ≡ with_elements (length l.component.elements) l.component (map (λ e. (e, None)) (drop l.element-index l.elements))) × (l.component.kind ≡ l.fn.kind)

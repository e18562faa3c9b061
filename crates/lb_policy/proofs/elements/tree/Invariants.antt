use Rattle.std.proofs.Common.{◌≡◌, ◌<◌, ◌∷◌, drop, length, map, None, Some}
use Rattle.lb_label.specs.Component.{empty_component}
use Rattle.lb_label.specs.declared.kind.ComponentKind.TheVariants as kinds
use Rattle.lb_alter.specs.ChangePolicy.{with_elements}
use Rattle.lb_policy.proofs.elements.tree.Given as goal

-- the elements that are left go to those that are added
abbrev pub invariant-loop-element : goal.invariant-loop-element
invariant-loop-element l = (with_elements 0 (empty_component kinds.Tree) ((l.root, None) ∷ map (λ e. (e.name, Some e.parent)) l.elements) ≡ with_elements (length l.component.elements) l.component (map (λ e. (e.name, Some e.parent)) (drop l.element-index l.elements))) × (l.component.kind ≡ kinds.Tree) × (0 < length l.component.elements)

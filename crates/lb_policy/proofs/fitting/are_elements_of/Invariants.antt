use Rattle.std.proofs.Common.{◌≡◌, drop}
use Rattle.lb_alter.specs.ChangeLabel.{unknown_element}
use Rattle.lb_alter.specs.Refusing.{each_passes}
use Rattle.lb_policy.proofs.fitting.are_elements_of.Given as goal

-- the elements that are left decide
abbrev pub invariant-loop-element : goal.invariant-loop-element
invariant-loop-element l = each_passes (unknown_element l.component) l.elements ≡ each_passes (unknown_element l.component) (drop l.element-index l.elements)

use Rattle.std.proofs.Common.{◌≡◌, ◌∙◌, ◌++◌, ◌∷◌, [], sym, refl, ap, length, true, false, subst}
use Rattle.lb_label.specs.Component.{IsComponent}
use Rattle.std.specs.Arc.{arc_value}
use Rattle.lb_label.proofs.Bits.{same_true, true_same}
use Rattle.lb_label.proofs.ShapeLemmas.{components_push, shape_length, there_push}
use Rattle.lb_label.proofs.shape.Shape.push.Goals as goal

pub returns-then-is_full-clause-full : goal.returns-then-is_full-clause-full
returns-then-is_full-clause-full c =
    (λ _. shape_length c.self.inside.components.items c.args.self.now c.self.view_is c.self.invariant ∙ same_true _ 16 (sym c.if-is_full.ensures.value), λ _. refl)

pub invariant_of-self : goal.invariant_of-self
invariant_of-self c = rw c.push.ensures.items (there_push c.self.inside.components.items c.args.component c.self.invariant (subst IsComponent c.deref.ensures c.len-elements.ensures.valid))

pub returns-clause-ok : goal.returns-clause-ok
returns-clause-ok c = rw c.push.ensures.items (components_push c.self.inside.components.items c.args.component ∙ ap (λ xs. xs ++ arc_value c.args.component ∷ []) c.self.view_is)

pub returns-clause-full : goal.returns-clause-full
returns-clause-full c =
    (λ e. absurd (differ e), λ full. c.if-is_full.ensures.value ∙ true_same _ 16 (sym (shape_length c.self.inside.components.items c.args.self.now c.self.view_is c.self.invariant) ∙ full))
  where
    differ : false ≡ true → ⊥
    differ e = cc

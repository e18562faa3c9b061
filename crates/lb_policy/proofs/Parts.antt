-- The parts of a new label, one after another.
use Rattle.std.proofs.Common.{ℕ, ◌≡◌, ap, sym, ◌∙◌, subst, List, [], ◌∷◌, None}
use Rattle.std.specs.Prelude.{Result}
use Rattle.lb_label.specs.Component.{Definition}
use Rattle.lb_stmt.specs.declared.change.LabelPart.{LabelPart}
use Rattle.lb_cat.specs.Catalog.{Policy}
use Rattle.lb_alter.specs.ChangeLabel.{part_refusal, parts_refusal, unknown_element}
use Rattle.lb_alter.specs.Refusing.{each_passes, earliest}
use Rattle.lb_changed.specs.declared.stop.Stop.{Stop}
use Rattle.lb_changed.specs.Given.{Passes, Refuses}
use Rattle.lb_policy.proofs.Tests.{test_stops, one_test}

-- a part that doesn't fit
pub part_stops : (p : Policy) (before : List (List ℕ)) (x : LabelPart) (xs : List LabelPart) (s : Stop) → Refuses (part_refusal p before x) s → Refuses (parts_refusal p before (x ∷ xs)) s
part_stops p before x xs s h = test_stops (part_refusal p before x) (parts_refusal p (x.component ∷ before) xs ∷ []) s h

-- after one that fits the others follow
pub part_passes : (p : Policy) (before : List (List ℕ)) (x : LabelPart) (xs : List LabelPart) → part_refusal p before x ≡ None → parts_refusal p before (x ∷ xs) ≡ parts_refusal p (x.component ∷ before) xs
part_passes p before x xs h =
    ap (λ t. earliest (t ∷ parts_refusal p (x.component ∷ before) xs ∷ [])) h ∙ sym (one_test (parts_refusal p (x.component ∷ before) xs))

-- elements of one part
pub element_stops : (c : Definition) (e : List ℕ) (es : List (List ℕ)) (s : Stop) → Refuses (unknown_element c e) s → Refuses (each_passes (unknown_element c) (e ∷ es)) s
element_stops c e es s h = test_stops (unknown_element c e) (each_passes (unknown_element c) es ∷ []) s h

pub element_passes : (c : Definition) (e : List ℕ) (es : List (List ℕ)) → unknown_element c e ≡ None → each_passes (unknown_element c) (e ∷ es) ≡ each_passes (unknown_element c) es
element_passes c e es h = ap (λ t. earliest (t ∷ each_passes (unknown_element c) es ∷ [])) h ∙ sym (one_test (each_passes (unknown_element c) es))

-- under the definition that is the component's
pub first_unknown : (c d : Definition) (es : List (List ℕ)) (result : Result (Unit {0}) Stop) → c ≡ d → Passes (each_passes (unknown_element d) es) result → Passes (each_passes (unknown_element c) es) result
first_unknown c d es result same h = subst (λ x. Passes (each_passes (unknown_element x) es) result) (sym same) h

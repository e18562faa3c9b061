-- Elements of a new component, one after another.
use Rattle.std.proofs.Common.{ℕ, ◌≡◌, refl, ap, sym, ◌∙◌, subst, ◌+◌, List, [], ◌∷◌, length, Option, Some, None}
use Rattle.std.proofs.lemmas.List.{length-append}
use Rattle.lb_label.specs.Component.{Definition, refusal, with_element}
use Rattle.lb_label.specs.declared.component.ElementFault.{ElementFault}
use Rattle.lb_label.specs.declared.component.ElementFault.TheVariants as faults
use Rattle.lb_label.specs.Outcome.{IsFault}
use Rattle.lb_cat.specs.declared.refusal.LimitOf.TheVariants as limits
use Rattle.lb_cat.specs.declared.refusal.Refusal.{Refusal}
use Rattle.lb_cat.specs.declared.refusal.Refusal.TheVariants as refusals
use Rattle.lb_alter.specs.ChangePolicy.{element_refusal, parent_or, with_elements}
use Rattle.lb_alter.specs.Refusing.{◌>>◌}
use Rattle.lb_changed.specs.declared.stop.Stop.{Stop}
use Rattle.lb_changed.specs.declared.stop.Stop.TheVariants as stops
use Rattle.lb_changed.specs.Given.{IsRefused, Refuses, StopsFor}
use Rattle.lb_policy.specs.Faults.{StopsAt}
use Rattle.lb_policy.proofs.Tests.{refuses}

-- one that isn't added ends the definition
pub element_stops : (c : Definition) (e : List ℕ) (parent : Option (List ℕ)) (es : List (List ℕ × Option (List ℕ))) (s : Stop)
    → Refuses (element_refusal (length c.elements) e parent (refusal c e parent)) s → IsRefused (with_elements (length c.elements) c ((e, parent) ∷ es)) s
element_stops c e parent es (stops.Refused r) h = ap (λ t. t >> with_elements (length c.elements + 1) (with_element c e parent) es) h
element_stops c e parent es stops.NoMemory h = tt

-- after one that is added the others follow
pub element_passes : (c : Definition) (e : List ℕ) (parent : Option (List ℕ)) (es : List (List ℕ × Option (List ℕ)))
    → element_refusal (length c.elements) e parent (refusal c e parent) ≡ None
    → with_elements (length c.elements) c ((e, parent) ∷ es) ≡ with_elements (length (with_element c e parent).elements) (with_element c e parent) es
element_passes c e parent es h =
    ap (λ t. t >> with_elements (length c.elements + 1) (with_element c e parent) es) h
    ∙ ap (λ (n : ℕ). with_elements n (with_element c e parent) es) (sym (length-append c.elements (e ∷ [])))

-- what stops for a fault refuses by its cause
of_cause : (number : ℕ) (e : List ℕ) (parent : Option (List ℕ)) (fault : ElementFault) (r : Refusal) (cause : Option ElementFault) (s : Stop)
    → element_refusal number e parent (Some fault) ≡ Some r → cause ≡ Some fault → StopsFor r s → Refuses (element_refusal number e parent cause) s
of_cause number e parent fault r cause s is same h =
    subst (λ t. Refuses t s) (sym (ap (element_refusal number e parent) same ∙ is)) (refuses r s h)

pub fault_stops : (number : ℕ) (e : List ℕ) (parent : Option (List ℕ)) (fault : ElementFault) (cause : Option ElementFault) (s : Stop)
    → IsFault fault cause → StopsAt number e parent fault s → Refuses (element_refusal number e parent cause) s
fault_stops number e parent (faults.TooMany most) cause s same h = of_cause number e parent (faults.TooMany most) (refusals.Limit limits.Elements most) cause s refl same h
fault_stops number e parent faults.BadElement cause s same h = of_cause number e parent faults.BadElement (refusals.BadLabel number) cause s refl same h
fault_stops number e parent faults.Repeated cause s same h = of_cause number e parent faults.Repeated (refusals.Exists e) cause s refl same h
fault_stops number e parent faults.NoParent cause s same h = of_cause number e parent faults.NoParent (refusals.Unknown (parent_or parent)) cause s refl same h
fault_stops number e parent faults.NoMemory cause s same h = subst (λ t. Refuses (element_refusal number e parent cause) t) (sym h) tt

-- The component that CREATE SECURITY LABEL COMPONENT makes is a component.
use Rattle.std.proofs.Common.{◌≡◌, refl, ap, sym, ◌∙◌, ℕ, zero, suc, ◌+◌, ◌-◌, ◌<◌, ◌≤◌, ◌≢◌, ◌⊎◌, ⊎_elim, inl, inr, Bool, true, false, not, cond, List, [], ◌∷◌, ◌++◌, length, map, get_or, Option, Some, None, Ok, Err, is_some, is_none, eqb, arith}
use Rattle.std.specs.Prelude.{nat_le}
use Rattle.std.proofs.lemmas.Bool.{cases_lt, leb-false}
use Rattle.std.proofs.lemmas.List.{get_or_append_left, get_or_at, length-append}
use Rattle.std.proofs.lemmas.Bool.Decides.{Decides-eqb}
use Rattle.std.proofs.lemmas.Slice.Eq.{bytes_eq-Decides}
use Rattle.std.specs.List.{AllByRecursion, position_from, position_or_len}
use Rattle.std.specs.Option.{option_and_then}
use Rattle.std.specs.Str.{bytes_eq}
use Rattle.lb_label.specs.declared.kind.ComponentKind.{ComponentKind}
use Rattle.lb_label.specs.declared.kind.ComponentKind.TheVariants.{Set, Array, Tree}
use Rattle.lb_label.specs.declared.component.ElementFault.TheVariants as faults
use Rattle.lb_label.specs.Component.{Definition, IsComponent, IsParent, empty_component, is_element_text, lacks_parent, limit, number_of, rank, refusal, with_element}
use Rattle.lb_label.proofs.ComponentLemmas.{grown, grown_valid}
use Rattle.lb_label.proofs.NameLemmas.{number_below}
use Rattle.lb_stmt.specs.declared.change.ComponentDef.{ComponentDef}
use Rattle.lb_stmt.specs.declared.change.ComponentDef.TheVariants as definitions
use Rattle.lb_stmt.specs.declared.change.TreeElement.{TreeElement}
use Rattle.lb_alter.specs.ChangePolicy.{kind_of_definition, elements_of, element_refusal, with_elements}
use Rattle.lb_alter.specs.Refusing.{◌>>◌}
use Rattle.lb_cat.specs.OrRefused.{OrRefused}

-- ---- the elements of a statement

empty_well : (k : ComponentKind) → IsComponent (empty_component k)
empty_well k = record {
  few = omega arith;
  texts = λ e h. absurd (omega (arith, h));
  distinct = λ e h. absurd (omega (arith, h));
  order_length = refl;
  ordered = λ e h. absurd (omega (arith, h));
  placed = λ e h. absurd (omega (arith, h));
  parents_length = refl;
  parents = λ e h. absurd (omega (arith, h));
}

-- an element of a TREE has a parent, but for the root; others have none
abbrev ParentOf : ComponentKind → Option (List ℕ) → Type 0
ParentOf Set parent = parent ≡ None
ParentOf Array parent = parent ≡ None
ParentOf Tree parent = is_some parent ≡ true

abbrev lacking : (List ℕ → Option ℕ) → Option (List ℕ) → Bool
lacking number None = false
lacking number (Some parent) = is_none (number parent)

parent_is : (k : ComponentKind) (n : ℕ) (number : List ℕ → Option ℕ) → ((t : List ℕ) (j : ℕ) → number t ≡ Some j → j < n) → (parent : Option (List ℕ)) → ParentOf k parent → lacking number parent ≡ false → IsParent k n (option_and_then number parent)
parent_is Set n number below None h l = refl
parent_is Set n number below (Some p) h l = absurd cc
parent_is Array n number below None h l = refl
parent_is Array n number below (Some p) h l = absurd cc
parent_is Tree n number below None h l = absurd cc
parent_is Tree n number below (Some p) h l =
    elim (number p) as (λ o. number p ≡ o → is_none o ≡ false → IsParent Tree n o) [
      | None ↦ λ _ (i : true ≡ false). absurd cc
      | Some j ↦ λ e _. under n j (below p j e)
    ] refl l
  where
    under : (m j : ℕ) → j < m → IsParent Tree m (Some j)
    under zero j h = absurd (omega (arith, h))
    under (suc m) j h = h

record Passed (full text known lacks : Bool) : Type 0 where
  pub room : full ≡ false
  pub good : text ≡ true
  pub fresh : known ≡ false
  pub parent : lacks ≡ false

module _ (at : ℕ) (element : List ℕ) (parent : Option (List ℕ)) (most : ℕ) where
  passed : (full text known lacks : Bool) → element_refusal at element parent (cond full (Some (faults.TooMany most)) (cond (not text) (Some faults.BadElement) (cond known (Some faults.Repeated) (cond lacks (Some faults.NoParent) None)))) ≡ None
      → Passed full text known lacks
  passed true text known lacks h = absurd cc
  passed false false known lacks h = absurd cc
  passed false true true lacks h = absurd cc
  passed false true false true h = absurd cc
  passed false true false false h = record { room = refl; good = refl; fresh = refl; parent = refl }

no_number : (o : Option ℕ) → is_some o ≡ false → o ≡ None
no_number None h = refl
no_number (Some n) h = absurd cc

lacks_same : (c : Definition) (parent : Option (List ℕ)) → lacks_parent c parent ≡ lacking (number_of c) parent
lacks_same c None = refl
lacks_same c (Some p) = refl

-- a component with an element that isn't refused is one
more_well : (at : ℕ) (c : Definition) (element : List ℕ) (parent : Option (List ℕ)) → IsComponent c → IsParent c.kind (length c.elements) (option_and_then (number_of c) parent) → element_refusal at element parent (refusal c element parent) ≡ None
    → IsComponent (with_element c element parent)
unfolding grown
more_well at c element parent valid under h =
    let p : Passed (nat_le (limit c.kind) (length c.elements)) (is_element_text element) (is_some (number_of c element)) (lacks_parent c parent) = passed at element parent (limit c.kind) _ _ _ _ h in
    grown_valid c element (option_and_then (number_of c) parent) valid (leb-false (limit c.kind) (length c.elements) p.room) p.good (no_number _ p.fresh) under

abbrev pub IsWell : OrRefused Definition → Type 0
IsWell (Ok c) = IsComponent c
IsWell (Err r) = Unit {0}

elements_well : (at : ℕ) (c : Definition) (es : List (List ℕ × Option (List ℕ))) → IsComponent c → AllByRecursion (λ (e : List ℕ × Option (List ℕ)). ParentOf c.kind e.1) es → IsWell (with_elements at c es)
elements_well at c [] valid ps = valid
elements_well at c (e ∷ es) valid ps =
    elim (element_refusal at e.0 e.1 (refusal c e.0 e.1)) as (λ o. element_refusal at e.0 e.1 (refusal c e.0 e.1) ≡ o → IsWell (o >> with_elements (at + 1) (with_element c e.0 e.1) es)) [
      | None ↦ λ h.
          let p : Passed (nat_le (limit c.kind) (length c.elements)) (is_element_text e.0) (is_some (number_of c e.0)) (lacks_parent c e.1) = passed at e.0 e.1 (limit c.kind) _ _ _ _ h in
          let under : IsParent c.kind (length c.elements) (option_and_then (number_of c) e.1) =
          parent_is c.kind (length c.elements) (number_of c) (λ t j i. (number_below c t j i).0) e.1 ps.0 (sym (lacks_same c e.1) ∙ p.parent) in
          elements_well (at + 1) (with_element c e.0 e.1) es (more_well at c e.0 e.1 valid under h) ps.1
      | Some r ↦ λ _. tt
    ] refl

without_parents : (k : ComponentKind) → ParentOf k None → (es : List (List ℕ)) → AllByRecursion (λ (e : List ℕ × Option (List ℕ)). ParentOf k e.1) (map (λ e. (e, None)) es)
without_parents k h [] = tt
without_parents k h (e ∷ es) = (h, without_parents k h es)

with_parents : (es : List TreeElement) → AllByRecursion (λ (e : List ℕ × Option (List ℕ)). ParentOf Tree e.1) (map (λ e. (e.name, Some e.parent)) es)
with_parents [] = tt
with_parents (e ∷ es) = (refl, with_parents es)

pub made_well : (d : ComponentDef) → IsWell (with_elements 0 (empty_component (kind_of_definition d)) (elements_of d))
made_well (definitions.Set es) = elements_well 0 (empty_component Set) (map (λ e. (e, None)) es) (empty_well Set) (without_parents Set refl es)
made_well (definitions.Array es) = elements_well 0 (empty_component Array) (map (λ e. (e, None)) es) (empty_well Array) (without_parents Array refl es)
made_well (definitions.Tree root es) =
    elim (element_refusal 0 root None (refusal (empty_component Tree) root None)) as (λ o. element_refusal 0 root None (refusal (empty_component Tree) root None) ≡ o
    → IsWell (o >> with_elements (0 + 1) (with_element (empty_component Tree) root None) (map (λ e. (e.name, Some e.parent)) es))) [
      | None ↦ λ h. elements_well (0 + 1) (with_element (empty_component Tree) root None) (map (λ e. (e.name, Some e.parent)) es) (more_well 0 (empty_component Tree) root None (empty_well Tree) refl h) (with_parents es)
      | Some r ↦ λ _. tt
    ] refl

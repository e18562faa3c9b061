-- Labels that are found are labels of their policy; and what a grant of a label asks, in its steps.
use Rattle.std.proofs.Common.{ℕ, ◌≡◌, refl, sym, subst, Bool, true, false, cond, List, [], ◌∷◌, Option, None, Some, Ok, Bor}
use Rattle.std.specs.Prelude.{find, IfSome}
use Rattle.std.specs.List.{AllByRecursion}
use Rattle.std.specs.Option.{option_copied}
use Rattle.std.proofs.lemmas.Option.{same_Some}
use Rattle.lb_label.specs.Label.{IsLabel}
use Rattle.lb_cat.specs.declared.catalog.LabelRec.{LabelRec}
use Rattle.lb_cat.specs.declared.catalog.PolicyRec.{PolicyRec}
use Rattle.lb_cat.specs.declared.refusal.Refusal.{Refusal}
use Rattle.lb_cat.specs.Catalog.{Cat, Policy, is_label, is_policy, policy_named}
use Rattle.lb_cat.specs.OrRefused.{OrRefused, ◌>>=◌}
use Rattle.lb_cat.specs.Stamps.{bare_policy}
use Rattle.lb_alter.specs.ChangeGrant.{label_held}
use Rattle.lb_alter.specs.Labelled.{HasItsShape}
use Rattle.lb_alter.specs.Refusing.{◌>>◌, Changed, found, the_policy}

-- what holds of all holds of the one that is found
found_so : {A : Type 0} (P : A → Type 0) (test : A → Bool) (xs : List A) (x : A) → AllByRecursion P xs → Some x ≡ find test xs → P x
found_so P test [] x all h = absurd cc
found_so P test (y ∷ ys) x all h =
    elim (test y) as (λ b. Some x ≡ cond b (Some y) (find test ys) → P x) [
      | true ↦ λ i. subst P (same_Some y x (sym i)) all.0
      | false ↦ λ i. found_so P test ys x all.1 i
    ] h

-- the parts of each label are a label of the shape
abbrev AreLabels : Policy → Type 0
AreLabels p = AllByRecursion (λ (l : LabelRec). IsLabel p.shape l.parts.items) p.labels

held_so : (p : Policy) (held : Option (List ℕ)) (l : LabelRec) → AreLabels p → Some l ≡ label_held p held → IsLabel p.shape l.parts.items
held_so p None l all h = absurd cc
held_so p (Some n) l all h = found_so (λ (l : LabelRec). IsLabel p.shape l.parts.items) (is_label n) p.labels l all h

-- the label that is held is one of the shape
pub held_is_label : (p : PolicyRec) (held : Option (List ℕ)) (r : Option (Bor LabelRec)) → AllByRecursion (λ (l : LabelRec). IsLabel p.shape l.parts.items) p.labels
    → option_copied r ≡ label_held (bare_policy p) held → IfSome r (λ l. IsLabel p.shape l.now.parts.items)
held_is_label p held None all h = tt
held_is_label p held (Some l) all h = held_so (bare_policy p) held l.now all h

found_some : {A : Type 0} (n : List ℕ) (o : Option A) (x : A) → found n o ≡ Ok x → Some x ≡ o
found_some n None x h = absurd cc
found_some n (Some y) x h = cc

-- the policy of a sound catalogue has labels of its shape
pub policy_has_labels : (C : Cat) (n : List ℕ) (p : PolicyRec) → AllByRecursion (HasItsShape C) C.policies → the_policy C n ≡ Ok (bare_policy p) → AllByRecursion (λ (l : LabelRec). IsLabel p.shape l.parts.items) p.labels
policy_has_labels C n p all h = (found_so (HasItsShape C) (is_policy n) C.policies (bare_policy p) all (found_some n (policy_named C n) (bare_policy p) h)).labels

-- three tests, one after the other, and all at once
pub at_once : {A : Type 0} (a b c : Option Refusal) (x : A) (rest : A → OrRefused Changed) → ((a >> (b >> (c >> Ok x))) >>= rest) ≡ (a >> (b >> (c >> rest x)))
at_once None None None x rest = refl
at_once None None (Some r) x rest = refl
at_once None (Some r) c x rest = refl
at_once (Some r) b c x rest = refl

-- The label that a label text spells, and the labels of a policy's records, are labels of the policy's shape.
use Rattle.std.proofs.Common.{ℕ, zero, suc, ◌+◌, ◌^◌, ◌<◌, ◌≤◌, ◌≡◌, refl, sym, subst, ap, ◌∙◌, cond, Bool, true, false, List, [], ◌∷◌, map, length, sum, fold, Option, Some, None, Result, Ok, Err, bytes_eq, arith, add-one, zero-le, pow-suc, zero-add, add-zero, le_refl}
use Rattle.std.specs.Prelude.{find, filter}
use Rattle.std.specs.List.{AllZip, AllByRecursion, range_with_len}
use Rattle.lb_label.specs.declared.kind.ComponentKind.{ComponentKind}
use Rattle.lb_label.specs.declared.kind.ComponentKind.TheVariants.{Set, Array, Tree}
use Rattle.lb_label.specs.Component.{Definition, numbers}
use Rattle.lb_label.specs.Label.{IsLabel, parts_of}
use Rattle.lb_label.specs.LabelText.{named_in, is_named, elements_named, failing_in, in_front, unless_fails, read_parts, read_label}
use Rattle.lb_label.proofs.Parts.{part_fits}
use Rattle.lb_cat.specs.declared.catalog.LabelRec.{LabelRec}
use Rattle.lb_cat.specs.Catalog.{Policy, is_label, IsLabelOf}
use Rattle.lb_names.specs.Sights.{Name}
use Rattle.lb_names.specs.Kinds.{label}
use Rattle.lb_mean.specs.Labels.{label_or_null, label_of_text, label_in, label_by_name}
use Rattle.lb_kinds.specs.HasKind.{Policies, HasKind}
use Rattle.lb_kinds.specs.Agreement.{LabelsFit}
use Rattle.lb_kinds.proofs.Results.{same_ok, no_err}

-- ---- texts

abbrev Parsed : Type 0
Parsed = Result (List (List ℕ)) ℕ

read_step : (c : Definition) (shape : List Definition) (part : List ℕ) (o : Option ℕ) (rest : Parsed) (spelled : List (List ℕ))
    → unless_fails o (in_front (elements_named c part) rest) ≡ Ok spelled → ((more : List (List ℕ)) → rest ≡ Ok more → IsLabel shape (parts_of shape more)) → IsLabel (c ∷ shape) (parts_of (c ∷ shape) spelled)
read_step c shape part (Some place) rest spelled e h = absurd (no_err {A = List (List ℕ)} place spelled e)
read_step c shape part None (Err at) spelled e h = absurd (no_err {A = List (List ℕ)} at spelled e)
read_step c shape part None (Ok more) spelled e h =
    subst (λ l. IsLabel (c ∷ shape) (parts_of (c ∷ shape) l)) (same_ok {B = ℕ} (elements_named c part ∷ more) spelled e)
    (part_fits c.kind (is_named c (named_in part)) (length c.elements), h more refl)

read_fits : (end : ℕ) (shape : List Definition) (at : ℕ) (parts : List (List ℕ)) (spelled : List (List ℕ)) → read_parts end shape at parts ≡ Ok spelled → IsLabel shape (parts_of shape spelled)
read_fits end [] at parts spelled e = tt
read_fits end (c ∷ shape) at [] spelled e = absurd (no_err {A = List (List ℕ)} end spelled e)
read_fits end (c ∷ shape) at (part ∷ parts) spelled e =
    read_step c shape part (failing_in c at part) (read_parts end shape (at + length part + 1) parts) spelled e (λ more. read_fits end shape (at + length part + 1) parts more)

-- ---- the calls

module _ (policies : Policies) (n : Name) where
  of_policy : (o : Option Policy) (p : Policy) (parts : List ℕ) → policies n ≡ o → o ≡ Some p → IsLabel p.shape parts → IsLabelOf (policies n) parts
  of_policy o p parts e f h = subst (λ q. IsLabelOf q parts) (sym (e ∙ f)) h

  text_step : (p : Policy) (text : List ℕ) (r : Parsed) → policies n ≡ Some p → read_label p.shape text ≡ r → HasKind policies (label n) (label_or_null p.shape r)
  text_step p text (Err at) e q = tt
  text_step p text (Ok l) e q = of_policy (Some p) p (parts_of p.shape l) e refl (read_fits (length text) p.shape 0 (Rattle.std.specs.List.slice_split Rattle.lb_label.specs.LabelText.is_colon text) l q)

  pub text_fits : (o : Option Policy) (text : List ℕ) → policies n ≡ o → HasKind policies (label n) (label_of_text o text)
  text_fits None text e = tt
  text_fits (Some p) text e = text_step p text (read_label p.shape text) e refl

  found_fits : (p : Policy) (name : Name) (ls : List LabelRec) → policies n ≡ Some p → AllByRecursion (λ l. IsLabel p.shape l.parts.items) ls → HasKind policies (label n) (label_in (find (is_label name) ls))
  found_fits p name [] e h = tt
  found_fits p name (l ∷ ls) e h = go (bytes_eq l.name name) (found_fits p name ls e h.1)
    where
      go : (b : Bool) → HasKind policies (label n) (label_in (find (is_label name) ls)) → HasKind policies (label n) (label_in (cond b (Some l) (find (is_label name) ls)))
      go true rest = of_policy (Some p) p l.parts.items e refl h.0
      go false rest = rest

  pub named_fits : (o : Option Policy) (name : Name) → policies n ≡ o → LabelsFit o → HasKind policies (label n) (label_by_name o name)
  named_fits None name e h = tt
  named_fits (Some p) name e h = found_fits p name p.labels e h

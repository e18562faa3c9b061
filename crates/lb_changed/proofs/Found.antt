-- A record that is found by its name has the name, and the stamp of its key.
use Rattle.std.proofs.Common.{ℕ, ◌≡◌, refl, ap, sym, ◌∙◌, subst, Bool, true, false, cond, List, [], ◌∷◌, Some}
use Rattle.std.specs.Prelude.{find}
use Rattle.std.specs.Str.{bytes_eq}
use Rattle.std.proofs.lemmas.Option.{same_Some}
use Rattle.std.proofs.lemmas.Slice.Eq.{bytes_eq-Decides}
use Rattle.lb_base.specs.declared.key.Key.TheVariants as keys
use Rattle.lb_cat.specs.declared.catalog.PolicyRec.{PolicyRec}
use Rattle.lb_cat.specs.declared.catalog.TableRec.{TableRec}
use Rattle.lb_cat.specs.Stamps.{Kept, kept_policy, kept_table, look, stamp_or}

-- what is found passes the test
pub found_passes : {A : Type 0} (test : A → Bool) (xs : List A) (x : A) → find test xs ≡ Some x → test x ≡ true
found_passes test [] x h = absurd cc
found_passes test (y ∷ ys) x h =
    elim (test y) as (λ b. test y ≡ b → cond b (Some y) (find test ys) ≡ Some x → test x ≡ true) [
      | true ↦ λ e i. subst (λ z. test z ≡ true) (same_Some y x i) e
      | false ↦ λ e i. found_passes test ys x i
    ] refl h

pub table_found : (K : Kept) (n : List ℕ) (t : TableRec) → Some t ≡ kept_table K n → t.stamp ≡ look K (keys.Table t.name)
table_found K n t h =
    let name : t.name ≡ n = (bytes_eq-Decides t.name n).0 (found_passes (λ x. bytes_eq x.name n) K.tables t (sym h)) in
    ap (stamp_or (λ (x : TableRec). x.stamp)) (h ∙ ap (λ m. find (λ (x : TableRec). bytes_eq x.name m) K.tables) (sym name))

pub policy_found : (K : Kept) (n : List ℕ) (p : PolicyRec) → Some p ≡ kept_policy K n → p.stamp ≡ look K (keys.Policy p.name)
policy_found K n p h =
    let name : p.name ≡ n = (bytes_eq-Decides p.name n).0 (found_passes (λ x. bytes_eq x.name n) K.policies p (sym h)) in
    ap (stamp_or (λ (x : PolicyRec). x.stamp)) (h ∙ ap (λ m. find (λ (x : PolicyRec). bytes_eq x.name m) K.policies) (sym name))

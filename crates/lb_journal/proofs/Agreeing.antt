-- Catalogues with the same records under what is mentioned agree on all that names and types ask of them.
use Rattle.std.proofs.Common.{◌≡◌, refl, sym, ap, subst, ◌∙◌, ℕ, Bool, true, false, cond, List, [], ◌∷◌, ◌++◌, Option, Some, None, is_some}
use Rattle.std.specs.Prelude.{find, filter, filter_map, option_map}
use Rattle.std.specs.List.{AllByRecursion}
use Rattle.std.specs.Option.{option_and_then}
use Rattle.std.proofs.lemmas.Slice.Eq.{bytes_eq-Decides}
use Rattle.lb_base.specs.Names.{IsFolded}
use Rattle.lb_cat.specs.Catalog.{Cat, Policy, is_policy, table_named, policy_named, label_named}
use Rattle.lb_names.specs.Mentions.{Mentions, table, policy, label, tables_in, policies_in}
use Rattle.lb_names.specs.Agreeing.{Agree, AgreeOn}
use Rattle.lb_alter.specs.Deps.{in_tables, policy_name_of, is_key_name, tables_for, deps_of}
use Rattle.lb_alter.specs.Frame.{SameOn}
use Rattle.lb_alter.specs.Named.{HasFoldedNames}
use Rattle.lb_alter.proofs.SoundUsers.{all_found}
use Rattle.lb_alter.proofs.Steady.{all_front, all_after, tables_same, policies_same}
use Rattle.lb_alter.specs.Naming.{fields_of, fault_in, named_in}

pub find_passes : {A : Type 0} (test : A → Bool) (xs : List A) (r : A) → find test xs ≡ Some r → test r ≡ true
find_passes test [] r e = absurd cc
find_passes test (x ∷ xs) r e =
    elim (test x) as (λ b. test x ≡ b → cond b (Some x) (find test xs) ≡ Some r → test r ≡ true) [
      | true ↦ λ t i. let is : x ≡ r = cc in subst (λ z. test z ≡ true) is t
      | false ↦ λ t i. find_passes test xs r i
    ] refl e

-- a text that is no name in upper case is the name of no policy
no_policy : (E : Cat) (p : List ℕ) → HasFoldedNames E → is_key_name p ≡ false → policy_named E p ≡ None
no_policy E p names unfolded = go (policy_named E p) refl
  where
    key : (q : List ℕ) → IsFolded q → is_key_name q ≡ true
    key q h = rw (h.0, h.1, (bytes_eq-Decides q q).1 refl) refl

    go : (o : Option Policy) → policy_named E p ≡ o → o ≡ None
    go None e = refl
    go (Some q) e =
        let is : q.name ≡ p = (bytes_eq-Decides q.name p).0 (find_passes (is_policy p) E.policies q e) in
        let named : IsFolded q.name = all_found (λ (r : Policy). IsFolded r.name) (is_policy p) E.policies q names e in
        absurd (let both : true ≡ false = sym (key q.name named) ∙ ap is_key_name is ∙ unfolded in cc)

module _ (C D : Cat) (names_C : HasFoldedNames C) (names_D : HasFoldedNames D) where
  abbrev SameTable : List ℕ → Type 0
  SameTable n = table_named D n ≡ table_named C n

  abbrev SamePolicy : List ℕ → Type 0
  SamePolicy p = policy_named D p ≡ policy_named C p

  -- a policy whose name is no upper-case name is there in neither
  pub policies_all : (ps : List (List ℕ)) → AllByRecursion SamePolicy (filter is_key_name ps) → AllByRecursion SamePolicy ps
  policies_all [] h = tt
  policies_all (p ∷ ps) h =
      elim (is_key_name p) as (λ b. is_key_name p ≡ b → AllByRecursion SamePolicy (cond b (p ∷ filter is_key_name ps) (filter is_key_name ps)) → SamePolicy p × AllByRecursion SamePolicy ps) [
        | true ↦ λ e i. (i.0, policies_all ps i.1)
        | false ↦ λ e i. (no_policy D p names_D e ∙ sym (no_policy C p names_C e), policies_all ps i)
      ] refl h

  agree_policy : (p : List ℕ) → SamePolicy p → Agree (named_in C) (named_in D) (policy p)
  agree_policy p e = (ap is_some (sym e), λ text. ap (λ (o : Option Policy). option_and_then (λ (q : Policy). fault_in q text) o) (sym e))

  agree_label : (p l : List ℕ) → SamePolicy p → Agree (named_in C) (named_in D) (label p l)
  agree_label p l e = (ap is_some (sym e), ap (λ (o : Option Policy). is_some (option_and_then (λ (q : Policy). label_named q l) o)) (sym e))

  agree_all : (ms : Mentions) → AllByRecursion SameTable (tables_in ms) → AllByRecursion SamePolicy (policies_in ms) → AgreeOn (named_in C) (named_in D) ms
  agree_all [] t p = tt
  agree_all (table n ∷ ms) t p = (ap (option_map fields_of) (sym t.0), agree_all ms t.1 p)
  agree_all (policy q ∷ ms) t p = (agree_policy q p.0, agree_all ms t p.1)
  agree_all (label q l ∷ ms) t p = (agree_label q l p.0, agree_all ms t p.1)

  -- catalogues with the same records under the dependencies of what is mentioned
  pub agree_on : (ms : Mentions) → SameOn (deps_of C ms) C D → AgreeOn (named_in C) (named_in D) ms
  agree_on ms same =
      let tables = all_front SameTable (tables_in ms) _ (tables_same C D ms same) in
      let called = all_after SamePolicy (filter_map (λ n. policy_name_of (table_named C n)) (tables_for C ms)) _ (policies_same C D ms same) in
      agree_all ms tables (all_front SamePolicy (policies_in ms) _ (policies_all (policies_in ms ++ policies_in (in_tables C (tables_in ms))) called))

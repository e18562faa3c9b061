-- Where no stamp of what a write depends on moves, its dependencies, their records and rows, and what its session may do stay.
use Rattle.std.proofs.Common.{◌≡◌, refl, sym, ap, subst, ◌∙◌, ℕ, true, false, cond, ◌||◌, List, [], ◌∷◌, ◌++◌, map, Option, Some}
use Rattle.std.specs.Prelude.{find, unwrap_or}
use Rattle.std.specs.List.{AllByRecursion}
use Rattle.std.specs.Str.{bytes_eq}
use Rattle.std.proofs.lemmas.Slice.Eq.{bytes_eq-Decides}
use Rattle.lb_base.specs.declared.key.Key.{Key}
use Rattle.lb_base.specs.declared.key.Key.TheVariants as keys
use Rattle.lb_cat.specs.declared.catalog.Holding.{Holding}
use Rattle.lb_cat.specs.declared.cred.CredLabel.{CredLabel}
use Rattle.lb_cat.specs.Catalog.{Cat, Policy, User, policy_named, user_named, no_user}
use Rattle.lb_cat.specs.Credentials.{held_parts, cred_label, cred_of, cred, no_label, is_cred_label_of, held_of}
use Rattle.lb_cat.specs.Keys.{same_key, has_key}
use Rattle.lb_names.specs.Mentions.{in_stmt}
use Rattle.lb_alter.specs.Deps.{deps, tables_for, write_deps}
use Rattle.lb_alter.specs.Frame.{SameRecord, SameOn}
use Rattle.lb_alter.proofs.SoundUsers.{all_follow}
use Rattle.lb_alter.proofs.Steady.{same_is, all_once, all_front, all_after, write_deps_stay}
use Rattle.lb_journal.specs.State.{State}
use Rattle.lb_journal.specs.Laws.{SameAt}
use Rattle.lb_journal.specs.Lasting.{SameStamps, SameCredentials, WriteDependenciesLast}
use Rattle.lb_journal.proofs.Stamps.{same_record}

-- ---- keys

-- what holds of all keys of a list holds of each
has_all : (P : Key → Type 0) (k : Key) (ks : List Key) → AllByRecursion P ks → has_key k ks ≡ true → P k
has_all P k [] h e = absurd cc
has_all P k (x ∷ ks) h e =
    elim (same_key k x) as (λ b. same_key k x ≡ b → (b || has_key k ks) ≡ true → P k) [
      | true ↦ λ same _. subst P (sym (same_is k x same)) h.0
      | false ↦ λ _ i. has_all P k ks h.1 i
    ] refl e

same_all : (S T : State) (ks : List Key) → ((k : Key) → T.stamp k ≡ S.stamp k → SameAt k S T) → SameStamps ks S T → AllByRecursion (λ (k : Key). SameAt k S T) ks
same_all S T ks f e = all_follow (λ (k : Key). T.stamp k ≡ S.stamp k) (λ (k : Key). SameAt k S T) f ks e

-- ---- credentials

-- what is held of a policy with the same record
module _ (C D : Cat) (n : List ℕ) (same : policy_named D n ≡ policy_named C n) where
  same_label : (h : Holding) → h.policy ≡ n → cred_label D h ≡ cred_label C h
  same_label h e =
      ap (λ (o : Option Policy). record { policy = h.policy; read = held_parts o h.read; write = held_parts o h.write; exempt = h.exempt })
      (subst (λ (m : List ℕ). policy_named D m ≡ policy_named C m) (sym e) same)

  same_found : (hs : List Holding) → find (is_cred_label_of n) (map (cred_label D) hs) ≡ find (is_cred_label_of n) (map (cred_label C) hs)
  same_found [] = refl
  same_found (h ∷ hs) =
      elim (bytes_eq h.policy n) as (λ b. bytes_eq h.policy n ≡ b → cond b (Some (cred_label D h)) (find (is_cred_label_of n) (map (cred_label D) hs)) ≡ cond b (Some (cred_label C h)) (find (is_cred_label_of n) (map (cred_label C) hs))) [
        | true ↦ λ e. ap (λ (l : CredLabel). Some l) (same_label h ((bytes_eq-Decides h.policy n).0 e))
        | false ↦ λ _. same_found hs
      ] refl

  pub same_held : (user : List ℕ) (groups : List (List ℕ)) → user_named D user ≡ user_named C user → held_of (cred D user groups) n ≡ held_of (cred C user groups) n
  same_held user groups e =
      ap (λ (o : Option User). held_of (cred_of D user groups (unwrap_or o (no_user user))) n) e
      ∙ ap (λ (o : Option CredLabel). unwrap_or o (no_label n)) (same_found (unwrap_or (user_named C user) (no_user user)).held)

same_credentials : (C D : Cat) (ks : List Key) (user : List ℕ) (groups : List (List ℕ)) → SameOn ks C D → user_named D user ≡ user_named C user → SameCredentials ks (cred C user groups) (cred D user groups)
same_credentials C D ks user groups same e = record {
  user = refl;
  groups = refl;
  roles = ap (λ (o : Option User). (unwrap_or o (no_user user)).roles) e;
  secadm = ap (λ (o : Option User). (unwrap_or o (no_user user)).secadm) e;
  privileges = ap (λ (o : Option User). (unwrap_or o (no_user user)).privileges) e;
  held = λ n h. same_held C D n (has_all (SameRecord C D) (keys.Policy n) ks same h) user groups e;
}

-- ---- writes

pub write_dependencies_last : WriteDependenciesLast
write_dependencies_last J K S T s user replay runs stamps =
    let P : Key → Type 0 = SameRecord S.cat T.cat in
    let each : AllByRecursion (λ (k : Key). SameAt k S T) (write_deps S.cat s user) = same_all S T (write_deps S.cat s user) (λ k e. same_record J K S T k replay runs e) stamps in
    let same : SameOn (write_deps S.cat s user) S.cat T.cat = all_follow (λ (k : Key). SameAt k S T) P (λ k h. h.0) (write_deps S.cat s user) each in
    let all : SameOn (deps S.cat s ++ (map (λ n. keys.Rows n) (tables_for S.cat (in_stmt s)) ++ keys.User user ∷ [])) S.cat T.cat = all_once P _ same in
    let named : user_named T.cat user ≡ user_named S.cat user =
    (all_after P (map (λ n. keys.Rows n) (tables_for S.cat (in_stmt s))) (keys.User user ∷ []) (all_after P (deps S.cat s) _ all)).0 in
    record {
      dependencies = write_deps_stay S.cat T.cat s user (all_front P (deps S.cat s) _ all);
      records = each;
      credentials = λ groups. same_credentials S.cat T.cat (write_deps S.cat s user) user groups same named;
    }

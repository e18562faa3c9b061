-- What a statement depends on is the same where the records that it depends on are.
use Rattle.std.proofs.Common.{◌≡◌, refl, sym, ap, subst, ◌∙◌, ℕ, true, false, cond, not, List, [], ◌∷◌, ◌++◌, map, Option}
use Rattle.std.specs.Prelude.{filter, filter_map}
use Rattle.std.specs.List.{AllByRecursion, flat_map, cons_option}
use Rattle.std.proofs.lemmas.Slice.Eq.{bytes_eq-Decides}
use Rattle.lb_base.specs.declared.key.Key.{Key}
use Rattle.lb_base.specs.declared.key.Key.TheVariants as keys
use Rattle.lb_cat.specs.Keys.{same_key, once}
use Rattle.lb_cat.specs.Catalog.{Cat, table_named, policy_named}
use Rattle.lb_names.specs.Mentions.{Mentions, in_stmt, tables_in, policies_in}
use Rattle.lb_alter.specs.Deps.{in_tables, in_table, tables_for, policy_name_of, is_key_name, policies_for, components_of, components_for, deps_of, deps}
use Rattle.lb_alter.specs.Frame.{SameRecord, SameOn, DepsStay, WriteDepsStay}

-- ---- keys

pub same_is : (a b : Key) → same_key a b ≡ true → a ≡ b
same_is (keys.Table m) (keys.Table n) e = ap keys.Table ((bytes_eq-Decides m n).0 e)
same_is (keys.Rows m) (keys.Rows n) e = ap keys.Rows ((bytes_eq-Decides m n).0 e)
same_is (keys.Policy m) (keys.Policy n) e = ap keys.Policy ((bytes_eq-Decides m n).0 e)
same_is (keys.Component m) (keys.Component n) e = ap keys.Component ((bytes_eq-Decides m n).0 e)
same_is (keys.User m) (keys.User n) e = ap keys.User ((bytes_eq-Decides m n).0 e)
same_is a b e = absurd cc

module _ (P : Key → Type 0) where
  all_filtered : (x : Key) (ys : List Key) → P x → AllByRecursion P (filter (λ y. not (same_key y x)) ys) → AllByRecursion P ys
  all_filtered x [] p h = tt
  all_filtered x (y ∷ ys) p h =
      elim (same_key y x) as (λ b. same_key y x ≡ b → AllByRecursion P (cond (not b) (y ∷ filter (λ z. not (same_key z x)) ys) (filter (λ z. not (same_key z x)) ys)) → P y × AllByRecursion P ys) [
        | true ↦ λ same i. (subst P (sym (same_is y x same)) p, all_filtered x ys p i)
        | false ↦ λ _ i. (i.0, all_filtered x ys p i.1)
      ] refl h

  -- what holds of each key once holds of all
  pub all_once : (ks : List Key) → AllByRecursion P (once ks) → AllByRecursion P ks
  all_once [] h = tt
  all_once (k ∷ ks) h = (h.0, all_once ks (all_filtered k (once ks) h.0 h.1))

module _ {A : Type 0} where
  pub all_front : (P : A → Type 0) (xs ys : List A) → AllByRecursion P (xs ++ ys) → AllByRecursion P xs
  all_front P [] ys h = tt
  all_front P (x ∷ xs) ys h = (h.0, all_front P xs ys h.1)

  pub all_after : (P : A → Type 0) (xs ys : List A) → AllByRecursion P (xs ++ ys) → AllByRecursion P ys
  all_after P [] ys h = h
  all_after P (x ∷ xs) ys h = all_after P xs ys h.1

  pub all_mapped : {B : Type 0} (P : B → Type 0) (f : A → B) (xs : List A) → AllByRecursion P (map f xs) → AllByRecursion (λ x. P (f x)) xs
  all_mapped P f [] h = tt
  all_mapped P f (x ∷ xs) h = (h.0, all_mapped P f xs h.1)

-- ---- lists that are made item by item

module _ {A R B : Type 0} (f e : A → R) where
  same_flat : (g : R → List B) (xs : List A) → AllByRecursion (λ x. f x ≡ e x) xs → flat_map (λ x. g (f x)) xs ≡ flat_map (λ x. g (e x)) xs
  same_flat g [] same = refl
  same_flat g (x ∷ xs) same = rw (same.0) (ap (λ (rest : List B). g (e x) ++ rest) (same_flat g xs same.1))

  same_filtered : (g : R → Option B) (xs : List A) → AllByRecursion (λ x. f x ≡ e x) xs → filter_map (λ x. g (f x)) xs ≡ filter_map (λ x. g (e x)) xs
  same_filtered g [] same = refl
  same_filtered g (x ∷ xs) same = rw (same.0) (ap (λ (rest : List B). cons_option (g (e x)) rest) (same_filtered g xs same.1))

-- ---- the dependencies

module _ (C D : Cat) (ms : Mentions) (same : SameOn (deps_of C ms) C D) where
  all_keys : SameOn (map (λ n. keys.Table n) (tables_for C ms) ++ (map (λ n. keys.Policy n) (policies_for C ms) ++ map (λ n. keys.Component n) (components_for C ms))) C D
  all_keys = all_once (SameRecord C D) _ same

  pub tables_same : AllByRecursion (λ (n : List ℕ). table_named D n ≡ table_named C n) (tables_for C ms)
  tables_same = all_mapped (SameRecord C D) (λ n. keys.Table n) (tables_for C ms) (all_front (SameRecord C D) (map (λ n. keys.Table n) (tables_for C ms)) _ all_keys)

  pub policies_same : AllByRecursion (λ (n : List ℕ). policy_named D n ≡ policy_named C n) (policies_for C ms)
  policies_same = all_mapped (SameRecord C D) (λ n. keys.Policy n) (policies_for C ms)
      (all_front (SameRecord C D) (map (λ n. keys.Policy n) (policies_for C ms)) _ (all_after (SameRecord C D) (map (λ n. keys.Table n) (tables_for C ms)) _ all_keys))

  after_same : in_tables D (tables_in ms) ≡ in_tables C (tables_in ms)
  after_same = same_flat (table_named D) (table_named C) in_table (tables_in ms) (all_front (λ (n : List ℕ). table_named D n ≡ table_named C n) (tables_in ms) _ tables_same)

  pub tables_for_same : tables_for D ms ≡ tables_for C ms
  tables_for_same = ap (λ (b : Mentions). tables_in ms ++ tables_in b) after_same

  policies_for_same : policies_for D ms ≡ policies_for C ms
  policies_for_same =
      ap (λ (ts : List (List ℕ)). filter_map (λ n. policy_name_of (table_named D n)) ts ++ filter is_key_name (policies_in ms ++ policies_in (in_tables D (tables_in ms)))) tables_for_same
      ∙ ap (λ (ps : List (List ℕ)). ps ++ filter is_key_name (policies_in ms ++ policies_in (in_tables D (tables_in ms)))) (same_filtered (table_named D) (table_named C) policy_name_of (tables_for C ms) tables_same)
      ∙ ap (λ (b : Mentions). filter_map (λ n. policy_name_of (table_named C n)) (tables_for C ms) ++ filter is_key_name (policies_in ms ++ policies_in b)) after_same

  components_for_same : components_for D ms ≡ components_for C ms
  components_for_same =
      ap (λ (ps : List (List ℕ)). flat_map (λ n. components_of (policy_named D n)) ps) policies_for_same
      ∙ same_flat (policy_named D) (policy_named C) components_of (policies_for C ms) policies_same

  keys_of : List (List ℕ) → List (List ℕ) → List (List ℕ) → List Key
  keys_of ts ps cs = once (map (λ n. keys.Table n) ts ++ (map (λ n. keys.Policy n) ps ++ map (λ n. keys.Component n) cs))

  pub deps_same : deps_of D ms ≡ deps_of C ms
  unfolding keys_of
  deps_same =
      ap (λ (ts : List (List ℕ)). keys_of ts (policies_for D ms) (components_for D ms)) tables_for_same
      ∙ ap (λ (ps : List (List ℕ)). keys_of (tables_for C ms) ps (components_for D ms)) policies_for_same
      ∙ ap (keys_of (tables_for C ms) (policies_for C ms)) components_for_same

pub deps_stay : DepsStay
deps_stay C D s same = deps_same C D (in_stmt s) same

pub write_deps_stay : WriteDepsStay
write_deps_stay C D s user same =
    ap (λ (ks : List Key). once (ks ++ (map (λ n. keys.Rows n) (tables_for D (in_stmt s)) ++ keys.User user ∷ []))) (deps_stay C D s same)
    ∙ ap (λ (ts : List (List ℕ)). once (deps C s ++ (map (λ n. keys.Rows n) ts ++ keys.User user ∷ []))) (tables_for_same C D (in_stmt s) same)

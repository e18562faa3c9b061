-- A key that a change doesn't touch has the same record and rows; and no change takes a user's record away.
use Rattle.std.proofs.Common.{◌≡◌, refl, sym, ap, subst, ◌∙◌, ℕ, ◌+◌, ◌*◌, Bool, true, false, cond, not, ◌||◌, List, [], ◌∷◌, ◌++◌, map, length, Option, Some, None, Ok, Err, is_some, is_none, nat_le, nat_lt}
use Rattle.std.specs.Prelude.{find, filter, position, unwrap_or, option_map, if◌then◌else◌}
use Rattle.std.specs.List.{list_any}
use Rattle.std.specs.Str.{bytes_eq}
use Rattle.std.proofs.lemmas.Slice.Eq.{bytes_eq-Decides}
use Rattle.lb_base.specs.declared.key.Key.{Key}
use Rattle.lb_base.specs.declared.key.Key.TheVariants as keys
use Rattle.lb_label.specs.Component.{empty_component}
use Rattle.lb_stmt.specs.declared.change.Access.{Access}
use Rattle.lb_stmt.specs.declared.change.Activation.{Activation}
use Rattle.lb_stmt.specs.declared.change.Change.{Change}
use Rattle.lb_stmt.specs.declared.change.ComponentDef.{ComponentDef}
use Rattle.lb_stmt.specs.declared.change.Element.{Element}
use Rattle.lb_stmt.specs.declared.change.Grantee.{Grantee}
use Rattle.lb_stmt.specs.declared.change.LabelName.{LabelName}
use Rattle.lb_stmt.specs.declared.change.LabelPart.{LabelPart}
use Rattle.lb_stmt.specs.declared.change.MaskDef.{MaskDef}
use Rattle.lb_stmt.specs.declared.change.PermissionDef.{PermissionDef}
use Rattle.lb_stmt.specs.declared.change.PlainType.{PlainType}
use Rattle.lb_stmt.specs.declared.change.PolicyDef.{PolicyDef}
use Rattle.lb_stmt.specs.declared.change.Exempted.{Exempted}
use Rattle.lb_stmt.specs.declared.change.Switch.{Switch}
use Rattle.lb_stmt.specs.declared.change.Privilege.{Privilege}
use Rattle.lb_stmt.specs.declared.change.Change.TheVariants as changes
use Rattle.lb_stmt.specs.declared.change.Grantee.TheVariants as grantees
use Rattle.lb_cat.specs.declared.catalog.Holding.{Holding}
use Rattle.lb_cat.specs.declared.refusal.Refusal.{Refusal}
use Rattle.lb_cat.specs.declared.refusal.Refusal.TheVariants as refusals
use Rattle.lb_cat.specs.declared.refusal.Flaw.TheVariants as flaws
use Rattle.lb_cat.specs.declared.refusal.LimitOf.TheVariants as limits
use Rattle.lb_rows.specs.Tables.{Version, Tables, is_version, rows_of, put_version}
use Rattle.lb_rows.specs.Lists.{put, without}
use Rattle.lb_cat.specs.Keys.{has_key}
use Rattle.lb_cat.specs.Catalog.{Table, Policy, Component, User, Cat, is_table, is_policy, is_user, table_named, policy_named, component_named, user_named, has_role, is_column, column_named, is_permission, is_mask, is_label, label_named, put_table, put_component, put_user, put_role, drop_table, drop_policy, drop_component, drop_role, no_user}
use Rattle.lb_cat.specs.Privileges.{is_grant_on, has_grant_on, without_grant}
use Rattle.lb_cat.specs.Holdings.{is_holding_of, holding_of, with_holding, has_holding_of, without_holding, holds_label, with_exemptions, without_exemptions}
use Rattle.lb_names.specs.Mentions.{in_cond, in_expr}
use Rattle.lb_alter.specs.AlterTable.{with_null, change_column, plain_column, add_column, add_policy, secure, secure_column, unsecure_column}
use Rattle.lb_alter.specs.Change.{attempt}
use Rattle.lb_alter.specs.ChangeControl.{with_acts, activate, is_enabled, has_permission, has_mask, source_refusal, takes_permission_name, new_permission, with_permission, create_permission, takes_mask_name, other_mask, new_mask, with_mask, create_mask, switch_permission, switch_mask, drop_permission, drop_mask}
use Rattle.lb_alter.specs.ChangeGrant.{user_or_new, grants, taken_from, revokes, reads, writes, held_refusal, with_label, mismatch, grant_label, without_label, revoke_label, exempting, grant_exemption, revoke_exemption, create_role, has_role_of, the_role, drop_role_of, with_role, without_role, grant_role, revoke_role, with_secadm, grant_secadm, revoke_secadm, with_public, with_user_privileges, grant_to, revoke_from, grant_privileges, revoke_privileges}
use Rattle.lb_alter.specs.ChangeLabel.{parts_refusal, label_parts, create_label, user_name, holds, secures_with, drop_label}
use Rattle.lb_alter.specs.ChangePolicy.{kind_of_definition, elements_of, with_elements, create_component, policy_name, has_component, drop_component_of, components_refusal, new_policy, create_policy, has_policy, table_name, first_label, drop_policy_of}
use Rattle.lb_alter.specs.ChangeTable.{width_refusal, is_label_type, columns_in, keys_in, columns_refusal, key_refusal, policy_refusal, flaws_refusal, secured_refusal, policy_of, new_table, create_table, user_key, drop_table_of}
use Rattle.lb_alter.specs.Frame.{SameRecord, SameRows, UntouchedStays, UsersStay}
use Rattle.lb_alter.specs.Refusing.{in_use, exists_already, Changed, ◌>>◌, when, each_passes, found, the_table, the_policy, the_label, owner, secadm, done, alters, alters_policy, settled}
use Rattle.lb_cat.specs.OrRefused.{OrRefused, ◌>>=◌}
use Rattle.lb_alter.specs.Stored.{StoredRules, stored_name, user_of_table, calls_policy, calls_label}

-- ---- lists of records

pub or_left : (a b : Bool) → (a || b) ≡ false → a ≡ false
or_left false b h = refl
or_left true b h = h

pub or_right : (a b : Bool) → (a || b) ≡ false → b ≡ false
or_right false b h = h
or_right true b h = absurd cc

pub turned : (m n : List ℕ) → bytes_eq m n ≡ false → bytes_eq n m ≡ false
turned m n h =
    elim (bytes_eq n m) as (λ b. bytes_eq n m ≡ b → b ≡ false) [
      | true ↦ λ same. let yes_it_is : bytes_eq m n ≡ true = (bytes_eq-Decides m n).1 (sym ((bytes_eq-Decides n m).0 same)) in absurd cc
      | false ↦ λ _. refl
    ] refl

-- something is found at the head or after it
found_too : {R : Type 0} (b : Bool) (x y : R) (rest later : Option R) → (is_some rest ≡ true → is_some later ≡ true) → is_some (cond b (Some x) rest) ≡ true → is_some (cond b (Some y) later) ≡ true
found_too true x y rest later f h = refl
found_too false x y rest later f h = f h

module _ {R : Type 0} (name : R → List ℕ) where
  pub put_other : (r : R) (n : List ℕ) (xs : List R) → bytes_eq (name r) n ≡ false
      → find (λ x. bytes_eq (name x) n) (put (λ x. bytes_eq (name x) (name r)) r xs) ≡ find (λ x. bytes_eq (name x) n) xs
  put_other r n [] f = rw f refl
  put_other r n (x ∷ xs) f =
      elim (bytes_eq (name x) (name r)) as (λ b. bytes_eq (name x) (name r) ≡ b
      → find (λ y. bytes_eq (name y) n) (cond b (r ∷ xs) (x ∷ put (λ y. bytes_eq (name y) (name r)) r xs)) ≡ cond (bytes_eq (name x) n) (Some x) (find (λ y. bytes_eq (name y) n) xs)) [
        | true ↦ λ same.
            let off : bytes_eq (name x) n ≡ false = subst (λ (m : List ℕ). bytes_eq m n ≡ false) (sym ((bytes_eq-Decides (name x) (name r)).0 same)) f in
            rw (f, off) refl
        | false ↦ λ _. ap (λ (rest : Option R). cond (bytes_eq (name x) n) (Some x) rest) (put_other r n xs f)
      ] refl

  pub without_other : (m n : List ℕ) (xs : List R) → bytes_eq m n ≡ false
      → find (λ x. bytes_eq (name x) n) (without (λ x. bytes_eq (name x) m) xs) ≡ find (λ x. bytes_eq (name x) n) xs
  without_other m n [] f = refl
  without_other m n (x ∷ xs) f =
      elim (bytes_eq (name x) m) as (λ b. bytes_eq (name x) m ≡ b
      → find (λ y. bytes_eq (name y) n) (cond (not b) (x ∷ without (λ y. bytes_eq (name y) m) xs) (without (λ y. bytes_eq (name y) m) xs)) ≡ cond (bytes_eq (name x) n) (Some x) (find (λ y. bytes_eq (name y) n) xs)) [
        | true ↦ λ same.
            let off : bytes_eq (name x) n ≡ false = subst (λ (k : List ℕ). bytes_eq k n ≡ false) (sym ((bytes_eq-Decides (name x) m).0 same)) f in
            without_other m n xs f ∙ rw off refl
        | false ↦ λ _. ap (λ (rest : Option R). cond (bytes_eq (name x) n) (Some x) rest) (without_other m n xs f)
      ] refl

  pub named_there : (n : List ℕ) (xs : List R) (r : R) → find (λ x. bytes_eq (name x) n) xs ≡ Some r → name r ≡ n
  named_there n [] r h = absurd cc
  named_there n (x ∷ xs) r h =
      elim (bytes_eq (name x) n) as (λ b. bytes_eq (name x) n ≡ b → cond b (Some x) (find (λ y. bytes_eq (name y) n) xs) ≡ Some r → name r ≡ n) [
        | true ↦ λ same e. let is : x ≡ r = cc in ap name (sym is) ∙ (bytes_eq-Decides (name x) n).0 same
        | false ↦ λ _ e. named_there n xs r e
      ] refl h

  -- a record that is put takes no name away
  put_there : (r : R) (n : List ℕ) (xs : List R) → is_some (find (λ x. bytes_eq (name x) n) xs) ≡ true
      → is_some (find (λ x. bytes_eq (name x) n) (put (λ x. bytes_eq (name x) (name r)) r xs)) ≡ true
  put_there r n [] h = absurd cc
  put_there r n (x ∷ xs) h =
      elim (bytes_eq (name x) (name r)) as (λ b. bytes_eq (name x) (name r) ≡ b
      → is_some (find (λ y. bytes_eq (name y) n) (cond b (r ∷ xs) (x ∷ put (λ y. bytes_eq (name y) (name r)) r xs))) ≡ true) [
        | true ↦ λ same. found_too (bytes_eq (name r) n) x r _ _ (λ i. i) (subst (λ (m : List ℕ). is_some (cond (bytes_eq m n) (Some x) (find (λ y. bytes_eq (name y) n) xs)) ≡ true) ((bytes_eq-Decides (name x) (name r)).0 same) h)
        | false ↦ λ _. found_too (bytes_eq (name x) n) x x _ _ (put_there r n xs) h
      ] refl

-- a list keeps all where nothing is meant
kept_all : {R : Type 0} (is : R → Bool) (xs : List R) → is_some (find is xs) ≡ false → without is xs ≡ xs
kept_all is [] h = refl
kept_all {R = R} is (x ∷ xs) h =
    elim (is x) as (λ b. is_some (cond b (Some x) (find is xs)) ≡ false → cond (not b) (x ∷ without is xs) (without is xs) ≡ x ∷ xs) [
      | true ↦ λ (e : true ≡ false). absurd cc
      | false ↦ λ e. ap (λ (rest : List R). x ∷ rest) (kept_all is xs e)
    ] h

-- ---- users

-- where those change that are touched
mapped_stays : (f : User → User) (has : User → Bool) → ((u : User) → (f u).name ≡ u.name) → ((u : User) → has u ≡ false → f u ≡ u) → (n : List ℕ) (us : List User)
    → has_key (keys.User n) (map user_key (filter has us)) ≡ false → find (is_user n) (map f us) ≡ find (is_user n) us
mapped_stays f has named same n [] h = refl
mapped_stays f has named same n (u ∷ us) h =
    elim (has u) as (λ b. has u ≡ b → has_key (keys.User n) (map user_key (cond b (u ∷ filter has us) (filter has us))) ≡ false
    → cond (bytes_eq (f u).name n) (Some (f u)) (find (is_user n) (map f us)) ≡ cond (bytes_eq u.name n) (Some u) (find (is_user n) us)) [
      | true ↦ λ _ e.
          let off : bytes_eq u.name n ≡ false = turned n u.name (or_left _ _ e) in
          rw (named u, off) (mapped_stays f has named same n us (or_right _ _ e))
      | false ↦ λ none e. rw (same u none) (ap (λ (rest : Option User). cond (bytes_eq u.name n) (Some u) rest) (mapped_stays f has named same n us e))
    ] refl h

-- where each keeps its name, all are there that were
mapped_there : (f : User → User) → ((u : User) → (f u).name ≡ u.name) → (n : List ℕ) (us : List User) → is_some (find (is_user n) us) ≡ true → is_some (find (is_user n) (map f us)) ≡ true
mapped_there f named n [] h = absurd cc
mapped_there f named n (u ∷ us) h =
    subst (λ (m : List ℕ). is_some (cond (bytes_eq m n) (Some (f u)) (find (is_user n) (map f us))) ≡ true) (sym (named u)) (found_too (bytes_eq u.name n) u (f u) _ _ (mapped_there f named n us) h)

user_or_new_name : (C : Cat) (n : List ℕ) → (user_or_new C n).name ≡ n
user_or_new_name C n =
    elim (find (is_user n) C.users) as (λ o. find (is_user n) C.users ≡ o → (unwrap_or o (no_user n)).name ≡ n) [
      | None ↦ λ _. refl
      | Some u ↦ λ e. named_there (λ (x : User). x.name) n C.users u e
    ] refl

-- ---- changes

-- what an accepted statement leaves, it leaves as it was under all keys that it doesn't touch; and all users are still there
pub record Stays (C : Cat) (T : Tables) (m : OrRefused Changed) : Type 0 where
  pub users : (d : Changed) → m ≡ Ok d → (n : List ℕ) → is_some (user_named C n) ≡ true → is_some (user_named d.cat n) ≡ true
  pub stays : (d : Changed) → m ≡ Ok d → (k : Key) → has_key k d.touched ≡ false → SameRecord C d.cat k × SameRows T d.tables k

bind_stays : {A : Type 0} (C : Cat) (T : Tables) (m : OrRefused A) (f : A → OrRefused Changed) → ((x : A) → Stays C T (f x)) → Stays C T (m >>= f)
bind_stays C T (Ok x) f h = h x
bind_stays C T (Err r) f h = record { users = λ d e. absurd cc; stays = λ d e. absurd cc }

test_stays : (C : Cat) (T : Tables) (o : Option Refusal) (rest : OrRefused Changed) → Stays C T rest → Stays C T (o >> rest)
test_stays C T None rest h = h
test_stays C T (Some r) rest h = record { users = λ d e. absurd cc; stays = λ d e. absurd cc }

done_stays : (C D : Cat) (T U : Tables) (touched : List Key) → ((n : List ℕ) → is_some (user_named C n) ≡ true → is_some (user_named D n) ≡ true) → ((k : Key) → has_key k touched ≡ false → SameRecord C D k × SameRows T U k) → Stays C T (done D U touched)
done_stays C D T U touched there h = record {
  users = λ d e n. subst (λ (x : OrRefused Changed). OfUsers C n x) e (there n);
  stays = λ d e k. subst (λ (x : OrRefused Changed). OfOutcome C T k x) e (h k);
}
  where
    OfUsers : Cat → List ℕ → OrRefused Changed → Type 0
    OfUsers C n (Ok d) = is_some (user_named C n) ≡ true → is_some (user_named d.cat n) ≡ true
    OfUsers C n (Err r) = Unit {0}

    OfOutcome : Cat → Tables → Key → OrRefused Changed → Type 0
    OfOutcome C T k (Ok d) = has_key k d.touched ≡ false → SameRecord C d.cat k × SameRows T d.tables k
    OfOutcome C T k (Err r) = Unit {0}

alters_stays : (C : Cat) (T : Tables) (t : Table) → Stays C T (alters C T t)
alters_stays C T t = done_stays C (put_table t C) T T (keys.Table t.name ∷ []) (λ n h. h) at
  where
    at : (k : Key) → has_key k (keys.Table t.name ∷ []) ≡ false → SameRecord C (put_table t C) k × SameRows T T k
    at (keys.Table n) h = (put_other (λ (x : Table). x.name) t n C.tables (turned n t.name (or_left _ _ h)), tt)
    at (keys.Rows n) h = (tt, refl)
    at (keys.Policy n) h = (refl, tt)
    at (keys.Component n) h = (refl, tt)
    at (keys.User n) h = (refl, tt)

-- a table's record and its rows
rows_stay : (C : Cat) (T : Tables) (t : Table) (v : Version) → v.name ≡ t.name → Stays C T (done (put_table t C) (put_version v T) (keys.Table t.name ∷ keys.Rows t.name ∷ []))
rows_stay C T t v named = done_stays C (put_table t C) T (put_version v T) (keys.Table t.name ∷ keys.Rows t.name ∷ []) (λ n h. h) at
  where
    at : (k : Key) → has_key k (keys.Table t.name ∷ keys.Rows t.name ∷ []) ≡ false → SameRecord C (put_table t C) k × SameRows T (put_version v T) k
    at (keys.Table n) h = (put_other (λ (x : Table). x.name) t n C.tables (turned n t.name (or_left _ _ h)), tt)
    at (keys.Rows n) h = (tt, put_other (λ (x : Version). x.name) v n T (subst (λ (m : List ℕ). bytes_eq m n ≡ false) (sym named) (turned n t.name (or_left _ _ (or_right false _ h)))))
    at (keys.Policy n) h = (refl, tt)
    at (keys.Component n) h = (refl, tt)
    at (keys.User n) h = (refl, tt)

put_policy_stays : (C : Cat) (T : Tables) (p : Policy) → Stays C T (alters_policy C T p)
put_policy_stays C T p = done_stays C _ T T (keys.Policy p.name ∷ []) (λ n h. h) at
  where
    at : (k : Key) → has_key k (keys.Policy p.name ∷ []) ≡ false → SameRecord C (record C { policies = put (is_policy p.name) p C.policies }) k × SameRows T T k
    at (keys.Table n) h = (refl, tt)
    at (keys.Rows n) h = (tt, refl)
    at (keys.Policy n) h = (put_other (λ (x : Policy). x.name) p n C.policies (turned n p.name (or_left _ _ h)), tt)
    at (keys.Component n) h = (refl, tt)
    at (keys.User n) h = (refl, tt)

put_component_stays : (C : Cat) (T : Tables) (c : Component) → Stays C T (done (put_component c C) T (keys.Component c.name ∷ []))
put_component_stays C T c = done_stays C _ T T (keys.Component c.name ∷ []) (λ n h. h) at
  where
    at : (k : Key) → has_key k (keys.Component c.name ∷ []) ≡ false → SameRecord C (put_component c C) k × SameRows T T k
    at (keys.Table n) h = (refl, tt)
    at (keys.Rows n) h = (tt, refl)
    at (keys.Policy n) h = (refl, tt)
    at (keys.Component n) h = (put_other (λ (x : Component). x.name) c n C.components (turned n c.name (or_left _ _ h)), tt)
    at (keys.User n) h = (refl, tt)

drop_component_stays : (C : Cat) (T : Tables) (n : List ℕ) → Stays C T (done (drop_component n C) T (keys.Component n ∷ []))
drop_component_stays C T m = done_stays C _ T T (keys.Component m ∷ []) (λ n h. h) at
  where
    at : (k : Key) → has_key k (keys.Component m ∷ []) ≡ false → SameRecord C (drop_component m C) k × SameRows T T k
    at (keys.Table n) h = (refl, tt)
    at (keys.Rows n) h = (tt, refl)
    at (keys.Policy n) h = (refl, tt)
    at (keys.Component n) h = (without_other (λ (x : Component). x.name) m n C.components (turned n m (or_left _ _ h)), tt)
    at (keys.User n) h = (refl, tt)

-- the five lists but for the roles, which have no key
roles_stay : (C D : Cat) (T : Tables) → D.tables ≡ C.tables → D.policies ≡ C.policies → D.components ≡ C.components → D.users ≡ C.users → Stays C T (done D T [])
roles_stay C D T t p c u = done_stays C D T T [] (λ n h. ap (λ (us : List User). is_some (find (is_user n) us)) u ∙ h) at
  where
    at : (k : Key) → has_key k [] ≡ false → SameRecord C D k × SameRows T T k
    at (keys.Table n) h = (ap (find (is_table n)) t, tt)
    at (keys.Rows n) h = (tt, refl)
    at (keys.Policy n) h = (ap (find (is_policy n)) p, tt)
    at (keys.Component n) h = (ap (find (λ (x : Component). bytes_eq x.name n)) c, tt)
    at (keys.User n) h = (ap (find (is_user n)) u, tt)

put_user_stays : (C : Cat) (T : Tables) (u : User) (m : List ℕ) → u.name ≡ m → Stays C T (done (put_user u C) T (keys.User m ∷ []))
put_user_stays C T u m named = done_stays C (put_user u C) T T (keys.User m ∷ []) (λ n h. put_there (λ (x : User). x.name) u n C.users h) at
  where
    at : (k : Key) → has_key k (keys.User m ∷ []) ≡ false → SameRecord C (put_user u C) k × SameRows T T k
    at (keys.Table n) h = (refl, tt)
    at (keys.Rows n) h = (tt, refl)
    at (keys.Policy n) h = (refl, tt)
    at (keys.Component n) h = (refl, tt)
    at (keys.User n) h = (put_other (λ (x : User). x.name) u n C.users (subst (λ (k : List ℕ). bytes_eq k n ≡ false) (sym named) (turned n m (or_left _ _ h))), tt)

unchanged_stays : (C : Cat) (T : Tables) (touched : List Key) → Stays C T (done C T touched)
unchanged_stays C T touched = done_stays C C T T touched (λ n h. h) at
  where
    at : (k : Key) → has_key k touched ≡ false → SameRecord C C k × SameRows T T k
    at (keys.Table n) h = (refl, tt)
    at (keys.Rows n) h = (tt, refl)
    at (keys.Policy n) h = (refl, tt)
    at (keys.Component n) h = (refl, tt)
    at (keys.User n) h = (refl, tt)

grants_stay : (C : Cat) (T : Tables) (n : List ℕ) (f : User → User) → ((u : User) → (f u).name ≡ u.name) → Stays C T (grants C T n f)
grants_stay C T n f named = put_user_stays C T (f (user_or_new C n)) n (named (user_or_new C n) ∙ user_or_new_name C n)

revokes_stay : (C : Cat) (T : Tables) (n : List ℕ) (f : User → User) → ((u : User) → (f u).name ≡ u.name) → Stays C T (revokes C T n f)
revokes_stay C T n f named =
    elim (find (is_user n) C.users) as (λ o. find (is_user n) C.users ≡ o → Stays C T (done (taken_from C o f) T (keys.User n ∷ []))) [
      | None ↦ λ _. unchanged_stays C T (keys.User n ∷ [])
      | Some u ↦ λ e. put_user_stays C T (f u) n (named u ∙ named_there (λ (x : User). x.name) n C.users u e)
    ] refl

-- DROP TABLE, and DROP SECURITY POLICY
drop_table_stays : (C : Cat) (T : Tables) (m : List ℕ)
    → Stays C T (done (record (drop_table m C) { users = map (without_grant m) C.users }) (without (is_version m) T) (keys.Table m ∷ keys.Rows m ∷ map user_key (filter (has_grant_on m) C.users)))
drop_table_stays C T m = done_stays C _ T _ _ (λ n h. mapped_there (without_grant m) (λ u. refl) n C.users h) at
  where
    at : (k : Key) → has_key k (keys.Table m ∷ keys.Rows m ∷ map user_key (filter (has_grant_on m) C.users)) ≡ false
        → SameRecord C (record (drop_table m C) { users = map (without_grant m) C.users }) k × SameRows T (without (is_version m) T) k
    at (keys.Table n) h = (without_other (λ (x : Table). x.name) m n C.tables (turned n m (or_left _ _ h)), tt)
    at (keys.Rows n) h = (tt, without_other (λ (x : Version). x.name) m n T (turned n m (or_left _ _ (or_right false _ h))))
    at (keys.Policy n) h = (refl, tt)
    at (keys.Component n) h = (refl, tt)
    at (keys.User n) h = (mapped_stays (without_grant m) (has_grant_on m) (λ u. refl) (λ u e. ap (λ gs. record u { privileges = gs }) (kept_all (is_grant_on m) u.privileges e)) n C.users h, tt)

drop_policy_stays : (C : Cat) (T : Tables) (m : List ℕ)
    → Stays C T (done (record (drop_policy m C) { users = map (without_holding m) C.users }) T (keys.Policy m ∷ map user_key (filter (has_holding_of m) C.users)))
drop_policy_stays C T m = done_stays C _ T _ _ (λ n h. mapped_there (without_holding m) (λ u. refl) n C.users h) at
  where
    at : (k : Key) → has_key k (keys.Policy m ∷ map user_key (filter (has_holding_of m) C.users)) ≡ false
        → SameRecord C (record (drop_policy m C) { users = map (without_holding m) C.users }) k × SameRows T T k
    at (keys.Table n) h = (refl, tt)
    at (keys.Rows n) h = (tt, refl)
    at (keys.Policy n) h = (without_other (λ (x : Policy). x.name) m n C.policies (turned n m (or_left _ _ h)), tt)
    at (keys.Component n) h = (refl, tt)
    at (keys.User n) h = (mapped_stays (without_holding m) (has_holding_of m) (λ u. refl) (λ u e. ap (λ hs. record u { held = hs }) (kept_all (is_holding_of m) u.held e)) n C.users h, tt)

-- ---- statements without lines of their own

grant_to_stays : (C : Cat) (T : Tables) (t : Table) (ps : List Privilege) (to : Grantee) → Stays C T (grant_to C T t ps to)
grant_to_stays C T t ps (grantees.User n) = grants_stay C T n (with_user_privileges true ps t.name) (λ u. refl)
grant_to_stays C T t ps grantees.Public = alters_stays C T (with_public true ps t)

revoke_from_stays : (C : Cat) (T : Tables) (t : Table) (ps : List Privilege) (to : Grantee) → Stays C T (revoke_from C T t ps to)
revoke_from_stays C T t ps (grantees.User n) = revokes_stay C T n (with_user_privileges false ps t.name) (λ u. refl)
revoke_from_stays C T t ps grantees.Public = alters_stays C T (with_public false ps t)

with_role_name : (n : List ℕ) (u : User) → (with_role n u).name ≡ u.name
with_role_name n u =
    elim (has_role_of n u) as (λ b. (cond b u (record u { roles = u.roles ++ n ∷ [] })).name ≡ u.name) [ true ↦ refl | false ↦ refl ]

-- ---- each statement

create_table_stays : (C : Cat) (T : Tables) (user : List ℕ) (n : List ℕ) (es : List Element) (policy : Option (List ℕ)) → Stays C T (create_table C T user n es policy)
create_table_stays C T user n es policy =
    test_stays C T (when (is_some (table_named C n)) (refusals.Exists n)) _ (
    test_stays C T (when (nat_le 64 (length C.tables)) (refusals.Limit limits.Tables 64)) _ (
    test_stays C T (when (nat_lt 64 (length (columns_in es))) (refusals.Limit limits.Columns 64)) _ (
    test_stays C T (columns_refusal [] (columns_in es)) _ (
    test_stays C T (each_passes (key_refusal (columns_in es)) (keys_in es)) _ (
    test_stays C T (policy_refusal C policy) _ (
    test_stays C T (flaws_refusal (is_some policy) false false es (columns_in es)) _ (
    test_stays C T (each_passes (λ d. secured_refusal (policy_of C policy) d.secured) (columns_in es)) _ (
    rows_stay C T (new_table user n es policy) (record { name = n; rows = [] }) refl))))))))

drop_table_of_stays : (C : Cat) (T : Tables) (user : List ℕ) (n : List ℕ) → Stays C T (drop_table_of C T user n)
drop_table_of_stays C T user n =
    bind_stays C T (owner C user n) _ (λ t.
    test_stays C T (in_use n (option_map stored_name (user_of_table C n))) _ (
    drop_table_stays C T n))

add_column_stays : (C : Cat) (T : Tables) (user : List ℕ) (n : List ℕ) (column : List ℕ) (ty : PlainType) → Stays C T (add_column C T user n column ty)
add_column_stays C T user n column ty =
    bind_stays C T (owner C user n) _ (λ t.
    test_stays C T (when (is_some (column_named t column)) (refusals.Exists column)) _ (
    test_stays C T (when (nat_le 64 (length t.columns)) (refusals.Limit limits.Columns 64)) _ (
    test_stays C T (width_refusal ty) _ (
    test_stays C T (when (nat_lt 131072 (length (rows_of n T) * (length t.columns + 1))) (refusals.Limit limits.Cells 131072)) _ (
    rows_stay C T (record t { columns = t.columns ++ plain_column column ty ∷ [] }) (record { name = t.name; rows = map with_null (rows_of n T) }) refl)))))

add_policy_stays : (C : Cat) (T : Tables) (user : List ℕ) (n : List ℕ) (policy : List ℕ) → Stays C T (add_policy C T user n policy)
add_policy_stays C T user n policy =
    bind_stays C T (owner C user n) _ (λ t.
    test_stays C T (exists_already t.policy) _ (
    bind_stays C T (the_policy C policy) _ (λ p.
    alters_stays C T (record t { policy = Some policy }))))

secure_column_stays : (C : Cat) (T : Tables) (user : List ℕ) (n : List ℕ) (column : List ℕ) (label : List ℕ) → Stays C T (secure_column C T user n column label)
secure_column_stays C T user n column label =
    bind_stays C T (owner C user n) _ (λ t.
    bind_stays C T (found column (column_named t column)) _ (λ c.
    test_stays C T (when (is_none t.policy) (refusals.BadTable column flaws.NoPolicy)) _ (
    test_stays C T (when (is_label_type c.ty) (refusals.BadTable column flaws.LabelKey)) _ (
    test_stays C T (secured_refusal (policy_of C t.policy) (Some label)) _ (
    alters_stays C T (record t { columns = change_column (secure (Some label)) column t.columns }))))))

unsecure_column_stays : (C : Cat) (T : Tables) (user : List ℕ) (n : List ℕ) (column : List ℕ) → Stays C T (unsecure_column C T user n column)
unsecure_column_stays C T user n column =
    bind_stays C T (owner C user n) _ (λ t.
    bind_stays C T (found column (column_named t column)) _ (λ c.
    alters_stays C T (record t { columns = change_column (secure None) column t.columns })))

activate_stays : (C : Cat) (T : Tables) (user : List ℕ) (n : List ℕ) (first : Activation) (second : Option Activation) → Stays C T (activate C T user n first second)
activate_stays C T user n first second =
    test_stays C T (secadm C user) _ (
    bind_stays C T (the_table C n) _ (λ t.
    alters_stays C T (with_acts first second t)))

create_permission_stays : (K : StoredRules) (C : Cat) (T : Tables) (user : List ℕ) (d : PermissionDef) → Stays C T (create_permission K C T user d)
create_permission_stays K C T user d =
    test_stays C T (secadm C user) _ (
    bind_stays C T (the_table C d.on.table) _ (λ t.
    test_stays C T (when (list_any (takes_permission_name d) C.tables) (refusals.Exists d.name)) _ (
    test_stays C T (K.condition_names C d.on d.condition) _ (
    test_stays C T (source_refusal C d.name t.name (in_cond d.condition)) _ (
    test_stays C T (K.condition_types C d.on d.condition) _ (
    alters_stays C T (with_permission (new_permission K C d) t)))))))

create_mask_stays : (K : StoredRules) (C : Cat) (T : Tables) (user : List ℕ) (d : MaskDef) → Stays C T (create_mask K C T user d)
create_mask_stays K C T user d =
    test_stays C T (secadm C user) _ (
    bind_stays C T (the_table C d.on.table) _ (λ t.
    bind_stays C T (found d.column (position (is_column d.column) t.columns)) _ (λ column.
    test_stays C T (when (list_any (takes_mask_name d column) C.tables) (refusals.Exists d.name)) _ (
    test_stays C T (exists_already (other_mask d.name column t)) _ (
    test_stays C T (K.mask_names C d.on d.value) _ (
    test_stays C T (source_refusal C d.name t.name (in_expr d.value)) _ (
    test_stays C T (K.mask_types C d.on d.column d.value) _ (
    alters_stays C T (with_mask (new_mask K C column d) t)))))))))

switch_permission_stays : (C : Cat) (T : Tables) (user : List ℕ) (n : List ℕ) (s : Switch) → Stays C T (switch_permission C T user n s)
switch_permission_stays C T user n s =
    test_stays C T (secadm C user) _ (
    bind_stays C T (found n (find (has_permission n) C.tables)) _ (λ t.
    alters_stays C T (record t { permissions = map (λ p. if is_permission n p then record p { enabled = is_enabled s } else p) t.permissions })))

switch_mask_stays : (C : Cat) (T : Tables) (user : List ℕ) (n : List ℕ) (s : Switch) → Stays C T (switch_mask C T user n s)
switch_mask_stays C T user n s =
    test_stays C T (secadm C user) _ (
    bind_stays C T (found n (find (has_mask n) C.tables)) _ (λ t.
    alters_stays C T (record t { masks = map (λ m. if is_mask n m then record m { enabled = is_enabled s } else m) t.masks })))

drop_permission_stays : (C : Cat) (T : Tables) (user : List ℕ) (n : List ℕ) → Stays C T (drop_permission C T user n)
drop_permission_stays C T user n =
    test_stays C T (secadm C user) _ (
    bind_stays C T (found n (find (has_permission n) C.tables)) _ (λ t.
    alters_stays C T (record t { permissions = without (is_permission n) t.permissions })))

drop_mask_stays : (C : Cat) (T : Tables) (user : List ℕ) (n : List ℕ) → Stays C T (drop_mask C T user n)
drop_mask_stays C T user n =
    test_stays C T (secadm C user) _ (
    bind_stays C T (found n (find (has_mask n) C.tables)) _ (λ t.
    alters_stays C T (record t { masks = without (is_mask n) t.masks })))

create_component_stays : (C : Cat) (T : Tables) (user : List ℕ) (n : List ℕ) (d : ComponentDef) → Stays C T (create_component C T user n d)
create_component_stays C T user n d =
    test_stays C T (secadm C user) _ (
    test_stays C T (when (is_some (component_named C n)) (refusals.Exists n)) _ (
    bind_stays C T (with_elements 0 (empty_component (kind_of_definition d)) (elements_of d)) _ (λ c.
    put_component_stays C T (record { name = n; definition = c }))))

drop_component_of_stays : (C : Cat) (T : Tables) (user : List ℕ) (n : List ℕ) → Stays C T (drop_component_of C T user n)
drop_component_of_stays C T user n =
    test_stays C T (secadm C user) _ (
    bind_stays C T (found n (component_named C n)) _ (λ c.
    test_stays C T (in_use n (option_map policy_name (find (has_component n) C.policies))) _ (
    drop_component_stays C T n)))

create_policy_stays : (C : Cat) (T : Tables) (user : List ℕ) (d : PolicyDef) → Stays C T (create_policy C T user d)
create_policy_stays C T user d =
    test_stays C T (secadm C user) _ (
    test_stays C T (when (is_some (policy_named C d.name)) (refusals.Exists d.name)) _ (
    test_stays C T (when (nat_lt 16 (length d.components)) (refusals.Limit limits.Components 16)) _ (
    test_stays C T (components_refusal C [] d.components) _ (
    put_policy_stays C T (new_policy C d)))))

drop_policy_of_stays : (C : Cat) (T : Tables) (user : List ℕ) (n : List ℕ) → Stays C T (drop_policy_of C T user n)
drop_policy_of_stays C T user n =
    test_stays C T (secadm C user) _ (
    bind_stays C T (the_policy C n) _ (λ p.
    test_stays C T (in_use n (option_map table_name (find (λ t. has_policy n t || calls_policy n t) C.tables))) _ (
    test_stays C T (in_use n (first_label p.labels)) _ (
    drop_policy_stays C T n))))

create_label_stays : (C : Cat) (T : Tables) (user : List ℕ) (l : LabelName) (xs : List LabelPart) → Stays C T (create_label C T user l xs)
create_label_stays C T user l xs =
    test_stays C T (secadm C user) _ (
    bind_stays C T (the_policy C l.policy) _ (λ p.
    test_stays C T (when (is_some (label_named p l.label)) (refusals.Exists l.label)) _ (
    test_stays C T (parts_refusal p [] xs) _ (
    put_policy_stays C T (record p { labels = p.labels ++ record { name = l.label; parts = record { items = label_parts p xs } } ∷ [] })))))

drop_label_stays : (C : Cat) (T : Tables) (user : List ℕ) (l : LabelName) → Stays C T (drop_label C T user l)
drop_label_stays C T user l =
    test_stays C T (secadm C user) _ (
    bind_stays C T (the_policy C l.policy) _ (λ p.
    bind_stays C T (the_label p l.label) _ (λ x.
    test_stays C T (in_use l.label (option_map user_name (find (holds l) C.users))) _ (
    test_stays C T (in_use l.label (option_map table_name (find (λ t. secures_with l t || calls_label l.policy l.label t) C.tables))) _ (
    put_policy_stays C T (record p { labels = without (is_label l.label) p.labels }))))))

grant_label_stays : (C : Cat) (T : Tables) (user : List ℕ) (l : LabelName) (n : List ℕ) (access : Access) → Stays C T (grant_label C T user l n access)
grant_label_stays C T user l n access =
    test_stays C T (secadm C user) _ (
    bind_stays C T (the_policy C l.policy) _ (λ p.
    bind_stays C T (the_label p l.label) _ (λ x.
    let h : Holding = holding_of l.policy (user_or_new C n) in
    test_stays C T (held_refusal (reads access) l.label h.read) _ (
    test_stays C T (held_refusal (writes access) l.label h.write) _ (
    test_stays C T (mismatch p (with_label access l.label h)) _ (
    grants_stay C T n (with_holding (with_label access l.label h)) (λ u. refl)))))))

revoke_label_stays : (C : Cat) (T : Tables) (user : List ℕ) (l : LabelName) (n : List ℕ) → Stays C T (revoke_label C T user l n)
revoke_label_stays C T user l n =
    test_stays C T (secadm C user) _ (
    bind_stays C T (the_policy C l.policy) _ (λ p.
    bind_stays C T (the_label p l.label) _ (λ x.
    let h : Holding = holding_of l.policy (user_or_new C n) in
    test_stays C T (when (not (holds_label l.label h)) (refusals.Unknown l.label)) _ (
    revokes_stay C T n (with_holding (without_label l.label h)) (λ u. refl)))))

grant_exemption_stays : (C : Cat) (T : Tables) (user : List ℕ) (rule : Exempted) (policy : List ℕ) (n : List ℕ) → Stays C T (grant_exemption C T user rule policy n)
grant_exemption_stays C T user rule policy n =
    test_stays C T (secadm C user) _ (
    bind_stays C T (the_policy C policy) _ (λ p.
    grants_stay C T n (exempting with_exemptions rule policy) (λ u. refl)))

revoke_exemption_stays : (C : Cat) (T : Tables) (user : List ℕ) (rule : Exempted) (policy : List ℕ) (n : List ℕ) → Stays C T (revoke_exemption C T user rule policy n)
revoke_exemption_stays C T user rule policy n =
    test_stays C T (secadm C user) _ (
    bind_stays C T (the_policy C policy) _ (λ p.
    revokes_stay C T n (exempting without_exemptions rule policy) (λ u. refl)))

create_role_stays : (C : Cat) (T : Tables) (user : List ℕ) (n : List ℕ) → Stays C T (create_role C T user n)
create_role_stays C T user n =
    test_stays C T (secadm C user) _ (
    test_stays C T (when (has_role C n) (refusals.Exists n)) _ (
    roles_stay C (put_role (record { name = n }) C) T refl refl refl refl))

drop_role_of_stays : (C : Cat) (T : Tables) (user : List ℕ) (n : List ℕ) → Stays C T (drop_role_of C T user n)
drop_role_of_stays C T user n =
    test_stays C T (secadm C user) _ (
    test_stays C T (the_role C n) _ (
    test_stays C T (in_use n (option_map user_name (find (has_role_of n) C.users))) _ (
    roles_stay C (drop_role n C) T refl refl refl refl)))

grant_role_stays : (C : Cat) (T : Tables) (user : List ℕ) (role : List ℕ) (n : List ℕ) → Stays C T (grant_role C T user role n)
grant_role_stays C T user role n =
    test_stays C T (secadm C user) _ (
    test_stays C T (the_role C role) _ (
    grants_stay C T n (with_role role) (with_role_name role)))

revoke_role_stays : (C : Cat) (T : Tables) (user : List ℕ) (role : List ℕ) (n : List ℕ) → Stays C T (revoke_role C T user role n)
revoke_role_stays C T user role n =
    test_stays C T (secadm C user) _ (
    test_stays C T (the_role C role) _ (
    revokes_stay C T n (without_role role) (λ u. refl)))

grant_secadm_stays : (C : Cat) (T : Tables) (user : List ℕ) (n : List ℕ) → Stays C T (grant_secadm C T user n)
grant_secadm_stays C T user n =
    test_stays C T (secadm C user) _ (
    grants_stay C T n (with_secadm true) (λ u. refl))

revoke_secadm_stays : (C : Cat) (T : Tables) (user : List ℕ) (n : List ℕ) → Stays C T (revoke_secadm C T user n)
revoke_secadm_stays C T user n =
    test_stays C T (secadm C user) _ (
    revokes_stay C T n (with_secadm false) (λ u. refl))

grant_privileges_stays : (C : Cat) (T : Tables) (user : List ℕ) (ps : List Privilege) (n : List ℕ) (to : Grantee) → Stays C T (grant_privileges C T user ps n to)
grant_privileges_stays C T user ps n to =
    bind_stays C T (owner C user n) _ (λ t.
    grant_to_stays C T t ps to)

revoke_privileges_stays : (C : Cat) (T : Tables) (user : List ℕ) (ps : List Privilege) (n : List ℕ) (from : Grantee) → Stays C T (revoke_privileges C T user ps n from)
revoke_privileges_stays C T user ps n from =
    bind_stays C T (owner C user n) _ (λ t.
    revoke_from_stays C T t ps from)

attempt_stays : (K : StoredRules) (C : Cat) (T : Tables) (user : List ℕ) (s : Change) → Stays C T (attempt K C T user s)
attempt_stays K C T user (changes.CreateTable n es policy) = create_table_stays C T user n es policy
attempt_stays K C T user (changes.DropTable n) = drop_table_of_stays C T user n
attempt_stays K C T user (changes.AddColumn n column ty) = add_column_stays C T user n column ty
attempt_stays K C T user (changes.AddPolicy n policy) = add_policy_stays C T user n policy
attempt_stays K C T user (changes.SecureColumn n column label) = secure_column_stays C T user n column label
attempt_stays K C T user (changes.UnsecureColumn n column) = unsecure_column_stays C T user n column
attempt_stays K C T user (changes.Activate n first second) = activate_stays C T user n first second
attempt_stays K C T user (changes.CreatePermission d) = create_permission_stays K C T user d
attempt_stays K C T user (changes.CreateMask d) = create_mask_stays K C T user d
attempt_stays K C T user (changes.SwitchPermission n s) = switch_permission_stays C T user n s
attempt_stays K C T user (changes.SwitchMask n s) = switch_mask_stays C T user n s
attempt_stays K C T user (changes.DropPermission n) = drop_permission_stays C T user n
attempt_stays K C T user (changes.DropMask n) = drop_mask_stays C T user n
attempt_stays K C T user (changes.CreateComponent n d) = create_component_stays C T user n d
attempt_stays K C T user (changes.DropComponent n) = drop_component_of_stays C T user n
attempt_stays K C T user (changes.CreatePolicy d) = create_policy_stays C T user d
attempt_stays K C T user (changes.DropPolicy n) = drop_policy_of_stays C T user n
attempt_stays K C T user (changes.CreateLabel l parts) = create_label_stays C T user l parts
attempt_stays K C T user (changes.DropLabel l) = drop_label_stays C T user l
attempt_stays K C T user (changes.GrantLabel l n access) = grant_label_stays C T user l n access
attempt_stays K C T user (changes.RevokeLabel l n) = revoke_label_stays C T user l n
attempt_stays K C T user (changes.GrantExemption rule policy n) = grant_exemption_stays C T user rule policy n
attempt_stays K C T user (changes.RevokeExemption rule policy n) = revoke_exemption_stays C T user rule policy n
attempt_stays K C T user (changes.CreateRole n) = create_role_stays C T user n
attempt_stays K C T user (changes.DropRole n) = drop_role_of_stays C T user n
attempt_stays K C T user (changes.GrantRole role n) = grant_role_stays C T user role n
attempt_stays K C T user (changes.RevokeRole role n) = revoke_role_stays C T user role n
attempt_stays K C T user (changes.GrantSecadm n) = grant_secadm_stays C T user n
attempt_stays K C T user (changes.RevokeSecadm n) = revoke_secadm_stays C T user n
attempt_stays K C T user (changes.GrantPrivileges privileges n to) = grant_privileges_stays C T user privileges n to
attempt_stays K C T user (changes.RevokePrivileges privileges n from) = revoke_privileges_stays C T user privileges n from

settled_stays : (C : Cat) (T : Tables) (m : OrRefused Changed) → Stays C T m → (k : Key) → has_key k (settled C T m).touched ≡ false
    → SameRecord C (settled C T m).cat k × SameRows T (settled C T m).tables k
settled_stays C T (Ok d) h k u = h.stays d refl k u
settled_stays C T (Err r) h (keys.Table n) u = (refl, tt)
settled_stays C T (Err r) h (keys.Rows n) u = (tt, refl)
settled_stays C T (Err r) h (keys.Policy n) u = (refl, tt)
settled_stays C T (Err r) h (keys.Component n) u = (refl, tt)
settled_stays C T (Err r) h (keys.User n) u = (refl, tt)

pub untouched_stays : (K : StoredRules) → UntouchedStays K
untouched_stays K C T user s = settled_stays C T (attempt K C T user s) (attempt_stays K C T user s)

settled_users : (C : Cat) (T : Tables) (m : OrRefused Changed) → Stays C T m → (n : List ℕ) → is_some (user_named C n) ≡ true → is_some (user_named (settled C T m).cat n) ≡ true
settled_users C T (Ok d) h n there = h.users d refl n there
settled_users C T (Err r) h n there = there

pub users_stay : (K : StoredRules) → UsersStay K
users_stay K C T user s = settled_users C T (attempt K C T user s) (attempt_stays K C T user s)

-- A change of one user's record leaves a sound catalogue sound.
use Rattle.std.proofs.Common.{◌≡◌, refl, subst, ℕ, Bool, true, false, cond, not, ◌&&◌, List, [], ◌∷◌, ◌++◌, map, Option, Some, None, Ok, Err}
use Rattle.std.specs.Prelude.{find, filter, unwrap_or, slice_get}
use Rattle.std.specs.List.{AllByRecursion}
use Rattle.std.specs.Str.{bytes_eq}
use Rattle.std.proofs.lemmas.Slice.Eq.{bytes_eq-Decides}
use Rattle.lb_base.specs.declared.key.Key.{Key}
use Rattle.lb_base.specs.declared.key.Key.TheVariants as keys
use Rattle.lb_tree.specs.declared.query.Tab.{Tab}
use Rattle.lb_cat.specs.declared.catalog.ColumnRec.{ColumnRec}
use Rattle.lb_cat.specs.declared.catalog.PermissionRec.{PermissionRec}
use Rattle.lb_cat.specs.declared.catalog.MaskRec.{MaskRec}
use Rattle.lb_cat.specs.declared.refusal.Refusal.{Refusal}
use Rattle.lb_cat.specs.declared.refusal.Refusal.TheVariants as refusals
use Rattle.lb_rows.specs.Tables.{Tables}
use Rattle.lb_rows.specs.Lists.{put, without}
use Rattle.lb_cat.specs.Keys.{same_key, once}
use Rattle.lb_cat.specs.Catalog.{Cat, Table, User, is_user, no_user, is_among, has_role, put_user}
use Rattle.lb_names.specs.Mentions.{Mentions, table, in_cond, in_expr}
use Rattle.lb_alter.specs.ChangeGrant.{user_or_new, grants, revokes, taken_from, with_secadm, with_role, without_role, has_role_of, the_role, grant_secadm, revoke_secadm, grant_role, revoke_role}
use Rattle.lb_alter.specs.Deps.{deps_of, tables_for, policies_for, components_for}
use Rattle.lb_alter.specs.Frame.{SameRecord, SameOn}
use Rattle.lb_alter.specs.Labelled.{ColumnBelongs, LabelsBelong, HoldsLabels, HeldLabelsAreThere, HasItsShape}
use Rattle.lb_alter.specs.Named.{AreDifferent, are_different, TableNamesRecords, UserNamesRecords, HasRole, HasOneEntryEach, HasNoEmptyEntry, HasFoldedNames}
use Rattle.lb_alter.specs.Refusing.{Changed, ◌>>◌, when, secadm, done}
use Rattle.lb_cat.specs.OrRefused.{OrRefused}
use Rattle.lb_alter.specs.Sound.{IsSound}
use Rattle.lb_alter.specs.Steady.{IsSteady, stored_deps}
use Rattle.lb_alter.specs.Stored.{StoredRules}
use Rattle.lb_alter.specs.Valid.{IsValid, TypesAt, IsValidMask, StoresValid, called, KeepsRules, KeepsMaskRules}
use Rattle.lb_alter.proofs.Untouched.{or_left, or_right, turned}

-- ---- lists

module _ {A : Type 0} where
  pub all_put : (P : A → Type 0) (is : A → Bool) (r : A) (xs : List A) → AllByRecursion P xs → P r → AllByRecursion P (put is r xs)
  all_put P is r [] h p = (p, tt)
  all_put P is r (x ∷ xs) h p =
      elim (is x) as (λ b. AllByRecursion P (cond b (r ∷ xs) (x ∷ put is r xs))) [
        | true ↦ (p, h.1)
        | false ↦ (h.0, all_put P is r xs h.1 p)
      ]

  pub all_filter : (P : A → Type 0) (test : A → Bool) (xs : List A) → AllByRecursion P xs → AllByRecursion P (filter test xs)
  all_filter P test [] h = tt
  all_filter P test (x ∷ xs) h =
      elim (test x) as (λ b. AllByRecursion P (cond b (x ∷ filter test xs) (filter test xs))) [
        | true ↦ (h.0, all_filter P test xs h.1)
        | false ↦ all_filter P test xs h.1
      ]

  pub all_append : (P : A → Type 0) (xs ys : List A) → AllByRecursion P xs → AllByRecursion P ys → AllByRecursion P (xs ++ ys)
  all_append P [] ys h i = i
  all_append P (x ∷ xs) ys h i = (h.0, all_append P xs ys h.1 i)

  pub all_follow : (P Q : A → Type 0) → ((x : A) → P x → Q x) → (xs : List A) → AllByRecursion P xs → AllByRecursion Q xs
  all_follow P Q f [] h = tt
  all_follow P Q f (x ∷ xs) h = (f x h.0, all_follow P Q f xs h.1)

  pub all_found : (P : A → Type 0) (test : A → Bool) (xs : List A) (r : A) → AllByRecursion P xs → find test xs ≡ Some r → P r
  all_found P test [] r h e = absurd cc
  all_found P test (x ∷ xs) r h e =
      elim (test x) as (λ b. cond b (Some x) (find test xs) ≡ Some r → P r) [
        | true ↦ λ i. let is : x ≡ r = cc in subst P is h.0
        | false ↦ λ i. all_found P test xs r h.1 i
      ] e

  pub all_mapped_to : {B : Type 0} (P : B → Type 0) (f : A → B) → ((x : A) → P (f x)) → (xs : List A) → AllByRecursion P (map f xs)
  all_mapped_to P f h [] = tt
  all_mapped_to P f h (x ∷ xs) = (h x, all_mapped_to P f h xs)

pub and_left : (a b : Bool) → (a && b) ≡ true → a ≡ true
and_left true b h = refl
and_left false b h = h

pub and_right : (a b : Bool) → (a && b) ≡ true → b ≡ true
and_right true b h = h
and_right false b h = absurd cc

pub not_so : (a : Bool) → not a ≡ true → a ≡ false
not_so true h = absurd cc
not_so false h = refl

pub both : (a b : Bool) → a ≡ false → b ≡ true → (not a && b) ≡ true
both a b h i = rw (h, i) refl

module _ {R : Type 0} (name : R → List ℕ) (r : R) where
  pub among_put : (n : List ℕ) (xs : List R) → is_among (map name xs) n ≡ false → bytes_eq (name r) n ≡ false
      → is_among (map name (put (λ x. bytes_eq (name x) (name r)) r xs)) n ≡ false
  among_put n [] h f = rw f refl
  among_put n (x ∷ xs) h f =
      elim (bytes_eq (name x) (name r)) as (λ b. is_among (map name (cond b (r ∷ xs) (x ∷ put (λ y. bytes_eq (name y) (name r)) r xs))) n ≡ false) [
        | true ↦ rw f (or_right (bytes_eq (name x) n) (is_among (map name xs) n) h)
        | false ↦
            let off : bytes_eq (name x) n ≡ false = or_left (bytes_eq (name x) n) (is_among (map name xs) n) h in
            rw off (among_put n xs (or_right (bytes_eq (name x) n) (is_among (map name xs) n) h) f)
      ]

  -- names stay different where a record is put
  pub different_put : (xs : List R) → AreDifferent (map name xs) → AreDifferent (map name (put (λ x. bytes_eq (name x) (name r)) r xs))
  different_put [] h = refl
  different_put (x ∷ xs) h =
      elim (bytes_eq (name x) (name r)) as (λ b. bytes_eq (name x) (name r) ≡ b → are_different (map name (cond b (r ∷ xs) (x ∷ put (λ y. bytes_eq (name y) (name r)) r xs))) ≡ true) [
        | true ↦ λ e. subst (λ (n : List ℕ). (not (is_among (map name xs) n) && are_different (map name xs)) ≡ true) ((bytes_eq-Decides (name x) (name r)).0 e) h
        | false ↦ λ e. both _ _ (among_put (name x) xs (not_so _ (and_left _ _ h)) (turned (name x) (name r) e)) (different_put xs (and_right _ _ h))
      ] refl

-- ---- dependencies

pub once_all : (P : Key → Type 0) (ks : List Key) → AllByRecursion P ks → AllByRecursion P (once ks)
once_all P [] h = tt
once_all P (k ∷ ks) h = (h.0, all_filter P (λ x. not (same_key x k)) (once ks) (once_all P ks h.1))

-- dependencies are tables, policies and components
pub deps_all : (P : Key → Type 0) → ((n : List ℕ) → P (keys.Table n)) → ((n : List ℕ) → P (keys.Policy n)) → ((n : List ℕ) → P (keys.Component n))
    → (C : Cat) (ms : Mentions) → AllByRecursion P (deps_of C ms)
deps_all P t p c C ms = once_all P _
    (all_append P _ _ (all_mapped_to P (λ n. keys.Table n) t (tables_for C ms))
    (all_append P _ _ (all_mapped_to P (λ n. keys.Policy n) p (policies_for C ms)) (all_mapped_to P (λ n. keys.Component n) c (components_for C ms))))

-- ---- one user's record

module _ (K : StoredRules) (steady : IsSteady K) (C : Cat) where
  same_on : (u : User) (on : Tab) (ms : Mentions) → SameOn (stored_deps C on ms) C (put_user u C)
  same_on u on ms = deps_all (SameRecord C (put_user u C)) (λ n. refl) (λ n. refl) (λ n. refl) C (table on.table ∷ ms)

  valid_stays : (u : User) → HasFoldedNames C → (t : Table) (p : PermissionRec) → IsValid K C t p → IsValid K (put_user u C) t p
  valid_stays u f t p h =
      let r : KeepsRules K (put_user u C) (called t p.correlation) p.condition =
      steady.reads C (put_user u C) (called t p.correlation) p.condition f f (same_on u (called t p.correlation) (in_cond p.condition)) (record { names = h.names; types = h.types }) in
      record { names = r.names; types = r.types; qualified = h.qualified }

  types_stay : (u : User) → HasFoldedNames C → (t : Table) (m : MaskRec) (c : Option ColumnRec) → K.mask_names C (called t m.correlation) m.value ≡ None → TypesAt K C t m c
      → (K.mask_names (put_user u C) (called t m.correlation) m.value ≡ None) × TypesAt K (put_user u C) t m c
  types_stay u f t m None h i = absurd i
  types_stay u f t m (Some c) h i =
      let r : KeepsMaskRules K (put_user u C) (called t m.correlation) c.name m.value =
      steady.reads_mask C (put_user u C) (called t m.correlation) c.name m.value f f (same_on u (called t m.correlation) (in_expr m.value)) (record { names = h; types = i.0 }) in
      (r.names, (r.types, i.1))

  mask_stays : (u : User) → HasFoldedNames C → (t : Table) (m : MaskRec) → IsValidMask K C t m → IsValidMask K (put_user u C) t m
  mask_stays u f t m h =
      let r : (K.mask_names (put_user u C) (called t m.correlation) m.value ≡ None) × TypesAt K (put_user u C) t m (slice_get t.columns m.column) =
      types_stay u f t m (slice_get t.columns m.column) h.names h.types in
      record { names = r.0; types = r.1; qualified = h.qualified }

  stores_stay : (u : User) → HasFoldedNames C → (t : Table) → StoresValid K C t → StoresValid K (put_user u C) t
  stores_stay u f t h = record {
    permissions = all_follow (IsValid K C t) (IsValid K (put_user u C) t) (valid_stays u f t) t.permissions h.permissions;
    masks = all_follow (IsValidMask K C t) (IsValidMask K (put_user u C) t) (mask_stays u f t) t.masks h.masks;
  }

-- what soundness asks of a user's record
pub record UserIsSound (C : Cat) (u : User) : Type 0 where
  pub records : UserNamesRecords C u
  pub one : HasOneEntryEach u
  pub held : HeldLabelsAreThere C u
  pub entries : HasNoEmptyEntry u

pub holds_stay : (C : Cat) (u v : User) → HeldLabelsAreThere C v → HeldLabelsAreThere (put_user u C) v
holds_stay C u v h = all_follow (HoldsLabels C) (HoldsLabels (put_user u C)) (λ x i. record { read = i.read; write = i.write }) v.held h

pub names_stay : (C : Cat) (u v : User) → UserNamesRecords C v → UserNamesRecords (put_user u C) v
names_stay C u v h = record { roles = h.roles; granted = h.granted; held = h.held }

-- a user's record that is itself sound may be put
pub put_user_sound : (K : StoredRules) → IsSteady K → (C : Cat) (u : User) → UserIsSound C u → IsSound K C → IsSound K (put_user u C)
put_user_sound K steady C u h s = record {
  one_each = record {
    tables = s.one_each.tables;
    policies = s.one_each.policies;
    components = s.one_each.components;
    users = different_put (λ (x : User). x.name) u C.users s.one_each.users;
    roles = s.one_each.roles;
  };
  folded = s.folded;
  sources = s.sources;
  limits = record { tables = s.limits.tables; columns = s.limits.columns; policies = s.limits.policies; components = s.limits.components };
  records = record {
    tables = all_follow (TableNamesRecords C) (TableNamesRecords (put_user u C)) (λ t i. record { policy = i.policy; sources = i.sources; calls = i.calls }) C.tables s.records.tables;
    policies = s.records.policies;
    users = all_put (UserNamesRecords (put_user u C)) (is_user u.name) u C.users (all_follow (UserNamesRecords C) (UserNamesRecords (put_user u C)) (names_stay C u) C.users s.records.users) (names_stay C u u h.records);
  };
  columns = s.columns;
  label_columns = s.label_columns;
  names = record { stored = s.names.stored; labels = s.names.labels; users = all_put HasOneEntryEach (is_user u.name) u C.users s.names.users h.one };
  belonging = all_follow (LabelsBelong C) (LabelsBelong (put_user u C))
      (λ t i. all_follow (ColumnBelongs C t) (ColumnBelongs (put_user u C) t) (λ c j. record { label = j.label; secured = j.secured }) t.columns i) C.tables s.belonging;
  stored = all_follow (StoresValid K C) (StoresValid K (put_user u C)) (stores_stay K steady C u s.folded) C.tables s.stored;
  shapes = all_follow (HasItsShape C) (HasItsShape (put_user u C)) (λ p i. record { shape = i.shape; labels = i.labels }) C.policies s.shapes;
  held = all_put (HeldLabelsAreThere (put_user u C)) (is_user u.name) u C.users (all_follow (HeldLabelsAreThere C) (HeldLabelsAreThere (put_user u C)) (holds_stay C u) C.users s.held) (holds_stay C u u h.held);
  entries = all_put HasNoEmptyEntry (is_user u.name) u C.users s.entries h.entries;
}

-- the records of users are sound, and so is a new one
pub found_sound : (K : StoredRules) (C : Cat) (n : List ℕ) (u : User) → IsSound K C → find (is_user n) C.users ≡ Some u → UserIsSound C u
found_sound K C n u s e = record {
  records = all_found (UserNamesRecords C) (is_user n) C.users u s.records.users e;
  one = all_found HasOneEntryEach (is_user n) C.users u s.names.users e;
  held = all_found (HeldLabelsAreThere C) (is_user n) C.users u s.held e;
  entries = all_found HasNoEmptyEntry (is_user n) C.users u s.entries e;
}

pub user_sound : (K : StoredRules) (C : Cat) (n : List ℕ) → IsSound K C → UserIsSound C (user_or_new C n)
user_sound K C n s =
    elim (find (is_user n) C.users) as (λ o. find (is_user n) C.users ≡ o → UserIsSound C (unwrap_or o (no_user n))) [
      | None ↦ λ _. record { records = record { roles = tt; granted = tt; held = tt }; one = record { privileges = refl; held = refl }; held = tt; entries = record { privileges = tt; held = tt } }
      | Some u ↦ λ e. found_sound K C n u s e
    ] refl

-- ---- changes

-- an accepted statement leaves a sound catalogue
pub record LeavesSound (K : StoredRules) (m : OrRefused Changed) : Type 0 where
  pub sound : (d : Changed) → m ≡ Ok d → IsSound K d.cat

pub test_sound : (K : StoredRules) (o : Option Refusal) (rest : OrRefused Changed) → (o ≡ None → LeavesSound K rest) → LeavesSound K (o >> rest)
test_sound K None rest h = h refl
test_sound K (Some r) rest h = record { sound = λ d e. absurd cc }

pub done_sound : (K : StoredRules) (C : Cat) (T : Tables) (touched : List Key) → IsSound K C → LeavesSound K (done C T touched)
done_sound K C T touched s = record { sound = λ d e. subst (λ (x : OrRefused Changed). Of K x) e s }
  where
    Of : StoredRules → OrRefused Changed → Type 0
    Of K (Ok d) = IsSound K d.cat
    Of K (Err r) = Unit {0}

module _ (K : StoredRules) (steady : IsSteady K) (C : Cat) (T : Tables) (s : IsSound K C) where
  pub grants_sound : (n : List ℕ) (f : User → User) → ((u : User) → UserIsSound C u → UserIsSound C (f u)) → LeavesSound K (grants C T n f)
  grants_sound n f h = done_sound K (put_user (f (user_or_new C n)) C) T (keys.User n ∷ []) (put_user_sound K steady C (f (user_or_new C n)) (h (user_or_new C n) (user_sound K C n s)) s)

  pub revokes_sound : (n : List ℕ) (f : User → User) → ((u : User) → UserIsSound C u → UserIsSound C (f u)) → LeavesSound K (revokes C T n f)
  revokes_sound n f h =
      elim (find (is_user n) C.users) as (λ o. find (is_user n) C.users ≡ o → LeavesSound K (done (taken_from C o f) T (keys.User n ∷ []))) [
        | None ↦ λ _. done_sound K C T (keys.User n ∷ []) s
        | Some u ↦ λ e. done_sound K (put_user (f u) C) T (keys.User n ∷ []) (put_user_sound K steady C (f u) (h u (found_sound K C n u s e)) s)
      ] refl

  pub with_secadm_sound : (given : Bool) (u : User) → UserIsSound C u → UserIsSound C (with_secadm given u)
  with_secadm_sound given u h = record {
    records = record { roles = h.records.roles; granted = h.records.granted; held = h.records.held };
    one = record { privileges = h.one.privileges; held = h.one.held };
    held = h.held;
    entries = record { privileges = h.entries.privileges; held = h.entries.held };
  }

  with_roles_sound : (roles : List (List ℕ)) (u : User) → AllByRecursion (HasRole C) roles → UserIsSound C u → UserIsSound C (record u { roles = roles })
  with_roles_sound roles u r h = record {
    records = record { roles = r; granted = h.records.granted; held = h.records.held };
    one = record { privileges = h.one.privileges; held = h.one.held };
    held = h.held;
    entries = record { privileges = h.entries.privileges; held = h.entries.held };
  }

  with_role_sound : (n : List ℕ) → HasRole C n → (u : User) → UserIsSound C u → UserIsSound C (with_role n u)
  with_role_sound n r u h =
      elim (has_role_of n u) as (λ b. UserIsSound C (cond b u (record u { roles = u.roles ++ n ∷ [] }))) [
        | true ↦ h
        | false ↦ with_roles_sound (u.roles ++ n ∷ []) u (all_append (HasRole C) u.roles (n ∷ []) h.records.roles (r, tt)) h
      ]

  pub there : (b : Bool) (r : Refusal) → when (not b) r ≡ None → b ≡ true
  there true r h = refl
  there false r h = absurd cc

  pub grant_secadm_sound : (user n : List ℕ) → LeavesSound K (grant_secadm C T user n)
  grant_secadm_sound user n = test_sound K (secadm C user) _ (λ _. grants_sound n (with_secadm true) (with_secadm_sound true))

  pub revoke_secadm_sound : (user n : List ℕ) → LeavesSound K (revoke_secadm C T user n)
  revoke_secadm_sound user n = test_sound K (secadm C user) _ (λ _. revokes_sound n (with_secadm false) (with_secadm_sound false))

  pub grant_role_sound : (user role n : List ℕ) → LeavesSound K (grant_role C T user role n)
  grant_role_sound user role n =
      test_sound K (secadm C user) _ (λ _. test_sound K (the_role C role) _ (λ e. grants_sound n (with_role role) (with_role_sound role (there (has_role C role) (refusals.Unknown role) e))))

  pub revoke_role_sound : (user role n : List ℕ) → LeavesSound K (revoke_role C T user role n)
  revoke_role_sound user role n =
      test_sound K (secadm C user) _ (λ _. test_sound K (the_role C role) _
      (λ _. revokes_sound n (without_role role) (λ u h. with_roles_sound (without (bytes_eq role) u.roles) u (all_filter (HasRole C) (λ r. not (bytes_eq role r)) u.roles h.records.roles) h)))

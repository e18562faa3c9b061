-- Activation, privileges of all users, switched and dropped permissions and masks leave a sound catalogue sound.
use Rattle.std.proofs.Common.{◌≡◌, refl, sym, ap, subst, ◌∙◌, ℕ, Bool, true, false, cond, not, ◌||◌, List, [], ◌∷◌, ◌++◌, map, Option, Some, None}
use Rattle.std.specs.Prelude.{find, filter, ◌==◌}
use Rattle.std.specs.List.{AllByRecursion, list_any}
use Rattle.std.specs.Str.{bytes_eq}
use Rattle.lb_stmt.specs.declared.change.Activation.{Activation}
use Rattle.lb_stmt.specs.declared.change.ControlOf.{ControlOf}
use Rattle.lb_stmt.specs.declared.change.ControlOf.TheVariants as controls
use Rattle.lb_stmt.specs.declared.change.Switch.{Switch}
use Rattle.lb_stmt.specs.declared.change.Privilege.{Privilege}
use Rattle.lb_stmt.specs.declared.change.Grantee.{Grantee}
use Rattle.lb_stmt.specs.declared.change.Grantee.TheVariants as grantees
use Rattle.lb_cat.specs.declared.catalog.PermissionRec.{PermissionRec}
use Rattle.lb_cat.specs.declared.catalog.MaskRec.{MaskRec}
use Rattle.lb_rows.specs.Tables.{Tables}
use Rattle.lb_cat.specs.Catalog.{Cat, Table, table_named, is_permission, is_mask, is_among}
use Rattle.lb_cat.specs.Privileges.{with_privileges}
use Rattle.lb_alter.specs.ChangeControl.{with_control, with_act, with_acts, activate, is_enabled, has_permission, has_mask, switch_permission, switch_mask, drop_permission, drop_mask}
use Rattle.lb_alter.specs.ChangeGrant.{grant_to, revoke_from, grant_privileges, revoke_privileges, with_user_privileges}
use Rattle.lb_alter.specs.Columns.{IsPlace, has_mask_twice}
use Rattle.lb_alter.specs.Named.{AreDifferent, HasTable}
use Rattle.lb_alter.specs.Refusing.{secadm, alters}
use Rattle.lb_alter.specs.Sound.{IsSound}
use Rattle.lb_alter.specs.Steady.{IsSteady}
use Rattle.lb_alter.specs.Stored.{StoredRules}
use Rattle.lb_alter.specs.Valid.{IsValid, IsValidMask}
use Rattle.lb_alter.proofs.SoundGrants.{among_filter, different_filter, found_then, owner_then, table_there, with_user_privileges_sound}
use Rattle.lb_alter.proofs.SoundParts.{table_names, all_map}
use Rattle.lb_alter.proofs.SoundTables.{Always, all_always, itself, same_names, names_front, names_after, refitted, refits_old, refits_sound, retyped}
use Rattle.lb_alter.proofs.SoundUsers.{LeavesSound, test_sound, grants_sound, revokes_sound, all_filter, and_left, and_right, not_so}
use Rattle.lb_alter.proofs.Untouched.{or_left, or_right, turned, named_there}

-- ---- a table that was found otherwise than by its name

module _ {R : Type 0} (name : R → List ℕ) where
  pub is_other : (test : R → Bool) (n : List ℕ) (xs : List R) (r : R) → is_among (map name xs) n ≡ false → find test xs ≡ Some r → bytes_eq (name r) n ≡ false
  is_other test n [] r h e = absurd cc
  is_other test n (x ∷ xs) r h e =
      elim (test x) as (λ b. cond b (Some x) (find test xs) ≡ Some r → bytes_eq (name r) n ≡ false) [
        | true ↦ λ i. let is : x ≡ r = cc in subst (λ (y : R). bytes_eq (name y) n ≡ false) is (or_left _ _ h)
        | false ↦ λ i. is_other test n xs r (or_right (bytes_eq (name x) n) _ h) i
      ] e

  pub found_by_name : (test : R → Bool) (xs : List R) (r : R) → AreDifferent (map name xs) → find test xs ≡ Some r → find (λ x. bytes_eq (name x) (name r)) xs ≡ Some r
  found_by_name test [] r d e = absurd cc
  found_by_name test (x ∷ xs) r d e =
      elim (test x) as (λ b. cond b (Some x) (find test xs) ≡ Some r → cond (bytes_eq (name x) (name r)) (Some x) (find (λ y. bytes_eq (name y) (name r)) xs) ≡ Some r) [
        | true ↦ λ i.
            let is : x ≡ r = cc in
            subst (λ (y : R). cond (bytes_eq (name x) (name y)) (Some x) (find (λ z. bytes_eq (name z) (name y)) xs) ≡ Some y) is (rw (itself (name x)) refl)
        | false ↦ λ i.
            let off : bytes_eq (name x) (name r) ≡ false = turned (name r) (name x) (is_other test (name x) xs r (not_so _ (and_left _ _ d)) i) in
            rw off (found_by_name test xs r (and_right (not (is_among (map name xs) (name x))) _ d) i)
      ] e

pub by_own_name : (C : Cat) (n : List ℕ) (t : Table) → table_named C n ≡ Some t → table_named C t.name ≡ Some t
by_own_name C n t e = subst (λ (m : List ℕ). table_named C m ≡ Some t) (sym (named_there (λ (x : Table). x.name) n C.tables t e)) e

-- ---- switched permissions and masks

module _ {A : Type 0} (test : A → Bool) (f : A → A) where
  one : A → A
  one x = cond (test x) (f x) x

  pub all_changed : (P : A → Type 0) → ((x : A) → P x → P (f x)) → (xs : List A) → AllByRecursion P xs → AllByRecursion P (map (λ x. cond (test x) (f x) x) xs)
  all_changed P g xs h = all_map P P (λ x. cond (test x) (f x) x)
      (λ x i. elim (test x) as (λ b. P (cond b (f x) x)) [ true ↦ g x i | false ↦ i ]) xs h

  pub kept_by : {B : Type 0} (of : A → B) → ((x : A) → of (f x) ≡ of x) → (x : A) → of (cond (test x) (f x) x) ≡ of x
  kept_by of g x = elim (test x) as (λ b. of (cond b (f x) x) ≡ of x) [ true ↦ g x | false ↦ refl ]

  pub kept_map : {B : Type 0} (of : A → B) → ((x : A) → of (f x) ≡ of x) → (xs : List A) → map of (map (λ x. cond (test x) (f x) x) xs) ≡ map of xs
  kept_map of g [] = refl
  kept_map {B = B} of g (x ∷ xs) = rw (kept_by of g x) (ap (λ (rest : List B). of x ∷ rest) (kept_map of g xs))

  changed_column : (of : A → ℕ) → ((x : A) → of (f x) ≡ of x) → (c : ℕ) (xs : List A) → list_any (λ o. of o == c) (map (λ x. cond (test x) (f x) x) xs) ≡ list_any (λ o. of o == c) xs
  changed_column of g c [] = refl
  changed_column of g c (x ∷ xs) = rw (kept_by of g x) (ap (λ (b : Bool). (of x == c) || b) (changed_column of g c xs))

twice_changed : (test : MaskRec → Bool) (f : MaskRec → MaskRec) → ((m : MaskRec) → (f m).column ≡ m.column) → (ms : List MaskRec) → has_mask_twice (map (λ m. cond (test m) (f m) m) ms) ≡ has_mask_twice ms
twice_changed test f g [] = refl
twice_changed test f g (m ∷ ms) =
    ap (λ (c : ℕ). list_any (λ o. o.column == c) (map (λ x. cond (test x) (f x) x) ms) || has_mask_twice (map (λ x. cond (test x) (f x) x) ms)) (kept_by test f (λ (x : MaskRec). x.column) g m)
    ∙ ap (λ (b : Bool). b || has_mask_twice (map (λ x. cond (test x) (f x) x) ms)) (changed_column test f (λ (x : MaskRec). x.column) g m.column ms)
    ∙ ap (λ (b : Bool). list_any (λ o. o.column == m.column) ms || b) (twice_changed test f g ms)

-- a mask fewer
fewer_of_column : (test : MaskRec → Bool) (c : ℕ) (ms : List MaskRec) → list_any (λ o. o.column == c) ms ≡ false → list_any (λ o. o.column == c) (filter test ms) ≡ false
fewer_of_column test c [] h = refl
fewer_of_column test c (m ∷ ms) h =
    elim (test m) as (λ b. list_any (λ o. o.column == c) (cond b (m ∷ filter test ms) (filter test ms)) ≡ false) [
      | true ↦ let off : (m.column == c) ≡ false = or_left _ _ h in rw off (fewer_of_column test c ms (or_right (m.column == c) _ h))
      | false ↦ fewer_of_column test c ms (or_right (m.column == c) _ h)
    ]

fewer_twice : (test : MaskRec → Bool) (ms : List MaskRec) → has_mask_twice ms ≡ false → has_mask_twice (filter test ms) ≡ false
fewer_twice test [] h = refl
fewer_twice test (m ∷ ms) h =
    elim (test m) as (λ b. has_mask_twice (cond b (m ∷ filter test ms) (filter test ms)) ≡ false) [
      | true ↦
          let off : list_any (λ o. o.column == m.column) (filter test ms) ≡ false = fewer_of_column test m.column ms (or_left _ _ h) in
          rw off (fewer_twice test ms (or_right (list_any (λ o. o.column == m.column) ms) _ h))
      | false ↦ fewer_twice test ms (or_right (list_any (λ o. o.column == m.column) ms) _ h)
    ]

-- ---- statements

module _ (P : Table → Type 0) (t : Table) (f : (row column : Bool) → P (refitted t row column t.public t.permissions t.masks)) where
  control_case : (o : ControlOf) (active row column : Bool) → P (with_control o active (refitted t row column t.public t.permissions t.masks))
  control_case controls.Row active row column = f active column
  control_case controls.Column active row column = f row active

pub acts_case : (P : Table → Type 0) (t : Table) → ((row column : Bool) → P (refitted t row column t.public t.permissions t.masks)) → (first : Activation) (second : Option Activation) → P (with_acts first second t)
acts_case P t f first None = control_case P t f first.of first.activate t.row_control t.column_control
acts_case P t f first (Some second) = control_case (λ (x : Table). P (with_act second x)) t (control_case P t f second.of second.activate) first.of first.activate t.row_control t.column_control

module _ (K : StoredRules) (steady : IsSteady K) (C : Cat) (T : Tables) (s : IsSound K C) where
  pub activate_sound : (user n : List ℕ) (first : Activation) (second : Option Activation) → LeavesSound K (activate C T user n first second)
  activate_sound user n first second =
      test_sound K (secadm C user) _ (λ _. found_then K n (table_named C n) _
      (λ t e. acts_case (λ (u : Table). LeavesSound K (alters C T u)) t
      (λ row column. refits_sound K steady C T s t (by_own_name C n t e) row column t.public t.permissions t.masks (same_names Always (table_names t) (table_names t) refl) (λ h. refits_old K _ t h)) first second))

  public_sound : (given : Bool) (rs : List Privilege) (t : Table) → table_named C t.name ≡ Some t → LeavesSound K (alters C T (record t { public = with_privileges given rs t.public }))
  public_sound given rs t e =
      refits_sound K steady C T s t e t.row_control t.column_control (with_privileges given rs t.public) t.permissions t.masks (same_names Always (table_names t) (table_names t) refl) (λ h. refits_old K _ t h)

  grant_to_sound : (t : Table) (rs : List Privilege) (to : Grantee) → table_named C t.name ≡ Some t → HasTable C t.name → LeavesSound K (grant_to C T t rs to)
  grant_to_sound t rs (grantees.User n) e h = grants_sound K steady C T s n (with_user_privileges true rs t.name) (with_user_privileges_sound K steady C T s true rs t.name h)
  grant_to_sound t rs grantees.Public e h = public_sound true rs t e

  revoke_from_sound : (t : Table) (rs : List Privilege) (from : Grantee) → table_named C t.name ≡ Some t → HasTable C t.name → LeavesSound K (revoke_from C T t rs from)
  revoke_from_sound t rs (grantees.User n) e h = revokes_sound K steady C T s n (with_user_privileges false rs t.name) (with_user_privileges_sound K steady C T s false rs t.name h)
  revoke_from_sound t rs grantees.Public e h = public_sound false rs t e

  pub grant_privileges_sound : (user : List ℕ) (rs : List Privilege) (n : List ℕ) (to : Grantee) → LeavesSound K (grant_privileges C T user rs n to)
  grant_privileges_sound user rs n to = owner_then K C user n _ (λ t e. grant_to_sound t rs to (by_own_name C n t e) (table_there C n t e))

  pub revoke_privileges_sound : (user : List ℕ) (rs : List Privilege) (n : List ℕ) (from : Grantee) → LeavesSound K (revoke_privileges C T user rs n from)
  revoke_privileges_sound user rs n from = owner_then K C user n _ (λ t e. revoke_from_sound t rs from (by_own_name C n t e) (table_there C n t e))

  -- the table that has a permission or mask
  named_too : (test : Table → Bool) (t : Table) → find test C.tables ≡ Some t → table_named C t.name ≡ Some t
  named_too test t e = found_by_name (λ (x : Table). x.name) test C.tables t s.one_each.tables e

  pub switch_permission_sound : (user n : List ℕ) (w : Switch) → LeavesSound K (switch_permission C T user n w)
  switch_permission_sound user n w =
      let f : PermissionRec → PermissionRec = λ (p : PermissionRec). record p { enabled = is_enabled w } in
      test_sound K (secadm C user) _ (λ _. found_then K n (find (has_permission n) C.tables) _
      (λ t e. refits_sound K steady C T s t (named_too (has_permission n) t e) t.row_control t.column_control t.public (map (λ p. cond (is_permission n p) (f p) p) t.permissions) t.masks
      (same_names Always _ (table_names t) (ap (λ (ns : List (List ℕ)). ns ++ map (λ m. m.name) t.masks) (kept_map (is_permission n) f (λ (p : PermissionRec). p.name) (λ p. refl) t.permissions)))
      (λ h. record {
        permissions = all_changed (is_permission n) f _ (λ p i. i) t.permissions h.permissions;
        masks = h.masks;
        places = h.columns.masked;
        once = h.label_columns.masks;
        valid = all_changed (is_permission n) f (IsValid K _ t) (λ p i. record { names = i.names; types = i.types; qualified = i.qualified }) t.permissions h.stored.permissions;
        valid_masks = h.stored.masks;
      })))

  pub drop_permission_sound : (user n : List ℕ) → LeavesSound K (drop_permission C T user n)
  drop_permission_sound user n =
      let kept : PermissionRec → Bool = λ (p : PermissionRec). not (is_permission n p) in
      test_sound K (secadm C user) _ (λ _. found_then K n (find (has_permission n) C.tables) _
      (λ t e. refits_sound K steady C T s t (named_too (has_permission n) t e) t.row_control t.column_control t.public (filter kept t.permissions) t.masks
      (names_after Always (map (λ m. m.name) t.masks) _ (map (λ p. p.name) t.permissions) (all_always _)
      (record { among = λ m _ i. among_filter (λ (p : PermissionRec). p.name) kept m t.permissions i; different = different_filter (λ (p : PermissionRec). p.name) kept t.permissions }))
      (λ h. record {
        permissions = all_filter _ kept t.permissions h.permissions;
        masks = h.masks;
        places = h.columns.masked;
        once = h.label_columns.masks;
        valid = all_filter (IsValid K _ t) kept t.permissions h.stored.permissions;
        valid_masks = h.stored.masks;
      })))

  pub switch_mask_sound : (user n : List ℕ) (w : Switch) → LeavesSound K (switch_mask C T user n w)
  switch_mask_sound user n w =
      let f : MaskRec → MaskRec = λ (m : MaskRec). record m { enabled = is_enabled w } in
      test_sound K (secadm C user) _ (λ _. found_then K n (find (has_mask n) C.tables) _
      (λ t e. refits_sound K steady C T s t (named_too (has_mask n) t e) t.row_control t.column_control t.public t.permissions (map (λ m. cond (is_mask n m) (f m) m) t.masks)
      (same_names Always _ (table_names t) (ap (λ (ns : List (List ℕ)). map (λ p. p.name) t.permissions ++ ns) (kept_map (is_mask n) f (λ (m : MaskRec). m.name) (λ m. refl) t.masks)))
      (λ h. record {
        permissions = h.permissions;
        masks = all_changed (is_mask n) f _ (λ m i. i) t.masks h.masks;
        places = all_changed (is_mask n) f (λ (m : MaskRec). IsPlace t m.column) (λ m i. i) t.masks h.columns.masked;
        once = twice_changed (is_mask n) f (λ m. refl) t.masks ∙ h.label_columns.masks;
        valid = h.stored.permissions;
        valid_masks = all_changed (is_mask n) f (IsValidMask K _ t) (λ m i. record { names = i.names; types = retyped K _ t t m (f m) refl refl _ i.types; qualified = i.qualified }) t.masks h.stored.masks;
      })))

  pub drop_mask_sound : (user n : List ℕ) → LeavesSound K (drop_mask C T user n)
  drop_mask_sound user n =
      let kept : MaskRec → Bool = λ (m : MaskRec). not (is_mask n m) in
      test_sound K (secadm C user) _ (λ _. found_then K n (find (has_mask n) C.tables) _
      (λ t e. refits_sound K steady C T s t (named_too (has_mask n) t e) t.row_control t.column_control t.public t.permissions (filter kept t.masks)
      (names_front Always (map (λ p. p.name) t.permissions) _ (map (λ m. m.name) t.masks) (all_always _)
      (record { among = λ m _ i. among_filter (λ (x : MaskRec). x.name) kept m t.masks i; different = different_filter (λ (x : MaskRec). x.name) kept t.masks }))
      (λ h. record {
        permissions = h.permissions;
        masks = all_filter _ kept t.masks h.masks;
        places = all_filter (λ (m : MaskRec). IsPlace t m.column) kept t.masks h.columns.masked;
        once = fewer_twice kept t.masks h.label_columns.masks;
        valid = h.stored.permissions;
        valid_masks = all_filter (IsValidMask K _ t) kept t.masks h.stored.masks;
      })))

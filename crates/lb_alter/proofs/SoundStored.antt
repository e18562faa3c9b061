-- Permissions that are made or replaced leave a sound catalogue sound.
use Rattle.std.proofs.Common.{◌≡◌, refl, sym, subst, ℕ, Bool, true, false, cond, not, ◌&&◌, List, [], ◌∷◌, map, Option, Some, None}
use Rattle.std.specs.Prelude.{find}
use Rattle.std.specs.List.{AllByRecursion, list_any}
use Rattle.std.specs.Str.{bytes_eq}
use Rattle.lb_base.specs.declared.key.Key.TheVariants as keys
use Rattle.lb_stmt.specs.declared.change.PermissionDef.{PermissionDef}
use Rattle.lb_cat.specs.declared.catalog.PermissionRec.{PermissionRec}
use Rattle.lb_cat.specs.declared.catalog.MaskRec.{MaskRec}
use Rattle.lb_cat.specs.declared.refusal.Refusal.TheVariants as refusals
use Rattle.lb_rows.specs.Tables.{Tables}
use Rattle.lb_rows.specs.Lists.{put}
use Rattle.lb_cat.specs.Catalog.{Cat, Table, table_named, is_table, is_permission, put_table}
use Rattle.lb_names.specs.Mentions.{in_cond, tables_in, policies_in}
use Rattle.lb_alter.specs.ChangeControl.{has_permission, has_mask, source_refusal, takes_permission_name, new_permission, with_permission, create_permission, bad_source_of, is_bad_source}
use Rattle.lb_names.specs.Sights.{correlation}
use Rattle.lb_alter.specs.Named.{HasTable, HasPolicy, IsGoodSource}
use Rattle.lb_alter.specs.Refusing.{when, secadm}
use Rattle.lb_alter.specs.Sound.{IsSound}
use Rattle.lb_alter.specs.Steady.{IsSteady, IsWider}
use Rattle.lb_alter.specs.Stored.{StoredRules}
use Rattle.lb_alter.specs.Valid.{IsValid, called, KeepsRules}
use Rattle.lb_alter.proofs.SoundAlters.{by_own_name}
use Rattle.lb_alter.proofs.SoundGrants.{found_then}
use Rattle.lb_alter.proofs.SoundKinds.{is_new, none_found}
use Rattle.lb_alter.proofs.SoundLabels.{any_none}
use Rattle.lb_alter.proofs.SoundParts.{named_from, together, table_names, IsSource, Sources, all_both}
use Rattle.lb_alter.proofs.SoundTables.{there_put, Names, names_after, refitted, refitted_wider, some_column, refitted_sound, put_wider, sources_follow, stays_plain}
use Rattle.lb_alter.proofs.SoundUsers.{LeavesSound, test_sound, done_sound, all_put, all_follow, all_append, among_put, different_put}
use Rattle.lb_alter.proofs.Untouched.{or_left, or_right, turned, named_there}

module _ {R : Type 0} (name : R → List ℕ) (n : List ℕ) where
  -- no record has the name
  pub all_other : (xs : List R) → list_any (λ x. bytes_eq (name x) n) xs ≡ false → AllByRecursion (λ (m : List ℕ). bytes_eq n m ≡ false) (map name xs)
  all_other [] h = tt
  all_other (x ∷ xs) h = (turned (name x) n (or_left _ _ h), all_other xs (or_right (bytes_eq (name x) n) _ h))

pub not_both : (replace : Bool) (b has : Bool) → b ≡ false → (has && not (replace && b)) ≡ false → has ≡ false
not_both true true has h i = absurd cc
not_both true false true h i = absurd cc
not_both true false false h i = refl
not_both false b true h i = absurd cc
not_both false b false h i = refl

module _ (K : StoredRules) (steady : IsSteady K) (C : Cat) (T : Tables) (s : IsSound K C) (d : PermissionDef) (t : Table) (e : table_named C d.on.table ≡ Some t)
    (keeps : KeepsRules K C d.on d.condition) (taken : AllByRecursion (λ (x : Table). takes_permission_name d x ≡ false) C.tables) (own : takes_permission_name d t ≡ false)
    (good : AllByRecursion (IsGoodSource C t.name) (tables_in (in_cond d.condition))) where
  p : PermissionRec
  p = new_permission K C d

  abbrev pub Permitted : Table
  Permitted = refitted t t.row_control t.column_control t.public (put (is_permission d.name) (new_permission K C d) t.permissions) t.masks

  abbrev pub OtherName : List ℕ → Type 0
  OtherName n = bytes_eq d.name n ≡ false

  its_name : t.name ≡ d.on.table
  its_name = named_there (λ (x : Table). x.name) d.on.table C.tables t e

  others : (xs : List Table) → AllByRecursion (λ (x : Table). takes_permission_name d x ≡ false) xs → AllByRecursion (λ (x : Table). bytes_eq x.name t.name ≡ false → AllByRecursion OtherName (table_names x)) xs
  others [] h = tt
  others (x ∷ xs) h = (
    (λ off.
        let no : has_permission d.name x ≡ false =
        not_both d.replace (is_table d.on.table x) (has_permission d.name x) (subst (λ (m : List ℕ). bytes_eq x.name m ≡ false) its_name off) (or_right (has_mask d.name x) _ h.0) in
        all_append OtherName (map (λ y. y.name) x.permissions) (map (λ m. m.name) x.masks) (all_other (λ (y : PermissionRec). y.name) d.name x.permissions no) (all_other (λ (m : MaskRec). m.name) d.name x.masks (or_left _ _ h.0))),
    others xs h.1,
  )

  names : Names OtherName (table_names Permitted) (table_names t)
  names =
      names_after OtherName (map (λ m. m.name) t.masks) (map (λ y. y.name) (put (is_permission d.name) (new_permission K C d) t.permissions)) (map (λ y. y.name) t.permissions)
      (all_other (λ (m : MaskRec). m.name) d.name t.masks (or_left _ _ own))
      (record {
        among = λ n off h. among_put (λ (y : PermissionRec). y.name) (new_permission K C d) n t.permissions h off;
        different = different_put (λ (y : PermissionRec). y.name) (new_permission K C d) t.permissions;
      })

  abbrev pub Allowed : Cat
  Allowed = put_table Permitted C

  wider : IsWider t Permitted
  wider = refitted_wider t t.row_control t.column_control t.public (put (is_permission d.name) (new_permission K C d) t.permissions) t.masks (some_column K C s d.on.table t e)

  named_there_too : AllByRecursion (Sources Allowed t.name) (in_cond (K.qualified_condition C d.on d.condition))
  named_there_too =
      let h : AllByRecursion (HasTable C) (tables_in (in_cond d.condition)) × AllByRecursion (HasPolicy C) (policies_in (in_cond d.condition)) = steady.stands C d.on d.condition keeps in
      subst (AllByRecursion (Sources Allowed t.name)) (sym (steady.mentions C d.on d.condition))
      (all_follow (Sources C t.name) (Sources Allowed t.name)
      (sources_follow C Allowed (λ n z. there_put (λ (x : Table). x.name) Permitted C.tables n z) (λ n z. z) (stays_plain K steady C T s t Permitted (by_own_name C d.on.table t e) refl wider) t.name) (in_cond d.condition)
      (named_from (IsSource C t.name) (HasPolicy C) (in_cond d.condition) (all_both (HasTable C) (IsGoodSource C t.name) (tables_in (in_cond d.condition)) h.0 good) h.1))

  is_valid_there : IsValid K Allowed t (new_permission K C d)
  is_valid_there =
      let q : IsValid K C t (record { name = []; correlation = correlation d.on; condition = K.qualified_condition C d.on d.condition; enabled = true }) = steady.qualifies C t d.on d.condition e keeps in
      let w : KeepsRules K Allowed (called t (correlation d.on)) (K.qualified_condition C d.on d.condition) =
      steady.widens C t Permitted (called t (correlation d.on)) (K.qualified_condition C d.on d.condition) (by_own_name C d.on.table t e) wider q.qualified (record { names = q.names; types = q.types }) in
      record { names = w.names; types = w.types; qualified = q.qualified }

  permitted_sound : IsSound K Allowed
  permitted_sound =
      together K Allowed
      (put_wider K steady C T s t Permitted (by_own_name C d.on.table t e) refl
      wider OtherName (others C.tables taken) names
      (λ h. refitted_sound K Allowed t t.row_control t.column_control t.public (put (is_permission d.name) (new_permission K C d) t.permissions) t.masks
      (record {
        permissions = all_put (λ (y : PermissionRec). AllByRecursion (Sources Allowed t.name) (in_cond y.condition)) (is_permission d.name) (new_permission K C d) t.permissions h.permissions named_there_too;
        masks = h.masks;
        places = h.columns.masked;
        once = h.label_columns.masks;
        valid = all_put (IsValid K Allowed t) (is_permission d.name) (new_permission K C d) t.permissions h.stored.permissions is_valid_there;
        valid_masks = h.stored.masks;
      }) h))

pub no_bad : (n : List ℕ) (o : Option (List ℕ)) → bad_source_of n o ≡ None → o ≡ None
no_bad n None h = refl
no_bad n (Some m) h = absurd cc

-- what no table does the one that is found doesn't
pub none_does : {A : Type 0} (test is : A → Bool) (xs : List A) (x : A) → AllByRecursion (λ (y : A). test y ≡ false) xs → find is xs ≡ Some x → test x ≡ false
none_does test is [] x h e = absurd cc
none_does {A = A} test is (y ∷ ys) x h e =
    elim (is y) as (λ b. cond b (Some y) (find is ys) ≡ Some x → test x ≡ false) [
      | true ↦ λ i. let same : y ≡ x = cc in subst (λ (z : A). test z ≡ false) same h.0
      | false ↦ λ i. none_does test is ys x h.1 i
    ] e

module _ (K : StoredRules) (steady : IsSteady K) (C : Cat) (T : Tables) (s : IsSound K C) where
  pub create_permission_sound : (user : List ℕ) (d : PermissionDef) → LeavesSound K (create_permission K C T user d)
  create_permission_sound user d =
      test_sound K (secadm C user) _ (λ _. found_then K d.on.table (table_named C d.on.table) _ (λ t e. test_sound K (when (list_any (takes_permission_name d) C.tables) (refusals.Exists d.name)) _
      (λ free. test_sound K (K.condition_names C d.on d.condition) _ (λ names. test_sound K (source_refusal C d.name t.name (in_cond d.condition)) _ (λ good. test_sound K (K.condition_types C d.on d.condition) _
      (λ types.
      let taken : AllByRecursion (λ (x : Table). takes_permission_name d x ≡ false) C.tables = any_none (takes_permission_name d) C.tables (is_new _ _ free) in
      done_sound K (put_table (with_permission (new_permission K C d) t) C) T (keys.Table t.name ∷ [])
      (permitted_sound K steady C T s d t e (record { names = names; types = types }) taken (none_does (takes_permission_name d) (is_table d.on.table) C.tables t taken e) (none_found (is_bad_source C t.name) (tables_in (in_cond d.condition)) (no_bad d.name _ good)))))))))

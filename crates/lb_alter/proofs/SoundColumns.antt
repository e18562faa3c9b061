-- ALTER TABLE leaves a sound catalogue sound.
use Rattle.std.proofs.Common.{◌≡◌, refl, sym, ap, subst, ◌∙◌, ℕ, zero, suc, ◌+◌, ◌<◌, ◌≤◌, Bool, true, false, cond, not, ◌&&◌, ◌||◌, List, [], ◌∷◌, ◌++◌, map, length, Option, Some, None, is_some, is_none, arith}
use Rattle.std.specs.Prelude.{find, fold, take, drop, slice_get, nat_le, nat_lt, ◌*◌, negsuc, option_map, pos}
use Rattle.std.specs.List.{AllByRecursion, AllZip, list_any}
use Rattle.std.specs.Str.{bytes_eq}
use Rattle.std.proofs.lemmas.Bool.{leb-true}
use Rattle.std.proofs.lemmas.Slice.Eq.{bytes_eq-Decides}
use Rattle.lb_base.specs.declared.key.Key.TheVariants as keys
use Rattle.lb_base.specs.declared.key.Ty.{Ty}
use Rattle.lb_base.specs.declared.key.Ty.TheVariants as types
use Rattle.lb_stmt.specs.declared.change.PlainType.{PlainType}
use Rattle.lb_stmt.specs.declared.change.PlainType.TheVariants as plains
use Rattle.lb_cat.specs.declared.catalog.ColumnRec.{ColumnRec}
use Rattle.lb_cat.specs.declared.catalog.MaskRec.{MaskRec}
use Rattle.lb_cat.specs.declared.refusal.Refusal.{Refusal}
use Rattle.lb_cat.specs.declared.refusal.Refusal.TheVariants as refusals
use Rattle.lb_cat.specs.declared.refusal.Flaw.TheVariants as flaws
use Rattle.lb_cat.specs.declared.refusal.LimitOf.TheVariants as limits
use Rattle.lb_rows.specs.Tables.{Tables, put_version, rows_of}
use Rattle.lb_cat.specs.Catalog.{Cat, Table, table_named, policy_named, is_column, column_named, is_among, put_table}
use Rattle.lb_alter.specs.AlterTable.{plain_column, with_null, add_column, add_policy, secure, change_column, secure_column, unsecure_column}
use Rattle.lb_alter.specs.ChangeTable.{is_label_type, plain_type, width_refusal, has_label, policy_of, secured_refusal, is_label_column}
use Rattle.lb_alter.specs.Columns.{IsPlace, HasKeyColumn, IsUnsecuredLabel, is_label_at, IsNoLabelAt, HasFewColumns, IsWithinWidth, not_null_in}
use Rattle.lb_alter.specs.Labelled.{IsLabelHere, IsOfPolicy, ColumnBelongs}
use Rattle.lb_alter.specs.Named.{AreDifferent, are_different, IfGiven, HasPolicy}
use Rattle.lb_alter.specs.Refusing.{exists_already, when, alters}
use Rattle.lb_alter.specs.Sound.{IsSound}
use Rattle.lb_alter.specs.Steady.{IsSameColumn, IsWider, IsSteady}
use Rattle.lb_alter.specs.Stored.{StoredRules}
use Rattle.lb_alter.specs.Valid.{IsValid, TypesAt, IsValidMask, called}
use Rattle.lb_alter.proofs.SoundAlters.{by_own_name, kept_map, kept_by}
use Rattle.lb_alter.proofs.SoundGrants.{found_then, owner_then, is_there}
use Rattle.lb_alter.proofs.SoundKinds.{not_full}
use Rattle.lb_alter.proofs.SoundParts.{TableIsSound, table_names, all_map}
use Rattle.lb_alter.proofs.SoundTables.{Always, same_names, refitted, refitted_wider, some_column, retyped, put_wider_sound}
use Rattle.lb_alter.proofs.SoundUsers.{LeavesSound, test_sound, done_sound, all_follow, all_append, and_left, and_right, not_so, both}
use Rattle.lb_alter.proofs.Untouched.{or_left, or_right, turned}

pub plain_is : (ty : PlainType) → is_label_type (plain_type ty) ≡ false
plain_is plains.Int = refl
plain_is (plains.Text w) = refl
plain_is plains.Date = refl

-- a width that was tested is within its limits
pub width_fits : (ty : PlainType) → width_refusal ty ≡ None → IsWithinWidth (plain_type ty)
width_fits plains.Int h = tt
width_fits plains.Date h = tt
width_fits (plains.Text (negsuc w)) h = absurd cc
width_fits (plains.Text (pos w)) h =
    elim (nat_le 1 w) as (λ b. nat_le 1 w ≡ b → when (not (b && nat_le w 254)) (refusals.Limit limits.Width 254) ≡ None → (1 ≤ w) × (w ≤ 254)) [
      | false ↦ λ _ i. absurd cc
      | true ↦ λ low i.
          elim (nat_le w 254) as (λ b. nat_le w 254 ≡ b → when (not b) (refusals.Limit limits.Width 254) ≡ None → (1 ≤ w) × (w ≤ 254)) [
            | false ↦ λ _ j. absurd cc
            | true ↦ λ high j. (leb-true 1 w low, leb-true w 254 high)
          ] refl i
    ] refl h

-- ---- a column more

module _ (n : List ℕ) (ty : PlainType) where
  abbrev pub added : ColumnRec
  added = plain_column n ty

  zipped_more : (cs : List ColumnRec) → AllZip IsSameColumn cs (take (length cs) (cs ++ added ∷ []))
  zipped_more [] = tt
  zipped_more (c ∷ cs) = ((refl, refl), zipped_more cs)

  rest_more : (cs : List ColumnRec) → drop (length cs) (cs ++ added ∷ []) ≡ added ∷ []
  rest_more [] = refl
  rest_more (c ∷ cs) = rest_more cs

  among_more : (m : List ℕ) (cs : List ColumnRec) → is_among (map (λ c. c.name) cs) m ≡ false → bytes_eq n m ≡ false → is_among (map (λ c. c.name) (cs ++ added ∷ [])) m ≡ false
  among_more m [] h off = rw off refl
  among_more m (c ∷ cs) h off = let no : bytes_eq c.name m ≡ false = or_left _ _ h in rw no (among_more m cs (or_right (bytes_eq c.name m) _ h) off)

  different_more : (cs : List ColumnRec) → AreDifferent (map (λ c. c.name) cs) → is_some (find (is_column n) cs) ≡ false → AreDifferent (map (λ c. c.name) (cs ++ added ∷ []))
  different_more [] d h = refl
  different_more (c ∷ cs) d h =
      elim (bytes_eq c.name n) as (λ b. bytes_eq c.name n ≡ b → is_some (cond b (Some c) (find (is_column n) cs)) ≡ false → are_different (map (λ x. x.name) (c ∷ (cs ++ added ∷ []))) ≡ true) [
        | true ↦ λ _ (i : true ≡ false). absurd cc
        | false ↦ λ e i. both _ _ (among_more c.name cs (not_so _ (and_left _ _ d)) (turned c.name n e)) (different_more cs (and_right (not (is_among (map (λ x. x.name) cs) c.name)) _ d) i)
      ] refl h

  pub length_more : (cs : List ColumnRec) → length (cs ++ added ∷ []) ≡ suc (length cs)
  length_more [] = refl
  length_more (c ∷ cs) = ap (λ (k : ℕ). suc k) (length_more cs)

  place_more : (cs : List ColumnRec) (at : ℕ) → at < length cs → at < length (cs ++ added ∷ [])
  place_more cs at h = let l : length (cs ++ added ∷ []) ≡ suc (length cs) = length_more cs in omega (arith, h, l)

  null_more : (cs : List ColumnRec) (at : ℕ) → at < length cs → option_map not_null_in (slice_get cs at) ≡ Some true → option_map not_null_in (slice_get (cs ++ added ∷ []) at) ≡ Some true
  null_more [] at h e = absurd (omega (arith, h))
  null_more (c ∷ cs) zero h e = e
  null_more (c ∷ cs) (suc at) h e = let i : at < length cs = omega (arith, h) in null_more cs at i e

  few_more : (t : Table) → nat_le 64 (length t.columns) ≡ false → IsWithinWidth (plain_type ty) → HasFewColumns t → HasFewColumns (record t { columns = t.columns ++ added ∷ [] })
  few_more t room wide h =
      let l : length (t.columns ++ added ∷ []) ≡ suc (length t.columns) = length_more t.columns in
      let r : length t.columns < 64 = not_full 64 (length t.columns) room in
      record { some = omega (arith, l); few = omega (arith, l, r); widths = all_append (λ (c : ColumnRec). IsWithinWidth c.ty) t.columns (added ∷ []) h.widths (wide, tt) }

  key_more : (t : Table) (key : Option ℕ) → HasKeyColumn t key → HasKeyColumn (record t { columns = t.columns ++ added ∷ [] }) key
  key_more t None h = tt
  key_more t (Some at) h = record { place = place_more t.columns at h.place; not_null = null_more t.columns at h.place h.not_null }

  plus_none : (k : ℕ) → k + 0 ≡ k
  plus_none k = omega arith

  count_more : (a : ℕ) (cs : List ColumnRec) → fold (λ k c. k + cond (is_label_column c) 1 0) a (cs ++ added ∷ []) ≡ fold (λ k c. k + cond (is_label_column c) 1 0) a cs
  count_more a [] = ap (λ (b : Bool). a + cond b 1 0) (plain_is ty) ∙ plus_none a
  count_more a (c ∷ cs) = count_more (a + cond (is_label_column c) 1 0) cs

  label_at_more : (cs : List ColumnRec) (at : ℕ) → is_label_at (cs ++ added ∷ []) at ≡ is_label_at cs at
  label_at_more [] zero = plain_is ty
  label_at_more [] (suc at) = refl
  label_at_more (c ∷ cs) zero = refl
  label_at_more (c ∷ cs) (suc at) = label_at_more cs at

  no_label_more : (t : Table) (key : Option ℕ) → IsNoLabelAt t key → IsNoLabelAt (record t { columns = t.columns ++ added ∷ [] }) key
  no_label_more t None h = tt
  no_label_more t (Some at) h = label_at_more t.columns at ∙ h

  types_more : (K : StoredRules) (D : Cat) (t : Table) (m : MaskRec) (cs : List ColumnRec) (at : ℕ) → TypesAt K D t m (slice_get cs at) → TypesAt K D (record t { columns = t.columns ++ added ∷ [] }) m (slice_get (cs ++ added ∷ []) at)
  types_more K D t m [] at h = absurd h
  types_more K D t m (c ∷ cs) zero h = (h.0, h.1)
  types_more K D t m (c ∷ cs) (suc at) h = types_more K D t m cs at h

  plain_of : (o : Option (List ℕ)) (y : PlainType) → IsOfPolicy o (plain_type y)
  plain_of o plains.Int = tt
  plain_of o (plains.Text w) = tt
  plain_of o plains.Date = tt

  not_secured : IsUnsecuredLabel added
  not_secured = ap (λ (b : Bool). b && false) (plain_is ty)

  wider_more : (t : Table) → 1 ≤ length t.columns → IsWider t (record t { columns = t.columns ++ added ∷ [] })
  wider_more t some = record { name = refl; some = some; more = added ∷ []; same = zipped_more t.columns; rest = rest_more t.columns; plain = ap (λ (b : Bool). b || false) (plain_is ty) }

  more_sound : (K : StoredRules) (D : Cat) (t : Table) → nat_le 64 (length t.columns) ≡ false → IsWithinWidth (plain_type ty) → is_some (find (is_column n) t.columns) ≡ false → TableIsSound K D t → TableIsSound K D (record t { columns = t.columns ++ added ∷ [] })
  more_sound K D t room wide new h =
      let u : Table = record t { columns = t.columns ++ added ∷ [] } in
      record {
        policy = h.policy;
        permissions = h.permissions;
        masks = h.masks;
        columns = record {
          names = different_more t.columns h.columns.names new;
          key = key_more t t.key h.columns.key;
          masked = all_follow (λ (m : MaskRec). IsPlace t m.column) (λ (m : MaskRec). IsPlace u m.column) (λ m i. place_more t.columns m.column i) t.masks h.columns.masked;
        };
        few = few_more t room wide h.few;
        label_columns = record {
          one = subst (λ (k : ℕ). k ≤ 1) (sym (count_more 0 t.columns)) h.label_columns.one;
          key = no_label_more t t.key h.label_columns.key;
          secured = all_append IsUnsecuredLabel t.columns (added ∷ []) h.label_columns.secured (not_secured, tt);
          masks = h.label_columns.masks;
        };
        belonging = all_append (ColumnBelongs D u) t.columns (added ∷ [])
            (all_follow (ColumnBelongs D t) (ColumnBelongs D u) (λ c i. record { label = i.label; secured = i.secured }) t.columns h.belonging) (record { label = plain_of t.policy ty; secured = tt }, tt);
        stored = record {
          permissions = all_follow (IsValid K D t) (IsValid K D u) (λ p i. record { names = i.names; types = i.types; qualified = i.qualified }) t.permissions h.stored.permissions;
          masks = all_follow (IsValidMask K D t) (IsValidMask K D u) (λ m i. record { names = i.names; types = types_more K D t m t.columns m.column i.types; qualified = i.qualified }) t.masks h.stored.masks;
        };
      }

pub none_already : (o : Option (List ℕ)) → exists_already o ≡ None → o ≡ None
none_already None h = refl
none_already (Some n) h = absurd cc

-- ---- a first policy

module _ (policy : List ℕ) where
  of_policy : (o : Option (List ℕ)) → o ≡ None → (ty : Ty) → IsOfPolicy o ty → IsOfPolicy (Some policy) ty
  of_policy o e types.Int h = tt
  of_policy o e (types.Text w) h = tt
  of_policy o e types.Date h = tt
  of_policy o e (types.Label p) h = let no : None ≡ Some p = sym e ∙ h in absurd cc

  none_secured : (D : Cat) (o : Option (List ℕ)) → o ≡ None → (secured : Option (List ℕ)) → IfGiven (λ l. has_label (policy_of D o) l ≡ true) secured → IfGiven (λ l. has_label (policy_of D (Some policy)) l ≡ true) secured
  none_secured D o e None h = tt
  none_secured D o e (Some l) h =
      let no : has_label (policy_of D None) l ≡ true = subst (λ (x : Option (List ℕ)). has_label (policy_of D x) l ≡ true) e h in
      let so : false ≡ true = no in
      absurd cc

module _ (K : StoredRules) (D : Cat) (t : Table) (policy : List ℕ) (none : t.policy ≡ None) (there : HasPolicy D policy) where
  with_policy_key : (key : Option ℕ) → HasKeyColumn t key → HasKeyColumn (record t { policy = Some policy }) key
  with_policy_key None h = tt
  with_policy_key (Some at) h = record { place = h.place; not_null = h.not_null }

  with_policy_sound : TableIsSound K D t → TableIsSound K D (record t { policy = Some policy })
  with_policy_sound h = record {
    policy = there;
    permissions = h.permissions;
    masks = h.masks;
    columns = record { names = h.columns.names; key = with_policy_key t.key h.columns.key; masked = h.columns.masked };
    few = record { some = h.few.some; few = h.few.few; widths = h.few.widths };
    label_columns = record { one = h.label_columns.one; key = h.label_columns.key; secured = h.label_columns.secured; masks = h.label_columns.masks };
    belonging = all_follow (ColumnBelongs D t) (ColumnBelongs D (record t { policy = Some policy }))
        (λ c i. record { label = of_policy policy t.policy none c.ty i.label; secured = none_secured policy D t.policy none c.secured i.secured }) t.columns h.belonging;
    stored = record {
      permissions = all_follow (IsValid K D t) (IsValid K D (record t { policy = Some policy })) (λ p i. record { names = i.names; types = i.types; qualified = i.qualified }) t.permissions h.stored.permissions;
      masks = all_follow (IsValidMask K D t) (IsValidMask K D (record t { policy = Some policy }))
          (λ m i. record { names = i.names; types = retyped K D t (record t { policy = Some policy }) m m refl refl (slice_get t.columns m.column) i.types; qualified = i.qualified }) t.masks h.stored.masks;
    };
  }

-- ---- a column otherwise secured

module _ (o : Option (List ℕ)) (n : List ℕ) where
  abbrev pub changed : ColumnRec → ColumnRec
  changed c = cond (is_column n c) (secure o c) c

  same_name : (c : ColumnRec) → (changed c).name ≡ c.name
  same_name c = kept_by (is_column n) (secure o) (λ (x : ColumnRec). x.name) (λ x. refl) c

  pub same_type : (c : ColumnRec) → (changed c).ty ≡ c.ty
  same_type c = kept_by (is_column n) (secure o) (λ (x : ColumnRec). x.ty) (λ x. refl) c

  same_names_of : (cs : List ColumnRec) → map (λ c. c.name) (map changed cs) ≡ map (λ c. c.name) cs
  same_names_of cs = kept_map (is_column n) (secure o) (λ (x : ColumnRec). x.name) (λ x. refl) cs

  same_length : (cs : List ColumnRec) → length (map changed cs) ≡ length cs
  same_length [] = refl
  same_length (c ∷ cs) = ap (λ (k : ℕ). suc k) (same_length cs)

  zipped : (cs : List ColumnRec) → AllZip IsSameColumn cs (take (length cs) (map changed cs))
  zipped [] = tt
  zipped (c ∷ cs) = ((same_name c, same_type c), zipped cs)

  plain : (cs : List ColumnRec) → list_any is_label_column (drop (length cs) (map changed cs)) ≡ false
  plain [] = refl
  plain (c ∷ cs) = plain cs

  same_count : (a : ℕ) (cs : List ColumnRec) → fold (λ k c. k + cond (is_label_column c) 1 0) a (map changed cs) ≡ fold (λ k c. k + cond (is_label_column c) 1 0) a cs
  same_count a [] = refl
  same_count a (c ∷ cs) =
      ap (λ (ty : Ty). fold (λ k x. k + cond (is_label_column x) 1 0) (a + cond (is_label_type ty) 1 0) (map changed cs)) (same_type c)
      ∙ same_count (a + cond (is_label_column c) 1 0) cs

  same_label_at : (cs : List ColumnRec) (at : ℕ) → is_label_at (map changed cs) at ≡ is_label_at cs at
  same_label_at [] at = refl
  same_label_at (c ∷ cs) zero = ap is_label_type (same_type c)
  same_label_at (c ∷ cs) (suc at) = same_label_at cs at

  pub same_null : (c : ColumnRec) → (changed c).not_null ≡ c.not_null
  same_null c = kept_by (is_column n) (secure o) (λ (x : ColumnRec). x.not_null) (λ x. refl) c

  null_place : (cs : List ColumnRec) (at : ℕ) → option_map not_null_in (slice_get cs at) ≡ Some true → option_map not_null_in (slice_get (map changed cs) at) ≡ Some true
  null_place [] at h = absurd cc
  null_place (c ∷ cs) zero h = ap Some (same_null c) ∙ h
  null_place (c ∷ cs) (suc at) h = null_place cs at h

  key_place : (t : Table) (key : Option ℕ) → HasKeyColumn t key → HasKeyColumn (record t { columns = map changed t.columns }) key
  key_place t None h = tt
  key_place t (Some at) h = record { place = subst (λ (k : ℕ). at < k) (sym (same_length t.columns)) h.place; not_null = null_place t.columns at h.not_null }

  same_widths : (cs : List ColumnRec) → AllByRecursion (λ (c : ColumnRec). IsWithinWidth c.ty) cs → AllByRecursion (λ (c : ColumnRec). IsWithinWidth c.ty) (map changed cs)
  same_widths [] h = tt
  same_widths (c ∷ cs) h = (subst IsWithinWidth (sym (same_type c)) h.0, same_widths cs h.1)

  few_place : (t : Table) → HasFewColumns t → HasFewColumns (record t { columns = map changed t.columns })
  few_place t h = record {
    some = subst (λ (k : ℕ). 1 ≤ k) (sym (same_length t.columns)) h.some;
    few = subst (λ (k : ℕ). k ≤ 64) (sym (same_length t.columns)) h.few;
    widths = same_widths t.columns h.widths;
  }

  no_label_at : (t : Table) (key : Option ℕ) → IsNoLabelAt t key → IsNoLabelAt (record t { columns = map changed t.columns }) key
  no_label_at t None h = tt
  no_label_at t (Some at) h = same_label_at t.columns at ∙ h

  same_types_at : (K : StoredRules) (D : Cat) (t : Table) (m : MaskRec) (cs : List ColumnRec) (at : ℕ) → TypesAt K D t m (slice_get cs at) → TypesAt K D (record t { columns = map changed t.columns }) m (slice_get (map changed cs) at)
  same_types_at K D t m [] at h = absurd h
  same_types_at K D t m (c ∷ cs) zero h = (subst (λ (column : List ℕ). K.mask_types D (called t m.correlation) column m.value ≡ None) (sym (same_name c)) h.0, ap is_label_type (same_type c) ∙ h.1)
  same_types_at K D t m (c ∷ cs) (suc at) h = same_types_at K D t m cs at h

  -- what is asked of the columns that are changed
  module _ (K : StoredRules) (D : Cat) (t : Table) (here : IfGiven (IsLabelHere D t) o) where
    belongs : (c : ColumnRec) → ColumnBelongs D t c → ColumnBelongs D (record t { columns = map changed t.columns }) (changed c)
    belongs c h = elim (is_column n c) as (λ b. ColumnBelongs D (record t { columns = map changed t.columns }) (cond b (secure o c) c)) [
      | true ↦ record { label = h.label; secured = here }
      | false ↦ record { label = h.label; secured = h.secured }
    ]

    unsecured : (c : ColumnRec) → (is_column n c ≡ true → (is_label_column c && is_some o) ≡ false) → IsUnsecuredLabel c → IsUnsecuredLabel (changed c)
    unsecured c f h = elim (is_column n c) as (λ b. is_column n c ≡ b → IsUnsecuredLabel (cond b (secure o c) c)) [
      | true ↦ λ e. f e
      | false ↦ λ _. h
    ] refl

    all_unsecured : (cs : List ColumnRec) → AllByRecursion (λ (c : ColumnRec). is_column n c ≡ true → (is_label_column c && is_some o) ≡ false) cs → AllByRecursion IsUnsecuredLabel cs → AllByRecursion IsUnsecuredLabel (map changed cs)
    all_unsecured [] f h = tt
    all_unsecured (c ∷ cs) f h = (unsecured c f.0 h.0, all_unsecured cs f.1 h.1)

    changed_sound : AllByRecursion (λ (c : ColumnRec). is_column n c ≡ true → (is_label_column c && is_some o) ≡ false) t.columns → TableIsSound K D t → TableIsSound K D (record t { columns = map changed t.columns })
    changed_sound f h =
        let u : Table = record t { columns = map changed t.columns } in
        record {
          policy = h.policy;
          permissions = h.permissions;
          masks = h.masks;
          columns = record {
            names = subst AreDifferent (sym (same_names_of t.columns)) h.columns.names;
            key = key_place t t.key h.columns.key;
            masked = all_follow (λ (m : MaskRec). IsPlace t m.column) (λ (m : MaskRec). IsPlace u m.column) (λ m i. subst (λ (k : ℕ). m.column < k) (sym (same_length t.columns)) i) t.masks h.columns.masked;
          };
          few = few_place t h.few;
          label_columns = record {
            one = subst (λ (k : ℕ). k ≤ 1) (sym (same_count 0 t.columns)) h.label_columns.one;
            key = no_label_at t t.key h.label_columns.key;
            secured = all_unsecured t.columns f h.label_columns.secured;
            masks = h.label_columns.masks;
          };
          belonging = all_map (ColumnBelongs D t) (ColumnBelongs D u) changed belongs t.columns h.belonging;
          stored = record {
            permissions = all_follow (IsValid K D t) (IsValid K D u) (λ p i. record { names = i.names; types = i.types; qualified = i.qualified }) t.permissions h.stored.permissions;
            masks = all_follow (IsValidMask K D t) (IsValidMask K D u)
                (λ m i. record { names = i.names; types = same_types_at K D t m t.columns m.column i.types; qualified = i.qualified }) t.masks h.stored.masks;
          };
        }

  changed_wider : (t : Table) → 1 ≤ length t.columns → IsWider t (record t { columns = map changed t.columns })
  changed_wider t some = record { name = refl; some = some; more = drop (length t.columns) (map changed t.columns); same = zipped t.columns; rest = refl; plain = plain t.columns }

-- the columns of the name are the one that was found
none_named : (n : List ℕ) (P : ColumnRec → Type 0) (cs : List ColumnRec) → is_among (map (λ c. c.name) cs) n ≡ false → AllByRecursion (λ (c : ColumnRec). is_column n c ≡ true → P c) cs
none_named n P [] h = tt
none_named n P (c ∷ cs) h = ((λ e. let no : true ≡ false = sym e ∙ or_left _ _ h in absurd cc), none_named n P cs (or_right (bytes_eq c.name n) _ h))

all_named : (n : List ℕ) (P : ColumnRec → Type 0) (cs : List ColumnRec) (x : ColumnRec) → AreDifferent (map (λ c. c.name) cs) → find (is_column n) cs ≡ Some x → P x → AllByRecursion (λ (c : ColumnRec). is_column n c ≡ true → P c) cs
all_named n P [] x d e p = tt
all_named n P (c ∷ cs) x d e p =
    elim (is_column n c) as (λ b. is_column n c ≡ b → cond b (Some c) (find (is_column n) cs) ≡ Some x → (b ≡ true → P c) × AllByRecursion (λ (y : ColumnRec). is_column n y ≡ true → P y) cs) [
      | true ↦ λ same i.
          let is : x ≡ c = cc in
          ((λ _. subst P is p), none_named n P cs (subst (λ (m : List ℕ). is_among (map (λ y. y.name) cs) m ≡ false) ((bytes_eq-Decides c.name n).0 same) (not_so _ (and_left _ _ d))))
      | false ↦ λ _ i. ((λ (no : false ≡ true). absurd cc), all_named n P cs x (and_right (not (is_among (map (λ y. y.name) cs) c.name)) _ d) i p)
    ] refl e

pub has_it : (D : Cat) (o : Option (List ℕ)) (label : List ℕ) → secured_refusal (policy_of D o) (Some label) ≡ None → has_label (policy_of D o) label ≡ true
has_it D o label e =
    elim (has_label (policy_of D o) label) as (λ b. when (not b) (refusals.Unknown label) ≡ None → b ≡ true) [
      | true ↦ λ _. refl
      | false ↦ λ i. absurd cc
    ] e

so_false : (b : Bool) (r : Refusal) → when b r ≡ None → b ≡ false
so_false true r h = absurd cc
so_false false r h = refl

module _ (K : StoredRules) (steady : IsSteady K) (C : Cat) (T : Tables) (s : IsSound K C) where
  pub add_policy_sound : (user n policy : List ℕ) → LeavesSound K (add_policy C T user n policy)
  add_policy_sound user n policy =
      owner_then K C user n _ (λ t e. test_sound K (exists_already t.policy) _ (λ none. found_then K policy (policy_named C policy) _
      (λ p i.
      let u : Table = record t { policy = Some policy } in
      done_sound K (put_table u C) T (keys.Table t.name ∷ [])
      (put_wider_sound K steady C T s t u (by_own_name C n t e) refl
      (let w : IsWider t (refitted t t.row_control t.column_control t.public t.permissions t.masks) = refitted_wider t t.row_control t.column_control t.public t.permissions t.masks (some_column K C s n t e) in record { name = refl; some = w.some; more = w.more; same = w.same; rest = w.rest; plain = w.plain })
      (same_names Always (table_names t) (table_names t) refl)
      (with_policy_sound K (put_table u C) t policy (none_already t.policy none) (is_there (policy_named C policy) p i))))))

  changes_sound : (o : Option (List ℕ)) (n : List ℕ) (t : Table) → table_named C t.name ≡ Some t → IfGiven (IsLabelHere C t) o
      → (AreDifferent (map (λ c. c.name) t.columns) → AllByRecursion (λ (c : ColumnRec). is_column n c ≡ true → (is_label_column c && is_some o) ≡ false) t.columns)
      → LeavesSound K (alters C T (record t { columns = change_column (secure o) n t.columns }))
  changes_sound o n t there here f =
      let u : Table = record t { columns = change_column (secure o) n t.columns } in
      done_sound K (put_table u C) T (keys.Table t.name ∷ [])
      (put_wider_sound K steady C T s t u there refl (changed_wider o n t (some_column K C s t.name t there)) (same_names Always (table_names t) (table_names t) refl) (λ h. changed_sound o n K (put_table u C) t here (f h.columns.names) h))

  pub secure_column_sound : (user n column label : List ℕ) → LeavesSound K (secure_column C T user n column label)
  secure_column_sound user n column label =
      owner_then K C user n _ (λ t e. found_then K column (column_named t column) _ (λ c i.
      test_sound K (when (is_none t.policy) (refusals.BadTable column flaws.NoPolicy)) _ (λ _. test_sound K (when (is_label_type c.ty) (refusals.BadTable column flaws.LabelKey)) _
      (λ plain. test_sound K (secured_refusal (policy_of C t.policy) (Some label)) _
      (λ has. changes_sound (Some label) column t (by_own_name C n t e) (has_it C t.policy label has)
      (λ d. all_named column (λ x. (is_label_column x && true) ≡ false) t.columns c d i (let off : is_label_type c.ty ≡ false = so_false _ _ plain in rw off refl)))))))

  either : (b : Bool) → (b && false) ≡ false
  either true = refl
  either false = refl

  none_at_all : (n : List ℕ) (cs : List ColumnRec) → AllByRecursion (λ (c : ColumnRec). is_column n c ≡ true → (is_label_column c && false) ≡ false) cs
  none_at_all n [] = tt
  none_at_all n (c ∷ cs) = ((λ _. either (is_label_column c)), none_at_all n cs)

  pub unsecure_column_sound : (user n column : List ℕ) → LeavesSound K (unsecure_column C T user n column)
  unsecure_column_sound user n column =
      owner_then K C user n _ (λ t e. found_then K column (column_named t column) _ (λ c i. changes_sound None column t (by_own_name C n t e) tt (λ _. none_at_all column t.columns)))

  pub add_column_sound : (user n column : List ℕ) (ty : PlainType) → LeavesSound K (add_column C T user n column ty)
  add_column_sound user n column ty =
      owner_then K C user n _ (λ t e. test_sound K (when (is_some (column_named t column)) (refusals.Exists column)) _ (λ new. test_sound K (when (nat_le 64 (length t.columns)) (refusals.Limit limits.Columns 64)) _ (λ room. test_sound K (width_refusal ty) _
      (λ wide. test_sound K (when (nat_lt 131072 (length (rows_of n T) * (length t.columns + 1))) (refusals.Limit limits.Cells 131072)) _
      (λ _.
      let u : Table = record t { columns = t.columns ++ plain_column column ty ∷ [] } in
      done_sound K (put_table u C) (put_version (record { name = t.name; rows = map with_null (rows_of n T) }) T) (keys.Table t.name ∷ keys.Rows t.name ∷ [])
      (put_wider_sound K steady C T s t u (by_own_name C n t e) refl (wider_more column ty t (some_column K C s n t e)) (same_names Always (table_names t) (table_names t) refl) (more_sound column ty K (put_table u C) t (so_false _ _ room) (width_fits ty wide) (so_false _ _ new))))))))

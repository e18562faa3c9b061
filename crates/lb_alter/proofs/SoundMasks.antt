-- Masks that are made or replaced leave a sound catalogue sound.
use Rattle.std.proofs.Common.{◌≡◌, refl, sym, subst, ◌∙◌, ℕ, zero, suc, ◌+◌, ◌<◌, Bool, true, false, cond, not, ◌&&◌, ◌||◌, List, [], ◌∷◌, map, length, Option, Some, None, arith}
use Rattle.std.specs.Prelude.{position, option_map, slice_get, nat_lt, ◌==◌}
use Rattle.std.specs.List.{AllByRecursion, list_any, position_or_len}
use Rattle.std.specs.Str.{bytes_eq}
use Rattle.std.proofs.lemmas.Bool.{eqb-true, eq-eqb}
use Rattle.std.proofs.lemmas.Slice.Eq.{bytes_eq-Decides}
use Rattle.std.proofs.lemmas.List.Quantifiers.{position-Some}
use Rattle.lb_base.specs.declared.key.Key.TheVariants as keys
use Rattle.lb_stmt.specs.declared.change.MaskDef.{MaskDef}
use Rattle.lb_cat.specs.declared.catalog.ColumnRec.{ColumnRec}
use Rattle.lb_cat.specs.declared.catalog.PermissionRec.{PermissionRec}
use Rattle.lb_cat.specs.declared.catalog.MaskRec.{MaskRec}
use Rattle.lb_cat.specs.declared.refusal.Refusal.TheVariants as refusals
use Rattle.lb_rows.specs.Tables.{Tables}
use Rattle.lb_rows.specs.Lists.{put}
use Rattle.lb_cat.specs.Catalog.{Cat, Table, table_named, is_table, is_column, is_mask, put_table}
use Rattle.lb_names.specs.Mentions.{in_expr, tables_in, policies_in}
use Rattle.lb_alter.specs.ChangeControl.{has_permission, source_refusal, is_replaced, takes_mask_name, mask_name, other_mask, new_mask, with_mask, create_mask, is_bad_source}
use Rattle.lb_names.specs.Sights.{correlation}
use Rattle.lb_alter.specs.Columns.{IsPlace, has_mask_twice}
use Rattle.lb_alter.specs.Named.{HasTable, HasPolicy, IsGoodSource}
use Rattle.lb_alter.specs.Refusing.{exists_already, when, secadm}
use Rattle.lb_alter.specs.Sound.{IsSound}
use Rattle.lb_alter.specs.Steady.{IsWider, IsSteady}
use Rattle.lb_alter.specs.Stored.{StoredRules}
use Rattle.lb_alter.specs.Valid.{TypesAt, IsValidMask, called, KeepsMaskRules}
use Rattle.lb_alter.proofs.SoundAlters.{by_own_name}
use Rattle.lb_alter.proofs.SoundColumns.{none_already}
use Rattle.lb_alter.proofs.SoundGrants.{found_then}
use Rattle.lb_alter.proofs.SoundKinds.{is_new, none_found}
use Rattle.lb_alter.proofs.SoundLabels.{any_none}
use Rattle.lb_alter.proofs.SoundParts.{named_from, together, table_names, IsSource, Sources, all_both}
use Rattle.lb_alter.proofs.SoundStored.{all_other, none_does, no_bad}
use Rattle.lb_alter.proofs.SoundTables.{there_put, Names, names_front, refitted, refitted_wider, some_column, refitted_sound, put_wider, sources_follow, stays_plain}
use Rattle.lb_alter.proofs.SoundUsers.{LeavesSound, test_sound, done_sound, all_put, all_follow, all_append, among_put, different_put}
use Rattle.lb_alter.proofs.Untouched.{or_left, or_right, named_there}

-- ---- tests

not_replaced : (r b e : Bool) → b ≡ false → (r && b && e) ≡ false
not_replaced true true e h = absurd cc
not_replaced true false e h = refl
not_replaced false b e h = refl

but_not : (a c : Bool) → c ≡ false → (a && not c) ≡ false → a ≡ false
but_not true true h i = absurd cc
but_not true false h i = absurd cc
but_not false c h i = refl

replaced_here : (a r b e : Bool) → (a && not (r && b && e)) ≡ false → a ≡ true → e ≡ true
replaced_here false r b e h i = absurd cc
replaced_here true false b e h i = absurd cc
replaced_here true true false e h i = absurd cc
replaced_here true true true false h i = absurd cc
replaced_here true true true true h i = refl

off_column : (e a : Bool) → (e && not a) ≡ false → a ≡ false → e ≡ false
off_column false a h i = refl
off_column true true h i = absurd cc
off_column true false h i = absurd cc

mapped_none : (o : Option MaskRec) → option_map mask_name o ≡ None → o ≡ None
mapped_none None h = refl
mapped_none (Some m) h = absurd cc

turned_eq : (a b : ℕ) → (a == b) ≡ false → (b == a) ≡ false
turned_eq a b h =
    elim (b == a) as (λ z. (b == a) ≡ z → z ≡ false) [
      | true ↦ λ e. let yes_so : (a == b) ≡ true = eq-eqb a b (sym (eqb-true b a e)) in let no : true ≡ false = sym yes_so ∙ h in absurd cc
      | false ↦ λ _. refl
    ] refl

-- ---- columns

at_place : (test : ColumnRec → Bool) (cs : List ColumnRec) (at : ℕ) → position test cs ≡ Some at → at < length cs
at_place test [] at h = absurd cc
at_place test (c ∷ cs) at h = (position-Some test (c ∷ cs) at c h).0

record At (cs : List ColumnRec) (at : ℕ) : Type 0 where
  pub column : ColumnRec
  pub there : slice_get cs at ≡ Some column

column_at : (cs : List ColumnRec) (at : ℕ) → at < length cs → At cs at
column_at [] at h = absurd (omega (arith, h))
column_at (c ∷ cs) zero h = record { column = c; there = refl }
column_at (c ∷ cs) (suc at) h =
    let i : at < length cs = omega (arith, h) in
    let r : At cs at = column_at cs at i in
    record { column = r.column; there = r.there }

-- the column at the place that was found has the name
place_is : (test : ColumnRec → Bool) (cs : List ColumnRec) (at : ℕ) → position test cs ≡ Some at → at ≡ position_or_len test cs
place_is test cs at h =
    elim (nat_lt (position_or_len test cs) (length cs)) as (λ b. cond b (Some (position_or_len test cs)) None ≡ Some at → at ≡ position_or_len test cs) [
      | true ↦ λ i. let same : at ≡ position_or_len test cs = cc in same
      | false ↦ λ (i : None ≡ Some at). absurd cc
    ] h

next_place : (k at : ℕ) → suc at ≡ 1 + k → at ≡ k
next_place k at e = omega (arith, e)

named_next : (n : List ℕ) (x : ColumnRec) (cs : List ColumnRec) (c : ColumnRec) → ((k : ℕ) → k ≡ position_or_len (is_column n) cs → slice_get cs k ≡ Some c → c.name ≡ n)
    → (at : ℕ) → at ≡ 1 + position_or_len (is_column n) cs → slice_get (x ∷ cs) at ≡ Some c → c.name ≡ n
named_next n x cs c f zero i j = absurd (omega (arith, i))
named_next n x cs c f (suc at) i j = f at (next_place (position_or_len (is_column n) cs) at i) j

named_at : (n : List ℕ) (cs : List ColumnRec) (c : ColumnRec) (at : ℕ) → at ≡ position_or_len (is_column n) cs → slice_get cs at ≡ Some c → c.name ≡ n
named_at n [] c at e h = absurd cc
named_at n (x ∷ cs) c at e h =
    elim (is_column n x) as (λ b. is_column n x ≡ b → at ≡ cond (not b) (1 + position_or_len (is_column n) cs) 0 → c.name ≡ n) [
      | true ↦ λ same i.
          let first : slice_get (x ∷ cs) 0 ≡ Some c = subst (λ (k : ℕ). slice_get (x ∷ cs) k ≡ Some c) i h in
          let is : x ≡ c = cc in
          subst (λ (y : ColumnRec). y.name ≡ n) is ((bytes_eq-Decides x.name n).0 same)
      | false ↦ λ _ i. named_next n x cs c (named_at n cs c) at i h
    ] refl e

-- ---- masks of one column

module _ (n : List ℕ) (r : MaskRec) where
  any_put : (c : ℕ) (ms : List MaskRec) → (r.column == c) ≡ false → list_any (λ o. o.column == c) ms ≡ false → list_any (λ o. o.column == c) (put (is_mask n) r ms) ≡ false
  any_put c [] e h = rw e refl
  any_put c (m ∷ ms) e h =
      elim (is_mask n m) as (λ b. list_any (λ o. o.column == c) (cond b (r ∷ ms) (m ∷ put (is_mask n) r ms)) ≡ false) [
        | true ↦ rw e (or_right (m.column == c) _ h)
        | false ↦ let off : (m.column == c) ≡ false = or_left _ _ h in rw off (any_put c ms e (or_right (m.column == c) _ h))
      ]

  twice_put : (ms : List MaskRec) → has_mask_twice ms ≡ false → AllByRecursion (λ (m : MaskRec). is_mask n m ≡ true → (m.column == r.column) ≡ true) ms
      → AllByRecursion (λ (m : MaskRec). is_mask n m ≡ false → (m.column == r.column) ≡ false) ms → has_mask_twice (put (is_mask n) r ms) ≡ false
  twice_put [] h same off = refl
  twice_put (m ∷ ms) h same off =
      elim (is_mask n m) as (λ b. is_mask n m ≡ b → has_mask_twice (cond b (r ∷ ms) (m ∷ put (is_mask n) r ms)) ≡ false) [
        | true ↦ λ e. subst (λ (c : ℕ). (list_any (λ o. o.column == c) ms || has_mask_twice ms) ≡ false) (eqb-true m.column r.column (same.0 e)) h
        | false ↦ λ e.
            let one : list_any (λ o. o.column == m.column) (put (is_mask n) r ms) ≡ false = any_put m.column ms (turned_eq m.column r.column (off.0 e)) (or_left _ _ h) in
            rw one (twice_put ms (or_right (list_any (λ o. o.column == m.column) ms) _ h) same.1 off.1)
      ] refl

module _ (K : StoredRules) (steady : IsSteady K) (C : Cat) (T : Tables) (s : IsSound K C) (d : MaskDef) (t : Table) (e : table_named C d.on.table ≡ Some t) (column : ℕ) (place : column < length t.columns)
    (names_hold : K.mask_names C d.on d.value ≡ None) (types_hold : K.mask_types C d.on d.column d.value ≡ None) (first_so : position (is_column d.column) t.columns ≡ Some column)
    (taken : AllByRecursion (λ (x : Table). takes_mask_name d column x ≡ false) C.tables) (own : takes_mask_name d column t ≡ false) (alone : other_mask d.name column t ≡ None)
    (good : AllByRecursion (IsGoodSource C t.name) (tables_in (in_expr d.value))) where
  abbrev pub masks_after : List MaskRec
  masks_after = put (is_mask d.name) (new_mask K C column d) t.masks

  abbrev pub Masked : Table
  Masked = refitted t t.row_control t.column_control t.public t.permissions (put (is_mask d.name) (new_mask K C column d) t.masks)

  abbrev pub OtherName : List ℕ → Type 0
  OtherName n = bytes_eq d.name n ≡ false

  abbrev pub After : Cat
  After = put_table Masked C

  its_name : t.name ≡ d.on.table
  its_name = named_there (λ (x : Table). x.name) d.on.table C.tables t e

  its_own : table_named C t.name ≡ Some t
  its_own = by_own_name C d.on.table t e

  wider : IsWider t Masked
  wider = refitted_wider t t.row_control t.column_control t.public t.permissions (put (is_mask d.name) (new_mask K C column d) t.masks) (some_column K C s d.on.table t e)

  off_masks : (x : Table) (ms : List MaskRec) → is_table d.on.table x ≡ false → list_any (λ m. is_mask d.name m && not (is_replaced d column x m)) ms ≡ false → list_any (is_mask d.name) ms ≡ false
  off_masks x [] off h = refl
  off_masks x (m ∷ ms) off h =
      let no : is_mask d.name m ≡ false = but_not (is_mask d.name m) (is_replaced d column x m) (not_replaced d.replace (is_table d.on.table x) (m.column == column) off) (or_left _ _ h) in
      rw no (off_masks x ms off (or_right (is_mask d.name m && not (is_replaced d column x m)) _ h))

  others : (xs : List Table) → AllByRecursion (λ (x : Table). takes_mask_name d column x ≡ false) xs → AllByRecursion (λ (x : Table). bytes_eq x.name t.name ≡ false → AllByRecursion OtherName (table_names x)) xs
  others [] h = tt
  others (x ∷ xs) h = (
    (λ off. all_append OtherName (map (λ y. y.name) x.permissions) (map (λ m. m.name) x.masks) (all_other (λ (y : PermissionRec). y.name) d.name x.permissions (or_left _ _ h.0))
        (all_other (λ (m : MaskRec). m.name) d.name x.masks (off_masks x x.masks (subst (λ (m : List ℕ). bytes_eq x.name m ≡ false) its_name off) (or_right (has_permission d.name x) _ h.0)))),
    others xs h.1,
  )

  names : Names OtherName (table_names Masked) (table_names t)
  names =
      names_front OtherName (map (λ y. y.name) t.permissions) (map (λ m. m.name) (put (is_mask d.name) (new_mask K C column d) t.masks)) (map (λ m. m.name) t.masks)
      (all_other (λ (y : PermissionRec). y.name) d.name t.permissions (or_left _ _ own))
      (record {
        among = λ n off h. among_put (λ (m : MaskRec). m.name) (new_mask K C column d) n t.masks h off;
        different = different_put (λ (m : MaskRec). m.name) (new_mask K C column d) t.masks;
      })

  found_at : At t.columns column
  found_at = column_at t.columns column place

  its_column : found_at.column.name ≡ d.column
  its_column = named_at d.column t.columns found_at.column column (place_is (is_column d.column) t.columns column first_so) found_at.there

  keeps : KeepsMaskRules K C d.on found_at.column.name d.value
  keeps = record { names = names_hold; types = subst (λ (n : List ℕ). K.mask_types C d.on n d.value ≡ None) (sym its_column) types_hold }

  stands_too : AllByRecursion (Sources After t.name) (in_expr (K.qualified_mask C d.on d.value))
  stands_too =
      let h : AllByRecursion (HasTable C) (tables_in (in_expr d.value)) × AllByRecursion (HasPolicy C) (policies_in (in_expr d.value)) = steady.stands_mask C d.on found_at.column.name d.value keeps in
      subst (AllByRecursion (Sources After t.name)) (sym (steady.mask_mentions C d.on d.value))
      (all_follow (Sources C t.name) (Sources After t.name)
      (sources_follow C After (λ n z. there_put (λ (x : Table). x.name) Masked C.tables n z) (λ n z. z) (stays_plain K steady C T s t Masked its_own refl wider) t.name) (in_expr d.value)
      (named_from (IsSource C t.name) (HasPolicy C) (in_expr d.value) (all_both (HasTable C) (IsGoodSource C t.name) (tables_in (in_expr d.value)) h.0 good) h.1))

  first : MaskRec
  first = record { name = []; column = column; correlation = correlation d.on; value = K.qualified_mask C d.on d.value; enabled = true }

  is_valid_there : IsValidMask K After t (new_mask K C column d)
  unfolding first
  is_valid_there =
      let q : IsValidMask K C t first = steady.qualifies_mask C t d.on column found_at.column d.value e (subst (λ (n : List ℕ). position (is_column n) t.columns ≡ Some column) (sym its_column) first_so) found_at.there keeps in
      let ty : TypesAt K C t first (Some found_at.column) = subst (TypesAt K C t first) found_at.there q.types in
      let w : KeepsMaskRules K After (called t (correlation d.on)) found_at.column.name (K.qualified_mask C d.on d.value) =
      steady.widens_mask C t Masked (called t (correlation d.on)) found_at.column.name (K.qualified_mask C d.on d.value) its_own wider q.qualified (record { names = q.names; types = ty.0 }) in
      record { names = w.names; types = subst (TypesAt K After t (new_mask K C column d)) (sym found_at.there) (w.types, ty.1); qualified = q.qualified }

  same_column : (ms : List MaskRec) → AllByRecursion (λ (m : MaskRec). (is_mask d.name m && not (is_replaced d column t m)) ≡ false) ms → AllByRecursion (λ (m : MaskRec). is_mask d.name m ≡ true → (m.column == column) ≡ true) ms
  same_column ms h = all_follow _ _ (λ m i. replaced_here (is_mask d.name m) d.replace (is_table d.on.table t) (m.column == column) i) ms h

  other_column : (ms : List MaskRec) → AllByRecursion (λ (m : MaskRec). (m.column == column && not (is_mask d.name m)) ≡ false) ms → AllByRecursion (λ (m : MaskRec). is_mask d.name m ≡ false → (m.column == column) ≡ false) ms
  other_column ms h = all_follow _ _ (λ m i. off_column (m.column == column) (is_mask d.name m) i) ms h

  masked_sound : IsSound K After
  masked_sound =
      together K After
      (put_wider K steady C T s t Masked its_own refl wider OtherName (others C.tables taken) names
      (λ h. refitted_sound K After t t.row_control t.column_control t.public t.permissions (put (is_mask d.name) (new_mask K C column d) t.masks)
      (record {
        permissions = h.permissions;
        masks = all_put (λ (m : MaskRec). AllByRecursion (Sources After t.name) (in_expr m.value)) (is_mask d.name) (new_mask K C column d) t.masks h.masks stands_too;
        places = all_put (λ (m : MaskRec). IsPlace t m.column) (is_mask d.name) (new_mask K C column d) t.masks h.columns.masked place;
        once = twice_put d.name (new_mask K C column d) t.masks h.label_columns.masks (same_column t.masks (any_none _ t.masks (or_right (has_permission d.name t) _ own)))
            (other_column t.masks (none_found _ t.masks (mapped_none _ alone)));
        valid = h.stored.permissions;
        valid_masks = all_put (IsValidMask K After t) (is_mask d.name) (new_mask K C column d) t.masks h.stored.masks is_valid_there;
      }) h))

module _ (K : StoredRules) (steady : IsSteady K) (C : Cat) (T : Tables) (s : IsSound K C) where
  pub create_mask_sound : (user : List ℕ) (d : MaskDef) → LeavesSound K (create_mask K C T user d)
  create_mask_sound user d =
      test_sound K (secadm C user) _ (λ _. found_then K d.on.table (table_named C d.on.table) _ (λ t e. found_then K d.column (position (is_column d.column) t.columns) _
      (λ column at. test_sound K (when (list_any (takes_mask_name d column) C.tables) (refusals.Exists d.name)) _
      (λ free. test_sound K (exists_already (other_mask d.name column t)) _ (λ alone. test_sound K (K.mask_names C d.on d.value) _ (λ names. test_sound K (source_refusal C d.name t.name (in_expr d.value)) _
      (λ good. test_sound K (K.mask_types C d.on d.column d.value) _
      (λ types.
      let taken : AllByRecursion (λ (x : Table). takes_mask_name d column x ≡ false) C.tables = any_none (takes_mask_name d column) C.tables (is_new _ _ free) in
      done_sound K (put_table (with_mask (new_mask K C column d) t) C) T (keys.Table t.name ∷ [])
      (masked_sound K steady C T s d t e column (at_place (is_column d.column) t.columns column at) names types at taken (none_does (takes_mask_name d column) (is_table d.on.table) C.tables t taken e) (none_already _ alone) (none_found (is_bad_source C t.name) (tables_in (in_expr d.value)) (no_bad d.name _ good)))))))))))

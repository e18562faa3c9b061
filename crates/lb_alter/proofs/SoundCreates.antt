-- A table that is made leaves a sound catalogue sound.
use Rattle.std.proofs.Common.{◌≡◌, refl, sym, ap, subst, ◌∙◌, ℕ, suc, ◌+◌, ◌<◌, ◌≤◌, Bool, true, false, cond, not, ◌&&◌, ◌||◌, List, [], ◌∷◌, ◌++◌, map, length, Option, Some, None, is_some, is_none, arith, zero}
use Rattle.std.specs.Prelude.{find, fold, position, nat_le, nat_lt, option_map, slice_get}
use Rattle.std.specs.List.{AllByRecursion, flat_map, position_or_len}
use Rattle.std.specs.Str.{bytes_eq}
use Rattle.lb_base.specs.declared.key.Key.TheVariants as keys
use Rattle.lb_stmt.specs.declared.change.ColumnDef.{ColumnDef}
use Rattle.lb_stmt.specs.declared.change.ColumnType.{ColumnType}
use Rattle.lb_stmt.specs.declared.change.ColumnType.TheVariants as column_types
use Rattle.lb_stmt.specs.declared.change.PlainType.{PlainType}
use Rattle.lb_stmt.specs.declared.change.PlainType.TheVariants as plains
use Rattle.lb_stmt.specs.declared.change.Element.{Element}
use Rattle.lb_cat.specs.declared.catalog.ColumnRec.{ColumnRec}
use Rattle.lb_cat.specs.declared.refusal.Refusal.{Refusal}
use Rattle.lb_cat.specs.declared.refusal.Refusal.TheVariants as refusals
use Rattle.lb_cat.specs.declared.refusal.Flaw.TheVariants as flaws
use Rattle.lb_cat.specs.declared.refusal.LimitOf.TheVariants as limits
use Rattle.lb_rows.specs.Tables.{Tables, put_version}
use Rattle.lb_rows.specs.Lists.{put}
use Rattle.lb_cat.specs.Catalog.{Cat, Table, table_named, policy_named, is_table, is_among, put_table}
use Rattle.lb_alter.specs.ChangeControl.{has_labels}
use Rattle.lb_alter.specs.ChangeTable.{is_label_type, plain_type, is_key, is_label_kind, columns_in, keys_in, column_width_refusal, columns_refusal, key_refusal, policy_refusal, flaw_refusal, flaws_refusal, secured_refusal, policy_of, column_type, new_column, new_table, create_table, is_label_column}
use Rattle.lb_alter.specs.Columns.{HasKeyColumn, IsUnsecuredLabel, is_label_at, IsNoLabelAt, IsWithinWidth, not_null_in}
use Rattle.lb_alter.specs.Labelled.{IsLabelHere, IsOfPolicy, ColumnBelongs}
use Rattle.lb_alter.specs.Named.{AreDifferent, IfGiven, HasTable, HasPolicy}
use Rattle.lb_alter.specs.Refusing.{when, earliest, each_passes}
use Rattle.lb_alter.specs.Sound.{IsSound}
use Rattle.lb_alter.specs.Steady.{IsSteady}
use Rattle.lb_alter.specs.Stored.{StoredRules}
use Rattle.lb_alter.proofs.SoundColumns.{plain_is, has_it, width_fits}
use Rattle.lb_alter.proofs.SoundKinds.{is_new, all_there, reads_there, not_full, not_more}
use Rattle.lb_alter.proofs.SoundParts.{TableIsSound, Parts, apart, together, table_names, Stands, all_map, folded_of}
use Rattle.lb_alter.proofs.SoundTables.{same_put, put_table_parts, one_more}
use Rattle.lb_alter.proofs.SoundUsers.{LeavesSound, test_sound, done_sound, all_follow, both}
use Rattle.lb_alter.proofs.Untouched.{or_left, or_right, turned}
use Rattle.std.proofs.lemmas.Bool.{leb-true}
use Rattle.lb_stmt.specs.declared.change.Element.TheVariants as elements

-- ---- tests that passed

two_passed : (a b : Option Refusal) → earliest (a ∷ b ∷ []) ≡ None → (a ≡ None) × (b ≡ None)
two_passed None None h = (refl, refl)
two_passed None (Some r) h = absurd cc
two_passed (Some r) b h = absurd cc

three_passed : (a b c : Option Refusal) → earliest (a ∷ b ∷ c ∷ []) ≡ None → (a ≡ None) × ((b ≡ None) × (c ≡ None))
three_passed None None None h = (refl, (refl, refl))
three_passed None None (Some r) h = absurd cc
three_passed None (Some r) c h = absurd cc
three_passed (Some r) b c h = absurd cc

four_passed : (a b c d : Option Refusal) → earliest (a ∷ b ∷ c ∷ d ∷ []) ≡ None → (a ≡ None) × ((b ≡ None) × ((c ≡ None) × (d ≡ None)))
four_passed None None None None h = (refl, (refl, (refl, refl)))
four_passed None None None (Some r) h = absurd cc
four_passed None None (Some r) d h = absurd cc
four_passed None (Some r) c d h = absurd cc
four_passed (Some r) b c d h = absurd cc

all_passing : {A : Type 0} (test : A → Option Refusal) (xs : List A) → each_passes test xs ≡ None → AllByRecursion (λ (x : A). test x ≡ None) xs
all_passing test [] h = tt
all_passing test (x ∷ xs) h = let r : (test x ≡ None) × (each_passes test xs ≡ None) = two_passed (test x) (each_passes test xs) h in (r.0, all_passing test xs r.1)

-- ---- the columns of a new table

plain_belongs : (o : Option (List ℕ)) (y : PlainType) → IsOfPolicy o (plain_type y)
plain_belongs o plains.Int = tt
plain_belongs o (plains.Text w) = tt
plain_belongs o plains.Date = tt

belongs_to : (o : Option (List ℕ)) (ty : ColumnType) (b : Bool) → ((is_label_kind ty || b) && not (is_some o)) ≡ false → IsOfPolicy o (column_type o ty)
belongs_to o (column_types.Plain y) b h = plain_belongs o y
belongs_to (Some p) column_types.Label b h = refl
belongs_to None column_types.Label b h = absurd cc

but_one : (l k b : Bool) → (l && (k || b)) ≡ false → (l && b) ≡ false
but_one true true b h = absurd cc
but_one true false b h = h
but_one false k b h = refl

but_key : (l k b : Bool) → (l && (k || b)) ≡ false → k ≡ true → l ≡ false
but_key true k b h e = let no : true ≡ false = sym (ap (λ (x : Bool). x || b) e) ∙ h in absurd cc
but_key false k b h e = refl

and_true : (b : Bool) → (b && true) ≡ false → b ≡ false
and_true true h = h
and_true false h = refl

module _ (es : List Element) (policy : Option (List ℕ)) where
  abbrev pub made : ColumnDef → ColumnRec
  made d = new_column es policy d

  same_kind : (ty : ColumnType) → is_label_type (column_type policy ty) ≡ is_label_kind ty
  same_kind (column_types.Plain y) = plain_is y
  same_kind column_types.Label = refl

  off_names : (n : List ℕ) (ds : List ColumnDef) → AllByRecursion (λ (d : ColumnDef). bytes_eq n d.name ≡ false) ds → is_among (map (λ c. c.name) (map made ds)) n ≡ false
  off_names n [] h = refl
  off_names n (d ∷ ds) h = let off : bytes_eq d.name n ≡ false = turned n d.name h.0 in rw off (off_names n ds h.1)

  column_fits : (ty : ColumnType) → column_width_refusal ty ≡ None → IsWithinWidth (column_type policy ty)
  column_fits (column_types.Plain y) h = width_fits y h
  column_fits column_types.Label h = tt

  new_widths : (before : List (List ℕ)) (ds : List ColumnDef) → columns_refusal before ds ≡ None → AllByRecursion (λ (c : ColumnRec). IsWithinWidth c.ty) (map made ds)
  new_widths before [] h = tt
  new_widths before (d ∷ ds) h =
      let r : (when (is_among before d.name) (refusals.Exists d.name) ≡ None) × ((column_width_refusal d.ty ≡ None) × (columns_refusal (d.name ∷ before) ds ≡ None)) = three_passed _ (column_width_refusal d.ty) _ h in
      (column_fits d.ty r.1.0, new_widths (d.name ∷ before) ds r.1.1)

  new_names : (before : List (List ℕ)) (ds : List ColumnDef) → columns_refusal before ds ≡ None → AllByRecursion (λ (d : ColumnDef). is_among before d.name ≡ false) ds × AreDifferent (map (λ c. c.name) (map made ds))
  new_names before [] h = (tt, refl)
  new_names before (d ∷ ds) h =
      let r : (when (is_among before d.name) (refusals.Exists d.name) ≡ None) × ((column_width_refusal d.ty ≡ None) × (columns_refusal (d.name ∷ before) ds ≡ None)) = three_passed _ (column_width_refusal d.ty) _ h in
      let i : AllByRecursion (λ (x : ColumnDef). is_among (d.name ∷ before) x.name ≡ false) ds × AreDifferent (map (λ c. c.name) (map made ds)) = new_names (d.name ∷ before) ds r.1.1 in (
        (is_new _ _ r.0, all_follow (λ (x : ColumnDef). is_among (d.name ∷ before) x.name ≡ false) (λ (x : ColumnDef). is_among before x.name ≡ false) (λ x j. or_right (bytes_eq d.name x.name) _ j) ds i.0),
        both _ _ (off_names d.name ds (all_follow (λ (x : ColumnDef). is_among (d.name ∷ before) x.name ≡ false) (λ (x : ColumnDef). bytes_eq d.name x.name ≡ false) (λ x j. or_left _ _ j) ds i.0)) i.1,
      )

  -- what a column without a flaw keeps
  record Fine (d : ColumnDef) : Type 0 where
    pub protected : ((is_label_kind d.ty || is_some d.secured) && not (is_some policy)) ≡ false
    pub key : (is_label_kind d.ty && (is_key es d || is_some d.secured)) ≡ false

  record Flawless (label_before key_before : Bool) (d : ColumnDef) (ds : List ColumnDef) : Type 0 where
    pub fine : Fine d
    pub one : (is_label_kind d.ty && label_before) ≡ false
    pub rest : flaws_refusal (is_some policy) (label_before || is_label_kind d.ty) (key_before || is_key es d) es ds ≡ None

  flawless : (label_before key_before : Bool) (d : ColumnDef) (ds : List ColumnDef) → flaws_refusal (is_some policy) label_before key_before es (d ∷ ds) ≡ None → Flawless label_before key_before d ds
  flawless label_before key_before d ds h =
      let r : (flaw_refusal (is_some policy) label_before key_before (is_key es d) d ≡ None) × (flaws_refusal (is_some policy) (label_before || is_label_kind d.ty) (key_before || is_key es d) es ds ≡ None) =
      two_passed (flaw_refusal (is_some policy) label_before key_before (is_key es d) d) (flaws_refusal (is_some policy) (label_before || is_label_kind d.ty) (key_before || is_key es d) es ds) h in
      let f : (when ((is_label_kind d.ty || is_some d.secured) && not (is_some policy)) (refusals.BadTable d.name flaws.NoPolicy) ≡ None)
      × ((when (is_label_kind d.ty && label_before) (refusals.BadTable d.name flaws.TwoLabels) ≡ None)
      × ((when (is_key es d && key_before) (refusals.BadTable d.name flaws.TwoKeys) ≡ None) × (when (is_label_kind d.ty && (is_key es d || is_some d.secured)) (refusals.BadTable d.name flaws.LabelKey) ≡ None))) =
      four_passed _ _ _ _ r.0 in
      record { fine = record { protected = is_new _ _ f.0; key = is_new _ _ f.1.1.1 }; one = is_new _ _ f.1.0; rest = r.1 }

  all_fine : (label_before key_before : Bool) (ds : List ColumnDef) → flaws_refusal (is_some policy) label_before key_before es ds ≡ None → AllByRecursion Fine ds
  all_fine label_before key_before [] h = tt
  all_fine label_before key_before (d ∷ ds) h = let f : Flawless label_before key_before d ds = flawless label_before key_before d ds h in (f.fine, all_fine (label_before || is_label_kind d.ty) (key_before || is_key es d) ds f.rest)

  plus_none : (k : ℕ) → k + 0 ≡ k
  plus_none k = omega arith

  no_more : (key_before : Bool) (a : ℕ) (ds : List ColumnDef) → flaws_refusal (is_some policy) true key_before es ds ≡ None → fold (λ k c. k + cond (is_label_column c) 1 0) a (map made ds) ≡ a
  no_more key_before a [] h = refl
  no_more key_before a (d ∷ ds) h =
      let f : Flawless true key_before d ds = flawless true key_before d ds h in
      ap (λ (b : Bool). fold (λ k c. k + cond (is_label_column c) 1 0) (a + cond b 1 0) (map made ds)) (same_kind d.ty ∙ and_true (is_label_kind d.ty) f.one)
      ∙ ap (λ (x : ℕ). fold (λ k c. k + cond (is_label_column c) 1 0) x (map made ds)) (plus_none a)
      ∙ no_more (key_before || is_key es d) a ds f.rest

  one_label : (key_before : Bool) (a : ℕ) (ds : List ColumnDef) → flaws_refusal (is_some policy) false key_before es ds ≡ None → fold (λ k c. k + cond (is_label_column c) 1 0) a (map made ds) ≤ a + 1
  one_label key_before a [] h = omega arith
  one_label key_before a (d ∷ ds) h =
      let f : Flawless false key_before d ds = flawless false key_before d ds h in
      subst (λ (b : Bool). fold (λ k c. k + cond (is_label_column c) 1 0) (a + cond b 1 0) (map made ds) ≤ a + 1) (sym (same_kind d.ty))
      (elim (is_label_kind d.ty) as (λ b. flaws_refusal (is_some policy) b (key_before || is_key es d) es ds ≡ None → fold (λ k c. k + cond (is_label_column c) 1 0) (a + cond b 1 0) (map made ds) ≤ a + 1) [
        | true ↦ λ r. let e : fold (λ k c. k + cond (is_label_column c) 1 0) (a + 1) (map made ds) ≡ a + 1 = no_more (key_before || is_key es d) (a + 1) ds r in omega (arith, e)
        | false ↦ λ r. subst (λ (x : ℕ). fold (λ k c. k + cond (is_label_column c) 1 0) x (map made ds) ≤ a + 1) (sym (plus_none a)) (one_label (key_before || is_key es d) a ds r)
      ] f.rest)

  unsecured_made : (d : ColumnDef) → Fine d → IsUnsecuredLabel (made d)
  unsecured_made d f = ap (λ (b : Bool). b && is_some d.secured) (same_kind d.ty) ∙ but_one (is_label_kind d.ty) (is_key es d) (is_some d.secured) f.key

  made_length : (ds : List ColumnDef) → length (map made ds) ≡ length ds
  made_length [] = refl
  made_length (d ∷ ds) = ap (λ (k : ℕ). suc k) (made_length ds)

  one_plus : (k : ℕ) → 1 + k ≡ suc k
  one_plus k = omega arith

  or_so : (a b : Bool) → b ≡ true → (a || b) ≡ true
  or_so true b h = refl
  or_so false b h = h

  -- the first key is no label
  no_label_first : (ds : List ColumnDef) → AllByRecursion Fine ds → is_label_at (map made ds) (position_or_len (is_key es) ds) ≡ false
  no_label_first [] h = refl
  no_label_first (d ∷ ds) h =
      elim (is_key es d) as (λ b. is_key es d ≡ b → is_label_at (made d ∷ map made ds) (cond (not b) (1 + position_or_len (is_key es) ds) 0) ≡ false) [
        | true ↦ λ e. same_kind d.ty ∙ but_key (is_label_kind d.ty) (is_key es d) (is_some d.secured) h.0.key e
        | false ↦ λ _. subst (λ (k : ℕ). is_label_at (made d ∷ map made ds) k ≡ false) (sym (one_plus (position_or_len (is_key es) ds))) (no_label_first ds h.1)
      ] refl

  -- the first key is NOT NULL
  not_null_next : (d : ColumnDef) (ds : List ColumnDef) → ((at : ℕ) → at < length ds → at ≡ position_or_len (is_key es) ds → option_map not_null_in (slice_get (map made ds) at) ≡ Some true)
      → (at : ℕ) → at < length (d ∷ ds) → at ≡ suc (position_or_len (is_key es) ds) → option_map not_null_in (slice_get (made d ∷ map made ds) at) ≡ Some true
  not_null_next d ds f zero h e = absurd cc
  not_null_next d ds f (suc at) h e =
      let i : at < length ds = omega (arith, h) in
      let j : at ≡ position_or_len (is_key es) ds = omega (arith, e) in
      f at i j

  not_null_first : (ds : List ColumnDef) (at : ℕ) → at < length ds → at ≡ position_or_len (is_key es) ds → option_map not_null_in (slice_get (map made ds) at) ≡ Some true
  not_null_first [] at h e = absurd (omega (arith, h))
  not_null_first (d ∷ ds) at h e =
      elim (is_key es d) as (λ b. is_key es d ≡ b → at ≡ cond (not b) (1 + position_or_len (is_key es) ds) 0 → option_map not_null_in (slice_get (made d ∷ map made ds) at) ≡ Some true) [
        | true ↦ λ k i. subst (λ (j : ℕ). option_map not_null_in (slice_get (made d ∷ map made ds) j) ≡ Some true) (sym i) (ap Some (or_so (d.not_null && not (is_label_kind d.ty)) (is_key es d) k))
        | false ↦ λ _ i. not_null_next d ds (not_null_first ds) at h (i ∙ one_plus _)
      ] refl e

module _ (K : StoredRules) (steady : IsSteady K) (C : Cat) (T : Tables) (s : IsSound K C) (user n : List ℕ) (es : List Element) (policy : Option (List ℕ)) (new : is_some (table_named C n) ≡ false) where
  abbrev pub Made : Table
  Made = new_table user n es policy

  abbrev pub With : Cat
  With = put_table Made C

  new_table_names : (xs : List Table) → is_some (find (is_table n) xs) ≡ false → flat_map table_names (put (is_table n) Made xs) ≡ flat_map table_names xs
  new_table_names [] h = refl
  new_table_names (x ∷ xs) h =
      elim (bytes_eq x.name n) as (λ b. is_some (cond b (Some x) (find (is_table n) xs)) ≡ false → flat_map table_names (cond b (Made ∷ xs) (x ∷ put (is_table n) Made xs)) ≡ table_names x ++ flat_map table_names xs) [
        | true ↦ λ (i : true ≡ false). absurd cc
        | false ↦ λ i. ap (λ (rest : List (List ℕ)). table_names x ++ rest) (new_table_names xs i)
      ] h

  its_policy : (o : Option (List ℕ)) → policy_refusal C o ≡ None → IfGiven (HasPolicy C) o
  its_policy None h = tt
  its_policy (Some m) h =
      elim (policy_named C m) as (λ o. when (is_none o) (refusals.Unknown m) ≡ None → is_some o ≡ true) [
        | None ↦ λ i. absurd cc
        | Some p ↦ λ _. refl
      ] h

  its_key : HasKeyColumn Made (position (is_key es) (columns_in es))
  its_key =
      elim (nat_lt (position_or_len (is_key es) (columns_in es)) (length (columns_in es))) as (λ b. nat_lt (position_or_len (is_key es) (columns_in es)) (length (columns_in es)) ≡ b → HasKeyColumn Made (cond b (Some (position_or_len (is_key es) (columns_in es))) None)) [
        | true ↦ λ e.
            let l : position_or_len (is_key es) (columns_in es) < length (columns_in es) = leb-true (suc (position_or_len (is_key es) (columns_in es))) (length (columns_in es)) e in
            record {
              place = subst (λ (k : ℕ). position_or_len (is_key es) (columns_in es) < k) (sym (made_length es policy (columns_in es))) l;
              not_null = not_null_first es policy (columns_in es) (position_or_len (is_key es) (columns_in es)) l refl;
            }
        | false ↦ λ _. tt
      ] refl

  -- a list of elements without columns has none, since no key element names a column
  some_column : (xs : List Element) → 1 ≤ length xs → each_passes (key_refusal (columns_in xs)) (keys_in xs) ≡ None → 1 ≤ length (columns_in xs)
  some_column [] h e = h
  some_column (elements.Column d ∷ xs) h e = omega arith
  some_column (elements.Key m ∷ xs) h e =
      elim (columns_in xs) as (λ ds. earliest (key_refusal ds m ∷ each_passes (key_refusal ds) (keys_in xs) ∷ []) ≡ None → 1 ≤ length ds) [
        | [] ↦ λ i. absurd cc
        | d ∷ ds ↦ λ _. omega arith
      ] e

  no_label_key : AllByRecursion (Fine es policy) (columns_in es) → IsNoLabelAt Made (position (is_key es) (columns_in es))
  no_label_key f =
      elim (nat_lt (position_or_len (is_key es) (columns_in es)) (length (columns_in es))) as (λ b. IsNoLabelAt Made (cond b (Some (position_or_len (is_key es) (columns_in es))) None)) [
        | true ↦ no_label_first es policy (columns_in es) f
        | false ↦ tt
      ]

  secured_here : (o : Option (List ℕ)) → secured_refusal (policy_of C policy) o ≡ None → IfGiven (IsLabelHere C Made) o
  secured_here None h = tt
  secured_here (Some l) h = has_it C policy l h

  columns_belong : (ds : List ColumnDef) → AllByRecursion (Fine es policy) ds → AllByRecursion (λ (d : ColumnDef). secured_refusal (policy_of C policy) d.secured ≡ None) ds → AllByRecursion (ColumnBelongs With Made) (map (made es policy) ds)
  columns_belong [] f h = tt
  columns_belong (d ∷ ds) f h = (record { label = belongs_to policy d.ty (is_some d.secured) f.0.protected; secured = secured_here d.secured h.0 }, columns_belong ds f.1 h.1)

  made_sound : 1 ≤ length (columns_in es) → length (columns_in es) ≤ 64 → columns_refusal [] (columns_in es) ≡ None → policy_refusal C policy ≡ None → flaws_refusal (is_some policy) false false es (columns_in es) ≡ None
      → each_passes (λ d. secured_refusal (policy_of C policy) d.secured) (columns_in es) ≡ None → TableIsSound K With Made
  made_sound some few a b c d =
      let f : AllByRecursion (Fine es policy) (columns_in es) = all_fine es policy false false (columns_in es) c in
      let i : AllByRecursion (λ (x : ColumnDef). is_among [] x.name ≡ false) (columns_in es) × AreDifferent (map (λ x. x.name) (map (made es policy) (columns_in es))) = new_names es policy [] (columns_in es) a in
      record {
        policy = its_policy policy b;
        permissions = tt;
        masks = tt;
        columns = record { names = i.1; key = its_key; masked = tt };
        few = record {
          some = subst (λ (k : ℕ). 1 ≤ k) (sym (made_length es policy (columns_in es))) some;
          few = subst (λ (k : ℕ). k ≤ 64) (sym (made_length es policy (columns_in es))) few;
          widths = new_widths es policy [] (columns_in es) a;
        };
        label_columns = record {
          one = one_label es policy false 0 (columns_in es) c;
          key = no_label_key f;
          secured = all_map (Fine es policy) IsUnsecuredLabel (made es policy) (unsecured_made es policy) (columns_in es) f;
          masks = refl;
        };
        belonging = columns_belong (columns_in es) f (all_passing _ (columns_in es) d);
        stored = record { permissions = tt; masks = tt };
      }

  with_sound : length C.tables < 64 → TableIsSound K With Made → IsSound K With
  with_sound room h =
      let p : Parts K C = apart K C s in
      let same : (m : List ℕ) → HasTable C m → table_named With m ≡ table_named C m = λ m i. same_put (λ (x : Table). x.name) Made C.tables m new i in
      let more : length (put (is_table n) Made C.tables) ≤ suc (length C.tables) = one_more (λ (x : Table). x.name) Made C.tables in
      together K With
      (put_table_parts K C Made (HasTable C) (Stands C) (reads_there K C p steady With (folded_of K C p) same (λ m _. refl) (λ m _. refl))
      (all_there (λ (x : Table). x.name) C.tables) (λ m z. z) (λ m i z. ap has_labels (same m i) ∙ z) (omega (arith, room, more)) (subst AreDifferent (sym (new_table_names C.tables new)) p.stored) h p)

module _ (K : StoredRules) (steady : IsSteady K) (C : Cat) (T : Tables) (s : IsSound K C) where
  pub create_table_sound : (user n : List ℕ) (es : List Element) (policy : Option (List ℕ)) → 1 ≤ length es → LeavesSound K (create_table C T user n es policy)
  create_table_sound user n es policy some =
      test_sound K (when (is_some (table_named C n)) (refusals.Exists n)) _ (λ new. test_sound K (when (nat_le 64 (length C.tables)) (refusals.Limit limits.Tables 64)) _
      (λ room. test_sound K (when (nat_lt 64 (length (columns_in es))) (refusals.Limit limits.Columns 64)) _ (λ few. test_sound K (columns_refusal [] (columns_in es)) _
      (λ a. test_sound K (each_passes (key_refusal (columns_in es)) (keys_in es)) _ (λ k. test_sound K (policy_refusal C policy) _ (λ b. test_sound K (flaws_refusal (is_some policy) false false es (columns_in es)) _
      (λ c. test_sound K (each_passes (λ d. secured_refusal (policy_of C policy) d.secured) (columns_in es)) _
      (λ d. done_sound K (put_table (new_table user n es policy) C) (put_version (record { name = n; rows = [] }) T) (keys.Table n ∷ keys.Rows n ∷ [])
      (with_sound K steady C T s user n es policy (is_new _ _ new) (not_full 64 _ (is_new _ _ room)) (made_sound K steady C T s user n es policy (is_new _ _ new) (some_column K steady C T s user n es policy (is_new _ _ new) es some k) (not_more 64 _ (is_new _ _ few)) a b c d))))))))))

-- Soundness record by record, and what carries it from one catalogue to another.
use Rattle.std.proofs.Common.{◌≡◌, refl, sym, ap, subst, ◌∙◌, ℕ, List, [], ◌∷◌, ◌++◌, map, Option, Some, None, length, true, ◌≤◌}
use Rattle.std.specs.Prelude.{filter_map, slice_get}
use Rattle.std.specs.List.{AllByRecursion, flat_map, cons_option}
use Rattle.lb_base.specs.declared.key.Key.TheVariants as keys
use Rattle.lb_tree.specs.declared.query.Cond.{Cond}
use Rattle.lb_tree.specs.declared.query.Expr.{Expr}
use Rattle.lb_tree.specs.declared.query.Tab.{Tab}
use Rattle.lb_cat.specs.declared.catalog.ColumnRec.{ColumnRec}
use Rattle.lb_cat.specs.declared.catalog.PermissionRec.{PermissionRec}
use Rattle.lb_cat.specs.declared.catalog.MaskRec.{MaskRec}
use Rattle.lb_cat.specs.Catalog.{Cat, Table, Policy, User, table_named, policy_named, component_named}
use Rattle.lb_names.specs.Mentions.{Mention, Mentions, table, policy, label, tables_in, policies_in, in_cond, in_expr}
use Rattle.lb_alter.specs.Columns.{HasItsColumns, HasOneLabelColumn, HasFewColumns}
use Rattle.lb_alter.specs.Deps.{in_table, in_tables, tables_for, policy_name_of, is_key_name, policies_for, components_of, components_for}
use Rattle.lb_alter.specs.Frame.{SameRecord, SameOn}
use Rattle.lb_alter.specs.Labelled.{LabelsBelong, HeldLabelsAreThere, HasItsShape}
use Rattle.lb_alter.specs.Named.{AreDifferent, IfGiven, HasTable, HasPolicy, HasOneOfEachName, TableNamesRecords, PolicyNamesRecords, UserNamesRecords, HasDifferentLabels, HasOneEntryEach, HasNoEmptyEntry, HasFoldedNames, IsGoodSource, ReadsGoodSources}
use Rattle.lb_alter.specs.Sound.{IsSound, HasFewComponents, IsWellMade}
use Rattle.lb_alter.specs.Steady.{stored_deps, IsSteady}
use Rattle.lb_alter.specs.Stored.{StoredRules, Stored, stored_in, stored_name, stored_permission, stored_mask, mentions_of, mentioned_in}
use Rattle.lb_alter.specs.Valid.{IsValid, TypesAt, IsValidMask, StoresValid, called, KeepsRules, KeepsMaskRules}
use Rattle.lb_alter.proofs.SoundUsers.{UserIsSound, all_append, all_filter, all_follow, once_all}
use Rattle.lb_alter.proofs.Steady.{all_front, all_after}
use Rattle.lb_base.specs.Names.{IsFolded}

-- ---- mentions

-- what a mention names is one of these
abbrev pub Named : (List ℕ → Type 0) → (List ℕ → Type 0) → Mention → Type 0
Named T P (table n) = T n
Named T P (policy p) = P p
Named T P (label p l) = P p

abbrev pub Stands : Cat → Mention → Type 0
Stands C = Named (HasTable C) (HasPolicy C)

-- a table that may be read by a permission or a mask of the table of that name
abbrev pub IsSource : Cat → List ℕ → List ℕ → Type 0
IsSource C own n = HasTable C n × IsGoodSource C own n

abbrev pub Sources : Cat → List ℕ → Mention → Type 0
Sources C own = Named (IsSource C own) (HasPolicy C)

pub source_stands : (C : Cat) (own : List ℕ) (m : Mention) → Sources C own m → Stands C m
source_stands C own (table n) h = h.0
source_stands C own (policy p) h = h
source_stands C own (label p l) h = h

pub all_both : {A : Type 0} (P Q : A → Type 0) (xs : List A) → AllByRecursion P xs → AllByRecursion Q xs → AllByRecursion (λ (x : A). P x × Q x) xs
all_both P Q [] h i = tt
all_both P Q (x ∷ xs) h i = ((h.0, i.0), all_both P Q xs h.1 i.1)

module _ (T P : List ℕ → Type 0) where
  pub named_from : (ms : Mentions) → AllByRecursion T (tables_in ms) → AllByRecursion P (policies_in ms) → AllByRecursion (Named T P) ms
  named_from [] a b = tt
  named_from (table n ∷ ms) a b = (a.0, named_from ms a.1 b)
  named_from (policy p ∷ ms) a b = (b.0, named_from ms a b.1)
  named_from (label p l ∷ ms) a b = (b.0, named_from ms a b.1)

  pub named_tables : (ms : Mentions) → AllByRecursion (Named T P) ms → AllByRecursion T (tables_in ms)
  named_tables [] h = tt
  named_tables (table n ∷ ms) h = (h.0, named_tables ms h.1)
  named_tables (policy p ∷ ms) h = named_tables ms h.1
  named_tables (label p l ∷ ms) h = named_tables ms h.1

  pub named_policies : (ms : Mentions) → AllByRecursion (Named T P) ms → AllByRecursion P (policies_in ms)
  named_policies [] h = tt
  named_policies (table n ∷ ms) h = named_policies ms h.1
  named_policies (policy p ∷ ms) h = (h.0, named_policies ms h.1)
  named_policies (label p l ∷ ms) h = (h.0, named_policies ms h.1)

-- what the permissions name, and what the masks name
abbrev pub InPermissions : (Mention → Type 0) → List PermissionRec → Type 0
InPermissions G ps = AllByRecursion (λ (p : PermissionRec). AllByRecursion G (in_cond p.condition)) ps

abbrev pub InMasks : (Mention → Type 0) → List MaskRec → Type 0
InMasks G ms = AllByRecursion (λ (m : MaskRec). AllByRecursion G (in_expr m.value)) ms

module _ (G : Mention → Type 0) where
  permissions_apart : (ps : List PermissionRec) (rest : List Stored) → AllByRecursion G (flat_map mentions_of (map stored_permission ps ++ rest)) → InPermissions G ps × AllByRecursion G (flat_map mentions_of rest)
  permissions_apart [] rest h = (tt, h)
  permissions_apart (p ∷ ps) rest h =
      let r : InPermissions G ps × AllByRecursion G (flat_map mentions_of rest) = permissions_apart ps rest (all_after G (in_cond p.condition) _ h) in
      ((all_front G (in_cond p.condition) _ h, r.0), r.1)

  masks_apart : (ms : List MaskRec) → AllByRecursion G (flat_map mentions_of (map stored_mask ms)) → InMasks G ms
  masks_apart [] h = tt
  masks_apart (m ∷ ms) h = (all_front G (in_expr m.value) _ h, masks_apart ms (all_after G (in_expr m.value) _ h))

  pub stored_apart : (t : Table) → AllByRecursion G (mentioned_in t) → InPermissions G t.permissions × InMasks G t.masks
  stored_apart t h =
      let r : InPermissions G t.permissions × AllByRecursion G (flat_map mentions_of (map stored_mask t.masks)) = permissions_apart t.permissions (map stored_mask t.masks) h in
      (r.0, masks_apart t.masks r.1)

  permissions_together : (ps : List PermissionRec) (rest : List Stored) → InPermissions G ps → AllByRecursion G (flat_map mentions_of rest) → AllByRecursion G (flat_map mentions_of (map stored_permission ps ++ rest))
  permissions_together [] rest h i = i
  permissions_together (p ∷ ps) rest h i = all_append G (in_cond p.condition) _ h.0 (permissions_together ps rest h.1 i)

  masks_together : (ms : List MaskRec) → InMasks G ms → AllByRecursion G (flat_map mentions_of (map stored_mask ms))
  masks_together [] h = tt
  masks_together (m ∷ ms) h = all_append G (in_expr m.value) _ h.0 (masks_together ms h.1)

  pub stored_together : (t : Table) → InPermissions G t.permissions → InMasks G t.masks → AllByRecursion G (mentioned_in t)
  stored_together t h i = permissions_together t.permissions (map stored_mask t.masks) h (masks_together t.masks i)

-- ---- names of permissions and masks

abbrev pub table_names : Table → List (List ℕ)
table_names t = map (λ p. p.name) t.permissions ++ map (λ m. m.name) t.masks

module _ {A B : Type 0} (f : A → B) where
  map_joined : (xs ys : List A) → map f (xs ++ ys) ≡ map f xs ++ map f ys
  map_joined [] ys = refl
  map_joined (x ∷ xs) ys = ap (λ (rest : List B). f x ∷ rest) (map_joined xs ys)

permission_names : (ps : List PermissionRec) → map stored_name (map stored_permission ps) ≡ map (λ p. p.name) ps
permission_names [] = refl
permission_names (p ∷ ps) = ap (λ (rest : List (List ℕ)). p.name ∷ rest) (permission_names ps)

mask_names_of : (ms : List MaskRec) → map stored_name (map stored_mask ms) ≡ map (λ m. m.name) ms
mask_names_of [] = refl
mask_names_of (m ∷ ms) = ap (λ (rest : List (List ℕ)). m.name ∷ rest) (mask_names_of ms)

names_of_table : (t : Table) → map stored_name (stored_in t) ≡ table_names t
names_of_table t =
    map_joined stored_name (map stored_permission t.permissions) (map stored_mask t.masks)
    ∙ ap (λ (xs : List (List ℕ)). xs ++ map stored_name (map stored_mask t.masks)) (permission_names t.permissions)
    ∙ ap (λ (xs : List (List ℕ)). map (λ p. p.name) t.permissions ++ xs) (mask_names_of t.masks)

names_flat : (ts : List Table) → map stored_name (flat_map stored_in ts) ≡ flat_map table_names ts
names_flat [] = refl
names_flat (t ∷ ts) =
    map_joined stored_name (stored_in t) (flat_map stored_in ts)
    ∙ ap (λ (xs : List (List ℕ)). xs ++ map stored_name (flat_map stored_in ts)) (names_of_table t)
    ∙ ap (λ (xs : List (List ℕ)). table_names t ++ xs) (names_flat ts)

-- ---- record by record

pub record TableIsSound (K : StoredRules) (C : Cat) (t : Table) : Type 0 where
  pub policy : IfGiven (HasPolicy C) t.policy
  pub permissions : InPermissions (Sources C t.name) t.permissions
  pub masks : InMasks (Sources C t.name) t.masks
  pub columns : HasItsColumns t
  pub few : HasFewColumns t
  pub label_columns : HasOneLabelColumn t
  pub belonging : LabelsBelong C t
  pub stored : StoresValid K C t

pub record PolicyIsSound (C : Cat) (p : Policy) : Type 0 where
  pub folded : IsFolded p.name
  pub few : HasFewComponents p
  pub components : PolicyNamesRecords C p
  pub labels : HasDifferentLabels p
  pub shape : HasItsShape C p

pub record Parts (K : StoredRules) (C : Cat) : Type 0 where
  pub one_each : HasOneOfEachName C
  pub few : length C.tables ≤ 64
  pub made : AllByRecursion IsWellMade C.components
  pub stored : AreDifferent (flat_map table_names C.tables)
  pub tables : AllByRecursion (TableIsSound K C) C.tables
  pub policies : AllByRecursion (PolicyIsSound C) C.policies
  pub users : AllByRecursion (UserIsSound C) C.users

module _ (K : StoredRules) (C : Cat) where
  tables_apart : (ts : List Table) → AllByRecursion (TableNamesRecords C) ts → AllByRecursion (ReadsGoodSources C) ts → AllByRecursion HasItsColumns ts → AllByRecursion HasFewColumns ts → AllByRecursion HasOneLabelColumn ts
      → AllByRecursion (LabelsBelong C) ts → AllByRecursion (StoresValid K C) ts → AllByRecursion (TableIsSound K C) ts
  tables_apart [] n g c f l b s = tt
  tables_apart (t ∷ ts) n g c f l b s =
      let r : InPermissions (Sources C t.name) t.permissions × InMasks (Sources C t.name) t.masks =
      stored_apart (Sources C t.name) t
      (named_from (IsSource C t.name) (HasPolicy C) (mentioned_in t) (all_both (HasTable C) (IsGoodSource C t.name) (tables_in (mentioned_in t)) n.0.sources g.0) n.0.calls) in
      (record { policy = n.0.policy; permissions = r.0; masks = r.1; columns = c.0; few = f.0; label_columns = l.0; belonging = b.0; stored = s.0 }, tables_apart ts n.1 g.1 c.1 f.1 l.1 b.1 s.1)

  policies_apart : (ps : List Policy) → HasFoldedNames (record C { policies = ps }) → AllByRecursion HasFewComponents ps → AllByRecursion (PolicyNamesRecords C) ps → AllByRecursion HasDifferentLabels ps → AllByRecursion (HasItsShape C) ps
      → AllByRecursion (PolicyIsSound C) ps
  policies_apart [] f c n l s = tt
  policies_apart (p ∷ ps) f c n l s = (record { folded = f.0; few = c.0; components = n.0; labels = l.0; shape = s.0 }, policies_apart ps f.1 c.1 n.1 l.1 s.1)

  users_apart : (us : List User) → AllByRecursion (UserNamesRecords C) us → AllByRecursion HasOneEntryEach us → AllByRecursion (HeldLabelsAreThere C) us → AllByRecursion HasNoEmptyEntry us → AllByRecursion (UserIsSound C) us
  users_apart [] n o h e = tt
  users_apart (u ∷ us) n o h e = (record { records = n.0; one = o.0; held = h.0; entries = e.0 }, users_apart us n.1 o.1 h.1 e.1)

  pub apart : IsSound K C → Parts K C
  apart s = record {
    one_each = s.one_each;
    few = s.limits.tables;
    made = s.limits.components;
    stored = subst AreDifferent (names_flat C.tables) s.names.stored;
    tables = tables_apart C.tables s.records.tables s.sources s.columns s.limits.columns s.label_columns s.belonging s.stored;
    policies = policies_apart C.policies s.folded s.limits.policies s.records.policies s.names.labels s.shapes;
    users = users_apart C.users s.records.users s.names.users s.held s.entries;
  }

  sources_of : (t : Table) → TableIsSound K C t → AllByRecursion (Sources C t.name) (mentioned_in t)
  sources_of t h = stored_together (Sources C t.name) t h.permissions h.masks

  names_of : (t : Table) → TableIsSound K C t → TableNamesRecords C t
  names_of t h =
      let all : AllByRecursion (Stands C) (mentioned_in t) = all_follow (Sources C t.name) (Stands C) (source_stands C t.name) (mentioned_in t) (sources_of t h) in
      record { policy = h.policy; sources = named_tables (HasTable C) (HasPolicy C) (mentioned_in t) all; calls = named_policies (HasTable C) (HasPolicy C) (mentioned_in t) all }

  good_of : (t : Table) → TableIsSound K C t → ReadsGoodSources C t
  good_of t h = all_follow (IsSource C t.name) (IsGoodSource C t.name) (λ n i. i.1) (tables_in (mentioned_in t)) (named_tables (IsSource C t.name) (HasPolicy C) (mentioned_in t) (sources_of t h))

  pub folded_of : Parts K C → HasFoldedNames C
  folded_of p = all_follow (PolicyIsSound C) (λ (x : Policy). IsFolded x.name) (λ x i. i.folded) C.policies p.policies

  pub together : Parts K C → IsSound K C
  together p = record {
    one_each = p.one_each;
    folded = folded_of p;
    sources = all_follow (TableIsSound K C) (ReadsGoodSources C) good_of C.tables p.tables;
    limits = record {
      tables = p.few;
      columns = all_follow (TableIsSound K C) HasFewColumns (λ x h. h.few) C.tables p.tables;
      policies = all_follow (PolicyIsSound C) HasFewComponents (λ x h. h.few) C.policies p.policies;
      components = p.made;
    };
    records = record {
      tables = all_follow (TableIsSound K C) (TableNamesRecords C) names_of C.tables p.tables;
      policies = all_follow (PolicyIsSound C) (PolicyNamesRecords C) (λ x h. h.components) C.policies p.policies;
      users = all_follow (UserIsSound C) (UserNamesRecords C) (λ x h. h.records) C.users p.users;
    };
    columns = all_follow (TableIsSound K C) HasItsColumns (λ x h. h.columns) C.tables p.tables;
    label_columns = all_follow (TableIsSound K C) HasOneLabelColumn (λ x h. h.label_columns) C.tables p.tables;
    names = record {
      stored = subst AreDifferent (sym (names_flat C.tables)) p.stored;
      labels = all_follow (PolicyIsSound C) HasDifferentLabels (λ x h. h.labels) C.policies p.policies;
      users = all_follow (UserIsSound C) HasOneEntryEach (λ x h. h.one) C.users p.users;
    };
    belonging = all_follow (TableIsSound K C) (LabelsBelong C) (λ x h. h.belonging) C.tables p.tables;
    stored = all_follow (TableIsSound K C) (StoresValid K C) (λ x h. h.stored) C.tables p.tables;
    shapes = all_follow (PolicyIsSound C) (HasItsShape C) (λ x h. h.shape) C.policies p.policies;
    held = all_follow (UserIsSound C) (HeldLabelsAreThere C) (λ x h. h.held) C.users p.users;
    entries = all_follow (UserIsSound C) HasNoEmptyEntry (λ x h. h.entries) C.users p.users;
  }

-- ---- stored conditions from one catalogue to another

-- conditions on tables of this kind, which name only such things, stay right
pub record Reads (K : StoredRules) (C D : Cat) (Own : List ℕ → Type 0) (G : Mention → Type 0) : Type 0 where
  pub condition : (on : Tab) (c : Cond) → Own on.table → AllByRecursion G (in_cond c) → K.are_qualified c ≡ true → KeepsRules K C on c → KeepsRules K D on c
  pub mask : (on : Tab) (column : List ℕ) (e : Expr) → Own on.table → AllByRecursion G (in_expr e) → K.are_qualified_in e ≡ true → KeepsMaskRules K C on column e → KeepsMaskRules K D on column e

module _ (K : StoredRules) (C D : Cat) (Own : List ℕ → Type 0) (G : Mention → Type 0) (r : Reads K C D Own G) (t : Table) (own : Own t.name) where
  permissions_move : (ps : List PermissionRec) → InPermissions G ps → AllByRecursion (IsValid K C t) ps → AllByRecursion (IsValid K D t) ps
  permissions_move [] g h = tt
  permissions_move (p ∷ ps) g h =
      let x : KeepsRules K D (called t p.correlation) p.condition = r.condition (called t p.correlation) p.condition own g.0 h.0.qualified (record { names = h.0.names; types = h.0.types }) in
      (record { names = x.names; types = x.types; qualified = h.0.qualified }, permissions_move ps g.1 h.1)

  type_moves : (m : MaskRec) (c : Option ColumnRec) → AllByRecursion G (in_expr m.value) → K.are_qualified_in m.value ≡ true → K.mask_names C (called t m.correlation) m.value ≡ None → TypesAt K C t m c
      → (K.mask_names D (called t m.correlation) m.value ≡ None) × TypesAt K D t m c
  type_moves m None g q h i = absurd i
  type_moves m (Some c) g q h i =
      let x : KeepsMaskRules K D (called t m.correlation) c.name m.value = r.mask (called t m.correlation) c.name m.value own g q (record { names = h; types = i.0 }) in
      (x.names, (x.types, i.1))

  masks_move : (ms : List MaskRec) → InMasks G ms → AllByRecursion (IsValidMask K C t) ms → AllByRecursion (IsValidMask K D t) ms
  masks_move [] g h = tt
  masks_move (m ∷ ms) g h =
      let x : (K.mask_names D (called t m.correlation) m.value ≡ None) × TypesAt K D t m (slice_get t.columns m.column) = type_moves m (slice_get t.columns m.column) g.0 h.0.qualified h.0.names h.0.types in
      (record { names = x.0; types = x.1; qualified = h.0.qualified }, masks_move ms g.1 h.1)

  pub stored_moves : InPermissions G t.permissions → InMasks G t.masks → StoresValid K C t → StoresValid K D t
  stored_moves g i h = record { permissions = permissions_move t.permissions g h.permissions; masks = masks_move t.masks i h.masks }

-- ---- what isn't touched

module _ {A B : Type 0} where
  pub all_flat : (P : A → Type 0) (Q : B → Type 0) (f : A → List B) → ((x : A) → P x → AllByRecursion Q (f x)) → (xs : List A) → AllByRecursion P xs → AllByRecursion Q (flat_map f xs)
  all_flat P Q f g [] h = tt
  all_flat P Q f g (x ∷ xs) h = all_append Q (f x) (flat_map f xs) (g x h.0) (all_flat P Q f g xs h.1)

  pub all_map : (P : A → Type 0) (Q : B → Type 0) (f : A → B) → ((x : A) → P x → Q (f x)) → (xs : List A) → AllByRecursion P xs → AllByRecursion Q (map f xs)
  all_map P Q f g [] h = tt
  all_map P Q f g (x ∷ xs) h = (g x h.0, all_map P Q f g xs h.1)

module _ (P Q : List ℕ → Type 0) (f : List ℕ → Option (List ℕ)) where
  all_given : ((x : List ℕ) → P x → IfGiven Q (f x)) → (xs : List (List ℕ)) → AllByRecursion P xs → AllByRecursion Q (filter_map f xs)
  all_given g [] h = tt
  all_given g (x ∷ xs) h = given (f x) (g x h.0) (all_given g xs h.1)
    where
      given : (o : Option (List ℕ)) → IfGiven Q o → AllByRecursion Q (filter_map f xs) → AllByRecursion Q (cons_option o (filter_map f xs))
      given None i rest = rest
      given (Some y) i rest = (i, rest)

-- where the records of these names are the same, so is what the conditions that name only them depend on
module _ (C D : Cat) (T P Q : List ℕ → Type 0)
    (tables : (n : List ℕ) → T n → table_named D n ≡ table_named C n)
    (policies : (n : List ℕ) → P n → policy_named D n ≡ policy_named C n)
    (components : (n : List ℕ) → Q n → component_named D n ≡ component_named C n)
    (stored : (n : List ℕ) → T n → AllByRecursion (Named T P) (in_table (table_named C n)))
    (owned : (n : List ℕ) → T n → IfGiven P (policy_name_of (table_named C n)))
    (made : (n : List ℕ) → P n → AllByRecursion Q (components_of (policy_named C n))) where
  after_named : (ns : List (List ℕ)) → AllByRecursion T ns → AllByRecursion (Named T P) (in_tables C ns)
  after_named ns h = all_flat T (Named T P) (λ n. in_table (table_named C n)) stored ns h

  tables_for_named : (ms : Mentions) → AllByRecursion (Named T P) ms → AllByRecursion T (tables_for C ms)
  tables_for_named ms h =
      let here : AllByRecursion T (tables_in ms) = named_tables T P ms h in
      all_append T (tables_in ms) _ here (named_tables T P (in_tables C (tables_in ms)) (after_named (tables_in ms) here))

  policies_for_named : (ms : Mentions) → AllByRecursion (Named T P) ms → AllByRecursion P (policies_for C ms)
  policies_for_named ms h =
      all_append P _ _ (all_given T P (λ n. policy_name_of (table_named C n)) owned (tables_for C ms) (tables_for_named ms h))
      (all_filter P is_key_name _ (all_append P (policies_in ms) _ (named_policies T P ms h) (named_policies T P (in_tables C (tables_in ms)) (after_named (tables_in ms) (named_tables T P ms h)))))

  pub deps_kept : (on : Tab) (ms : Mentions) → T on.table → AllByRecursion (Named T P) ms → SameOn (stored_deps C on ms) C D
  deps_kept on ms own h =
      let all : AllByRecursion (Named T P) (table on.table ∷ ms) = (own, h) in
      once_all (SameRecord C D) (map (λ n. keys.Table n) (tables_for C (table on.table ∷ ms)) ++ (map (λ n. keys.Policy n) (policies_for C (table on.table ∷ ms)) ++ map (λ n. keys.Component n) (components_for C (table on.table ∷ ms))))
      (all_append (SameRecord C D) (map (λ n. keys.Table n) (tables_for C (table on.table ∷ ms))) _ (all_map T (SameRecord C D) (λ n. keys.Table n) tables (tables_for C (table on.table ∷ ms)) (tables_for_named (table on.table ∷ ms) all))
      (all_append (SameRecord C D) (map (λ n. keys.Policy n) (policies_for C (table on.table ∷ ms))) _ (all_map P (SameRecord C D) (λ n. keys.Policy n) policies (policies_for C (table on.table ∷ ms)) (policies_for_named (table on.table ∷ ms) all))
      (all_map Q (SameRecord C D) (λ n. keys.Component n) components (components_for C (table on.table ∷ ms))
      (all_flat P Q (λ n. components_of (policy_named C n)) made (policies_for C (table on.table ∷ ms)) (policies_for_named (table on.table ∷ ms) all)))))

  pub reads_kept : (K : StoredRules) → IsSteady K → HasFoldedNames C → HasFoldedNames D → Reads K C D T (Named T P)
  reads_kept K steady f g = record {
    condition = λ on c own h q r. steady.reads C D on c f g (deps_kept on (in_cond c) own h) r;
    mask = λ on ty e own h q r. steady.reads_mask C D on ty e f g (deps_kept on (in_expr e) own h) r;
  }

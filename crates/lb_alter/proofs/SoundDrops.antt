-- Tables and policies that are dropped leave a sound catalogue sound.
use Rattle.std.proofs.Common.{◌≡◌, refl, sym, ap, subst, ◌∙◌, ℕ, Bool, true, false, cond, not, ◌||◌, List, [], ◌∷◌, ◌++◌, map, Option, Some, None, arith, length, suc, ◌≤◌}
use Rattle.std.specs.Prelude.{find, filter, option_map}
use Rattle.std.specs.List.{AllByRecursion, flat_map, list_any}
use Rattle.std.specs.Str.{bytes_eq}
use Rattle.lb_base.specs.declared.key.Key.TheVariants as keys
use Rattle.lb_cat.specs.declared.catalog.Grant.{Grant}
use Rattle.lb_cat.specs.declared.catalog.Holding.{Holding}
use Rattle.lb_rows.specs.Tables.{Tables, is_version}
use Rattle.lb_rows.specs.Lists.{without}
use Rattle.lb_cat.specs.Catalog.{Cat, Table, Policy, User, table_named, policy_named, is_table, is_policy, drop_table, drop_policy}
use Rattle.lb_cat.specs.Holdings.{is_same_name, is_holding_of, has_holding_of, without_holding}
use Rattle.lb_cat.specs.Privileges.{is_grant_on, has_grant_on, without_grant}
use Rattle.lb_names.specs.Mentions.{Mentions, table, policy, label, is_table_mention, is_policy_mention}
use Rattle.lb_alter.specs.ChangeControl.{has_labels, is_bad_source}
use Rattle.lb_alter.specs.ChangePolicy.{has_policy, table_name, first_label, drop_policy_of}
use Rattle.lb_alter.specs.ChangeTable.{has_label, policy_of, user_key, drop_table_of}
use Rattle.lb_alter.specs.Deps.{in_table, policy_name_of}
use Rattle.lb_alter.specs.Labelled.{IsPolicyLabel, HoldsLabels}
use Rattle.lb_alter.specs.Named.{AreDifferent, IfGiven, HasTable, HasPolicy, HasComponent, HoldsSomething, GrantsSomething, HasFoldedNames}
use Rattle.lb_alter.specs.Refusing.{in_use, secadm}
use Rattle.lb_alter.specs.Sound.{IsSound}
use Rattle.lb_alter.specs.Steady.{IsSteady}
use Rattle.lb_alter.specs.Stored.{StoredRules, Stored, stored_in, stored_name, mentions_of, mentioned_in, names_table, user_of_table, calls_policy}
use Rattle.lb_alter.proofs.SoundGrants.{different_filter, found_then, owner_then}
use Rattle.lb_alter.proofs.SoundKinds.{none_found, not_in_use, all_there, policy_there, components_there}
use Rattle.lb_alter.proofs.SoundParts.{Stands, InPermissions, InMasks, stored_apart, stored_together, TableIsSound, PolicyIsSound, Parts, apart, together, table_names, Reads, reads_kept, stored_moves, all_map, Sources, folded_of, source_stands}
use Rattle.lb_alter.proofs.SoundTables.{Always, all_always, Names, names_front, among_after, different_after, belonging_follows, same_without, there_without, StaysPlain, found_without, neither}
use Rattle.lb_alter.proofs.SoundUsers.{UserIsSound, LeavesSound, test_sound, done_sound, all_filter, all_follow, all_found, all_append, not_so}
use Rattle.lb_alter.proofs.Steady.{all_front, all_after}
use Rattle.lb_alter.proofs.Untouched.{or_left, or_right, turned, without_other}
use Rattle.lb_base.specs.Names.{IsFolded}
use Rattle.std.proofs.lemmas.Slice.Eq.{bytes_eq-Decides}

-- ---- lists

-- what passes a test may be more than what was there
pub all_passed : {A : Type 0} (P Q : A → Type 0) (test : A → Bool) → ((x : A) → test x ≡ true → P x → Q x) → (xs : List A) → AllByRecursion P xs → AllByRecursion Q (filter test xs)
all_passed P Q test f [] h = tt
all_passed P Q test f (x ∷ xs) h =
    elim (test x) as (λ b. test x ≡ b → AllByRecursion Q (cond b (x ∷ filter test xs) (filter test xs))) [
      | true ↦ λ e. (f x e h.0, all_passed P Q test f xs h.1)
      | false ↦ λ _. all_passed P Q test f xs h.1
    ] refl

names_mapped : (f : User → User) → ((u : User) → (f u).name ≡ u.name) → (us : List User) → map (λ u. u.name) (map f us) ≡ map (λ u. u.name) us
names_mapped f g [] = refl
names_mapped f g (u ∷ us) = rw (g u) (ap (λ (ns : List (List ℕ)). u.name ∷ ns) (names_mapped f g us))

names_filter : (test : Table → Bool) (xs : List Table) → Names Always (flat_map table_names (filter test xs)) (flat_map table_names xs)
names_filter test [] = record { among = λ n _ h. h; different = λ h. h }
names_filter test (x ∷ xs) =
    elim (test x) as (λ b. Names Always (flat_map table_names (cond b (x ∷ filter test xs) (filter test xs))) (table_names x ++ flat_map table_names xs)) [
      | true ↦ names_front Always (table_names x) _ (flat_map table_names xs) (all_always (table_names x)) (names_filter test xs)
      | false ↦
          let r : Names Always (flat_map table_names (filter test xs)) (flat_map table_names xs) = names_filter test xs in
          record { among = λ n _ h. r.among n tt (among_after (table_names x) _ n h); different = λ h. r.different (different_after (table_names x) _ h) }
    ]

fewer_left : {A : Type 0} (test : A → Bool) (xs : List A) (n : ℕ) → length xs ≤ n → length (filter test xs) ≤ n
fewer_left test xs n h = let i : length (filter test xs) ≤ length xs = fewer test xs in omega (arith, h, i)
  where
    fewer : {A : Type 0} (test : A → Bool) (xs : List A) → length (filter test xs) ≤ length xs
    fewer test [] = omega arith
    fewer test (x ∷ xs) =
        elim (test x) as (λ b. length (cond b (x ∷ filter test xs) (filter test xs)) ≤ suc (length xs)) [
          | true ↦ let h : length (filter test xs) ≤ length xs = fewer test xs in omega (arith, h)
          | false ↦ let h : length (filter test xs) ≤ length xs = fewer test xs in omega (arith, h)
        ]

all_flat_apart : {A B : Type 0} (P : B → Type 0) (f : A → List B) (xs : List A) → AllByRecursion P (flat_map f xs) → AllByRecursion (λ (x : A). AllByRecursion P (f x)) xs
all_flat_apart P f [] h = tt
all_flat_apart P f (x ∷ xs) h = (all_front P (f x) _ h, all_flat_apart P f xs (all_after P (f x) _ h))

module _ (K : StoredRules) (steady : IsSteady K) (C : Cat) (T : Tables) (s : IsSound K C) (n : List ℕ) where
  p : Parts K C
  p = apart K C s

  -- ---- DROP POLICY

  abbrev pub NoPolicy : Cat
  NoPolicy = record (drop_policy n C) { users = map (without_holding n) C.users }

  policy_left : (m : List ℕ) → bytes_eq m n ≡ false → HasPolicy C m → HasPolicy NoPolicy m
  policy_left m off h = there_without (λ (y : Policy). y.name) n m C.policies (turned m n off) h

  policy_same : (m : List ℕ) → bytes_eq m n ≡ false → policy_named NoPolicy m ≡ policy_named C m
  policy_same m off = without_other (λ (y : Policy). y.name) n m C.policies (turned m n off)

  own_left : (o : Option (List ℕ)) → is_same_name n o ≡ false → IfGiven (HasPolicy C) o → IfGiven (HasPolicy NoPolicy) o
  own_left None e h = tt
  own_left (Some m) e h = policy_left m e h

  calls_left : (own : List ℕ) (ms : Mentions) → list_any (is_policy_mention n) ms ≡ false → AllByRecursion (Sources C own) ms → AllByRecursion (Sources NoPolicy own) ms
  calls_left own [] e h = tt
  calls_left own (table m ∷ ms) e h = (h.0, calls_left own ms e h.1)
  calls_left own (policy m ∷ ms) e h = (policy_left m (or_left _ _ e) h.0, calls_left own ms (or_right (bytes_eq m n) _ e) h.1)
  calls_left own (label m l ∷ ms) e h = (policy_left m (or_left _ _ e) h.0, calls_left own ms (or_right (bytes_eq m n) _ e) h.1)

  calls_stand : (own : List ℕ) (ms : Mentions) → AllByRecursion (Sources NoPolicy own) ms → AllByRecursion (Stands NoPolicy) ms
  calls_stand own ms h = all_follow (Sources NoPolicy own) (Stands NoPolicy) (source_stands NoPolicy own) ms h

  labels_left : (o : Option (List ℕ)) → is_same_name n o ≡ false → (l : List ℕ) → has_label (policy_of C o) l ≡ true → has_label (policy_of NoPolicy o) l ≡ true
  labels_left None e l h = h
  labels_left (Some m) e l h = ap (λ (o : Option Policy). has_label o l) (policy_same m e) ∙ h

  -- what is left of a table's names
  record Left (t : Table) : Type 0 where
    pub own : is_same_name n t.policy ≡ false
    pub policy : IfGiven (HasPolicy NoPolicy) t.policy
    pub mentions : AllByRecursion (Sources NoPolicy t.name) (mentioned_in t)

  left_of : (t : Table) → (has_policy n t || calls_policy n t) ≡ false → TableIsSound K C t → Left t
  left_of t e h = record {
    own = or_left _ _ e;
    policy = own_left t.policy (or_left _ _ e) h.policy;
    mentions = calls_left t.name (mentioned_in t) (or_right (has_policy n t) _ e) (stored_together (Sources C t.name) t h.permissions h.masks);
  }

  all_left : (ts : List Table) → AllByRecursion (λ (t : Table). (has_policy n t || calls_policy n t) ≡ false) ts → AllByRecursion (TableIsSound K C) ts → AllByRecursion Left ts
  all_left [] e h = tt
  all_left (t ∷ ts) e h = (left_of t e.0 h.0, all_left ts e.1 h.1)

  no_policy_folded : HasFoldedNames NoPolicy
  no_policy_folded = all_filter (λ (x : Policy). IsFolded x.name) (λ x. not (is_policy n x)) C.policies (folded_of K C p)

  module _ (left : AllByRecursion Left C.tables) where
    left_reads : Reads K C NoPolicy (HasTable C) (Stands NoPolicy)
    left_reads = reads_kept C NoPolicy (HasTable C) (HasPolicy NoPolicy) (HasComponent C) (λ m _. refl) (λ m h. same_without (λ (y : Policy). y.name) n m C.policies h) (λ m _. refl) (λ m _. stored m) (λ m _. owned m) (λ m _. components_there K C p m) K steady (folded_of K C p) no_policy_folded
      where
        stored : (m : List ℕ) → AllByRecursion (Stands NoPolicy) (in_table (table_named C m))
        stored m =
            elim (table_named C m) as (λ o. table_named C m ≡ o → AllByRecursion (Stands NoPolicy) (in_table o)) [
              | None ↦ λ _. tt
              | Some t ↦ λ e. let h : Left t = all_found Left (is_table m) C.tables t left e in calls_stand t.name (mentioned_in t) h.mentions
            ] refl

        owned : (m : List ℕ) → IfGiven (HasPolicy NoPolicy) (policy_name_of (table_named C m))
        owned m =
            elim (table_named C m) as (λ o. table_named C m ≡ o → IfGiven (HasPolicy NoPolicy) (policy_name_of o)) [
              | None ↦ λ _. tt
              | Some t ↦ λ e. let h : Left t = all_found Left (is_table m) C.tables t left e in h.policy
            ] refl

    tables_left : (ts : List Table) → AllByRecursion (λ (x : Table). HasTable C x.name) ts → AllByRecursion Left ts → AllByRecursion (TableIsSound K C) ts → AllByRecursion (TableIsSound K NoPolicy) ts
    tables_left [] o l h = tt
    tables_left (t ∷ ts) o l h =
        let g : InPermissions (Sources NoPolicy t.name) t.permissions × InMasks (Sources NoPolicy t.name) t.masks = stored_apart (Sources NoPolicy t.name) t l.0.mentions in
        let r : InPermissions (Stands NoPolicy) t.permissions × InMasks (Stands NoPolicy) t.masks = stored_apart (Stands NoPolicy) t (calls_stand t.name (mentioned_in t) l.0.mentions) in (
          record {
            policy = l.0.policy;
            permissions = g.0;
            masks = g.1;
            columns = h.0.columns;
            few = h.0.few;
            label_columns = h.0.label_columns;
            belonging = belonging_follows C NoPolicy t (labels_left t.policy l.0.own) h.0.belonging;
            stored = stored_moves K C NoPolicy (HasTable C) (Stands NoPolicy) left_reads t o.0 r.0 r.1 h.0.stored;
          },
          tables_left ts o.1 l.1 h.1,
        )

  given_left : (m : List ℕ) → bytes_eq m n ≡ false → (o : Option (List ℕ)) → IfGiven (IsPolicyLabel C m) o → IfGiven (IsPolicyLabel NoPolicy m) o
  given_left m off None h = tt
  given_left m off (Some l) h = ap (λ (o : Option Policy). has_label o l) (policy_same m off) ∙ h

  user_left : (u : User) → UserIsSound C u → UserIsSound NoPolicy (without_holding n u)
  user_left u h =
      let kept : Holding → Bool = λ (x : Holding). not (is_holding_of n x) in
      record {
        records = record { roles = h.records.roles; granted = h.records.granted; held = all_passed (λ (x : Holding). HasPolicy C x.policy) (λ (x : Holding). HasPolicy NoPolicy x.policy) kept (λ x e i. policy_left x.policy (not_so _ e) i) u.held h.records.held };
        one = record { privileges = h.one.privileges; held = different_filter (λ (x : Holding). x.policy) kept u.held h.one.held };
        held = all_passed (HoldsLabels C) (HoldsLabels NoPolicy) kept (λ x e i. record { read = given_left x.policy (not_so _ e) x.read i.read; write = given_left x.policy (not_so _ e) x.write i.write }) u.held h.held;
        entries = record { privileges = h.entries.privileges; held = all_filter HoldsSomething kept u.held h.entries.held };
      }

  no_policy_sound : AllByRecursion (λ (t : Table). (has_policy n t || calls_policy n t) ≡ false) C.tables → IsSound K NoPolicy
  no_policy_sound e =
      let left : AllByRecursion Left C.tables = all_left C.tables e p.tables in
      together K NoPolicy (record {
        one_each = record {
          tables = p.one_each.tables;
          policies = different_filter (λ (x : Policy). x.name) (λ x. not (is_policy n x)) C.policies p.one_each.policies;
          components = p.one_each.components;
          users = subst AreDifferent (sym (names_mapped (without_holding n) (λ u. refl) C.users)) p.one_each.users;
          roles = p.one_each.roles;
        };
        few = p.few;
        made = p.made;
        stored = p.stored;
        tables = tables_left left C.tables (all_there (λ (x : Table). x.name) C.tables) left p.tables;
        policies = all_filter (PolicyIsSound NoPolicy) (λ x. not (is_policy n x)) C.policies
            (all_follow (PolicyIsSound C) (PolicyIsSound NoPolicy) (λ x i. record { folded = i.folded; few = i.few; components = i.components; labels = i.labels; shape = record { shape = i.shape.shape; labels = i.shape.labels } }) C.policies p.policies);
        users = all_map (UserIsSound C) (UserIsSound NoPolicy) (without_holding n) user_left C.users p.users;
      })

  pub drop_policy_sound : (user : List ℕ) → LeavesSound K (drop_policy_of C T user n)
  drop_policy_sound user =
      test_sound K (secadm C user) _ (λ _. found_then K n (policy_named C n) _ (λ x _. test_sound K (in_use n (option_map table_name (find (λ t. has_policy n t || calls_policy n t) C.tables))) _
      (λ e. test_sound K (in_use n (first_label x.labels)) _
      (λ _. done_sound K NoPolicy T (keys.Policy n ∷ map user_key (filter (has_holding_of n) C.users)) (no_policy_sound (none_found _ C.tables (not_in_use n table_name _ e)))))))

  -- ---- DROP TABLE

  abbrev pub NoTable : Cat
  NoTable = record (drop_table n C) { users = map (without_grant n) C.users }

  table_left : (m : List ℕ) → bytes_eq m n ≡ false → HasTable C m → HasTable NoTable m
  table_left m off h = there_without (λ (y : Table). y.name) n m C.tables (turned m n off) h

  plain_left : StaysPlain C NoTable
  plain_left m _ h =
      elim (bytes_eq n m) as (λ b. bytes_eq n m ≡ b → has_labels (table_named NoTable m) ≡ false) [
        | true ↦ λ e. subst (λ (k : List ℕ). has_labels (table_named NoTable k) ≡ false) ((bytes_eq-Decides n m).0 e) (ap has_labels (found_without (λ (y : Table). y.name) n C.tables))
        | false ↦ λ e. ap has_labels (without_other (λ (y : Table). y.name) n m C.tables e) ∙ h
      ] refl

  mentions_left : (own : List ℕ) (ms : Mentions) → list_any (is_table_mention n) ms ≡ false → AllByRecursion (Sources C own) ms → AllByRecursion (Sources NoTable own) ms
  mentions_left own [] e h = tt
  mentions_left own (table m ∷ ms) e h =
      let bad : is_bad_source NoTable own m ≡ false = neither (bytes_eq m own) _ (or_left _ _ h.0.1) (plain_left m h.0.0 (or_right (bytes_eq m own) _ h.0.1)) in
      ((table_left m (or_left _ _ e) h.0.0, bad), mentions_left own ms (or_right (bytes_eq m n) _ e) h.1)
  mentions_left own (policy m ∷ ms) e h = (h.0, mentions_left own ms e h.1)
  mentions_left own (label m l ∷ ms) e h = (h.0, mentions_left own ms e h.1)

  stored_left : (own : List ℕ) (xs : List Stored) → AllByRecursion (λ (x : Stored). names_table n x ≡ false) xs → AllByRecursion (Sources C own) (flat_map mentions_of xs) → AllByRecursion (Sources NoTable own) (flat_map mentions_of xs)
  stored_left own [] e h = tt
  stored_left own (x ∷ xs) e h =
      all_append (Sources NoTable own) x.mentions (flat_map mentions_of xs) (mentions_left own x.mentions e.0 (all_front (Sources C own) x.mentions _ h)) (stored_left own xs e.1 (all_after (Sources C own) x.mentions _ h))

  still_stands : (own : List ℕ) (ms : Mentions) → AllByRecursion (Sources NoTable own) ms → AllByRecursion (Stands NoTable) ms
  still_stands own ms h = all_follow (Sources NoTable own) (Stands NoTable) (source_stands NoTable own) ms h

  abbrev pub Names_left : Table → Type 0
  Names_left t = AllByRecursion (Sources NoTable t.name) (mentioned_in t)

  all_names_left : (ts : List Table) → AllByRecursion (λ (t : Table). AllByRecursion (λ (x : Stored). names_table n x ≡ false) (stored_in t)) ts → AllByRecursion (TableIsSound K C) ts → AllByRecursion Names_left ts
  all_names_left [] e h = tt
  all_names_left (t ∷ ts) e h = (stored_left t.name (stored_in t) e.0 (stored_together (Sources C t.name) t h.0.permissions h.0.masks), all_names_left ts e.1 h.1)

  module _ (left : AllByRecursion Names_left NoTable.tables) where
    same_table : (m : List ℕ) → HasTable NoTable m → table_named NoTable m ≡ table_named C m
    same_table m h = same_without (λ (y : Table). y.name) n m C.tables h

    still_reads : Reads K C NoTable (HasTable NoTable) (Stands NoTable)
    still_reads = reads_kept C NoTable (HasTable NoTable) (HasPolicy C) (HasComponent C) same_table (λ m _. refl) (λ m _. refl)
        (λ m h. subst (λ (o : Option Table). AllByRecursion (Stands NoTable) (in_table o)) (same_table m h) (stored m)) (λ m _. policy_there K C p m) (λ m _. components_there K C p m) K steady (folded_of K C p) (folded_of K C p)
      where
        stored : (m : List ℕ) → AllByRecursion (Stands NoTable) (in_table (table_named NoTable m))
        stored m =
            elim (table_named NoTable m) as (λ o. table_named NoTable m ≡ o → AllByRecursion (Stands NoTable) (in_table o)) [
              | None ↦ λ _. tt
              | Some t ↦ λ e. let h : Names_left t = all_found Names_left (is_table m) NoTable.tables t left e in still_stands t.name (mentioned_in t) h
            ] refl

    still_tables : (ts : List Table) → AllByRecursion (λ (x : Table). HasTable NoTable x.name) ts → AllByRecursion Names_left ts → AllByRecursion (TableIsSound K C) ts → AllByRecursion (TableIsSound K NoTable) ts
    still_tables [] o l h = tt
    still_tables (t ∷ ts) o l h =
        let g : InPermissions (Sources NoTable t.name) t.permissions × InMasks (Sources NoTable t.name) t.masks = stored_apart (Sources NoTable t.name) t l.0 in
        let r : InPermissions (Stands NoTable) t.permissions × InMasks (Stands NoTable) t.masks = stored_apart (Stands NoTable) t (still_stands t.name (mentioned_in t) l.0) in (
          record {
            policy = h.0.policy;
            permissions = g.0;
            masks = g.1;
            columns = h.0.columns;
            few = h.0.few;
            label_columns = h.0.label_columns;
            belonging = belonging_follows C NoTable t (λ x z. z) h.0.belonging;
            stored = stored_moves K C NoTable (HasTable NoTable) (Stands NoTable) still_reads t o.0 r.0 r.1 h.0.stored;
          },
          still_tables ts o.1 l.1 h.1,
        )

  user_still : (u : User) → UserIsSound C u → UserIsSound NoTable (without_grant n u)
  user_still u h =
      let kept : Grant → Bool = λ (x : Grant). not (is_grant_on n x) in
      record {
        records = record { roles = h.records.roles; granted = all_passed (λ (x : Grant). HasTable C x.table) (λ (x : Grant). HasTable NoTable x.table) kept (λ x e i. table_left x.table (not_so _ e) i) u.privileges h.records.granted; held = h.records.held };
        one = record { privileges = different_filter (λ (x : Grant). x.table) kept u.privileges h.one.privileges; held = h.one.held };
        held = all_follow (HoldsLabels C) (HoldsLabels NoTable) (λ y j. record { read = j.read; write = j.write }) u.held h.held;
        entries = record { privileges = all_filter GrantsSomething kept u.privileges h.entries.privileges; held = h.entries.held };
      }

  no_table_sound : AllByRecursion (λ (x : Stored). names_table n x ≡ false) (flat_map stored_in NoTable.tables) → IsSound K NoTable
  no_table_sound e =
      let test : Table → Bool = λ (x : Table). not (is_table n x) in
      let ts : AllByRecursion (TableIsSound K C) NoTable.tables = all_filter (TableIsSound K C) test C.tables p.tables in
      let left : AllByRecursion Names_left NoTable.tables = all_names_left NoTable.tables (all_flat_apart (λ (x : Stored). names_table n x ≡ false) stored_in NoTable.tables e) ts in
      let names : Names Always (flat_map table_names NoTable.tables) (flat_map table_names C.tables) = names_filter test C.tables in
      together K NoTable (record {
        one_each = record {
          tables = different_filter (λ (x : Table). x.name) test C.tables p.one_each.tables;
          policies = p.one_each.policies;
          components = p.one_each.components;
          users = subst AreDifferent (sym (names_mapped (without_grant n) (λ u. refl) C.users)) p.one_each.users;
          roles = p.one_each.roles;
        };
        few = fewer_left test C.tables 64 p.few;
        made = p.made;
        stored = names.different p.stored;
        tables = still_tables left NoTable.tables (all_there (λ (x : Table). x.name) NoTable.tables) left ts;
        policies = all_follow (PolicyIsSound C) (PolicyIsSound NoTable) (λ x i. record { folded = i.folded; few = i.few; components = i.components; labels = i.labels; shape = record { shape = i.shape.shape; labels = i.shape.labels } }) C.policies p.policies;
        users = all_map (UserIsSound C) (UserIsSound NoTable) (without_grant n) user_still C.users p.users;
      })

  pub drop_table_sound : (user : List ℕ) → LeavesSound K (drop_table_of C T user n)
  drop_table_sound user =
      owner_then K C user n _ (λ t _. test_sound K (in_use n (option_map stored_name (user_of_table C n))) _
      (λ e. done_sound K NoTable (without (is_version n) T) (keys.Table n ∷ keys.Rows n ∷ map user_key (filter (has_grant_on n) C.users))
      (no_table_sound (none_found (names_table n) (flat_map stored_in NoTable.tables) (not_in_use n stored_name _ e)))))

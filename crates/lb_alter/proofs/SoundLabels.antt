-- Labels that are made and dropped leave a sound catalogue sound.
use Rattle.std.proofs.Common.{◌≡◌, refl, sym, ap, subst, ◌∙◌, ℕ, zero, suc, ◌+◌, ◌*◌, ◌^◌, ◌<◌, ◌≤◌, Bool, true, false, cond, not, ◌&&◌, ◌||◌, List, [], ◌∷◌, ◌++◌, map, length, Option, Some, None, is_some, arith}
use Rattle.std.specs.Prelude.{find, filter, fold, option_map, unwrap_or, zip, sum_by}
use Rattle.std.specs.List.{AllByRecursion, AllZip, list_any, range_with_len}
use Rattle.std.specs.Str.{bytes_eq}
use Rattle.std.proofs.Math.Nat.{pow-succ'}
use Rattle.std.proofs.lemmas.Slice.Eq.{bytes_eq-Decides}
use Rattle.lb_base.specs.declared.key.Key.TheVariants as keys
use Rattle.lb_label.specs.declared.kind.ComponentKind.{ComponentKind}
use Rattle.lb_label.specs.declared.kind.ComponentKind.TheVariants.{Set, Array, Tree}
use Rattle.lb_label.specs.Component.{Definition, numbers}
use Rattle.lb_label.specs.Label.{fits_in, IsLabel}
use Rattle.lb_label.specs.LabelText.{is_named}
use Rattle.lb_label.proofs.Parts.{part_fits}
use Rattle.lb_stmt.specs.declared.change.LabelName.{LabelName}
use Rattle.lb_stmt.specs.declared.change.LabelPart.{LabelPart}
use Rattle.lb_cat.specs.declared.catalog.ColumnRec.{ColumnRec}
use Rattle.lb_cat.specs.declared.catalog.Holding.{Holding}
use Rattle.lb_cat.specs.declared.catalog.LabelRec.{LabelRec}
use Rattle.lb_cat.specs.declared.refusal.Refusal.TheVariants as refusals
use Rattle.lb_rows.specs.Tables.{Tables}
use Rattle.lb_rows.specs.Lists.{without}
use Rattle.lb_cat.specs.Catalog.{Cat, Table, Policy, User, policy_named, label_named, is_label, is_policy, is_among, put_policy}
use Rattle.lb_cat.specs.Holdings.{is_same_name, no_holding, holds_label}
use Rattle.lb_names.specs.Mentions.{Mentions, table, policy, label, is_label_mention}
use Rattle.lb_alter.specs.ChangeLabel.{user_name, parts_refusal, part_named, listed_for, label_parts, create_label, holds, is_secured_with, secures_with, drop_label}
use Rattle.lb_alter.specs.ChangePolicy.{has_policy, table_name}
use Rattle.lb_alter.specs.ChangeTable.{has_label, policy_of}
use Rattle.lb_alter.specs.Labelled.{IsPolicyLabel, ColumnBelongs, LabelsBelong, HoldsLabels, HeldLabelsAreThere, StandsUnder}
use Rattle.lb_alter.specs.Named.{AreDifferent, are_different, IfGiven, HasPolicy, HasDifferentLabels}
use Rattle.lb_alter.specs.Refusing.{in_use, when, secadm}
use Rattle.lb_alter.specs.Sound.{IsSound}
use Rattle.lb_alter.specs.Steady.{StaysNamed, IsSteady}
use Rattle.lb_alter.specs.Stored.{StoredRules, mentioned_in, calls_label}
use Rattle.lb_alter.proofs.SoundGrants.{different_filter, found_then}
use Rattle.lb_alter.proofs.SoundKinds.{none_found, not_in_use, is_new}
use Rattle.lb_alter.proofs.SoundParts.{InPermissions, InMasks, stored_apart, TableIsSound, PolicyIsSound, Parts, apart, together, Reads, stored_moves, Sources}
use Rattle.lb_alter.proofs.SoundTables.{Always, put_case, there_put, there_without, permissions_follow, masks_follow, belonging_follows, user_moves, sources_follow}
use Rattle.lb_alter.proofs.SoundUsers.{UserIsSound, LeavesSound, test_sound, done_sound, all_put, all_filter, all_follow, all_found, all_append, different_put, and_left, and_right, not_so, both}
use Rattle.lb_alter.proofs.Untouched.{or_left, or_right, turned, named_there}

-- ---- lists

module _ {R : Type 0} (name : R → List ℕ) where
  among_last : (r : R) (n : List ℕ) (xs : List R) → is_among (map name xs) n ≡ false → bytes_eq (name r) n ≡ false → is_among (map name (xs ++ r ∷ [])) n ≡ false
  among_last r n [] h off = rw off refl
  among_last r n (x ∷ xs) h off = let no : bytes_eq (name x) n ≡ false = or_left _ _ h in rw no (among_last r n xs (or_right (bytes_eq (name x) n) _ h) off)

  -- names stay different where a record of a new name goes last
  pub different_last : (r : R) (xs : List R) → AreDifferent (map name xs) → is_some (find (λ x. bytes_eq (name x) (name r)) xs) ≡ false → AreDifferent (map name (xs ++ r ∷ []))
  different_last r [] d h = refl
  different_last r (x ∷ xs) d h =
      elim (bytes_eq (name x) (name r)) as (λ b. bytes_eq (name x) (name r) ≡ b → is_some (cond b (Some x) (find (λ y. bytes_eq (name y) (name r)) xs)) ≡ false → are_different (map name (x ∷ (xs ++ r ∷ []))) ≡ true) [
        | true ↦ λ _ (i : true ≡ false). absurd cc
        | false ↦ λ e i. both _ _ (among_last r (name x) xs (not_so _ (and_left _ _ d)) (turned (name x) (name r) e)) (different_last r xs (and_right (not (is_among (map name xs) (name x))) _ d) i)
      ] refl h

  there_last : (r : R) (n : List ℕ) (xs : List R) → is_some (find (λ x. bytes_eq (name x) n) xs) ≡ true → is_some (find (λ x. bytes_eq (name x) n) (xs ++ r ∷ [])) ≡ true
  there_last r n [] h = absurd cc
  there_last r n (x ∷ xs) h =
      elim (bytes_eq (name x) n) as (λ b. is_some (cond b (Some x) (find (λ y. bytes_eq (name y) n) xs)) ≡ true → is_some (cond b (Some x) (find (λ y. bytes_eq (name y) n) (xs ++ r ∷ []))) ≡ true) [
        | true ↦ λ _. refl
        | false ↦ λ i. there_last r n xs i
      ] h

  off_all : (n : List ℕ) (P : R → Type 0) (xs : List R) → is_among (map name xs) n ≡ false → AllByRecursion (λ (x : R). bytes_eq (name x) n ≡ true → P x) xs
  off_all n P [] h = tt
  off_all n P (x ∷ xs) h = ((λ e. let no : true ≡ false = sym e ∙ or_left _ _ h in absurd cc), off_all n P xs (or_right (bytes_eq (name x) n) _ h))

  -- all records of a name are the one that is found
  all_of_name : (n : List ℕ) (P : R → Type 0) (xs : List R) → AreDifferent (map name xs) → ((x : R) → find (λ y. bytes_eq (name y) n) xs ≡ Some x → P x) → AllByRecursion (λ (x : R). bytes_eq (name x) n ≡ true → P x) xs
  all_of_name n P [] d f = tt
  all_of_name n P (x ∷ xs) d f =
      elim (bytes_eq (name x) n) as (λ b. bytes_eq (name x) n ≡ b → ((y : R) → cond b (Some x) (find (λ z. bytes_eq (name z) n) xs) ≡ Some y → P y) → (b ≡ true → P x) × AllByRecursion (λ (y : R). bytes_eq (name y) n ≡ true → P y) xs) [
        | true ↦ λ e g. ((λ _. g x refl), off_all n P xs (subst (λ (m : List ℕ). is_among (map name xs) m ≡ false) ((bytes_eq-Decides (name x) n).0 e) (not_so _ (and_left _ _ d))))
        | false ↦ λ _ g. ((λ (no : false ≡ true). absurd cc), all_of_name n P xs (and_right (not (is_among (map name xs) (name x))) _ d) g)
      ] refl f

-- ---- parts of labels

parts_fit : (C : Cat) (xs : List LabelPart) (ns : List (List ℕ)) (shape : List Definition) → AllZip (StandsUnder C) ns shape → IsLabel shape (map (λ c. part_named c.1 (listed_for xs c.0)) (zip ns shape))
parts_fit C xs [] [] h = tt
parts_fit C xs [] (d ∷ ds) h = absurd h
parts_fit C xs (n ∷ ns) [] h = absurd h
parts_fit C xs (n ∷ ns) (d ∷ ds) h = (part_fits d.kind (is_named d (listed_for xs n)) (length d.elements), parts_fit C xs ns ds h.1)

-- ---- a policy with other labels

module _ (K : StoredRules) (steady : IsSteady K) (C : Cat) (T : Tables) (s : IsSound K C) (p : Policy) (there : policy_named C p.name ≡ Some p) (ls : List LabelRec) where
  abbrev pub Other : Policy
  Other = record p { labels = ls }

  abbrev pub Relabelled : Cat
  Relabelled = put_policy Other C

  -- a label of a policy is still one, if it is another policy or the label stays
  label_moves : (m l : List ℕ) → (p.name ≡ m → is_some (label_named p l) ≡ true → is_some (label_named Other l) ≡ true) → has_label (policy_named C m) l ≡ true → has_label (policy_named Relabelled m) l ≡ true
  label_moves m l f h =
      put_case (λ (x : Policy). x.name) (λ o. has_label o l ≡ true) Other C.policies m
      (λ e. f e (subst (λ (o : Option Policy). has_label o l ≡ true) (subst (λ (k : List ℕ). policy_named C k ≡ Some p) e there) h)) h

  policy_stays : (m : List ℕ) → HasPolicy C m → HasPolicy Relabelled m
  policy_stays m h = there_put (λ (x : Policy). x.name) Other C.policies m h

  labels_reads : Reads K C Relabelled Always (StaysNamed p Other)
  labels_reads = record {
    condition = λ on c _ g _ r. steady.relabels C p Other on c there (record { name = refl; components = refl; shape = refl }) g r;
    mask = λ on ty e _ g _ r. steady.relabels_mask C p Other on ty e there (record { name = refl; components = refl; shape = refl }) g r;
  }

  table_relabelled : (t : Table) → AllByRecursion (StaysNamed p Other) (mentioned_in t) → LabelsBelong Relabelled t → TableIsSound K C t → TableIsSound K Relabelled t
  table_relabelled t g b h =
      let r : InPermissions (StaysNamed p Other) t.permissions × InMasks (StaysNamed p Other) t.masks = stored_apart (StaysNamed p Other) t g in
      record {
        policy = given t.policy h.policy;
        permissions = permissions_follow (Sources C t.name) (Sources Relabelled t.name) (sources_follow C Relabelled (λ n z. z) policy_stays (λ n _ z. z) t.name) t.permissions h.permissions;
        masks = masks_follow (Sources C t.name) (Sources Relabelled t.name) (sources_follow C Relabelled (λ n z. z) policy_stays (λ n _ z. z) t.name) t.masks h.masks;
        columns = h.columns;
        few = h.few;
        label_columns = h.label_columns;
        belonging = b;
        stored = stored_moves K C Relabelled Always (StaysNamed p Other) labels_reads t tt r.0 r.1 h.stored;
      }
    where
      given : (o : Option (List ℕ)) → IfGiven (HasPolicy C) o → IfGiven (HasPolicy Relabelled) o
      given None i = tt
      given (Some m) i = policy_stays m i

  relabelled_sound : HasDifferentLabels Other → AllByRecursion (λ (l : LabelRec). IsLabel p.shape l.parts.items) ls → AllByRecursion (TableIsSound K Relabelled) C.tables → AllByRecursion (HeldLabelsAreThere Relabelled) C.users → IsSound K Relabelled
  relabelled_sound different labels tables held =
      let q : Parts K C = apart K C s in
      let old : PolicyIsSound C p = all_found (PolicyIsSound C) (is_policy p.name) C.policies p q.policies there in
      together K Relabelled (record {
        one_each = record { tables = q.one_each.tables; policies = different_put (λ (x : Policy). x.name) Other C.policies q.one_each.policies; components = q.one_each.components; users = q.one_each.users; roles = q.one_each.roles };
        few = q.few;
        made = q.made;
        stored = q.stored;
        tables = tables;
        policies = all_put (PolicyIsSound Relabelled) (is_policy p.name) Other C.policies
            (all_follow (PolicyIsSound C) (PolicyIsSound Relabelled) (λ x i. record { folded = i.folded; few = i.few; components = i.components; labels = i.labels; shape = record { shape = i.shape.shape; labels = i.shape.labels } }) C.policies q.policies)
            (record { folded = old.folded; few = old.few; components = old.components; labels = different; shape = record { shape = old.shape.shape; labels = labels } });
        users = users_move C.users held q.users;
      })
    where
      users_move : (us : List User) → AllByRecursion (HeldLabelsAreThere Relabelled) us → AllByRecursion (UserIsSound C) us → AllByRecursion (UserIsSound Relabelled) us
      users_move [] l h = tt
      users_move (u ∷ us) l h =
          (user_moves C Relabelled (λ n z. z) u h.0 h.0.records.roles (all_follow (λ (x : Holding). HasPolicy C x.policy) (λ (x : Holding). HasPolicy Relabelled x.policy) (λ x i. policy_stays x.policy i) u.held h.0.records.held) l.0, users_move us l.1 h.1)

  -- ---- all labels stay

  module _ (more : (l : List ℕ) → is_some (label_named p l) ≡ true → is_some (label_named Other l) ≡ true) where
    here_more : (o : Option (List ℕ)) (l : List ℕ) → has_label (policy_of C o) l ≡ true → has_label (policy_of Relabelled o) l ≡ true
    here_more None l h = h
    here_more (Some m) l h = label_moves m l (λ _. more l) h

    given_more : (m : List ℕ) (o : Option (List ℕ)) → IfGiven (IsPolicyLabel C m) o → IfGiven (IsPolicyLabel Relabelled m) o
    given_more m None h = tt
    given_more m (Some l) h = label_moves m l (λ _. more l) h

    named_more : (ms : Mentions) → AllByRecursion (StaysNamed p Other) ms
    named_more [] = tt
    named_more (table n ∷ ms) = (tt, named_more ms)
    named_more (policy n ∷ ms) = (tt, named_more ms)
    named_more (label n l ∷ ms) = ((λ _. more l), named_more ms)

    more_labels_sound : HasDifferentLabels Other → AllByRecursion (λ (l : LabelRec). IsLabel p.shape l.parts.items) ls → IsSound K Relabelled
    more_labels_sound different labels =
        let q : Parts K C = apart K C s in
        relabelled_sound different labels
        (all_follow (TableIsSound K C) (TableIsSound K Relabelled) (λ t h. table_relabelled t (named_more (mentioned_in t)) (belonging_follows C Relabelled t (here_more t.policy) h.belonging) h) C.tables q.tables)
        (all_follow (UserIsSound C) (HeldLabelsAreThere Relabelled) (λ u h. all_follow (HoldsLabels C) (HoldsLabels Relabelled) (λ x i. record { read = given_more x.policy x.read i.read; write = given_more x.policy x.write i.write }) u.held h.held) C.users q.users)

pub by_own_policy : (C : Cat) (n : List ℕ) (p : Policy) → policy_named C n ≡ Some p → policy_named C p.name ≡ Some p
by_own_policy C n p e = subst (λ (m : List ℕ). policy_named C m ≡ Some p) (sym (named_there (λ (x : Policy). x.name) n C.policies p e)) e

module _ (K : StoredRules) (steady : IsSteady K) (C : Cat) (T : Tables) (s : IsSound K C) where
  pub create_label_sound : (user : List ℕ) (l : LabelName) (xs : List LabelPart) → LeavesSound K (create_label C T user l xs)
  create_label_sound user l xs =
      test_sound K (secadm C user) _ (λ _. found_then K l.policy (policy_named C l.policy) _ (λ p e. test_sound K (when (is_some (label_named p l.label)) (refusals.Exists l.label)) _ (λ new. test_sound K (parts_refusal p [] xs) _
      (λ _.
      let x : LabelRec = record { name = l.label; parts = record { items = label_parts p xs } } in
      let old : PolicyIsSound C p = all_found (PolicyIsSound C) (is_policy l.policy) C.policies p (apart K C s).policies e in
      done_sound K (put_policy (record p { labels = p.labels ++ x ∷ [] }) C) T (keys.Policy p.name ∷ [])
      (more_labels_sound K steady C T s p (by_own_policy C l.policy p e) (p.labels ++ x ∷ []) (λ n h. there_last (λ (y : LabelRec). y.name) x n p.labels h)
      (different_last (λ (y : LabelRec). y.name) x p.labels old.labels (is_new _ _ new))
      (all_append (λ (y : LabelRec). IsLabel p.shape y.parts.items) p.labels (x ∷ []) old.shape.labels (parts_fit C xs p.components p.shape old.shape.shape, tt)))))))

-- ---- DROP LABEL

and_off : (a b : Bool) → a ≡ true → (a && b) ≡ false → b ≡ false
and_off true b h i = i
and_off false b h i = absurd cc

pub any_none : {A : Type 0} (test : A → Bool) (xs : List A) → list_any test xs ≡ false → AllByRecursion (λ (x : A). test x ≡ false) xs
any_none test [] h = tt
any_none test (x ∷ xs) h = (or_left _ _ h, any_none test xs (or_right (test x) _ h))

module _ (K : StoredRules) (steady : IsSteady K) (C : Cat) (T : Tables) (s : IsSound K C) (l : LabelName) (p : Policy) (e : policy_named C l.policy ≡ Some p) where
  fewer : List LabelRec
  fewer = without (is_label l.label) p.labels

  abbrev pub Fewer : Policy
  Fewer = record p { labels = without (is_label l.label) p.labels }

  abbrev pub Dropped : Cat
  Dropped = put_policy Fewer C

  its_name : p.name ≡ l.policy
  its_name = named_there (λ (x : Policy). x.name) l.policy C.policies p e

  its_own : policy_named C p.name ≡ Some p
  its_own = by_own_policy C l.policy p e

  stays : (m : List ℕ) → bytes_eq m l.label ≡ false → is_some (label_named p m) ≡ true → is_some (label_named Fewer m) ≡ true
  stays m off h = there_without (λ (x : LabelRec). x.name) l.label m p.labels (turned m l.label off) h

  moves : (m n : List ℕ) → (bytes_eq m l.policy ≡ true → bytes_eq n l.label ≡ false) → has_label (policy_named C m) n ≡ true → has_label (policy_named Dropped m) n ≡ true
  moves m n f h =
      label_moves K steady C T s p its_own (without (is_label l.label) p.labels) m n (λ same. stays n (f ((bytes_eq-Decides m l.policy).1 (sym same ∙ its_name)))) h

  named_left : (ms : Mentions) → list_any (is_label_mention l.policy l.label) ms ≡ false → AllByRecursion (StaysNamed p Fewer) ms
  named_left [] h = tt
  named_left (table n ∷ ms) h = (tt, named_left ms h)
  named_left (policy n ∷ ms) h = (tt, named_left ms h)
  named_left (label n m ∷ ms) h =
      ((λ same. stays m (and_off (bytes_eq n l.policy) (bytes_eq m l.label) ((bytes_eq-Decides n l.policy).1 (same ∙ its_name)) (or_left _ _ h))), named_left ms (or_right (bytes_eq n l.policy && bytes_eq m l.label) _ h))

  secured_left : (o secured : Option (List ℕ)) → (is_same_name l.policy o ≡ true → is_same_name l.label secured ≡ false)
      → IfGiven (λ x. has_label (policy_of C o) x ≡ true) secured → IfGiven (λ x. has_label (policy_of Dropped o) x ≡ true) secured
  secured_left o None f h = tt
  secured_left None (Some n) f h = h
  secured_left (Some m) (Some n) f h = moves m n f h

  columns_left : (t : Table) (cs : List ColumnRec) → (has_policy l.policy t ≡ true → AllByRecursion (λ (c : ColumnRec). is_secured_with l.label c ≡ false) cs) → AllByRecursion (ColumnBelongs C t) cs → AllByRecursion (ColumnBelongs Dropped t) cs
  columns_left t [] f h = tt
  columns_left t (c ∷ cs) f h = (record { label = h.0.label; secured = secured_left t.policy c.secured (λ i. (f i).0) h.0.secured }, columns_left t cs (λ i. (f i).1) h.1)

  table_left : (t : Table) → (secures_with l t || calls_label l.policy l.label t) ≡ false → TableIsSound K C t → TableIsSound K Dropped t
  table_left t f h =
      table_relabelled K steady C T s p its_own (without (is_label l.label) p.labels) t (named_left (mentioned_in t) (or_right (secures_with l t) _ f))
      (columns_left t t.columns (λ i. any_none (is_secured_with l.label) t.columns (and_off (has_policy l.policy t) _ i (or_left _ _ f))) h.belonging) h

  tables_left : (ts : List Table) → AllByRecursion (λ (t : Table). (secures_with l t || calls_label l.policy l.label t) ≡ false) ts → AllByRecursion (TableIsSound K C) ts → AllByRecursion (TableIsSound K Dropped) ts
  tables_left [] f h = tt
  tables_left (t ∷ ts) f h = (table_left t f.0 h.0, tables_left ts f.1 h.1)

  given_left : (m : List ℕ) (o : Option (List ℕ)) → (bytes_eq m l.policy ≡ true → is_same_name l.label o ≡ false) → IfGiven (IsPolicyLabel C m) o → IfGiven (IsPolicyLabel Dropped m) o
  given_left m None f h = tt
  given_left m (Some n) f h = moves m n f h

  held_left : (hs : List Holding) → AllByRecursion (λ (h : Holding). bytes_eq h.policy l.policy ≡ true → holds_label l.label h ≡ false) hs → AllByRecursion (HoldsLabels C) hs → AllByRecursion (HoldsLabels Dropped) hs
  held_left [] f h = tt
  held_left (x ∷ xs) f h = (
    record {
      read = given_left x.policy x.read (λ i. or_left _ _ (f.0 i)) h.0.read;
      write = given_left x.policy x.write (λ i. or_right (is_same_name l.label x.read) _ (f.0 i)) h.0.write;
    },
    held_left xs f.1 h.1,
  )

  users_left : (us : List User) → AllByRecursion (λ (u : User). holds l u ≡ false) us → AllByRecursion (UserIsSound C) us → AllByRecursion (HeldLabelsAreThere Dropped) us
  users_left [] f h = tt
  users_left (u ∷ us) f h = (
    held_left u.held
        (all_of_name (λ (x : Holding). x.policy) l.policy (λ x. holds_label l.label x ≡ false) u.held h.0.one.held
        (λ x i. subst (λ (o : Option Holding). holds_label l.label (unwrap_or o (no_holding l.policy)) ≡ false) i f.0)) h.0.held,
    users_left us f.1 h.1,
  )

  dropped_sound : AllByRecursion (λ (u : User). holds l u ≡ false) C.users → AllByRecursion (λ (t : Table). (secures_with l t || calls_label l.policy l.label t) ≡ false) C.tables → IsSound K Dropped
  dropped_sound f g =
      let q : Parts K C = apart K C s in
      let old : PolicyIsSound C p = all_found (PolicyIsSound C) (is_policy l.policy) C.policies p q.policies e in
      relabelled_sound K steady C T s p its_own (without (is_label l.label) p.labels)
      (different_filter (λ (x : LabelRec). x.name) (λ x. not (is_label l.label x)) p.labels old.labels)
      (all_filter (λ (x : LabelRec). IsLabel p.shape x.parts.items) (λ x. not (is_label l.label x)) p.labels old.shape.labels)
      (tables_left C.tables g q.tables) (users_left C.users f q.users)

module _ (K : StoredRules) (steady : IsSteady K) (C : Cat) (T : Tables) (s : IsSound K C) where
  pub drop_label_sound : (user : List ℕ) (l : LabelName) → LeavesSound K (drop_label C T user l)
  drop_label_sound user l =
      test_sound K (secadm C user) _ (λ _. found_then K l.policy (policy_named C l.policy) _ (λ p e. found_then K l.label (label_named p l.label) _
      (λ x _. test_sound K (in_use l.label (option_map user_name (find (holds l) C.users))) _
      (λ f. test_sound K (in_use l.label (option_map table_name (find (λ t. secures_with l t || calls_label l.policy l.label t) C.tables))) _
      (λ g. done_sound K (put_policy (record p { labels = without (is_label l.label) p.labels }) C) T (keys.Policy p.name ∷ [])
      (dropped_sound K steady C T s l p e (none_found (holds l) C.users (not_in_use l.label user_name _ f)) (none_found _ C.tables (not_in_use l.label table_name _ g))))))))

-- A change of one table's record leaves a sound catalogue sound.
use Rattle.std.proofs.Common.{◌≡◌, refl, sym, ap, subst, ◌∙◌, ℕ, Bool, true, false, cond, not, ◌||◌, ◌≤◌, suc, List, [], ◌∷◌, ◌++◌, map, length, Option, Some, None, is_some, arith}
use Rattle.std.specs.Prelude.{find, take, drop, slice_get}
use Rattle.std.specs.List.{AllByRecursion, AllZip, flat_map, list_any}
use Rattle.std.specs.Str.{bytes_eq}
use Rattle.std.proofs.lemmas.Slice.Eq.{bytes_eq-Decides}
use Rattle.lb_base.specs.declared.key.Key.TheVariants as keys
use Rattle.lb_tree.specs.declared.query.Expr.{Expr}
use Rattle.lb_tree.specs.declared.query.Tab.{Tab}
use Rattle.lb_cat.specs.declared.catalog.ColumnRec.{ColumnRec}
use Rattle.lb_cat.specs.declared.catalog.PermissionRec.{PermissionRec}
use Rattle.lb_cat.specs.declared.catalog.MaskRec.{MaskRec}
use Rattle.lb_cat.specs.declared.catalog.Privileges.{Privileges}
use Rattle.lb_cat.specs.declared.catalog.Grant.{Grant}
use Rattle.lb_cat.specs.declared.catalog.Holding.{Holding}
use Rattle.lb_rows.specs.Tables.{Tables}
use Rattle.lb_rows.specs.Lists.{put, without}
use Rattle.lb_cat.specs.Catalog.{Cat, Table, User, table_named, is_table, is_among, put_table}
use Rattle.lb_names.specs.Mentions.{Mention, table, policy, label, in_cond, in_expr}
use Rattle.lb_alter.specs.ChangeControl.{has_labels}
use Rattle.lb_alter.specs.ChangeTable.{is_label_type, is_label_column}
use Rattle.lb_alter.specs.Columns.{HasFewColumns, IsPlace, has_mask_twice, HasKeyColumn}
use Rattle.lb_alter.specs.Labelled.{IsLabelHere, ColumnBelongs, LabelsBelong, HoldsLabels}
use Rattle.lb_alter.specs.Named.{AreDifferent, IfGiven, HasTable, HasPolicy, HasRole}
use Rattle.lb_alter.specs.Refusing.{alters}
use Rattle.lb_alter.specs.Sound.{IsSound}
use Rattle.lb_alter.specs.Steady.{IsSameColumn, IsWider, IsSteady}
use Rattle.lb_alter.specs.Stored.{StoredRules}
use Rattle.lb_alter.specs.Valid.{IsValid, TypesAt, IsValidMask, called}
use Rattle.lb_alter.proofs.SoundGrants.{is_there}
use Rattle.lb_alter.proofs.SoundParts.{InPermissions, InMasks, Stands, TableIsSound, PolicyIsSound, Parts, apart, together, table_names, Reads, stored_moves, IsSource, Sources, source_stands}
use Rattle.lb_alter.proofs.SoundUsers.{UserIsSound, LeavesSound, done_sound, all_put, all_append, all_follow, all_found, different_put, and_left, and_right, not_so, both}
use Rattle.lb_alter.proofs.Untouched.{or_left, or_right, turned, put_other, without_other}

-- ---- lists

abbrev pub Always : {A : Type 0} → A → Type 0
Always x = Unit {0}

pub all_always : {A : Type 0} (xs : List A) → AllByRecursion Always xs
all_always [] = tt
all_always (x ∷ xs) = (tt, all_always xs)

pub itself : (n : List ℕ) → bytes_eq n n ≡ true
itself n = (bytes_eq-Decides n n).1 refl

module _ {R : Type 0} (name : R → List ℕ) where
  pub found_put : (r : R) (xs : List R) → find (λ x. bytes_eq (name x) (name r)) (put (λ x. bytes_eq (name x) (name r)) r xs) ≡ Some r
  found_put r [] = rw (itself (name r)) refl
  found_put r (x ∷ xs) =
      elim (bytes_eq (name x) (name r)) as (λ b. bytes_eq (name x) (name r) ≡ b → find (λ y. bytes_eq (name y) (name r)) (cond b (r ∷ xs) (x ∷ put (λ y. bytes_eq (name y) (name r)) r xs)) ≡ Some r) [
        | true ↦ λ _. rw (itself (name r)) refl
        | false ↦ λ e. rw e (found_put r xs)
      ] refl

  -- what is looked up afterwards is the record that was put, or what was there
  pub put_case : (M : Option R → Type 0) (r : R) (xs : List R) (n : List ℕ) → (name r ≡ n → M (Some r)) → M (find (λ x. bytes_eq (name x) n) xs)
      → M (find (λ x. bytes_eq (name x) n) (put (λ x. bytes_eq (name x) (name r)) r xs))
  put_case M r xs n a b =
      elim (bytes_eq (name r) n) as (λ z. bytes_eq (name r) n ≡ z → M (find (λ x. bytes_eq (name x) n) (put (λ x. bytes_eq (name x) (name r)) r xs))) [
        | true ↦ λ e.
            let same : name r ≡ n = (bytes_eq-Decides (name r) n).0 e in
            subst (λ (m : List ℕ). M (find (λ x. bytes_eq (name x) m) (put (λ x. bytes_eq (name x) (name r)) r xs))) same (subst M (sym (found_put r xs)) (a same))
        | false ↦ λ e. subst M (sym (put_other name r n xs e)) b
      ] refl

  pub there_put : (r : R) (xs : List R) (n : List ℕ) → is_some (find (λ x. bytes_eq (name x) n) xs) ≡ true
      → is_some (find (λ x. bytes_eq (name x) n) (put (λ x. bytes_eq (name x) (name r)) r xs)) ≡ true
  there_put r xs n h = put_case (λ o. is_some o ≡ true) r xs n (λ _. refl) h

  -- what is there is the same where a record of a new name is put
  pub same_put : (r : R) (xs : List R) (n : List ℕ) → is_some (find (λ x. bytes_eq (name x) (name r)) xs) ≡ false → is_some (find (λ x. bytes_eq (name x) n) xs) ≡ true
      → find (λ x. bytes_eq (name x) n) (put (λ x. bytes_eq (name x) (name r)) r xs) ≡ find (λ x. bytes_eq (name x) n) xs
  same_put r xs n new h =
      elim (bytes_eq (name r) n) as (λ z. bytes_eq (name r) n ≡ z → find (λ x. bytes_eq (name x) n) (put (λ x. bytes_eq (name x) (name r)) r xs) ≡ find (λ x. bytes_eq (name x) n) xs) [
        | true ↦ λ e.
            let none : is_some (find (λ x. bytes_eq (name x) n) xs) ≡ false = subst (λ (m : List ℕ). is_some (find (λ x. bytes_eq (name x) m) xs) ≡ false) ((bytes_eq-Decides (name r) n).0 e) new in
            let no : true ≡ false = sym h ∙ none in
            absurd cc
        | false ↦ λ e. put_other name r n xs e
      ] refl

  pub found_without : (n : List ℕ) (xs : List R) → find (λ x. bytes_eq (name x) n) (without (λ x. bytes_eq (name x) n) xs) ≡ None
  found_without n [] = refl
  found_without n (x ∷ xs) =
      elim (bytes_eq (name x) n) as (λ b. bytes_eq (name x) n ≡ b → find (λ y. bytes_eq (name y) n) (cond (not b) (x ∷ without (λ y. bytes_eq (name y) n) xs) (without (λ y. bytes_eq (name y) n) xs)) ≡ None) [
        | true ↦ λ _. found_without n xs
        | false ↦ λ e. rw e (found_without n xs)
      ] refl

  -- what is still there is the same
  pub same_without : (m n : List ℕ) (xs : List R) → is_some (find (λ x. bytes_eq (name x) n) (without (λ x. bytes_eq (name x) m) xs)) ≡ true
      → find (λ x. bytes_eq (name x) n) (without (λ x. bytes_eq (name x) m) xs) ≡ find (λ x. bytes_eq (name x) n) xs
  same_without m n xs h =
      elim (bytes_eq m n) as (λ z. bytes_eq m n ≡ z → find (λ x. bytes_eq (name x) n) (without (λ x. bytes_eq (name x) m) xs) ≡ find (λ x. bytes_eq (name x) n) xs) [
        | true ↦ λ e.
            let none : find (λ x. bytes_eq (name x) n) (without (λ x. bytes_eq (name x) m) xs) ≡ None =
            subst (λ (k : List ℕ). find (λ x. bytes_eq (name x) k) (without (λ x. bytes_eq (name x) m) xs) ≡ None) ((bytes_eq-Decides m n).0 e) (found_without m xs) in
            let no : true ≡ false = sym h ∙ ap is_some none in
            absurd cc
        | false ↦ λ e. without_other name m n xs e
      ] refl

  pub there_without : (m n : List ℕ) (xs : List R) → bytes_eq m n ≡ false → is_some (find (λ x. bytes_eq (name x) n) xs) ≡ true
      → is_some (find (λ x. bytes_eq (name x) n) (without (λ x. bytes_eq (name x) m) xs)) ≡ true
  there_without m n xs off h = ap is_some (without_other name m n xs off) ∙ h

-- ---- names over all tables

-- in place of the names ys stand the names xs, which are no more, but for some that stand nowhere else
pub record Names (Other : List ℕ → Type 0) (xs ys : List (List ℕ)) : Type 0 where
  pub among : (n : List ℕ) → Other n → is_among ys n ≡ false → is_among xs n ≡ false
  pub different : AreDifferent ys → AreDifferent xs

pub same_names : (Other : List ℕ → Type 0) (xs ys : List (List ℕ)) → xs ≡ ys → Names Other xs ys
same_names Other xs ys e = record { among = λ n _ h. subst (λ (zs : List (List ℕ)). is_among zs n ≡ false) (sym e) h; different = λ h. subst AreDifferent (sym e) h }

pub neither : (a b : Bool) → a ≡ false → b ≡ false → (a || b) ≡ false
neither a b h i = rw (h, i) refl

pub among_joined : (xs ys : List (List ℕ)) (n : List ℕ) → is_among xs n ≡ false → is_among ys n ≡ false → is_among (xs ++ ys) n ≡ false
among_joined [] ys n h i = i
among_joined (x ∷ xs) ys n h i = neither (bytes_eq x n) _ (or_left _ _ h) (among_joined xs ys n (or_right (bytes_eq x n) _ h) i)

pub among_front : (xs ys : List (List ℕ)) (n : List ℕ) → is_among (xs ++ ys) n ≡ false → is_among xs n ≡ false
among_front [] ys n h = refl
among_front (x ∷ xs) ys n h = neither (bytes_eq x n) _ (or_left _ _ h) (among_front xs ys n (or_right (bytes_eq x n) _ h))

pub among_after : (xs ys : List (List ℕ)) (n : List ℕ) → is_among (xs ++ ys) n ≡ false → is_among ys n ≡ false
among_after [] ys n h = h
among_after (x ∷ xs) ys n h = among_after xs ys n (or_right (bytes_eq x n) _ h)

-- none of ys is among xs
abbrev pub Apart : List (List ℕ) → List (List ℕ) → Type 0
Apart xs ys = AllByRecursion (λ (n : List ℕ). is_among xs n ≡ false) ys

different_front : (xs ys : List (List ℕ)) → AreDifferent (xs ++ ys) → AreDifferent xs
different_front [] ys h = refl
different_front (x ∷ xs) ys h = both (is_among xs x) _ (among_front xs ys x (not_so _ (and_left _ _ h))) (different_front xs ys (and_right (not (is_among (xs ++ ys) x)) _ h))

pub different_after : (xs ys : List (List ℕ)) → AreDifferent (xs ++ ys) → AreDifferent ys
different_after [] ys h = h
different_after (x ∷ xs) ys h = different_after xs ys (and_right (not (is_among (xs ++ ys) x)) _ h)

off_each : (x : List ℕ) (xs ys : List (List ℕ)) → is_among ys x ≡ false → Apart xs ys → Apart (x ∷ xs) ys
off_each x xs [] h i = tt
off_each x xs (y ∷ ys) h i = (neither (bytes_eq x y) _ (turned y x (or_left (bytes_eq y x) (is_among ys x) h)) i.0, off_each x xs ys (or_right (bytes_eq y x) _ h) i.1)

different_apart : (xs ys : List (List ℕ)) → AreDifferent (xs ++ ys) → Apart xs ys
different_apart [] ys h = all_nothing ys
  where
    all_nothing : (zs : List (List ℕ)) → Apart [] zs
    all_nothing [] = tt
    all_nothing (z ∷ zs) = (refl, all_nothing zs)
different_apart (x ∷ xs) ys h = off_each x xs ys (among_after xs ys x (not_so _ (and_left _ _ h))) (different_apart xs ys (and_right (not (is_among (xs ++ ys) x)) _ h))

off_first : (x : List ℕ) (xs ys : List (List ℕ)) → Apart (x ∷ xs) ys → is_among ys x ≡ false
off_first x xs [] h = refl
off_first x xs (y ∷ ys) h = neither (bytes_eq y x) _ (turned x y (or_left (bytes_eq x y) (is_among xs y) h.0)) (off_first x xs ys h.1)

pub different_joined : (xs ys : List (List ℕ)) → AreDifferent xs → AreDifferent ys → Apart xs ys → AreDifferent (xs ++ ys)
different_joined [] ys h i a = i
different_joined (x ∷ xs) ys h i a =
    both (is_among (xs ++ ys) x) _ (among_joined xs ys x (not_so _ (and_left _ _ h)) (off_first x xs ys a))
    (different_joined xs ys (and_right (not (is_among xs x)) _ h) i (all_follow (λ (n : List ℕ). is_among (x ∷ xs) n ≡ false) (λ (n : List ℕ). is_among xs n ≡ false) (λ n k. or_right (bytes_eq x n) _ k) ys a))

module _ (Other : List ℕ → Type 0) where
  pub names_front : (zs xs ys : List (List ℕ)) → AllByRecursion Other zs → Names Other xs ys → Names Other (zs ++ xs) (zs ++ ys)
  names_front [] xs ys o r = r
  names_front (z ∷ zs) xs ys o r =
      let s : Names Other (zs ++ xs) (zs ++ ys) = names_front zs xs ys o.1 r in
      record {
        among = λ n q h. neither (bytes_eq z n) _ (or_left _ _ h) (s.among n q (or_right (bytes_eq z n) _ h));
        different = λ h. both (is_among (zs ++ xs) z) _ (s.among z o.0 (not_so _ (and_left _ _ h))) (s.different (and_right (not (is_among (zs ++ ys) z)) _ h));
      }

  still_apart : (xs ys zs : List (List ℕ)) → AllByRecursion Other zs → Names Other xs ys → Apart ys zs → Apart xs zs
  still_apart xs ys [] o r h = tt
  still_apart xs ys (z ∷ zs) o r h = (r.among z o.0 h.0, still_apart xs ys zs o.1 r h.1)

  pub names_after : (zs xs ys : List (List ℕ)) → AllByRecursion Other zs → Names Other xs ys → Names Other (xs ++ zs) (ys ++ zs)
  names_after zs xs ys o r = record {
    among = λ n q h. among_joined xs zs n (r.among n q (among_front ys zs n h)) (among_after ys zs n h);
    different = λ h. different_joined xs zs (r.different (different_front ys zs h)) (different_after ys zs h) (still_apart xs ys zs o r (different_apart ys zs h));
  }

  module _ (u : Table) where
    abbrev pub IsOther : Table → Type 0
    IsOther x = bytes_eq x.name u.name ≡ false → AllByRecursion Other (table_names x)

    all_others : (xs : List Table) → is_among (map (λ t. t.name) xs) u.name ≡ false → AllByRecursion IsOther xs → AllByRecursion Other (flat_map table_names xs)
    all_others [] h o = tt
    all_others (x ∷ xs) h o = all_append Other (table_names x) (flat_map table_names xs) (o.0 (or_left _ _ h)) (all_others xs (or_right (bytes_eq x.name u.name) _ h) o.1)

    -- where the record of a table is replaced
    pub names_put : (t : Table) (xs : List Table) → AreDifferent (map (λ x. x.name) xs) → AllByRecursion IsOther xs → find (is_table u.name) xs ≡ Some t → Names Other (table_names u) (table_names t)
        → Names Other (flat_map table_names (put (is_table u.name) u xs)) (flat_map table_names xs)
    names_put t [] d o e r = absurd cc
    names_put t (x ∷ xs) d o e r =
        elim (bytes_eq x.name u.name) as (λ b. bytes_eq x.name u.name ≡ b → cond b (Some x) (find (is_table u.name) xs) ≡ Some t
        → Names Other (flat_map table_names (cond b (u ∷ xs) (x ∷ put (is_table u.name) u xs))) (table_names x ++ flat_map table_names xs)) [
          | true ↦ λ same i.
              let is : t ≡ x = cc in
              let off : is_among (map (λ y. y.name) xs) u.name ≡ false = subst (λ (m : List ℕ). is_among (map (λ y. y.name) xs) m ≡ false) ((bytes_eq-Decides x.name u.name).0 same) (not_so _ (and_left _ _ d)) in
              names_after (flat_map table_names xs) (table_names u) (table_names x) (all_others xs off o.1) (subst (λ (y : Table). Names Other (table_names u) (table_names y)) is r)
          | false ↦ λ off i. names_front (table_names x) _ _ (o.0 off) (names_put t xs (and_right (not (is_among (map (λ y. y.name) xs) x.name)) _ d) o.1 i r)
        ] refl e

    pub others_always : ((n : List ℕ) → Other n) → (xs : List Table) → AllByRecursion IsOther xs
    others_always h [] = tt
    others_always h (x ∷ xs) = ((λ _. all_are (table_names x)), others_always h xs)
      where
        all_are : (ns : List (List ℕ)) → AllByRecursion Other ns
        all_are [] = tt
        all_are (n ∷ ns) = (h n, all_are ns)

-- ---- what moves

pub given_follow : (P Q : List ℕ → Type 0) → ((n : List ℕ) → P n → Q n) → (o : Option (List ℕ)) → IfGiven P o → IfGiven Q o
given_follow P Q f None h = tt
given_follow P Q f (Some n) h = f n h

pub stands_follow : (C D : Cat) → ((n : List ℕ) → HasTable C n → HasTable D n) → ((n : List ℕ) → HasPolicy C n → HasPolicy D n) → (m : Mention) → Stands C m → Stands D m
stands_follow C D f g (table n) h = f n h
stands_follow C D f g (policy p) h = g p h
stands_follow C D f g (label p l) h = g p h

pub permissions_follow : (G H : Mention → Type 0) → ((m : Mention) → G m → H m) → (ps : List PermissionRec) → InPermissions G ps → InPermissions H ps
permissions_follow G H f ps h = all_follow (λ (p : PermissionRec). AllByRecursion G (in_cond p.condition)) (λ (p : PermissionRec). AllByRecursion H (in_cond p.condition)) (λ p i. all_follow G H f (in_cond p.condition) i) ps h

pub masks_follow : (G H : Mention → Type 0) → ((m : Mention) → G m → H m) → (ms : List MaskRec) → InMasks G ms → InMasks H ms
masks_follow G H f ms h = all_follow (λ (m : MaskRec). AllByRecursion G (in_expr m.value)) (λ (m : MaskRec). AllByRecursion H (in_expr m.value)) (λ m i. all_follow G H f (in_expr m.value) i) ms h

pub belonging_follows : (C D : Cat) (t : Table) → ((l : List ℕ) → IsLabelHere C t l → IsLabelHere D t l) → LabelsBelong C t → LabelsBelong D t
belonging_follows C D t f h = all_follow (ColumnBelongs C t) (ColumnBelongs D t) (λ c i. record { label = i.label; secured = given_follow (IsLabelHere C t) (IsLabelHere D t) f c.secured i.secured }) t.columns h

-- no table that is there gets a label column
abbrev pub StaysPlain : Cat → Cat → Type 0
StaysPlain C D = (n : List ℕ) → HasTable C n → has_labels (table_named C n) ≡ false → has_labels (table_named D n) ≡ false

pub source_follows : (C D : Cat) → ((n : List ℕ) → HasTable C n → HasTable D n) → StaysPlain C D → (own n : List ℕ) → IsSource C own n → IsSource D own n
source_follows C D f l own n h = (f n h.0, neither (bytes_eq n own) _ (or_left _ _ h.1) (l n h.0 (or_right (bytes_eq n own) _ h.1)))

pub sources_follow : (C D : Cat) → ((n : List ℕ) → HasTable C n → HasTable D n) → ((n : List ℕ) → HasPolicy C n → HasPolicy D n) → StaysPlain C D → (own : List ℕ) (m : Mention) → Sources C own m → Sources D own m
sources_follow C D f g l own (table n) h = source_follows C D f l own n h
sources_follow C D f g l own (policy p) h = g p h
sources_follow C D f g l own (label p x) h = g p h

-- a table's record in a catalogue in which all that it rests on is still there
pub table_moves : (K : StoredRules) (C D : Cat) (Own : List ℕ → Type 0) (G : Mention → Type 0) → Reads K C D Own G → (t : Table) → Own t.name → ((m : Mention) → Stands C m → G m)
    → ((n : List ℕ) → HasTable C n → HasTable D n) → ((n : List ℕ) → HasPolicy C n → HasPolicy D n) → ((l : List ℕ) → IsLabelHere C t l → IsLabelHere D t l) → StaysPlain C D → TableIsSound K C t → TableIsSound K D t
table_moves K C D Own G r t own good f g l q h = record {
  policy = given_follow (HasPolicy C) (HasPolicy D) g t.policy h.policy;
  permissions = permissions_follow (Sources C t.name) (Sources D t.name) (sources_follow C D f g q t.name) t.permissions h.permissions;
  masks = masks_follow (Sources C t.name) (Sources D t.name) (sources_follow C D f g q t.name) t.masks h.masks;
  columns = h.columns;
  few = h.few;
  label_columns = h.label_columns;
  belonging = belonging_follows C D t l h.belonging;
  stored = stored_moves K C D Own G r t own (permissions_follow (Sources C t.name) G (λ m i. good m (source_stands C t.name m i)) t.permissions h.permissions) (masks_follow (Sources C t.name) G (λ m i. good m (source_stands C t.name m i)) t.masks h.masks) h.stored;
}

-- a user's record, where tables and policies are still there
pub user_moves : (C D : Cat) → ((n : List ℕ) → HasTable C n → HasTable D n) → (u : User) → UserIsSound C u
    → AllByRecursion (λ n. HasRole D n) u.roles → AllByRecursion (λ (h : Holding). HasPolicy D h.policy) u.held → AllByRecursion (HoldsLabels D) u.held → UserIsSound D u
user_moves C D f u h roles policies labels = record {
  records = record {
    roles = roles;
    granted = all_follow (λ (g : Grant). HasTable C g.table) (λ (g : Grant). HasTable D g.table) (λ g i. f g.table i) u.privileges h.records.granted;
    held = policies;
  };
  one = h.one;
  held = labels;
  entries = h.entries;
}

-- ---- one table's record

module _ (K : StoredRules) (C : Cat) (u : Table) where
  table_stays_there : (n : List ℕ) → HasTable C n → HasTable (put_table u C) n
  table_stays_there n h = there_put (λ (x : Table). x.name) u C.tables n h

  -- a table's record is replaced or added
  pub put_table_parts : (Own : List ℕ → Type 0) (G : Mention → Type 0) → Reads K C (put_table u C) Own G → AllByRecursion (λ (x : Table). Own x.name) C.tables → ((m : Mention) → Stands C m → G m)
      → StaysPlain C (put_table u C) → length (put (is_table u.name) u C.tables) ≤ 64
      → AreDifferent (flat_map table_names (put (is_table u.name) u C.tables)) → TableIsSound K (put_table u C) u → Parts K C → Parts K (put_table u C)
  put_table_parts Own G r own good plain few names h p = record {
    few = few;
    made = p.made;
    one_each = record {
      tables = different_put (λ (x : Table). x.name) u C.tables p.one_each.tables;
      policies = p.one_each.policies;
      components = p.one_each.components;
      users = p.one_each.users;
      roles = p.one_each.roles;
    };
    stored = names;
    tables = all_put (TableIsSound K (put_table u C)) (is_table u.name) u C.tables (tables_move C.tables own p.tables) h;
    policies = all_follow (PolicyIsSound C) (PolicyIsSound (put_table u C)) (λ x i. record { folded = i.folded; few = i.few; components = i.components; labels = i.labels; shape = record { shape = i.shape.shape; labels = i.shape.labels } }) C.policies p.policies;
    users = all_follow (UserIsSound C) (UserIsSound (put_table u C))
        (λ x i. user_moves C (put_table u C) table_stays_there x i i.records.roles i.records.held (all_follow (HoldsLabels C) (HoldsLabels (put_table u C)) (λ y j. record { read = j.read; write = j.write }) x.held i.held)) C.users p.users;
  }
    where
      tables_move : (xs : List Table) → AllByRecursion (λ (x : Table). Own x.name) xs → AllByRecursion (TableIsSound K C) xs → AllByRecursion (TableIsSound K (put_table u C)) xs
      tables_move [] o i = tt
      tables_move (x ∷ xs) o i = (table_moves K C (put_table u C) Own G r x o.0 good table_stays_there (λ n z. z) (λ l z. z) plain i.0, tables_move xs o.1 i.1)

pub own_always : (xs : List Table) → AllByRecursion (λ (x : Table). Always x.name) xs
own_always [] = tt
own_always (x ∷ xs) = (tt, own_always xs)

-- a table with the same columns and some more that hold no label has no label column where it had none
zipped_plain : (cs ds more : List ColumnRec) → AllZip IsSameColumn cs (take (length cs) ds) → drop (length cs) ds ≡ more → list_any is_label_column more ≡ false → list_any is_label_column cs ≡ false → list_any is_label_column ds ≡ false
zipped_plain [] ds more z e p h = subst (λ (xs : List ColumnRec). list_any is_label_column xs ≡ false) (sym e) p
zipped_plain (c ∷ cs) [] more z e p h = refl
zipped_plain (c ∷ cs) (d ∷ ds) more z e p h =
    neither (is_label_column d) _ (ap is_label_type z.0.1 ∙ or_left _ _ h) (zipped_plain cs ds more z.1 e p (or_right (is_label_column c) _ h))

pub wider_plain : (t u : Table) → IsWider t u → has_labels (Some t) ≡ false → has_labels (Some u) ≡ false
wider_plain t u w h = zipped_plain t.columns u.columns w.more w.same w.rest w.plain h

module _ {R : Type 0} (name : R → List ℕ) (r : R) where
  pub same_number : (xs : List R) → is_some (find (λ x. bytes_eq (name x) (name r)) xs) ≡ true → length (put (λ x. bytes_eq (name x) (name r)) r xs) ≡ length xs
  same_number [] h = absurd cc
  same_number (x ∷ xs) h =
      elim (bytes_eq (name x) (name r)) as (λ b. is_some (cond b (Some x) (find (λ y. bytes_eq (name y) (name r)) xs)) ≡ true → length (cond b (r ∷ xs) (x ∷ put (λ y. bytes_eq (name y) (name r)) r xs)) ≡ suc (length xs)) [
        | true ↦ λ _. refl
        | false ↦ λ i. ap (λ (k : ℕ). suc k) (same_number xs i)
      ] h

  pub one_more : (xs : List R) → length (put (λ x. bytes_eq (name x) (name r)) r xs) ≤ suc (length xs)
  one_more [] = omega arith
  one_more (x ∷ xs) =
      elim (bytes_eq (name x) (name r)) as (λ b. length (cond b (r ∷ xs) (x ∷ put (λ y. bytes_eq (name y) (name r)) r xs)) ≤ suc (suc (length xs))) [
        | true ↦ omega arith
        | false ↦ let h : length (put (λ y. bytes_eq (name y) (name r)) r xs) ≤ suc (length xs) = one_more xs in omega (arith, h)
      ]

module _ (K : StoredRules) (steady : IsSteady K) (C : Cat) (T : Tables) (s : IsSound K C) (t u : Table) (there : table_named C t.name ≡ Some t) (same : u.name ≡ t.name) (wider : IsWider t u) where
  pub wider_reads : Reads K C (put_table u C) Always Always
  wider_reads = record {
    condition = λ on c _ _ q r. steady.widens C t u on c there wider q r;
    mask = λ on ty e _ _ q r. steady.widens_mask C t u on ty e there wider q r;
  }

  there_too : find (is_table u.name) C.tables ≡ Some t
  there_too = subst (λ (n : List ℕ). find (is_table n) C.tables ≡ Some t) (sym same) there

  pub stays_plain : StaysPlain C (put_table u C)
  stays_plain n _ h = put_case (λ (x : Table). x.name) (λ o. has_labels o ≡ false) u C.tables n
      (λ e. wider_plain t u wider (subst (λ (o : Option Table). has_labels o ≡ false) (subst (λ (m : List ℕ). table_named C m ≡ Some t) (sym same ∙ e) there) h)) h

  -- the table's record in the new catalogue, before it is changed
  pub old_moves : TableIsSound K C t → TableIsSound K (put_table u C) t
  old_moves h = table_moves K C (put_table u C) Always Always wider_reads t tt (λ m _. tt) (λ n z. there_put (λ (x : Table). x.name) u C.tables n z) (λ n z. z) (λ l z. z) stays_plain h

  pub put_wider : (Other : List ℕ → Type 0) → AllByRecursion (λ (x : Table). bytes_eq x.name u.name ≡ false → AllByRecursion Other (table_names x)) C.tables → Names Other (table_names u) (table_names t)
      → (TableIsSound K (put_table u C) t → TableIsSound K (put_table u C) u) → Parts K (put_table u C)
  put_wider Other others names f =
      let p : Parts K C = apart K C s in
      put_table_parts K C u Always Always wider_reads (own_always C.tables) (λ m _. tt) stays_plain (subst (λ (k : ℕ). k ≤ 64) (sym (same_number (λ (x : Table). x.name) u C.tables (is_there _ t there_too))) p.few)
      ((names_put Other u t C.tables p.one_each.tables others there_too names).different p.stored)
      (f (old_moves (all_found (TableIsSound K C) (is_table u.name) C.tables t p.tables there_too))) p

  pub put_wider_sound : Names Always (table_names u) (table_names t) → (TableIsSound K (put_table u C) t → TableIsSound K (put_table u C) u) → IsSound K (put_table u C)
  put_wider_sound names f = together K (put_table u C) (put_wider Always (others_always Always u (λ n. tt) C.tables) names f)

-- ---- the same columns

same_columns : (cs : List ColumnRec) → AllZip IsSameColumn cs (take (length cs) cs)
same_columns [] = tt
same_columns (c ∷ cs) = ((refl, refl), same_columns cs)

nothing_more : (cs : List ColumnRec) → list_any is_label_column (drop (length cs) cs) ≡ false
nothing_more [] = refl
nothing_more (c ∷ cs) = nothing_more cs

-- a table of a sound catalogue has a column
pub some_column : (K : StoredRules) (C : Cat) → IsSound K C → (n : List ℕ) (t : Table) → table_named C n ≡ Some t → 1 ≤ length t.columns
some_column K C s n t e = let h : HasFewColumns t = all_found HasFewColumns (is_table n) C.tables t s.limits.columns e in h.some

-- the table with another control, other privileges of all users, other permissions and masks
abbrev pub refitted : Table → Bool → Bool → Privileges → List PermissionRec → List MaskRec → Table
refitted t row column public ps ms = record t { row_control = row; column_control = column; public = public; permissions = ps; masks = ms }

pub refitted_wider : (t : Table) (row column : Bool) (public : Privileges) (ps : List PermissionRec) (ms : List MaskRec) → 1 ≤ length t.columns → IsWider t (refitted t row column public ps ms)
refitted_wider t row column public ps ms some = record { name = refl; some = some; more = drop (length t.columns) t.columns; same = same_columns t.columns; rest = refl; plain = nothing_more t.columns }

-- what is asked of the other permissions and masks
pub record Refits (K : StoredRules) (D : Cat) (t : Table) (ps : List PermissionRec) (ms : List MaskRec) : Type 0 where
  pub permissions : InPermissions (Sources D t.name) ps
  pub masks : InMasks (Sources D t.name) ms
  pub places : AllByRecursion (λ (m : MaskRec). IsPlace t m.column) ms
  pub once : has_mask_twice ms ≡ false
  pub valid : AllByRecursion (IsValid K D t) ps
  pub valid_masks : AllByRecursion (IsValidMask K D t) ms

pub refits_old : (K : StoredRules) (D : Cat) (t : Table) → TableIsSound K D t → Refits K D t t.permissions t.masks
refits_old K D t h = record { permissions = h.permissions; masks = h.masks; places = h.columns.masked; once = h.label_columns.masks; valid = h.stored.permissions; valid_masks = h.stored.masks }

-- a mask that is called and says the same is of the same kind
pub retyped : (K : StoredRules) (D : Cat) (t u : Table) (m o : MaskRec) → called t m.correlation ≡ called u o.correlation → m.value ≡ o.value → (c : Option ColumnRec) → TypesAt K D t m c → TypesAt K D u o c
retyped K D t u m o e f None h = absurd h
retyped K D t u m o e f (Some c) h =
    (subst (λ (x : Tab). K.mask_types D x c.name o.value ≡ None) e (subst (λ (v : Expr). K.mask_types D (called t m.correlation) c.name v ≡ None) f h.0), h.1)

module _ (K : StoredRules) (D : Cat) (t : Table) (row column : Bool) (public : Privileges) (ps : List PermissionRec) (ms : List MaskRec) where
  key_refitted : (key : Option ℕ) → HasKeyColumn t key → HasKeyColumn (refitted t row column public ps ms) key
  key_refitted None h = tt
  key_refitted (Some at) h = record { place = h.place; not_null = h.not_null }

  pub refitted_sound : Refits K D t ps ms → TableIsSound K D t → TableIsSound K D (refitted t row column public ps ms)
  refitted_sound r h = record {
    policy = h.policy;
    permissions = r.permissions;
    masks = r.masks;
    columns = record { names = h.columns.names; key = key_refitted t.key h.columns.key; masked = r.places };
    few = record { some = h.few.some; few = h.few.few; widths = h.few.widths };
    label_columns = record { one = h.label_columns.one; key = h.label_columns.key; secured = h.label_columns.secured; masks = r.once };
    belonging = all_follow (ColumnBelongs D t) (ColumnBelongs D (refitted t row column public ps ms)) (λ c i. record { label = i.label; secured = i.secured }) t.columns h.belonging;
    stored = record {
      permissions = all_follow (IsValid K D t) (IsValid K D (refitted t row column public ps ms)) (λ p i. record { names = i.names; types = i.types; qualified = i.qualified }) ps r.valid;
      masks = all_follow (IsValidMask K D t) (IsValidMask K D (refitted t row column public ps ms)) (λ m i. record { names = i.names; types = retyped K D t (refitted t row column public ps ms) m m refl refl (slice_get t.columns m.column) i.types; qualified = i.qualified }) ms r.valid_masks;
    };
  }

module _ (K : StoredRules) (steady : IsSteady K) (C : Cat) (T : Tables) (s : IsSound K C) (t : Table) (there : table_named C t.name ≡ Some t) (row column : Bool) (public : Privileges) where
  -- permissions and masks as given, of which there are no more names
  pub refits_sound : (ps : List PermissionRec) (ms : List MaskRec) → Names Always (map (λ p. p.name) ps ++ map (λ m. m.name) ms) (table_names t)
      → (TableIsSound K (put_table (refitted t row column public ps ms) C) t → Refits K (put_table (refitted t row column public ps ms) C) t ps ms)
      → LeavesSound K (alters C T (refitted t row column public ps ms))
  refits_sound ps ms names f =
      let u : Table = refitted t row column public ps ms in
      done_sound K (put_table u C) T (keys.Table t.name ∷ [])
      (put_wider_sound K steady C T s t u there refl (refitted_wider t row column public ps ms (some_column K C s t.name t there)) names (λ h. refitted_sound K (put_table u C) t row column public ps ms (f h) h))

  pub controls_sound : LeavesSound K (alters C T (refitted t row column public t.permissions t.masks))
  controls_sound =
      refits_sound t.permissions t.masks (same_names Always (table_names t) (table_names t) refl) (λ h. refits_old K (put_table (refitted t row column public t.permissions t.masks) C) t h)

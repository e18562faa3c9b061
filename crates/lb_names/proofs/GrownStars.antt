-- What stands in a `*` and in GROUP BY, when tables get more columns.
use Rattle.std.proofs.Common.{ℕ, ◌≡◌, refl, sym, subst, ◌∙◌, List, [], ◌∷◌, ◌++◌, Bool, true, false, cond, ◌&&◌, ◌||◌, not, Option, Some, None, map, Ok, Err, ◌<◌, ◌==◌, arith}
use Rattle.std.specs.List.{list_any, list_all, flat_map, AllByRecursion}
use Rattle.std.specs.Str.{bytes_eq}
use Rattle.lb_tree.specs.declared.query.Tab.{Tab}
use Rattle.lb_tree.specs.declared.query.Column.{Column}
use Rattle.lb_names.specs.declared.place.Seen.{Seen}
use Rattle.lb_names.specs.declared.place.Spot.{Spot}
use Rattle.lb_names.specs.declared.place.Group.{Group}
use Rattle.lb_names.specs.Sights.{Name, correlation, at_level}
use Rattle.lb_names.specs.Kinds.{Kind, is_label}
use Rattle.lb_names.specs.Scopes.{Field, Catalogue, Resolved, field_named, columns_of, found_in, column_of, qualified, resolved_as, resolve, is_some, spot_of, spots, same_spot}
use Rattle.lb_names.specs.Typed.{next, only_if}
use Rattle.lb_names.specs.Places.{Place, is_in_group, is_free, all_free_of, all_free}
use Rattle.lb_names.specs.SelectLists.{kinds_of_item, column_kinds, fit, star_fits, star_outputs, called}
use Rattle.lb_names.specs.Typing.{is_listed}
use Rattle.lb_names.specs.Qualified.{has_correlation}
use Rattle.lb_names.specs.Growing.{is_label_field, IsLonger, IsGrown}
use Rattle.lb_names.proofs.QualifiedMarks.{split}
use Rattle.lb_names.proofs.GrownNames.{longer, column_stays}
use Rattle.lb_names.proofs.GrownLists.{GroupsGrow, SeenBelow, GroupsBelow, with_groups, Outputs, wants, ClearGroups, ClearItems}

-- ---- tests of lists

all_both : {A : Type 0} (f : A → Bool) (xs ys : List A) → list_all f xs ≡ true → list_all f ys ≡ true → list_all f (xs ++ ys) ≡ true
all_both f [] ys h k = k
all_both f (x ∷ xs) ys h k = let s : (f x ≡ true) × (list_all f xs ≡ true) = split (f x) (list_all f xs) h in λ i. s.0 i && all_both f xs ys s.1 k i

all_each : {A : Type 0} (f h : A → Bool) → ((x : A) → f x ≡ true → h x ≡ true) → (xs : List A) → list_all f xs ≡ true → list_all h xs ≡ true
all_each f h k [] e = refl
all_each f h k (x ∷ xs) e = let s : (f x ≡ true) × (list_all f xs ≡ true) = split (f x) (list_all f xs) e in λ i. k x s.0 i && all_each f h k xs s.1 i

all_of : {A : Type 0} (f : A → Bool) → ((x : A) → f x ≡ true) → (xs : List A) → list_all f xs ≡ true
all_of f k [] = refl
all_of f k (x ∷ xs) = λ i. k x i && all_of f k xs i

or_again : (a b c : Bool) → (a || (b || c)) ≡ ((a || b) || c)
or_again true b c = refl
or_again false b c = refl

or_false : (a : Bool) → (a || false) ≡ a
or_false true = refl
or_false false = refl

or_right : (a b c : Bool) → (b ≡ true → c ≡ true) → (a || b) ≡ true → (a || c) ≡ true
or_right true b c f h = refl
or_right false b c f h = f h

or_after : (a b : Bool) → b ≡ true → (a || b) ≡ true
or_after true b h = refl
or_after false b h = h

any_both : {A : Type 0} (f : A → Bool) (xs ys : List A) → list_any f (xs ++ ys) ≡ (list_any f xs || list_any f ys)
any_both f [] ys = refl
any_both f (x ∷ xs) ys = (λ i. f x || any_both f xs ys i) ∙ or_again (f x) (list_any f xs) (list_any f ys)

-- ---- columns of groups

group_grows : (sp : Spot) (gs hs : List Group) → GroupsGrow gs hs → list_all (is_in_group sp) gs ≡ true → list_all (is_in_group sp) hs ≡ true
group_grows sp [] [] g h = refl
group_grows sp (x ∷ gs) (y ∷ hs) g h =
    let s : (is_in_group sp x ≡ true) × (list_all (is_in_group sp) gs ≡ true) = split (is_in_group sp x) (list_all (is_in_group sp) gs) h in
    let here : is_in_group sp y ≡ true = (λ i. not (g.0.0 i == sp.level) || list_any (same_spot sp) y.columns) ∙ or_right (not (x.level == sp.level)) (list_any (same_spot sp) x.columns) (list_any (same_spot sp) y.columns) (g.0.1 sp) s.0 in
    λ i. here i && group_grows sp gs hs g.1 s.1 i
group_grows sp [] (y ∷ hs) g h = absurd g
group_grows sp (x ∷ gs) [] g h = absurd g

pub free_grows : (P : Place) (hs : List Group) → GroupsGrow P.groups hs → (sp : Spot) → is_free P sp ≡ true → is_free (with_groups P hs) sp ≡ true
free_grows P hs g sp h = or_right P.within (list_all (is_in_group sp) P.groups) (list_all (is_in_group sp) hs) (group_grows sp P.groups hs g) h

-- a column of a query that has no column of a group is in the group by the query alone
none_in : (s : Seen) (n : Name) (ts : List Spot) → AllByRecursion (λ (t : Spot). (s.level == t.level) ≡ false) ts → list_any (same_spot (spot_of s n)) ts ≡ false
none_in s n [] c = refl
none_in s n (t ∷ ts) c = λ i. (c.0 i && (bytes_eq (correlation s.tab) t.correlation && bytes_eq n t.column)) || none_in s n ts c.1 i

other_name : (s : Seen) (n m : Name) (gs hs : List Group) → GroupsGrow gs hs → ClearGroups s.level gs → list_all (is_in_group (spot_of s n)) gs ≡ true → list_all (is_in_group (spot_of s m)) hs ≡ true
other_name s n m [] [] g c h = refl
other_name s n m (x ∷ gs) (y ∷ hs) g c h =
    let k : (is_in_group (spot_of s n) x ≡ true) × (list_all (is_in_group (spot_of s n)) gs ≡ true) = split (is_in_group (spot_of s n) x) (list_all (is_in_group (spot_of s n)) gs) h in
    let apart : not (x.level == s.level) ≡ true = sym (or_false (not (x.level == s.level))) ∙ (λ i. not (x.level == s.level) || sym (none_in s n x.columns c.0) i) ∙ k.0 in
    let here : is_in_group (spot_of s m) y ≡ true = (λ i. not (g.0.0 i == s.level) || list_any (same_spot (spot_of s m)) y.columns) ∙ (λ i. apart i || list_any (same_spot (spot_of s m)) y.columns) in
    λ i. here i && other_name s n m gs hs g.1 c.1 k.1 i
other_name s n m [] (y ∷ hs) g c h = absurd g
other_name s n m (x ∷ gs) [] g c h = absurd g

other_free : (P : Place) (hs : List Group) → GroupsGrow P.groups hs → (s : Seen) (n m : Name) → ClearGroups s.level P.groups → is_free P (spot_of s n) ≡ true → is_free (with_groups P hs) (spot_of s m) ≡ true
other_free P hs g s n m c h = or_right P.within (list_all (is_in_group (spot_of s n)) P.groups) (list_all (is_in_group (spot_of s m)) hs) (other_name s n m P.groups hs g c) h

more_free : (P : Place) (hs : List Group) → GroupsGrow P.groups hs → (s : Seen) → ClearGroups s.level P.groups → (fields more : List Field) → (is_listed more ≡ true → is_listed fields ≡ true) → list_all (λ (f : Field). is_free P (spot_of s f.name)) fields ≡ true → list_all (λ (f : Field). is_free (with_groups P hs) (spot_of s f.name)) more ≡ true
more_free P hs g s c fields [] some h = refl
more_free P hs g s c [] (m ∷ more) some h = let no : is_listed {A = Field} [] ≡ true = some refl in absurd cc
more_free P hs g s c (f ∷ fields) (m ∷ more) some h =
    let k : (is_free P (spot_of s f.name) ≡ true) × (list_all (λ (f : Field). is_free P (spot_of s f.name)) fields ≡ true) = split (is_free P (spot_of s f.name)) (list_all (λ (f : Field). is_free P (spot_of s f.name)) fields) h in
    all_of (λ (x : Field). is_free (with_groups P hs) (spot_of s x.name)) (λ x. other_free P hs g s f.name x.name c k.0) (m ∷ more)

below_is_other : (n m : ℕ) → m < n → (n == m) ≡ false
below_is_other n m h = grind arith

spots_clear : (n : ℕ) (ts : List Spot) → AllByRecursion (λ (t : Spot). t.level < n) ts → AllByRecursion (λ (t : Spot). (n == t.level) ≡ false) ts
spots_clear n [] h = tt
spots_clear n (t ∷ ts) h = (below_is_other n t.level h.0, spots_clear n ts h.1)

pub groups_clear : (n : ℕ) (gs : List Group) → GroupsBelow n gs → ClearGroups n gs
groups_clear n [] h = tt
groups_clear n (g ∷ gs) h = (spots_clear n g.columns h.0, groups_clear n gs h.1)

pub items_clear : (n : ℕ) (tabs : List Tab) (gs : List Group) → ClearGroups n gs → ClearItems (map (at_level n) tabs) gs
items_clear n [] gs h = tt
items_clear n (tab ∷ tabs) gs h = (h, items_clear n tabs gs h)

pub called_clear : (x : Name) (items : List Seen) (gs : List Group) → ClearItems items gs → ClearItems (called x items) gs
called_clear x [] gs h = tt
called_clear x (t ∷ items) gs h =
    elim (bytes_eq (correlation t.tab) x) as (λ b. ClearItems (cond b (t ∷ called x items) (called x items)) gs) [
      | true ↦ (h.0, called_clear x items gs h.1)
      | false ↦ called_clear x items gs h.1
    ]

module _ (C D : Catalogue) (g : IsGrown C D) where
  long : (s : Seen) → IsLonger (columns_of C s.tab) (columns_of D s.tab)
  long s = longer C D g (C.columns s.tab.table) (D.columns s.tab.table) (g.columns s.tab.table)

  -- ---- the columns of a `*`

  item_free : (P : Place) (hs : List Group) → GroupsGrow P.groups hs → (s : Seen) → ClearGroups s.level P.groups → all_free_of P C s ≡ true → all_free_of (with_groups P hs) D s ≡ true
  item_free P hs k s c h =
      subst (λ fields. list_all (λ (f : Field). is_free (with_groups P hs) (spot_of s f.name)) fields ≡ true) (sym (long s).same)
      (all_both (λ (f : Field). is_free (with_groups P hs) (spot_of s f.name)) (columns_of C s.tab) (long s).more
      (all_each (λ (f : Field). is_free P (spot_of s f.name)) (λ (f : Field). is_free (with_groups P hs) (spot_of s f.name)) (λ f. free_grows P hs k (spot_of s f.name)) (columns_of C s.tab) h)
      (more_free P hs k s c (columns_of C s.tab) (long s).more (long s).some h))

  items_free : (P : Place) (hs : List Group) → GroupsGrow P.groups hs → (items : List Seen) → ClearItems items P.groups → all_free P C items ≡ true → all_free (with_groups P hs) D items ≡ true
  items_free P hs k [] c h = refl
  items_free P hs k (s ∷ items) c h =
      let e : (all_free_of P C s ≡ true) × (all_free P C items ≡ true) = split (all_free_of P C s) (all_free P C items) h in
      λ i. item_free P hs k s c.0 e.0 i && items_free P hs k items c.1 e.1 i

  any_kind : (fields : List Field) → list_any is_label (map (λ (f : Field). f.kind) fields) ≡ list_any is_label_field fields
  any_kind [] = refl
  any_kind (f ∷ fields) = λ i. is_label f.kind || any_kind fields i

  item_labels : (s : Seen) → list_any is_label (kinds_of_item C s) ≡ list_any is_label (kinds_of_item D s)
  item_labels s =
      any_kind (columns_of C s.tab)
      ∙ sym (or_false (list_any is_label_field (columns_of C s.tab)))
      ∙ (λ i. list_any is_label_field (columns_of C s.tab) || sym (long s).plain i)
      ∙ sym (any_both is_label_field (columns_of C s.tab) (long s).more)
      ∙ (λ i. list_any is_label_field (sym (long s).same i))
      ∙ sym (any_kind (columns_of D s.tab))

  labels_same : (items : List Seen) → list_any is_label (column_kinds C items) ≡ list_any is_label (column_kinds D items)
  labels_same [] = refl
  labels_same (s ∷ items) =
      any_both is_label (kinds_of_item C s) (column_kinds C items)
      ∙ (λ i. item_labels s i || labels_same items i)
      ∙ sym (any_both is_label (kinds_of_item D s) (column_kinds D items))

  only_outputs : (one a b : Bool) (at : ℕ) (ks js : List Kind) (n : ℕ) → (a ≡ true → (b ≡ true) × (one ≡ false)) → Outputs one (only_if a at (ks, n)) (only_if b at (js, n))
  only_outputs one true b at ks js n h = (js, ((λ i. only_if ((h refl).0 i) at (js, n)), λ w. absurd (no one w (h refl).1)))
    where
      no : (x : Bool) → x ≡ true → x ≡ false → ⊥
      no true p q = absurd cc
      no false p q = absurd cc
  only_outputs one false b at ks js n h = tt

  not_wanted : (stored one grouped : Bool) → stored ≡ true → not (stored && (one || grouped)) ≡ true → (one ≡ false) × (grouped ≡ false)
  not_wanted true true grouped e h = absurd cc
  not_wanted true false true e h = absurd cc
  not_wanted true false false e h = (refl, refl)
  not_wanted false one grouped e h = absurd cc

  pub star_keep : (items : List Seen) (one grouped distinct : Bool) (P : Place) (hs : List Group) → P.stored ≡ true → GroupsGrow P.groups hs → (grouped ≡ false → ClearItems items P.groups) → (at : ℕ) → Outputs one (star_outputs C items (wants one grouped distinct) P at) (star_outputs D items (wants one grouped distinct) (with_groups P hs) at)
  star_keep items one grouped distinct P hs st k c at =
      only_outputs one (star_fits C items (wants one grouped distinct) P) (star_fits D items (wants one grouped distinct) (with_groups P hs)) at (column_kinds C items) (column_kinds D items) (next at) fits
    where
      fits : star_fits C items (wants one grouped distinct) P ≡ true → (star_fits D items (wants one grouped distinct) (with_groups P hs) ≡ true) × (one ≡ false)
      fits h =
          let a : (not (P.stored && (one || grouped)) ≡ true) × ((all_free P C items && fit (wants one grouped distinct) (column_kinds C items)) ≡ true) = split (not (P.stored && (one || grouped))) (all_free P C items && fit (wants one grouped distinct) (column_kinds C items)) h in
          let b : (all_free P C items ≡ true) × (fit (wants one grouped distinct) (column_kinds C items) ≡ true) = split (all_free P C items) (fit (wants one grouped distinct) (column_kinds C items)) a.1 in
          let w : (one ≡ false) × (grouped ≡ false) = not_wanted P.stored one grouped st a.0 in
          let free : all_free (with_groups P hs) D items ≡ true = items_free P hs k items (c w.1) b.0 in
          let kinds : fit (wants one grouped distinct) (column_kinds D items) ≡ true = (λ i. not (distinct && sym (labels_same items) i) && true) ∙ b.1 in
          ((λ i. a.0 i && (free i && kinds i)), w.0)

  -- ---- GROUP BY

  spots_stay : (seen : List Seen) (c : Column) → has_correlation c ≡ true → (sp : Spot) (r : Resolved) → resolve C seen c ≡ r → (xs ys : List Spot) → (list_any (same_spot sp) xs ≡ true → list_any (same_spot sp) ys ≡ true) → list_any (same_spot sp) (spots r ++ xs) ≡ true → list_any (same_spot sp) (spots (resolve D seen c) ++ ys) ≡ true
  spots_stay seen c q sp (Ok x) e xs ys f h =
      (λ i. list_any (same_spot sp) (spots (column_stays C D g seen c x q e i) ++ ys)) ∙ or_right (same_spot sp (spot_of x.item x.field.name)) (list_any (same_spot sp) xs) (list_any (same_spot sp) ys) f h
  spots_stay seen c q sp (Err n) e xs ys f h = any_both (same_spot sp) (spots (resolve D seen c)) ys ∙ or_after (list_any (same_spot sp) (spots (resolve D seen c))) (list_any (same_spot sp) ys) (f h)

  pub columns_grow : (seen : List Seen) (cs : List Column) → list_all has_correlation cs ≡ true → (sp : Spot) → list_any (same_spot sp) (flat_map (λ c. spots (resolve C seen c)) cs) ≡ true → list_any (same_spot sp) (flat_map (λ c. spots (resolve D seen c)) cs) ≡ true
  columns_grow seen [] q sp h = h
  columns_grow seen (c ∷ cs) q sp h =
      let k : (has_correlation c ≡ true) × (list_all has_correlation cs ≡ true) = split (has_correlation c) (list_all has_correlation cs) q in
      spots_stay seen c k.0 sp (resolve C seen c) refl (flat_map (λ c. spots (resolve C seen c)) cs) (flat_map (λ c. spots (resolve D seen c)) cs) (columns_grow seen cs k.1 sp) h

module _ (C : Catalogue) where
  in_item : (n : ℕ) (name : Name) (s : Seen) → s.level < n → (o : Option Field) → AllByRecursion (λ (t : Spot). t.level < n) (spots (found_in name s o))
  in_item n name s h None = tt
  in_item n name s h (Some f) = (h, tt)

  in_seen : (n : ℕ) (x name : Name) (seen : List Seen) → SeenBelow n seen → AllByRecursion (λ (t : Spot). t.level < n) (spots (qualified C x name seen))
  in_seen n x name [] h = tt
  in_seen n x name (s ∷ seen) h =
      elim (bytes_eq (correlation s.tab) x) as (λ b. AllByRecursion (λ (t : Spot). t.level < n) (spots (cond b (column_of C name s) (qualified C x name seen)))) [
        | true ↦ in_item n name s h.0 (field_named name (columns_of C s.tab))
        | false ↦ in_seen n x name seen h.1
      ]

  by_name : (n : ℕ) (o : Option Name) (name : Name) (seen : List Seen) → SeenBelow n seen → is_some o ≡ true → AllByRecursion (λ (t : Spot). t.level < n) (spots (resolved_as C o name seen))
  by_name n None name seen h q = absurd cc
  by_name n (Some x) name seen h q = in_seen n x name seen h

  before : (P : Spot → Type 0) (xs ys : List Spot) → AllByRecursion P xs → AllByRecursion P ys → AllByRecursion P (xs ++ ys)
  before P [] ys h k = k
  before P (x ∷ xs) ys h k = (h.0, before P xs ys h.1 k)

  -- the columns of GROUP BY are of the queries in sight
  pub columns_below : (n : ℕ) (seen : List Seen) (cs : List Column) → SeenBelow n seen → list_all has_correlation cs ≡ true → AllByRecursion (λ (t : Spot). t.level < n) (flat_map (λ c. spots (resolve C seen c)) cs)
  columns_below n seen [] h q = tt
  columns_below n seen (c ∷ cs) h q =
      let k : (has_correlation c ≡ true) × (list_all has_correlation cs ≡ true) = split (has_correlation c) (list_all has_correlation cs) q in
      before (λ t. t.level < n) (spots (resolve C seen c)) (flat_map (λ c. spots (resolve C seen c)) cs) (by_name n c.correlation c.name seen h k.0) (columns_below n seen cs h k.1)

-- Stamping records: what stays, and what a look-up finds afterwards.
use Rattle.std.proofs.Common.{◌≡◌, refl, ap, ◌∙◌, ℕ, Bool, true, false, cond, ◌&&◌, if◌then◌else◌, List, [], ◌∷◌, map, Some, is_some}
use Rattle.std.specs.Prelude.{find}
use Rattle.std.specs.Str.{bytes_eq}
use Rattle.std.specs.List.{AllZip}
use Rattle.lb_base.specs.declared.key.Key.{Key}
use Rattle.lb_base.specs.declared.key.Key.TheVariants as keys
use Rattle.lb_cat.specs.declared.catalog.ComponentRec.{ComponentRec}
use Rattle.lb_cat.specs.Keys.{has_key}
use Rattle.lb_cat.specs.Records.{IsMarked}
use Rattle.lb_cat.specs.Stamps.{Kept, bare, bare_table, bare_policy, bare_component, bare_user, stamp_or, look, stamped_table, stamped_policy, stamped_component, stamped_user, marked, marked_stamp, MarksStampsAlone, IsAlike, IsAlikeComponent}
use Rattle.lb_cat.proofs.ByName.{same_name}

-- the record with the stamp where its key is among the keys
abbrev pub mark_one : {R : Type 0} → (R → Key) → (R → R) → List Key → R → R
mark_one key stamped ks r = if has_key (key r) ks then stamped r else r

-- what stamping one record leaves, stamping many leaves
pub map_stays : {R B : Type 0} (g : R → B) (f : R → R) → ((r : R) → g (f r) ≡ g r) → (rs : List R) → map g (map f rs) ≡ map g rs
map_stays g f same [] = refl
map_stays g f same (r ∷ rs) = λ i. same r i ∷ map_stays g f same rs i

module _ {R B : Type 0} (key : R → Key) (stamped : R → R) (g : R → B) (stays : (r : R) → g (stamped r) ≡ g r) (ks : List Key) where
  pub one_stays : (r : R) → g (mark_one key stamped ks r) ≡ g r
  one_stays r =
      elim (has_key (key r) ks) as (λ b. g (if b then stamped r else r) ≡ g r) [
        | true ↦ stays r
        | false ↦ refl
      ]

module _ {R : Type 0} (is : R → Bool) (f : R → R) (stamp : R → ℕ) (among : Bool) (s : ℕ) (same : (r : R) → is (f r) ≡ is r) (stamps : (r : R) → is r ≡ true → stamp (f r) ≡ (if among then s else stamp r)) where
  pub found_after : (rs : List R) → stamp_or stamp (find is (map f rs)) ≡ (if among && is_some (find is rs) then s else stamp_or stamp (find is rs))
  found_after [] =
      elim among as (λ b. 0 ≡ (if b && false then s else 0)) [
        | true ↦ refl
        | false ↦ refl
      ]
  found_after (r ∷ rs) =
      ap (λ b. stamp_or stamp (cond b (Some (f r)) (find is (map f rs)))) (same r) ∙ by (is r) refl (found_after rs)
    where
      by : (b : Bool) → is r ≡ b → stamp_or stamp (find is (map f rs)) ≡ (if among && is_some (find is rs) then s else stamp_or stamp (find is rs)) → stamp_or stamp (cond b (Some (f r)) (find is (map f rs))) ≡ (if among && is_some (cond b (Some r) (find is rs)) then s else stamp_or stamp (cond b (Some r) (find is rs)))
      by true h rest =
          stamps r h
          ∙ (elim among as (λ b. (if b then s else stamp r) ≡ (if b && true then s else stamp r)) [
            | true ↦ refl
            | false ↦ refl
          ])
      by false h rest = rest

module _ {R : Type 0} (make : List ℕ → Key) (name : R → List ℕ) (stamp : R → ℕ) (stamped : R → R) (s : ℕ) (keeps : (r : R) → name (stamped r) ≡ name r) (has : (r : R) → stamp (stamped r) ≡ s) (ks : List Key) (n : List ℕ) where
  -- a look-up by name after the records under the keys were stamped
  pub looked_up : (rs : List R) → stamp_or stamp (find (λ r. bytes_eq (name r) n) (map (mark_one (λ r. make (name r)) stamped ks) rs)) ≡ (if has_key (make n) ks && is_some (find (λ r. bytes_eq (name r) n) rs) then s else stamp_or stamp (find (λ r. bytes_eq (name r) n) rs))
  looked_up rs =
      found_after (λ r. bytes_eq (name r) n) (mark_one (λ r. make (name r)) stamped ks) stamp (has_key (make n) ks) s
      (λ r. ap (λ m. bytes_eq m n) (one_stays (λ x. make (name x)) stamped name keeps ks r))
      (λ r h. ap (λ m. stamp (if has_key (make m) ks then stamped r else r)) (same_name (name r) n h) ∙ by (has_key (make n) ks) r)
      rs
    where
      by : (b : Bool) (r : R) → stamp (if b then stamped r else r) ≡ (if b then s else stamp r)
      by true r = has r
      by false r = refl

pub marks_stamps_alone : (S : Kept) (ks : List Key) (s : ℕ) → MarksStampsAlone S ks s
marks_stamps_alone S ks s = record {
  bare = λ i. record {
    tables = map_stays bare_table (mark_one (λ t. keys.Table t.name) (stamped_table s) ks) (one_stays (λ t. keys.Table t.name) (stamped_table s) bare_table (λ t. refl) ks) S.tables i;
    policies = map_stays bare_policy (mark_one (λ p. keys.Policy p.name) (stamped_policy s) ks) (one_stays (λ p. keys.Policy p.name) (stamped_policy s) bare_policy (λ p. refl) ks) S.policies i;
    components = map_stays bare_component (mark_one (λ c. keys.Component c.name) (stamped_component s) ks) (one_stays (λ c. keys.Component c.name) (stamped_component s) bare_component (λ c. refl) ks) S.components i;
    users = map_stays bare_user (mark_one (λ u. keys.User u.name) (stamped_user s) ks) (one_stays (λ u. keys.User u.name) (stamped_user s) bare_user (λ u. refl) ks) S.users i;
    roles = S.roles;
  };
  stamps = λ k. at k;
}
  where
    at : (k : Key) → look (marked ks s S) k ≡ marked_stamp ks s S k
    at (keys.Table n) = looked_up keys.Table (λ t. t.name) (λ t. t.stamp) (stamped_table s) s (λ t. refl) (λ t. refl) ks n S.tables
    at (keys.Rows n) = looked_up keys.Table (λ t. t.name) (λ t. t.stamp) (stamped_table s) s (λ t. refl) (λ t. refl) ks n S.tables
    at (keys.Policy n) = looked_up keys.Policy (λ p. p.name) (λ p. p.stamp) (stamped_policy s) s (λ p. refl) (λ p. refl) ks n S.policies
    at (keys.Component n) = looked_up keys.Component (λ c. c.name) (λ c. c.stamp) (stamped_component s) s (λ c. refl) (λ c. refl) ks n S.components
    at (keys.User n) = looked_up keys.User (λ u. u.name) (λ u. u.stamp) (stamped_user s) s (λ u. refl) (λ u. refl) ks n S.users

-- catalogues that are alike are the same without stamps
pub bare_alike : (K L : Kept) → IsAlike K L → bare K ≡ bare L
bare_alike K L h = λ i. record {
  tables = map bare_table (h.tables i);
  policies = map bare_policy (h.policies i);
  components = by K.components L.components h.components i;
  users = map bare_user (h.users i);
  roles = h.roles i;
}
  where
    by : (cs ds : List ComponentRec) → AllZip IsAlikeComponent cs ds → map bare_component cs ≡ map bare_component ds
    by [] [] same = refl
    by [] (d ∷ ds) same = absurd same
    by (c ∷ cs) [] same = absurd same
    by (c ∷ cs) (d ∷ ds) same = λ i. same.0.0 i ∷ by cs ds same.1 i

-- and have the same stamps
pub look_alike : (K L : Kept) → IsAlike K L → (k : Key) → look K k ≡ look L k
look_alike K L h (keys.Table n) = ap (λ ts. stamp_or (λ t. t.stamp) (find (λ t. bytes_eq t.name n) ts)) h.tables
look_alike K L h (keys.Rows n) = ap (λ ts. stamp_or (λ t. t.stamp) (find (λ t. bytes_eq t.name n) ts)) h.tables
look_alike K L h (keys.Policy n) = ap (λ ps. stamp_or (λ p. p.stamp) (find (λ p. bytes_eq p.name n) ps)) h.policies
look_alike K L h (keys.Component n) = by K.components L.components h.components
  where
    by : (cs ds : List ComponentRec) → AllZip IsAlikeComponent cs ds → stamp_or (λ c. c.stamp) (find (λ c. bytes_eq c.name n) cs) ≡ stamp_or (λ c. c.stamp) (find (λ c. bytes_eq c.name n) ds)
    by [] [] same = refl
    by [] (d ∷ ds) same = absurd same
    by (c ∷ cs) [] same = absurd same
    by (c ∷ cs) (d ∷ ds) same =
        ap (λ m. stamp_or (λ x. x.stamp) (cond (bytes_eq m n) (Some c) (find (λ x. bytes_eq x.name n) cs))) (ap (λ x. x.name) same.0.0)
        ∙ (elim (bytes_eq d.name n) as (λ b. stamp_or (λ x. x.stamp) (cond b (Some c) (find (λ x. bytes_eq x.name n) cs)) ≡ stamp_or (λ x. x.stamp) (cond b (Some d) (find (λ x. bytes_eq x.name n) ds))) [
          | true ↦ same.0.1
          | false ↦ by cs ds same.1
        ])
look_alike K L h (keys.User n) = ap (λ us. stamp_or (λ u. u.stamp) (find (λ u. bytes_eq u.name n) us)) h.users

-- records that were stamped one by one, as a map of the list
pub marked_list : {R : Type 0} (key : R → Key) (stamped : R → R) (ks : List Key) (xs ys : List R) → AllZip (IsMarked key (λ old new. new ≡ stamped old) ks) xs ys → ys ≡ map (mark_one key stamped ks) xs
marked_list key stamped ks [] [] h = refl
marked_list key stamped ks [] (y ∷ ys) h = absurd h
marked_list key stamped ks (x ∷ xs) [] h = absurd h
marked_list key stamped ks (x ∷ xs) (y ∷ ys) h = λ i. by (has_key (key x) ks) h.0.0 h.0.1 i ∷ marked_list key stamped ks xs ys h.1 i
  where
    by : (b : Bool) → (b ≡ true → y ≡ stamped x) → (b ≡ false → y ≡ x) → y ≡ (if b then stamped x else x)
    by true stamps stays = stamps refl
    by false stamps stays = stays refl

pub marked_components : (s : ℕ) (ks : List Key) (xs ys : List ComponentRec) → AllZip (IsMarked (λ c. keys.Component c.name) (λ old new. IsAlikeComponent new (stamped_component s old)) ks) xs ys → AllZip IsAlikeComponent ys (map (mark_one (λ c. keys.Component c.name) (stamped_component s) ks) xs)
marked_components s ks [] [] h = h
marked_components s ks [] (y ∷ ys) h = absurd h
marked_components s ks (x ∷ xs) [] h = absurd h
marked_components s ks (x ∷ xs) (y ∷ ys) h = (by (has_key (keys.Component x.name) ks) h.0.0 h.0.1, marked_components s ks xs ys h.1)
  where
    by : (b : Bool) → (b ≡ true → IsAlikeComponent y (stamped_component s x)) → (b ≡ false → y ≡ x) → IsAlikeComponent y (if b then stamped_component s x else x)
    by true stamps stays = stamps refl
    by false stamps stays = (ap bare_component (stays refl), ap (λ c. c.stamp) (stays refl))

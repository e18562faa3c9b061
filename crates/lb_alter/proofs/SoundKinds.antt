-- Roles and components that are made and dropped, and policies that are made, leave a sound catalogue sound.
use Rattle.std.proofs.Common.{◌≡◌, refl, sym, ap, subst, ◌∙◌, ℕ, Bool, true, false, cond, not, ◌||◌, List, [], ◌∷◌, map, length, Option, Some, None, Ok, Err, is_some, is_none, suc, ◌<◌, ◌≤◌, arith}
use Rattle.std.specs.Prelude.{find, filter_map, option_map, nat_lt, nat_le}
use Rattle.std.specs.List.{AllByRecursion, AllZip, list_any, cons_option}
use Rattle.std.specs.Str.{bytes_eq}
use Rattle.std.proofs.lemmas.Bool.{leb-false}
use Rattle.std.proofs.lemmas.Slice.Eq.{bytes_eq-Decides}
use Rattle.lb_base.specs.declared.key.Key.TheVariants as keys
use Rattle.lb_label.specs.Component.{Definition, empty_component, IsComponent}
use Rattle.lb_stmt.specs.declared.change.ComponentDef.{ComponentDef}
use Rattle.lb_stmt.specs.declared.change.PolicyDef.{PolicyDef}
use Rattle.lb_cat.specs.declared.catalog.Holding.{Holding}
use Rattle.lb_cat.specs.declared.catalog.RoleRec.{RoleRec}
use Rattle.lb_cat.specs.declared.refusal.Refusal.{Refusal}
use Rattle.lb_cat.specs.declared.refusal.Refusal.TheVariants as refusals
use Rattle.lb_cat.specs.declared.refusal.LimitOf.TheVariants as limits
use Rattle.lb_rows.specs.Tables.{Tables}
use Rattle.lb_rows.specs.Lists.{put, without}
use Rattle.lb_cat.specs.Catalog.{Cat, Table, Policy, Component, User, table_named, policy_named, component_named, has_role, is_role, is_component, is_policy, is_among, put_role, drop_role, put_component, drop_component, put_policy}
use Rattle.lb_alter.specs.ChangeGrant.{create_role, has_role_of, the_role, drop_role_of}
use Rattle.lb_alter.specs.ChangeLabel.{user_name}
use Rattle.lb_alter.specs.ChangePolicy.{kind_of_definition, elements_of, with_elements, create_component, policy_name, has_component, drop_component_of, components_refusal, definition_of, definition_named, new_policy, create_policy}
use Rattle.lb_alter.specs.ChangeTable.{has_label, policy_of}
use Rattle.lb_alter.specs.Deps.{in_table, policy_name_of, components_of}
use Rattle.lb_alter.specs.Labelled.{IsPolicyLabel, HoldsLabels, StandsUnder}
use Rattle.lb_alter.specs.Named.{AreDifferent, IfGiven, HasTable, HasPolicy, HasComponent, HasRole, HasFoldedNames}
use Rattle.lb_alter.specs.Refusing.{in_use, when, earliest, secadm, done}
use Rattle.lb_cat.specs.OrRefused.{OrRefused, ◌>>=◌}
use Rattle.lb_alter.specs.Sound.{IsSound, IsWellMade}
use Rattle.lb_alter.specs.Steady.{IsSteady}
use Rattle.lb_alter.specs.Stored.{StoredRules, mentioned_in}
use Rattle.lb_alter.proofs.MadeComponents.{IsWell, made_well}
use Rattle.lb_alter.proofs.SoundGrants.{different_filter, found_then}
use Rattle.lb_alter.proofs.SoundParts.{Stands, stored_together, TableIsSound, PolicyIsSound, Parts, apart, together, Reads, reads_kept, Sources, folded_of, source_stands}
use Rattle.lb_alter.proofs.SoundTables.{itself, there_put, same_put, same_without, there_without, table_moves, user_moves, StaysPlain}
use Rattle.lb_alter.proofs.SoundUsers.{UserIsSound, LeavesSound, test_sound, done_sound, all_put, all_follow, all_found, different_put, all_filter}
use Rattle.lb_alter.proofs.Untouched.{or_left, or_right, turned}
use Rattle.lb_base.specs.Names.{IsFolded}

-- ---- lists

pub none_found : {A : Type 0} (test : A → Bool) (xs : List A) → find test xs ≡ None → AllByRecursion (λ (x : A). test x ≡ false) xs
none_found test [] h = tt
none_found {A = A} test (x ∷ xs) h =
    elim (test x) as (λ b. cond b (Some x) (find test xs) ≡ None → (b ≡ false) × AllByRecursion (λ (y : A). test y ≡ false) xs) [
      | true ↦ λ (i : Some x ≡ None). absurd cc
      | false ↦ λ i. (refl, none_found test xs i)
    ] h

pub not_in_use : {A : Type 0} (n : List ℕ) (f : A → List ℕ) (o : Option A) → in_use n (option_map f o) ≡ None → o ≡ None
not_in_use n f None h = refl
not_in_use n f (Some x) h = absurd cc

pub is_new : (b : Bool) (r : Refusal) → when b r ≡ None → b ≡ false
is_new true r h = absurd cc
is_new false r h = refl

-- tests of limits that passed
pub not_more : (n k : ℕ) → nat_lt n k ≡ false → k ≤ n
not_more n k h = let i : k < suc n = leb-false (suc n) k h in omega (arith, i)

pub not_full : (n k : ℕ) → nat_le n k ≡ false → k < n
not_full n k h = leb-false n k h

-- what holds of names, where one of them isn't among them
pub all_but : (P Q : List ℕ → Type 0) (m : List ℕ) → ((n : List ℕ) → bytes_eq n m ≡ false → P n → Q n) → (ns : List (List ℕ)) → is_among ns m ≡ false → AllByRecursion P ns → AllByRecursion Q ns
all_but P Q m f [] h i = tt
all_but P Q m f (n ∷ ns) h i = (f n (or_left _ _ h) i.0, all_but P Q m f ns (or_right (bytes_eq n m) _ h) i.1)

module _ {B : Type 0} (R S : List ℕ → B → Type 0) where
  zip_follow : ((n : List ℕ) (y : B) → R n y → S n y) → (ns : List (List ℕ)) (ys : List B) → AllZip R ns ys → AllZip S ns ys
  zip_follow f [] [] h = tt
  zip_follow f [] (y ∷ ys) h = absurd h
  zip_follow f (n ∷ ns) [] h = absurd h
  zip_follow f (n ∷ ns) (y ∷ ys) h = (f n y h.0, zip_follow f ns ys h.1)

  zip_but : (m : List ℕ) → ((n : List ℕ) (y : B) → bytes_eq n m ≡ false → R n y → S n y) → (ns : List (List ℕ)) (ys : List B) → is_among ns m ≡ false → AllZip R ns ys → AllZip S ns ys
  zip_but m f [] [] i h = tt
  zip_but m f [] (y ∷ ys) i h = absurd h
  zip_but m f (n ∷ ns) [] i h = absurd h
  zip_but m f (n ∷ ns) (y ∷ ys) i h = (f n y (or_left _ _ i) h.0, zip_but m f ns ys (or_right (bytes_eq n m) _ i) h.1)

module _ {R : Type 0} (name : R → List ℕ) where
  -- each record is there by its name
  pub all_there : (xs : List R) → AllByRecursion (λ (x : R). is_some (find (λ y. bytes_eq (name y) (name x)) xs) ≡ true) xs
  all_there [] = tt
  all_there (x ∷ xs) = (
    rw (itself (name x)) refl,
    all_follow (λ (y : R). is_some (find (λ z. bytes_eq (name z) (name y)) xs) ≡ true) (λ (y : R). is_some (cond (bytes_eq (name x) (name y)) (Some x) (find (λ z. bytes_eq (name z) (name y)) xs)) ≡ true)
        (λ y h. elim (bytes_eq (name x) (name y)) as (λ b. is_some (cond b (Some x) (find (λ z. bytes_eq (name z) (name y)) xs)) ≡ true) [ true ↦ refl | false ↦ h ]) xs (all_there xs),
  )

-- ---- what a sound catalogue has

pub sources_stand : {K : StoredRules} (C : Cat) (t : Table) → TableIsSound K C t → AllByRecursion (Stands C) (mentioned_in t)
sources_stand C t h = all_follow (Sources C t.name) (Stands C) (source_stands C t.name) (mentioned_in t) (stored_together (Sources C t.name) t h.permissions h.masks)

module _ (K : StoredRules) (C : Cat) (p : Parts K C) where
  pub stored_there : (n : List ℕ) → AllByRecursion (Stands C) (in_table (table_named C n))
  stored_there n =
      elim (table_named C n) as (λ o. table_named C n ≡ o → AllByRecursion (Stands C) (in_table o)) [
        | None ↦ λ _. tt
        | Some t ↦ λ e. let h : TableIsSound K C t = all_found (TableIsSound K C) _ C.tables t p.tables e in sources_stand C t h
      ] refl

  pub policy_there : (n : List ℕ) → IfGiven (HasPolicy C) (policy_name_of (table_named C n))
  policy_there n =
      elim (table_named C n) as (λ o. table_named C n ≡ o → IfGiven (HasPolicy C) (policy_name_of o)) [
        | None ↦ λ _. tt
        | Some t ↦ λ e. let h : TableIsSound K C t = all_found (TableIsSound K C) _ C.tables t p.tables e in h.policy
      ] refl

  pub components_there : (n : List ℕ) → AllByRecursion (HasComponent C) (components_of (policy_named C n))
  components_there n =
      elim (policy_named C n) as (λ o. policy_named C n ≡ o → AllByRecursion (HasComponent C) (components_of o)) [
        | None ↦ λ _. tt
        | Some x ↦ λ e. let h : PolicyIsSound C x = all_found (PolicyIsSound C) _ C.policies x p.policies e in h.components
      ] refl

  -- stored conditions stay right where the records that are there stay as they are
  pub reads_there : IsSteady K → (D : Cat) → HasFoldedNames D → ((n : List ℕ) → HasTable C n → table_named D n ≡ table_named C n) → ((n : List ℕ) → HasPolicy C n → policy_named D n ≡ policy_named C n)
      → ((n : List ℕ) → HasComponent C n → component_named D n ≡ component_named C n) → Reads K C D (HasTable C) (Stands C)
  reads_there steady D f ts ps cs = reads_kept C D (HasTable C) (HasPolicy C) (HasComponent C) ts ps cs (λ n _. stored_there n) (λ n _. policy_there n) (λ n _. components_there n) K steady (folded_of K C p) f

  pub tables_move : (D : Cat) → Reads K C D (HasTable C) (Stands C) → ((n : List ℕ) → HasTable C n → HasTable D n) → ((n : List ℕ) → HasPolicy C n → HasPolicy D n)
      → ((o : Option (List ℕ)) (l : List ℕ) → has_label (policy_of C o) l ≡ true → has_label (policy_of D o) l ≡ true) → StaysPlain C D → AllByRecursion (TableIsSound K D) C.tables
  tables_move D r f g l q = each C.tables (all_there (λ (x : Table). x.name) C.tables) p.tables
    where
      each : (xs : List Table) → AllByRecursion (λ (x : Table). HasTable C x.name) xs → AllByRecursion (TableIsSound K C) xs → AllByRecursion (TableIsSound K D) xs
      each [] o h = tt
      each (x ∷ xs) o h = (table_moves K C D (HasTable C) (Stands C) r x o.0 (λ m z. z) f g (λ n z. l x.policy n z) q h.0, each xs o.1 h.1)

-- ---- roles

role_put : (r : RoleRec) (n : List ℕ) (rs : List RoleRec) → list_any (is_role n) rs ≡ true → list_any (is_role n) (put (is_role r.name) r rs) ≡ true
role_put r n [] h = absurd cc
role_put r n (x ∷ xs) h =
    elim (bytes_eq x.name r.name) as (λ b. bytes_eq x.name r.name ≡ b → list_any (is_role n) (cond b (r ∷ xs) (x ∷ put (is_role r.name) r xs)) ≡ true) [
      | true ↦ λ e. subst (λ (m : List ℕ). (bytes_eq m n || list_any (is_role n) xs) ≡ true) ((bytes_eq-Decides x.name r.name).0 e) h
      | false ↦ λ _. elim (bytes_eq x.name n) as (λ b. (b || list_any (is_role n) xs) ≡ true → (b || list_any (is_role n) (put (is_role r.name) r xs)) ≡ true) [
        | true ↦ λ _. refl
        | false ↦ λ i. role_put r n xs i
      ] h
    ] refl

role_without : (m n : List ℕ) → bytes_eq n m ≡ false → (rs : List RoleRec) → list_any (is_role n) rs ≡ true → list_any (is_role n) (without (is_role m) rs) ≡ true
role_without m n off [] h = h
role_without m n off (x ∷ xs) h =
    elim (bytes_eq x.name m) as (λ b. bytes_eq x.name m ≡ b → list_any (is_role n) (cond (not b) (x ∷ without (is_role m) xs) (without (is_role m) xs)) ≡ true) [
      | true ↦ λ e.
          let no : bytes_eq x.name n ≡ false = subst (λ (k : List ℕ). bytes_eq k n ≡ false) (sym ((bytes_eq-Decides x.name m).0 e)) (turned n m off) in
          role_without m n off xs (subst (λ (b : Bool). (b || list_any (is_role n) xs) ≡ true) no h)
      | false ↦ λ _. elim (bytes_eq x.name n) as (λ b. (b || list_any (is_role n) xs) ≡ true → (b || list_any (is_role n) (without (is_role m) xs)) ≡ true) [
        | true ↦ λ _. refl
        | false ↦ λ i. role_without m n off xs i
      ] h
    ] refl

module _ (K : StoredRules) (steady : IsSteady K) (C : Cat) (T : Tables) (s : IsSound K C) where
  -- the same but for the roles
  with_roles_parts : (rs : List RoleRec) → AreDifferent (map (λ r. r.name) rs) → AllByRecursion (λ (u : User). AllByRecursion (HasRole (record C { roles = rs })) u.roles) C.users → IsSound K (record C { roles = rs })
  with_roles_parts rs d h =
      let D : Cat = record C { roles = rs } in
      let p : Parts K C = apart K C s in
      together K D (record {
        one_each = record { tables = p.one_each.tables; policies = p.one_each.policies; components = p.one_each.components; users = p.one_each.users; roles = d };
        few = p.few;
        made = p.made;
        stored = p.stored;
        tables = tables_move K C p D (reads_there K C p steady D (folded_of K C p) (λ n _. refl) (λ n _. refl) (λ n _. refl)) (λ n z. z) (λ n z. z) (λ o l z. z) (λ n _ z. z);
        policies = all_follow (PolicyIsSound C) (PolicyIsSound D) (λ x i. record { folded = i.folded; few = i.few; components = i.components; labels = i.labels; shape = record { shape = i.shape.shape; labels = i.shape.labels } }) C.policies p.policies;
        users = users_with C.users h p.users;
      })
    where
      users_with : (us : List User) → AllByRecursion (λ (u : User). AllByRecursion (HasRole (record C { roles = rs })) u.roles) us → AllByRecursion (UserIsSound C) us → AllByRecursion (UserIsSound (record C { roles = rs })) us
      users_with [] r i = tt
      users_with (u ∷ us) r i =
          (user_moves C (record C { roles = rs }) (λ n z. z) u i.0 r.0 i.0.records.held (all_follow (HoldsLabels C) (HoldsLabels (record C { roles = rs })) (λ y j. record { read = j.read; write = j.write }) u.held i.0.held), users_with us r.1 i.1)

  pub create_role_sound : (user n : List ℕ) → LeavesSound K (create_role C T user n)
  create_role_sound user n =
      let r : RoleRec = record { name = n } in
      test_sound K (secadm C user) _ (λ _. test_sound K (when (has_role C n) (refusals.Exists n)) _
      (λ _. done_sound K (put_role r C) T []
      (with_roles_parts (put (is_role n) r C.roles) (different_put (λ (x : RoleRec). x.name) r C.roles s.one_each.roles)
      (all_follow (UserIsSound C) (λ (u : User). AllByRecursion (HasRole (put_role r C)) u.roles) (λ u h. all_follow (HasRole C) (HasRole (put_role r C)) (λ m i. role_put r m C.roles i) u.roles h.records.roles) C.users (apart K C s).users))))

  pub drop_role_sound : (user n : List ℕ) → LeavesSound K (drop_role_of C T user n)
  drop_role_sound user n =
      test_sound K (secadm C user) _ (λ _. test_sound K (the_role C n) _ (λ _. test_sound K (in_use n (option_map user_name (find (has_role_of n) C.users))) _
      (λ e. done_sound K (drop_role n C) T []
      (with_roles_parts (without (is_role n) C.roles) (different_filter (λ (x : RoleRec). x.name) (λ r. not (is_role n r)) C.roles s.one_each.roles)
      (roles_left C.users (none_found (has_role_of n) C.users (not_in_use n user_name _ e)) (apart K C s).users)))))
    where
      roles_left : (us : List User) → AllByRecursion (λ (u : User). has_role_of n u ≡ false) us → AllByRecursion (UserIsSound C) us → AllByRecursion (λ (u : User). AllByRecursion (HasRole (drop_role n C)) u.roles) us
      roles_left [] f i = tt
      roles_left (u ∷ us) f i = (all_but (HasRole C) (HasRole (drop_role n C)) n (λ m off z. role_without n m off C.roles z) u.roles f.0 i.0.records.roles, roles_left us f.1 i.1)

  -- ---- components

  defined_there : (o : Option Component) (c : Definition) → option_map definition_of o ≡ Some c → is_some o ≡ true
  defined_there None c h = absurd cc
  defined_there (Some x) c h = refl

  with_components_parts : (cs : List Component) → AreDifferent (map (λ c. c.name) cs) → AllByRecursion IsWellMade cs → (Q : List ℕ → Type 0) → ((n : List ℕ) → Q n → component_named (record C { components = cs }) n ≡ component_named C n)
      → AllByRecursion (λ (x : Policy). AllByRecursion Q x.components) C.policies → AllByRecursion (PolicyIsSound (record C { components = cs })) C.policies → IsSound K (record C { components = cs })
  with_components_parts cs d w Q same made h =
      let D : Cat = record C { components = cs } in
      let p : Parts K C = apart K C s in
      together K D (record {
        one_each = record { tables = p.one_each.tables; policies = p.one_each.policies; components = d; users = p.one_each.users; roles = p.one_each.roles };
        few = p.few;
        made = w;
        stored = p.stored;
        tables = tables_move K C p D (reads_kept C D (HasTable C) (HasPolicy C) Q (λ n _. refl) (λ n _. refl) same (λ n _. stored_there K C p n) (λ n _. policy_there K C p n) (λ n _. of_policy n) K steady (folded_of K C p) (folded_of K C p)) (λ n z. z) (λ n z. z) (λ o l z. z) (λ n _ z. z);
        policies = h;
        users = all_follow (UserIsSound C) (UserIsSound D)
            (λ x i. user_moves C D (λ n z. z) x i i.records.roles i.records.held (all_follow (HoldsLabels C) (HoldsLabels D) (λ y j. record { read = j.read; write = j.write }) x.held i.held)) C.users p.users;
      })
    where
      of_policy : (n : List ℕ) → AllByRecursion Q (components_of (policy_named C n))
      of_policy n =
          elim (policy_named C n) as (λ o. policy_named C n ≡ o → AllByRecursion Q (components_of o)) [
            | None ↦ λ _. tt
            | Some x ↦ λ e. all_found (λ (y : Policy). AllByRecursion Q y.components) (is_policy n) C.policies x made e
          ] refl

  pub create_component_sound : (user n : List ℕ) (d : ComponentDef) → LeavesSound K (create_component C T user n d)
  create_component_sound user n d =
      test_sound K (secadm C user) _ (λ _. test_sound K (when (is_some (component_named C n)) (refusals.Exists n)) _
      (λ new. made_then (with_elements 0 (empty_component (kind_of_definition d)) (elements_of d)) (made_well d) (is_new _ _ new)))
    where
      put_is_sound : (c : Definition) → IsComponent c → is_some (component_named C n) ≡ false → IsSound K (put_component (record { name = n; definition = c }) C)
      put_is_sound c well new =
          let x : Component = record { name = n; definition = c } in
          let D : Cat = put_component x C in
          let same : (m : List ℕ) → HasComponent C m → component_named D m ≡ component_named C m = λ m h. same_put (λ (y : Component). y.name) x C.components m new h in
          with_components_parts (put (is_component n) x C.components) (different_put (λ (y : Component). y.name) x C.components s.one_each.components) (all_put IsWellMade (is_component n) x C.components s.limits.components well) (HasComponent C) same s.records.policies
          (all_follow (PolicyIsSound C) (PolicyIsSound D) (λ y i. record {
            folded = i.folded;
            few = i.few;
            components = all_follow (HasComponent C) (HasComponent D) (λ m h. there_put (λ (z : Component). z.name) x C.components m h) y.components i.components;
            labels = i.labels;
            shape = record { shape = zip_follow (StandsUnder C) (StandsUnder D) (λ m z h. ap (option_map definition_of) (same m (defined_there _ z h)) ∙ h) y.components y.shape i.shape.shape; labels = i.shape.labels };
          }) C.policies (apart K C s).policies)

      made_then : (o : OrRefused Definition) → IsWell o → is_some (component_named C n) ≡ false → LeavesSound K (o >>= (λ c. done (put_component (record { name = n; definition = c }) C) T (keys.Component n ∷ [])))
      made_then (Ok c) w new = done_sound K _ T (keys.Component n ∷ []) (put_is_sound c w new)
      made_then (Err r) w new = record { sound = λ d e. absurd cc }

  pub drop_component_sound : (user n : List ℕ) → LeavesSound K (drop_component_of C T user n)
  drop_component_sound user n =
      test_sound K (secadm C user) _ (λ _. found_then K n (component_named C n) _ (λ c _. test_sound K (in_use n (option_map policy_name (find (has_component n) C.policies))) _
      (λ e. done_sound K (drop_component n C) T (keys.Component n ∷ []) (left_sound (none_found (has_component n) C.policies (not_in_use n policy_name _ e))))))
    where
      off_there : (m : List ℕ) → bytes_eq m n ≡ false → HasComponent C m → HasComponent (drop_component n C) m
      off_there m off h = there_without (λ (y : Component). y.name) n m C.components (turned m n off) h

      same : (m : List ℕ) → HasComponent (drop_component n C) m → component_named (drop_component n C) m ≡ component_named C m
      same m h = same_without (λ (y : Component). y.name) n m C.components h

      each : (ps : List Policy) → AllByRecursion (λ (x : Policy). has_component n x ≡ false) ps → AllByRecursion (PolicyIsSound C) ps → AllByRecursion (PolicyIsSound (drop_component n C)) ps
      each [] f i = tt
      each (x ∷ xs) f i = (
        record {
          folded = i.0.folded;
          few = i.0.few;
          components = all_but (HasComponent C) (HasComponent (drop_component n C)) n off_there x.components f.0 i.0.components;
          labels = i.0.labels;
          shape = record {
            shape = zip_but (StandsUnder C) (StandsUnder (drop_component n C)) n (λ m z off h. ap (option_map definition_of) (same m (off_there m off (defined_there _ z h))) ∙ h) x.components x.shape f.0 i.0.shape.shape;
            labels = i.0.shape.labels;
          };
        },
        each xs f.1 i.1,
      )

      left_sound : AllByRecursion (λ (x : Policy). has_component n x ≡ false) C.policies → IsSound K (drop_component n C)
      left_sound f =
          let h : AllByRecursion (PolicyIsSound (drop_component n C)) C.policies = each C.policies f (apart K C s).policies in
          with_components_parts (without (is_component n) C.components) (different_filter (λ (y : Component). y.name) (λ c. not (is_component n c)) C.components s.one_each.components) (all_filter IsWellMade (λ c. not (is_component n c)) C.components s.limits.components) (HasComponent (drop_component n C)) same
          (all_follow (PolicyIsSound (drop_component n C)) (λ (x : Policy). AllByRecursion (HasComponent (drop_component n C)) x.components) (λ x i. i.components) C.policies h) h

  -- ---- policies

  all_components : (before ns : List (List ℕ)) → components_refusal C before ns ≡ None → AllByRecursion (HasComponent C) ns × AllZip (StandsUnder C) ns (filter_map (definition_named C) ns)
  all_components before [] h = (tt, tt)
  all_components before (n ∷ ns) h =
      elim (component_named C n) as (λ o. component_named C n ≡ o
      → earliest (when (is_none o) (refusals.Unknown n) ∷ when (is_among before n) (refusals.Exists n) ∷ components_refusal C (n ∷ before) ns ∷ []) ≡ None
      → ((is_some o ≡ true) × AllByRecursion (HasComponent C) ns) × AllZip (StandsUnder C) (n ∷ ns) (cons_option (option_map definition_of o) (filter_map (definition_named C) ns))) [
        | None ↦ λ _ i. absurd cc
        | Some c ↦ λ e i.
            let rest : AllByRecursion (HasComponent C) ns × AllZip (StandsUnder C) ns (filter_map (definition_named C) ns) = all_components (n ∷ before) ns (in_tables (is_among before n) (refusals.Exists n) _ i) in
            ((refl, rest.0), (ap (option_map definition_of) e, rest.1))
      ] refl h
    where
      in_tables : (b : Bool) (r : Refusal) (o : Option Refusal) → earliest (when b r ∷ o ∷ []) ≡ None → o ≡ None
      in_tables true r o i = absurd cc
      in_tables false r None i = refl
      in_tables false r (Some q) i = absurd cc

  labelled_there : (o : Option Policy) (l : List ℕ) → has_label o l ≡ true → is_some o ≡ true
  labelled_there None l h = absurd cc
  labelled_there (Some p) l h = refl

  pub create_policy_sound : (user : List ℕ) (d : PolicyDef) → IsFolded d.name → 1 ≤ length d.components → LeavesSound K (create_policy C T user d)
  create_policy_sound user d folded some =
      test_sound K (secadm C user) _ (λ _. test_sound K (when (is_some (policy_named C d.name)) (refusals.Exists d.name)) _ (λ new. test_sound K (when (nat_lt 16 (length d.components)) (refusals.Limit limits.Components 16)) _ (λ few. test_sound K (components_refusal C [] d.components) _
      (λ e. done_sound K _ T (keys.Policy d.name ∷ []) (put_is_sound (not_more 16 _ (is_new _ _ few)) (is_new _ _ new) (all_components [] d.components e))))))
    where
      x : Policy
      x = new_policy C d

      same : is_some (policy_named C d.name) ≡ false → (m : List ℕ) → HasPolicy C m → policy_named (put_policy x C) m ≡ policy_named C m
      same new m h = same_put (λ (y : Policy). y.name) x C.policies m new h

      labels_stay : is_some (policy_named C d.name) ≡ false → (m l : List ℕ) → has_label (policy_named C m) l ≡ true → has_label (policy_named (put_policy x C) m) l ≡ true
      labels_stay new m l h = ap (λ (o : Option Policy). has_label o l) (same new m (labelled_there _ l h)) ∙ h

      labels_here : is_some (policy_named C d.name) ≡ false → (o : Option (List ℕ)) (l : List ℕ) → has_label (policy_of C o) l ≡ true → has_label (policy_of (put_policy x C) o) l ≡ true
      labels_here new None l h = h
      labels_here new (Some m) l h = labels_stay new m l h

      given_label : is_some (policy_named C d.name) ≡ false → (m : List ℕ) (o : Option (List ℕ)) → IfGiven (IsPolicyLabel C m) o → IfGiven (IsPolicyLabel (put_policy x C) m) o
      given_label new m None h = tt
      given_label new m (Some l) h = labels_stay new m l h

      there : (m : List ℕ) → HasPolicy C m → HasPolicy (put_policy x C) m
      there m h = there_put (λ (y : Policy). y.name) x C.policies m h

      put_is_sound : length d.components ≤ 16 → is_some (policy_named C d.name) ≡ false → AllByRecursion (HasComponent C) d.components × AllZip (StandsUnder C) d.components (filter_map (definition_named C) d.components) → IsSound K (put_policy x C)
      put_is_sound few new made =
          let D : Cat = put_policy x C in
          let p : Parts K C = apart K C s in
          together K D (record {
            one_each = record { tables = p.one_each.tables; policies = different_put (λ (y : Policy). y.name) x C.policies p.one_each.policies; components = p.one_each.components; users = p.one_each.users; roles = p.one_each.roles };
            few = p.few;
            made = p.made;
            stored = p.stored;
            tables = tables_move K C p D
                (reads_there K C p steady D (all_put (λ (y : Policy). IsFolded y.name) (is_policy d.name) x C.policies (folded_of K C p) folded) (λ n _. refl) (same new) (λ n _. refl)) (λ n z. z) there (labels_here new) (λ n _ z. z);
            policies = all_put (PolicyIsSound D) (is_policy d.name) x C.policies
                (all_follow (PolicyIsSound C) (PolicyIsSound D) (λ y i. record { folded = i.folded; few = i.few; components = i.components; labels = i.labels; shape = record { shape = i.shape.shape; labels = i.shape.labels } }) C.policies p.policies)
                (record { folded = folded; few = (some, few); components = made.0; labels = refl; shape = record { shape = made.1; labels = tt } });
            users = all_follow (UserIsSound C) (UserIsSound D)
                (λ y i. user_moves C D (λ n z. z) y i i.records.roles (all_follow (λ (h : Holding). HasPolicy C h.policy) (λ (h : Holding). HasPolicy D h.policy) (λ h z. there h.policy z) y.held i.records.held)
                (all_follow (HoldsLabels C) (HoldsLabels D) (λ h j. record { read = given_label new h.policy h.read j.read; write = given_label new h.policy h.write j.write }) y.held i.held)) C.users p.users;
          })

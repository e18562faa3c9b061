-- Catalogue and rows are those of the state after an entry, with its stamps, where they were those of the state before it.
use Rattle.std.proofs.Common.{◌≡◌, refl, sym, subst, ap, ◌∙◌, ℕ, ◌+◌, Bool, true, false, cond, not, ◌&&◌, ◌||◌, List, [], ◌∷◌, map, Option, Some, None, is_some}
use Rattle.std.specs.Prelude.{find, option_map, if◌then◌else◌}
use Rattle.std.specs.Arc.{arc_value}
use Rattle.std.specs.Str.{bytes_eq}
use Rattle.std.proofs.lemmas.Slice.Eq.{bytes_eq-Decides}
use Rattle.lb_base.specs.declared.key.Key.{Key}
use Rattle.lb_base.specs.declared.key.Key.TheVariants as keys
use Rattle.lb_cat.specs.declared.catalog.TableRec.{TableRec}
use Rattle.lb_cat.specs.declared.catalog.PolicyRec.{PolicyRec}
use Rattle.lb_cat.specs.declared.catalog.ComponentRec.{ComponentRec}
use Rattle.lb_cat.specs.declared.catalog.UserRec.{UserRec}
use Rattle.lb_cat.specs.Catalog.{Cat, is_table, is_policy, is_component, is_user}
use Rattle.lb_cat.specs.Keys.{has_key}
use Rattle.lb_cat.specs.Stamps.{Kept, bare, bare_component, bare_policy, bare_table, bare_user, has_record, look, marked_stamp, stamp_or}
use Rattle.lb_rows.specs.Lists.{without}
use Rattle.lb_rows.specs.Stamped.{Stamped, is_stamped, rows_only, stamp_of, stamp_or_zero, version_of}
use Rattle.lb_rows.specs.Tables.{Tables, Version, is_version, put_version}
use Rattle.lb_rows.proofs.There.{rows_put}
use Rattle.lb_answer.specs.Answer.{Answered}
use Rattle.lb_alter.specs.Refusing.{Changed}
use Rattle.lb_alter.proofs.SoundTables.{found_put}
use Rattle.lb_alter.proofs.Untouched.{put_other}
use Rattle.lb_changed.specs.declared.changed.Changed.{Changed as Made}
use Rattle.lb_changed.specs.Made.{IsMade, IsOfTouched, is_touched, rows_after}
use Rattle.lb_journal.specs.State.{answered, first, is_there, left_by, put_maybe, rows_touched, stamp_after}
use Rattle.lb_book.specs.Grown.{put_stamped}
use Rattle.lb_book.specs.Leaving.{is_touched_in, left_stamped}
use Rattle.lb_book.specs.Stands.{IsKept, stamp_in}

-- ---- a stamp is 0 where nothing is there

-- a value that is 0 where nothing is given is so of what is found
zero_or : {R B : Type 0} (g : Option R → ℕ) (b : R → B) (test : B → Bool) → g None ≡ 0 → (xs : List R) → is_some (find test (map b xs)) ≡ false → g (find (λ x. test (b x)) xs) ≡ 0
zero_or g b test zero [] h = zero
zero_or g b test zero (x ∷ xs) h =
    elim (test (b x)) as (λ z. is_some (cond z (Some (b x)) (find test (map b xs))) ≡ false → g (cond z (Some x) (find (λ y. test (b y)) xs)) ≡ 0) [
      | true ↦ λ e. absurd cc
      | false ↦ λ e. zero_or g b test zero xs e
    ] h

-- something is found in the records exactly where it is found in them without stamps
there_too : {R B : Type 0} (b : R → B) (test : B → Bool) (xs : List R) → is_some (find (λ x. test (b x)) xs) ≡ is_some (find test (map b xs))
there_too b test [] = refl
there_too b test (x ∷ xs) =
    elim (test (b x)) as (λ z. is_some (cond z (Some x) (find (λ y. test (b y)) xs)) ≡ is_some (cond z (Some (b x)) (find test (map b xs)))) [
      | true ↦ refl
      | false ↦ there_too b test xs
    ]

-- the stamp of a key is 0 where nothing is there under it
absent : (K : Kept) (tables : List Stamped) (k : Key) → is_there (bare K) (rows_only tables) k ≡ false → stamp_in K tables k ≡ 0
absent K tables (keys.Table n) h = zero_or (stamp_or (λ (t : TableRec). t.stamp)) bare_table (is_table n) refl K.tables h
absent K tables (keys.Rows n) h = zero_or stamp_or_zero version_of (is_version n) refl tables h
absent K tables (keys.Policy n) h = zero_or (stamp_or (λ (p : PolicyRec). p.stamp)) bare_policy (is_policy n) refl K.policies h
absent K tables (keys.Component n) h = zero_or (stamp_or (λ (c : ComponentRec). c.stamp)) bare_component (is_component n) refl K.components h
absent K tables (keys.User n) h = zero_or (stamp_or (λ (u : UserRec). u.stamp)) bare_user (is_user n) refl K.users h

-- a record that is not there has the stamp 0
none_zero : {R : Type 0} (stamp : R → ℕ) (o : Option R) → is_some o ≡ false → stamp_or stamp o ≡ 0
none_zero stamp None h = refl
none_zero stamp (Some r) h = absurd cc

-- ---- at first

pub kept_first : (K : Kept) → bare K ≡ first.cat → ((k : Key) → look K k ≡ 0) → IsKept K [] first
kept_first K e zero = record { cat = e; rows = refl; stamps = stamps }
  where
    stamps : (k : Key) → stamp_in K [] k ≡ 0
    stamps (keys.Table n) = zero (keys.Table n)
    stamps (keys.Rows n) = refl
    stamps (keys.Policy n) = zero (keys.Policy n)
    stamps (keys.Component n) = zero (keys.Component n)
    stamps (keys.User n) = zero (keys.User n)

-- ---- where no key is touched

-- a stamp that wasn't touched, of a key that is there or not
stays : (there : Bool) (at stamp was : ℕ) → stamp ≡ was → (there ≡ false → stamp ≡ 0) → stamp ≡ stamp_after there false at was
stays true at stamp was e zero = e
stays false at stamp was e zero = zero refl

-- ---- new rows of one table

-- the rows with their stamps, without these
pub put_rows : (o : Option Version) (stamp : ℕ) (tables : List Stamped) → rows_only (put_stamped stamp o tables) ≡ put_maybe o (rows_only tables)
put_rows None stamp tables = refl
put_rows (Some v) stamp tables = rows_put v.name (record { version = v; stamp = stamp }) tables

itself : (n : List ℕ) → bytes_eq n n ≡ true
itself n = (bytes_eq-Decides n n).1 refl

turned : (m n : List ℕ) → bytes_eq m n ≡ false → bytes_eq n m ≡ false
turned m n off =
    elim (bytes_eq n m) as (λ b. bytes_eq n m ≡ b → b ≡ false) [
      | true ↦ λ same. absurd (let both : false ≡ true = sym off ∙ subst (λ (x : List ℕ). bytes_eq m x ≡ true) (sym ((bytes_eq-Decides n m).0 same)) (itself m) in cc)
      | false ↦ λ _. refl
    ] refl

-- the stamp of a table's rows where new rows of one table are put
module _ (v : Version) (at : ℕ) (tables : List Stamped) where
  abbrev put_one : Stamped
  put_one = record { version = v; stamp = at + 1 }

  abbrev PutGoal : List ℕ → ℕ → Type 0
  PutGoal n was = stamp_of n (put_stamped (at + 1) (Some v) tables) ≡ stamp_after (is_some (find (is_version n) (put_version v (rows_only tables)))) (has_key (keys.Rows n) (keys.Rows v.name ∷ [])) at was

  put_own : (was : ℕ) → PutGoal v.name was
  put_own was =
      ap stamp_or_zero (found_put (λ (x : Stamped). x.version.name) put_one tables)
      ∙ sym (ap (λ (o : Option Version). stamp_after (is_some o) (has_key (keys.Rows v.name) (keys.Rows v.name ∷ [])) at was) (found_put (λ (x : Version). x.name) v (rows_only tables))
      ∙ ap (λ b. stamp_after true (b || false) at was) (itself v.name))

  put_another : (n : List ℕ) (was : ℕ) → stamp_of n tables ≡ was → bytes_eq v.name n ≡ false → PutGoal n was
  put_another n was e off =
      ap stamp_or_zero (put_other (λ (x : Stamped). x.version.name) put_one n tables off)
      ∙ stays (is_some (find (is_version n) (rows_only tables))) at (stamp_of n tables) was e (zero_or stamp_or_zero version_of (is_version n) refl tables)
      ∙ sym (ap (λ (o : Option Version). stamp_after (is_some o) (has_key (keys.Rows n) (keys.Rows v.name ∷ [])) at was) (put_other (λ (x : Version). x.name) v n (rows_only tables) off)
      ∙ ap (λ b. stamp_after (is_some (find (is_version n) (rows_only tables))) (b || false) at was) (turned v.name n off))

  put_stamp : (n : List ℕ) (was : ℕ) → stamp_of n tables ≡ was → PutGoal n was
  put_stamp n was e =
      elim (bytes_eq v.name n) as (λ b. bytes_eq v.name n ≡ b → PutGoal n was) [
        | true ↦ λ same. subst (λ (m : List ℕ). PutGoal m was) ((bytes_eq-Decides v.name n).0 same) (put_own was)
        | false ↦ λ off. put_another n was e off
      ] refl

-- ---- rows that are gone

-- one of the rows, and what is found of the others
module _ (ks : List Key) (n : List ℕ) (s : Stamped) (tables : List Stamped) (rest : find (is_stamped n) (without (is_touched_in ks) tables) ≡ cond (has_key (keys.Rows n) ks) None (find (is_stamped n) tables)) where
  abbrev FoundGoal : Bool → Type 0
  FoundGoal b =
      find (is_stamped n) (cond (not (is_touched_in ks s)) (s ∷ without (is_touched_in ks) tables) (without (is_touched_in ks) tables))
      ≡ cond (has_key (keys.Rows n) ks) None (cond b (Some s) (find (is_stamped n) tables))

  found_meant : bytes_eq s.version.name n ≡ true → FoundGoal true
  found_meant same =
      let of : is_touched_in ks s ≡ has_key (keys.Rows n) ks = ap (λ (m : List ℕ). has_key (keys.Rows m) ks) ((bytes_eq-Decides s.version.name n).0 same) in
      let by : (b : Bool) → has_key (keys.Rows n) ks ≡ b → find (is_stamped n) (cond (not b) (s ∷ without (is_touched_in ks) tables) (without (is_touched_in ks) tables)) ≡ cond b None (Some s) = (λ b.
      elim b as (λ z. has_key (keys.Rows n) ks ≡ z → find (is_stamped n) (cond (not z) (s ∷ without (is_touched_in ks) tables) (without (is_touched_in ks) tables)) ≡ cond z None (Some s)) [
        | true ↦ λ e. rest ∙ ap (λ z. cond z None (find (is_stamped n) tables)) e
        | false ↦ λ e. ap (λ z. cond z (Some s) (find (is_stamped n) (without (is_touched_in ks) tables))) same
      ]) in
      subst (λ z. find (is_stamped n) (cond (not z) (s ∷ without (is_touched_in ks) tables) (without (is_touched_in ks) tables)) ≡ cond (has_key (keys.Rows n) ks) None (Some s)) (sym of) (by (has_key (keys.Rows n) ks) refl)

  found_other : bytes_eq s.version.name n ≡ false → FoundGoal false
  found_other off =
      elim (is_touched_in ks s) as (λ b. find (is_stamped n) (cond (not b) (s ∷ without (is_touched_in ks) tables) (without (is_touched_in ks) tables)) ≡ cond (has_key (keys.Rows n) ks) None (find (is_stamped n) tables)) [
        | true ↦ rest
        | false ↦ ap (λ b. cond b (Some s) (find (is_stamped n) (without (is_touched_in ks) tables))) off ∙ rest
      ]

  found_one : FoundGoal (bytes_eq s.version.name n)
  found_one =
      elim (bytes_eq s.version.name n) as (λ b. bytes_eq s.version.name n ≡ b → FoundGoal b) [
        | true ↦ λ e. found_meant e
        | false ↦ λ e. found_other e
      ] refl

-- those that are left are found as before
left_found : (ks : List Key) (n : List ℕ) (tables : List Stamped)
    → find (is_stamped n) (without (is_touched_in ks) tables) ≡ cond (has_key (keys.Rows n) ks) None (find (is_stamped n) tables)
left_found ks n [] = elim (has_key (keys.Rows n) ks) as (λ b. ◌≡◌ {A = Option Stamped} None (cond b None None)) [ true ↦ refl | false ↦ refl ]
left_found ks n (s ∷ tables) = found_one ks n s tables (left_found ks n tables)

-- the rows without their stamps
left_rows : (stamp : ℕ) (o : Option Version) (ks : List Key) (tables : List Stamped) → rows_only (left_stamped stamp o ks tables) ≡ rows_after o ks (rows_only tables)
left_rows stamp (Some v) ks tables = put_rows (Some v) stamp tables
left_rows stamp None ks [] = refl
left_rows stamp None ks (s ∷ tables) =
    elim (is_touched_in ks s) as (λ b. rows_only (cond (not b) (s ∷ without (is_touched_in ks) tables) (without (is_touched_in ks) tables))
    ≡ cond (not b) (s.version ∷ without (is_touched ks) (rows_only tables)) (without (is_touched ks) (rows_only tables))) [
      | true ↦ left_rows stamp None ks tables
      | false ↦ ap (λ (xs : Tables). s.version ∷ xs) (left_rows stamp None ks tables)
    ]

-- a stamp of rows that are gone or stay
gone_or_stays : (touched there : Bool) (at stamp was : ℕ) (o : Option Stamped) → stamp_or_zero o ≡ was → (is_some (cond touched None o) ≡ there)
    → stamp_or_zero (cond touched None o) ≡ stamp_after there touched at was
gone_or_stays true there at stamp was o e same = subst (λ b. 0 ≡ stamp_after b true at was) same refl
gone_or_stays false there at stamp was None e same = subst (λ b. 0 ≡ stamp_after b false at was) same refl
gone_or_stays false there at stamp was (Some s) e same = subst (λ b. s.stamp ≡ stamp_after b false at was) same e

-- the stamp of a table's rows after a change
left_stamp : (at : ℕ) (o : Option Version) (ks : List Key) (tables : List Stamped) (n : List ℕ) (was : ℕ) → IsOfTouched o ks → stamp_of n tables ≡ was
    → stamp_of n (left_stamped (at + 1) o ks tables) ≡ stamp_after (is_some (find (is_version n) (rows_after o ks (rows_only tables)))) (has_key (keys.Rows n) ks) at was
left_stamp at (Some v) ks tables n was of e =
    put_stamp v at tables n was e ∙ ap (λ b. stamp_after (is_some (find (is_version n) (put_version v (rows_only tables)))) b at was) (sym (of n))
left_stamp at None ks tables n was of e =
    let left : List Stamped = without (is_touched_in ks) tables in
    let there : is_some (find (is_stamped n) left) ≡ is_some (find (is_version n) (rows_after None ks (rows_only tables))) =
    there_too version_of (is_version n) left ∙ ap (λ (T : Tables). is_some (find (is_version n) T)) (left_rows (at + 1) None ks tables) in
    ap stamp_or_zero (left_found ks n tables)
    ∙ gone_or_stays (has_key (keys.Rows n) ks) (is_some (find (is_version n) (rows_after None ks (rows_only tables)))) at 0 was (find (is_stamped n) tables) e (ap is_some (sym (left_found ks n tables)) ∙ there)

-- ---- after a query, a write or a change

-- the stamp of a record after a change
told : (touched there : Bool) (at stamp was now : ℕ) → now ≡ (if touched && there then at + 1 else stamp) → (touched ≡ false → stamp ≡ was) → (there ≡ false → stamp ≡ 0) → now ≡ stamp_after there touched at was
told true true at stamp was now e stay zero = e
told true false at stamp was now e stay zero = e ∙ zero refl
told false true at stamp was now e stay zero = e ∙ stay refl
told false false at stamp was now e stay zero = e ∙ zero refl

module _ (K : Kept) (tables : List Stamped) (C : Cat) (T : Tables) (f : Key → ℕ) (cat : bare K ≡ C) (rows : rows_only tables ≡ T) (stamps : (k : Key) → stamp_in K tables k ≡ f k) (at : ℕ) where
  gone : (k : Key) → is_there C T k ≡ false → stamp_in K tables k ≡ 0
  gone k h = absent K tables k (ap (λ (D : Cat). is_there D (rows_only tables) k) cat ∙ ap (λ (U : Tables). is_there C U k) rows ∙ h)

  written_stamps : (o : Option Version) (k : Key) → stamp_in K (put_stamped (at + 1) o tables) k ≡ stamp_after (is_there C (put_maybe o T) k) (has_key k (rows_touched o)) at (f k)
  written_stamps None (keys.Table n) = stays _ at _ _ (stamps (keys.Table n)) (gone (keys.Table n))
  written_stamps None (keys.Rows n) = stays _ at _ _ (stamps (keys.Rows n)) (gone (keys.Rows n))
  written_stamps None (keys.Policy n) = stays _ at _ _ (stamps (keys.Policy n)) (gone (keys.Policy n))
  written_stamps None (keys.Component n) = stays _ at _ _ (stamps (keys.Component n)) (gone (keys.Component n))
  written_stamps None (keys.User n) = stays _ at _ _ (stamps (keys.User n)) (gone (keys.User n))
  written_stamps (Some v) (keys.Table n) = stays _ at _ _ (stamps (keys.Table n)) (gone (keys.Table n))
  written_stamps (Some v) (keys.Rows n) =
      put_stamp v at tables n (f (keys.Rows n)) (stamps (keys.Rows n))
      ∙ ap (λ (U : Tables). stamp_after (is_some (find (is_version n) (put_version v U))) (has_key (keys.Rows n) (keys.Rows v.name ∷ [])) at (f (keys.Rows n))) rows
  written_stamps (Some v) (keys.Policy n) = stays _ at _ _ (stamps (keys.Policy n)) (gone (keys.Policy n))
  written_stamps (Some v) (keys.Component n) = stays _ at _ _ (stamps (keys.Component n)) (gone (keys.Component n))
  written_stamps (Some v) (keys.User n) = stays _ at _ _ (stamps (keys.User n)) (gone (keys.User n))

  -- a query or a write
  pub written : (a : Answered) → IsKept K (put_stamped (at + 1) a.table tables) (left_by at f (answered C T a))
  written a = record {
    cat = cat;
    rows = put_rows a.table (at + 1) tables ∙ ap (put_maybe a.table) rows;
    stamps = written_stamps a.table;
  }

  module _ (d : Changed) (m : Made) (made : IsMade K (rows_only tables) d m) (L : Kept) (alike : bare L ≡ bare m.catalog) (marked : (k : Key) → look L k ≡ marked_stamp m.touched (at + 1) m.catalog k) where
    -- a change
    pub changed : IsKept L (left_stamped (at + 1) (option_map arc_value m.table) m.touched tables) (left_by at f d)
    changed = record {
      cat = alike ∙ made.cat;
      rows = left_rows (at + 1) (option_map arc_value m.table) m.touched tables ∙ made.tables;
      stamps = changed_stamps;
    }
      where
        o : Option Version
        o = option_map arc_value m.table

        -- of a record
        of_record : (k : Key) (there : Bool) → has_record m.catalog k ≡ there → look L k ≡ (if has_key k m.touched && has_record m.catalog k then at + 1 else look m.catalog k) → (has_record m.catalog k ≡ false → look m.catalog k ≡ 0)
            → look K k ≡ f k → look L k ≡ stamp_after there (has_key k d.touched) at (f k)
        of_record k there same now zero was =
            told (has_key k m.touched) (has_record m.catalog k) at (look m.catalog k) (f k) (look L k) now (λ e. made.stamps k (ap (has_key k) (sym made.touched) ∙ e) ∙ was) zero
            ∙ ap (λ b. stamp_after b (has_key k m.touched) at (f k)) same
            ∙ ap (λ (ks : List Key). stamp_after there (has_key k ks) at (f k)) made.touched

        changed_stamps : (k : Key) → stamp_in L (left_stamped (at + 1) o m.touched tables) k ≡ stamp_after (is_there d.cat d.tables k) (has_key k d.touched) at (f k)
        changed_stamps (keys.Table n) = of_record (keys.Table n) _ (there_too bare_table (is_table n) m.catalog.tables ∙ ap (λ (D : Cat). is_some (find (is_table n) D.tables)) made.cat) (marked (keys.Table n)) (none_zero (λ (t : TableRec). t.stamp) _) (stamps (keys.Table n))
        changed_stamps (keys.Rows n) =
            left_stamp at o m.touched tables n (f (keys.Rows n)) made.version (stamps (keys.Rows n))
            ∙ ap (λ (U : Tables). stamp_after (is_some (find (is_version n) U)) (has_key (keys.Rows n) m.touched) at (f (keys.Rows n))) made.tables
            ∙ ap (λ (ks : List Key). stamp_after (is_some (find (is_version n) d.tables)) (has_key (keys.Rows n) ks) at (f (keys.Rows n))) made.touched
        changed_stamps (keys.Policy n) = of_record (keys.Policy n) _ (there_too bare_policy (is_policy n) m.catalog.policies ∙ ap (λ (D : Cat). is_some (find (is_policy n) D.policies)) made.cat) (marked (keys.Policy n)) (none_zero (λ (p : PolicyRec). p.stamp) _) (stamps (keys.Policy n))
        changed_stamps (keys.Component n) = of_record (keys.Component n) _ (there_too bare_component (is_component n) m.catalog.components ∙ ap (λ (D : Cat). is_some (find (is_component n) D.components)) made.cat) (marked (keys.Component n)) (none_zero (λ (c : ComponentRec). c.stamp) _) (stamps (keys.Component n))
        changed_stamps (keys.User n) = of_record (keys.User n) _ (there_too bare_user (is_user n) m.catalog.users ∙ ap (λ (D : Cat). is_some (find (is_user n) D.users)) made.cat) (marked (keys.User n)) (none_zero (λ (u : UserRec). u.stamp) _) (stamps (keys.User n))

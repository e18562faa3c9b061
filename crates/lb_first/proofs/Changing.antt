-- Users who are changed one after another, under names of which none stands twice.
use Rattle.std.proofs.Common.{ℕ, ◌≡◌, refl, ap, sym, ◌∙◌, subst, zero, suc, ◌+◌, ◌≤◌, Bool, true, false, cond, not, List, [], ◌∷◌, ◌++◌, take, drop, map, length, Option, Some, None, append_assoc, arith}
use Rattle.std.specs.Prelude.{filter, find, is_some, slice_get, if◌then◌else◌}
use Rattle.std.specs.Str.{bytes_eq}
use Rattle.std.proofs.lemmas.List.{append-nil, take_all, drop_all}
use Rattle.lb_base.specs.declared.key.Key.{Key}
use Rattle.lb_base.specs.declared.key.Key.TheVariants as keys
use Rattle.lb_rows.specs.Lists.{put, without}
use Rattle.lb_cat.specs.declared.catalog.UserRec.{UserRec}
use Rattle.lb_cat.specs.Catalog.{Cat, User, is_among, is_user}
use Rattle.lb_cat.specs.Stamps.{Kept, bare, bare_user, look, stamp_or}
use Rattle.lb_alter.specs.ChangeTable.{user_key}
use Rattle.lb_alter.specs.Named.{AreDifferent}
use Rattle.lb_alter.proofs.SoundTables.{itself}
use Rattle.lb_alter.proofs.SoundUsers.{and_left, and_right, not_so}
use Rattle.lb_alter.proofs.Untouched.{or_left, or_right, turned}
use Rattle.lb_first.specs.Passing.{passing}
use Rattle.lb_first.specs.Changing.{changed_up_to, changed_where}

-- ---- the keys of those who pass, one place more

passed : (test : User → Bool) (us : List User) (i : ℕ) (u : User) → Some u ≡ passing test (slice_get us i) → map user_key (filter test (take (i + 1) us)) ≡ map user_key (filter test (take i us)) ++ user_key u ∷ []
passed test [] i u h = absurd cc
passed test (x ∷ us) zero u h =
    elim (test x) as (λ b. Some u ≡ cond b (Some x) None → map user_key (cond b (x ∷ []) []) ≡ user_key u ∷ []) [
      | true ↦ λ e. let is : x ≡ u = cc in ap (λ (y : User). user_key y ∷ []) is
      | false ↦ λ e. absurd cc
    ] h
passed test (x ∷ us) (suc i) u h =
    let one_more : suc i + 1 ≡ suc (i + 1) = omega arith in
    ap (λ (k : ℕ). map user_key (filter test (take k (x ∷ us)))) one_more
    ∙ elim (test x) as (λ b. map user_key (cond b (x ∷ filter test (take (i + 1) us)) (filter test (take (i + 1) us))) ≡ map user_key (cond b (x ∷ filter test (take i us)) (filter test (take i us))) ++ user_key u ∷ []) [
      | true ↦ ap (λ ks. user_key x ∷ ks) (passed test us i u h)
      | false ↦ passed test us i u h
    ]

failed : (test : User → Bool) (us : List User) (i : ℕ) → None ≡ passing test (slice_get us i) → map user_key (filter test (take (i + 1) us)) ≡ map user_key (filter test (take i us))
failed test [] i h = ap (λ us. map user_key (filter test us)) (take_all (i + 1) [] (omega arith) ∙ sym (take_all i [] (omega arith)))
failed test (x ∷ us) zero h =
    elim (test x) as (λ b. None ≡ cond b (Some x) None → map user_key (cond b (x ∷ []) []) ≡ []) [
      | true ↦ λ e. absurd cc
      | false ↦ λ e. refl
    ] h
failed test (x ∷ us) (suc i) h =
    let one_more : suc i + 1 ≡ suc (i + 1) = omega arith in
    ap (λ (k : ℕ). map user_key (filter test (take k (x ∷ us)))) one_more
    ∙ elim (test x) as (λ b. map user_key (cond b (x ∷ filter test (take (i + 1) us)) (filter test (take (i + 1) us))) ≡ map user_key (cond b (x ∷ filter test (take i us)) (filter test (take i us)))) [
      | true ↦ ap (λ ks. user_key x ∷ ks) (failed test us i h)
      | false ↦ failed test us i h
    ]

abbrev Touched : (User → Bool) → List User → List Key → ℕ → List Key → Type 0
Touched test us first i ks = ks ≡ first ++ map user_key (filter test (take i us))

pub key_added : (test : User → Bool) (us : List User) (first ks : List Key) (i : ℕ) (u : User) (n : List ℕ) → Some u ≡ passing test (slice_get us i) → n ≡ u.name → Touched test us first i ks → Touched test us first (i + 1) (ks ++ keys.User n ∷ [])
key_added test us first ks i u n at name h =
    let so_far : List Key = first ++ map user_key (filter test (take i us)) in
    ap (λ xs. xs ++ keys.User n ∷ []) h ∙ ap (λ m. so_far ++ keys.User m ∷ []) name ∙ append_assoc first (map user_key (filter test (take i us))) (keys.User u.name ∷ []) ∙ ap (λ xs. first ++ xs) (sym (passed test us i u at))

pub no_key_added : (test : User → Bool) (us : List User) (first ks : List Key) (i : ℕ) → None ≡ passing test (slice_get us i) → Touched test us first i ks → Touched test us first (i + 1) ks
no_key_added test us first ks i none h = h ∙ ap (λ xs. first ++ xs) (sym (failed test us i none))

-- ---- records of different names

module _ {R : Type 0} (name : R → List ℕ) where
  -- another record has another name
  is_other : (n : List ℕ) (xs : List R) (i : ℕ) (r : R) → is_among (map name xs) n ≡ false → Some r ≡ slice_get xs i → bytes_eq (name r) n ≡ false
  is_other n [] i r h at = absurd cc
  is_other n (x ∷ xs) zero r h at =
      let is : r ≡ x = cc in
      subst (λ (y : R). bytes_eq (name y) n ≡ false) (sym is) (or_left _ _ h)
  is_other n (x ∷ xs) (suc i) r h at = is_other n xs i r (or_right (bytes_eq (name x) n) _ h) at

  later : (x : R) (xs : List R) (i : ℕ) (r : R) → AreDifferent (map name (x ∷ xs)) → Some r ≡ slice_get xs i → bytes_eq (name x) (name r) ≡ false
  later x xs i r d at = turned (name r) (name x) (is_other (name x) xs i r (not_so _ (and_left _ _ d)) at)

  rest : (x : R) (xs : List R) → AreDifferent (map name (x ∷ xs)) → AreDifferent (map name xs)
  rest x xs d = and_right (not (is_among (map name xs) (name x))) _ d

  -- a record is the first of its name
  first_of_name : (xs : List R) (i : ℕ) (r : R) → AreDifferent (map name xs) → Some r ≡ slice_get xs i → find (λ x. bytes_eq (name x) (name r)) xs ≡ Some r
  first_of_name [] i r d at = absurd cc
  first_of_name (x ∷ xs) zero r d at =
      let is : x ≡ r = cc in
      subst (λ (y : R). cond (bytes_eq (name x) (name y)) (Some x) (find (λ z. bytes_eq (name z) (name y)) xs) ≡ Some y) is (ap (λ b. cond b (Some x) (find (λ z. bytes_eq (name z) (name x)) xs)) (itself (name x)))
  first_of_name (x ∷ xs) (suc i) r d at =
      ap (λ b. cond b (Some x) (find (λ z. bytes_eq (name z) (name r)) xs)) (later x xs i r d at) ∙ first_of_name xs i r (rest x xs d) at

  -- what is put for it takes its place
  put_next : (f : R → R) → ((x : R) → name (f x) ≡ name x) → (xs : List R) (i : ℕ) (r : R) → AreDifferent (map name xs) → Some r ≡ slice_get xs i
      → put (λ x. bytes_eq (name x) (name r)) (f r) (map f (take i xs) ++ drop i xs) ≡ map f (take (i + 1) xs) ++ drop (i + 1) xs
  put_next f same [] i r d at = absurd cc
  put_next f same (x ∷ xs) zero r d at =
      let is : x ≡ r = cc in
      subst (λ (y : R). cond (bytes_eq (name x) (name y)) (f y ∷ xs) (x ∷ put (λ z. bytes_eq (name z) (name y)) (f y) xs) ≡ f x ∷ xs) is (ap (λ b. cond b (f x ∷ xs) (x ∷ put (λ z. bytes_eq (name z) (name x)) (f x) xs)) (itself (name x)))
  put_next f same (x ∷ xs) (suc i) r d at =
      let one_more : suc i + 1 ≡ suc (i + 1) = omega arith in
      ap (λ b. cond b (f r ∷ map f (take i xs) ++ drop i xs) (f x ∷ put (λ z. bytes_eq (name z) (name r)) (f r) (map f (take i xs) ++ drop i xs))) (ap (λ n. bytes_eq n (name r)) (same x) ∙ later x xs i r d at)
      ∙ ap (λ ys. f x ∷ ys) (put_next f same xs i r (rest x xs d) at)
      ∙ ap (λ (k : ℕ). map f (take k (x ∷ xs)) ++ drop k (x ∷ xs)) (sym one_more)

-- one who stays as before
stays_next : {R : Type 0} (f : R → R) (xs : List R) (i : ℕ) → ((r : R) → Some r ≡ slice_get xs i → f r ≡ r) → map f (take i xs) ++ drop i xs ≡ map f (take (i + 1) xs) ++ drop (i + 1) xs
stays_next f [] i h = (λ j. map f (take_all i [] (omega arith) j) ++ drop_all i [] (omega arith) j) ∙ sym (λ j. map f (take_all (i + 1) [] (omega arith) j) ++ drop_all (i + 1) [] (omega arith) j)
stays_next f (x ∷ xs) zero h = ap (λ y. y ∷ xs) (sym (h x refl))
stays_next f (x ∷ xs) (suc i) h =
    let one_more : suc i + 1 ≡ suc (i + 1) = omega arith in
    ap (λ ys. f x ∷ ys) (stays_next f xs i h) ∙ ap (λ (k : ℕ). map f (take k (x ∷ xs)) ++ drop k (x ∷ xs)) (sym one_more)

-- ---- users

-- the names are those of the records with stamps
names_are : (us : List UserRec) → map (λ (u : User). u.name) (map bare_user us) ≡ map (λ (u : UserRec). u.name) us
names_are [] = refl
names_are (u ∷ us) = ap (λ ns. u.name ∷ ns) (names_are us)

-- the stamp of a user's record is that of its key
pub stamp_is : (K : Kept) (i : ℕ) (u : UserRec) → AreDifferent (map (λ (x : User). x.name) (bare K).users) → Some u ≡ slice_get K.users i → u.stamp ≡ look K (keys.User u.name)
stamp_is K i u d at = sym (ap (stamp_or (λ (x : UserRec). x.stamp)) (first_of_name (λ (x : UserRec). x.name) K.users i u (subst AreDifferent (names_are K.users) d) at))

-- who passes is what is there
passing_is : {A : Type 0} (test : A → Bool) (o : Option A) (x : A) → Some x ≡ passing test o → (Some x ≡ o) × (test x ≡ true)
passing_is test None x h = absurd cc
passing_is test (Some y) x h =
    elim (test y) as (λ b. test y ≡ b → Some x ≡ cond b (Some y) None → (Some x ≡ Some y) × (test x ≡ true)) [
      | true ↦ λ e i. let is : x ≡ y = cc in (ap Some is, ap test is ∙ e)
      | false ↦ λ e i. absurd cc
    ] refl h

-- who doesn't pass fails the test
failing_is : {A : Type 0} (test : A → Bool) (o : Option A) (x : A) → None ≡ passing test o → Some x ≡ o → test x ≡ false
failing_is test None x h at = absurd cc
failing_is test (Some y) x h at =
    let is : x ≡ y = cc in
    elim (test y) as (λ b. test y ≡ b → None ≡ cond b (Some y) None → test x ≡ false) [
      | true ↦ λ e i. absurd cc
      | false ↦ λ e i. ap test is ∙ e
    ] refl h

module _ (test : User → Bool) (change : User → User) where
  abbrev one : User → User
  one u = if test u then change u else u

  keeps_name : ((u : User) → (change u).name ≡ u.name) → (u : User) → (one u).name ≡ u.name
  keeps_name same u = elim (test u) as (λ b. (cond b (change u) u).name ≡ u.name) [
    | true ↦ same u
    | false ↦ refl
  ]

  -- the next user is changed
  pub changed_next : ((u : User) → (change u).name ≡ u.name) → (us : List User) (i : ℕ) (u : User) → AreDifferent (map (λ (x : User). x.name) us) → Some u ≡ passing test (slice_get us i)
      → put (is_user (change u).name) (change u) (changed_where test change (take i us) ++ drop i us) ≡ changed_where test change (take (i + 1) us) ++ drop (i + 1) us
  changed_next same us i u d h =
      let there = passing_is test (slice_get us i) u h in
      let is : one u ≡ change u = ap (λ b. cond b (change u) u) there.1 in
      ap (λ n. put (is_user n) (change u) (map one (take i us) ++ drop i us)) (same u)
      ∙ ap (λ v. put (is_user u.name) v (map one (take i us) ++ drop i us)) (sym is)
      ∙ put_next (λ (x : User). x.name) one (keeps_name same) us i u d there.0

  -- or stays
  pub unchanged_next : (us : List User) (i : ℕ) → None ≡ passing test (slice_get us i)
      → changed_where test change (take i us) ++ drop i us ≡ changed_where test change (take (i + 1) us) ++ drop (i + 1) us
  unchanged_next us i h = stays_next one us i (λ u at. ap (λ b. cond b (change u) u) (failing_is test (slice_get us i) u h at))

  -- so all have had their turn
  pub so_all : (C B : Cat) (n : ℕ) → length C.users ≤ n → B ≡ changed_up_to test change n C → B ≡ record C { users = changed_where test change C.users }
  so_all C B n past h = h ∙ ap (λ us. record C { users = us }) ((λ j. map one (take_all n C.users past j) ++ drop_all n C.users past j) ∙ append-nil (map one C.users))

  -- where the change leaves all others as they are, all are changed
  pub all_changed : ((u : User) → test u ≡ false → change u ≡ u) → (us : List User) → changed_where test change us ≡ map change us
  all_changed same [] = refl
  all_changed same (u ∷ us) =
      ap (λ v. v ∷ changed_where test change us) (elim (test u) as (λ b. test u ≡ b → cond b (change u) u ≡ change u) [
        | true ↦ λ h. refl
        | false ↦ λ h. sym (same u h)
      ] refl)
      ∙ ap (λ vs. change u ∷ vs) (all_changed same us)

-- nothing is taken from a list without such an entry
pub nothing_taken : {A : Type 0} (is : A → Bool) (xs : List A) → is_some (find is xs) ≡ false → without is xs ≡ xs
nothing_taken is [] h = refl
nothing_taken is (x ∷ xs) h =
    elim (is x) as (λ b. is_some (cond b (Some x) (find is xs)) ≡ false → cond (not b) (x ∷ without is xs) (without is xs) ≡ x ∷ xs) [
      | true ↦ λ i. absurd cc
      | false ↦ λ i. ap (λ ys. x ∷ ys) (nothing_taken is xs i)
    ] h

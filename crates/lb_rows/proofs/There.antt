-- The versions of a snapshot as a list, where the code keeps them in 64 places.
use Rattle.std.proofs.Common.{◌≡◌, refl, ap, sym, ◌∙◌, ℕ, zero, suc, ◌+◌, ◌<◌, ◌≤◌, Bool, true, false, cond, not, List, [], ◌∷◌, ◌++◌, length, take, drop, set, get_or, Option, Some, None, inl, inr, arith, subst}
use Rattle.std.specs.Prelude.{find, option_map, IsSome, ◌⊎◌}
use Rattle.std.specs.List.{position_or_len, refill, slice_get}
use Rattle.std.specs.List.Retain.{RetainsInTurn}
use Rattle.std.specs.Prelude.{filter}
use Rattle.std.specs.Arc.{arc_value}
use Rattle.std.proofs.lemmas.List.{length-map, length-set, length-append, take_more}
use Rattle.std.proofs.lemmas.Option.{same_Some}
use Rattle.lb_rows.specs.declared.snap.StampedVersion.{StampedVersion}
use Rattle.lb_rows.specs.Kept.{AllThere, holds, is_of, versions_in}
use Rattle.lb_rows.specs.Lists.{put, without}
use Rattle.lb_rows.specs.Stamped.{Stamped, is_stamped, rows_only, stamp_of, stamp_or_zero, stamped_in, stamped_of, version_of}
use Rattle.lb_rows.specs.Tables.{Version, is_version}
use Rattle.lb_rows.proofs.Mapped.{find_mapped, put_mapped, without_mapped}

abbrev pub Places : Type 0
Places = List (Option StampedVersion)

versions_length : (places : Places) → AllThere places → length (versions_in places) ≡ length places
versions_length [] there = refl
versions_length (None ∷ places) there = absurd there
versions_length (Some s ∷ places) there = ap suc (versions_length places there)

-- as many versions as places
pub stamped_length : (places : Places) (seen : List Stamped) → stamped_in (versions_in places) ≡ seen → AllThere places → length seen ≡ length places
stamped_length places seen view there = ap length (sym view) ∙ length-map (versions_in places) stamped_of ∙ versions_length places there

-- what the place has
abbrev pub held_in : Option (Option StampedVersion) → Option StampedVersion
held_in None = None
held_in (Some s) = s

pub held_at : (places : Places) → AllThere places → (i : ℕ) → slice_get (versions_in places) i ≡ held_in (slice_get places i)
held_at [] there i = refl
held_at (None ∷ places) there i = absurd there
held_at (Some s ∷ places) there zero = refl
held_at (Some s ∷ places) there (suc i) = held_at places there i

-- the version at the first place that has one of the table is the first one of the table
pub found_at : (n : List ℕ) (places : Places) → AllThere places → slice_get (versions_in places) (position_or_len (holds n) places) ≡ find (is_of n) (versions_in places)
found_at n [] there = refl
found_at n (None ∷ places) there = absurd there
found_at n (Some s ∷ places) there =
    elim (is_of n s) as (λ b. slice_get (s ∷ versions_in places) (cond (not b) (1 + position_or_len (holds n) places) 0) ≡ cond b (Some s) (find (is_of n) (versions_in places))) [
      | true ↦ refl
      | false ↦ let next : 1 + position_or_len (holds n) places ≡ suc (position_or_len (holds n) places) = omega arith in
          ap (slice_get (s ∷ versions_in places)) next ∙ found_at n places there
    ]

pub there_set : (places : Places) (i : ℕ) (s : StampedVersion) → AllThere places → AllThere (set places i (Some s))
there_set [] i s there = there
there_set (None ∷ places) i s there = absurd there
there_set (Some r ∷ places) zero s there = there
there_set (Some r ∷ places) (suc i) s there = there_set places i s there

pub there_push : (places : Places) (s : StampedVersion) → AllThere places → AllThere (places ++ Some s ∷ [])
there_push [] s there = tt
there_push (None ∷ places) s there = absurd there
there_push (Some r ∷ places) s there = there_push places s there

pub versions_push : (places : Places) (s : StampedVersion) → versions_in (places ++ Some s ∷ []) ≡ versions_in places ++ s ∷ []
versions_push [] s = refl
versions_push (None ∷ places) s = versions_push places s
versions_push (Some r ∷ places) s = ap (λ (xs : List StampedVersion). r ∷ xs) (versions_push places s)

versions_in_place : (n : List ℕ) (places : Places) (s : StampedVersion) → AllThere places → position_or_len (holds n) places < length places
    → versions_in (set places (position_or_len (holds n) places) (Some s)) ≡ put (is_of n) s (versions_in places)
versions_in_place n [] s there inside = absurd (omega arith)
versions_in_place n (None ∷ places) s there inside = absurd there
versions_in_place n (Some r ∷ places) s there inside =
    elim (is_of n r) as (λ b. cond (not b) (1 + position_or_len (holds n) places) 0 < suc (length places)
    → versions_in (set (Some r ∷ places) (cond (not b) (1 + position_or_len (holds n) places) 0) (Some s)) ≡ cond b (s ∷ versions_in places) (r ∷ put (is_of n) s (versions_in places))) [
      | true ↦ λ h. refl
      | false ↦ λ (h : 1 + position_or_len (holds n) places < suc (length places)).
          let next : 1 + position_or_len (holds n) places ≡ suc (position_or_len (holds n) places) = omega arith in
          ap (λ (k : ℕ). versions_in (set (Some r ∷ places) k (Some s))) next ∙ ap (λ (xs : List StampedVersion). r ∷ xs) (versions_in_place n places s there (omega arith))
    ] inside

versions_last : (n : List ℕ) (places : Places) (s : StampedVersion) → AllThere places → length places ≤ position_or_len (holds n) places
    → (versions_in (places ++ Some s ∷ []) ≡ put (is_of n) s (versions_in places)) × (find (is_of n) (versions_in places) ≡ None)
versions_last n [] s there past = (refl, refl)
versions_last n (None ∷ places) s there past = absurd there
versions_last n (Some r ∷ places) s there past =
    elim (is_of n r) as (λ b. suc (length places) ≤ cond (not b) (1 + position_or_len (holds n) places) 0
    → (r ∷ versions_in (places ++ Some s ∷ []) ≡ cond b (s ∷ versions_in places) (r ∷ put (is_of n) s (versions_in places))) × (cond b (Some r) (find (is_of n) (versions_in places)) ≡ None)) [
      | true ↦ λ (h : suc (length places) ≤ 0). absurd (omega arith)
      | false ↦ λ (h : suc (length places) ≤ 1 + position_or_len (holds n) places).
          let rest = versions_last n places s there (omega arith) in
          (ap (λ (xs : List StampedVersion). r ∷ xs) rest.0, rest.1)
    ] past

full : (ws xs : Places) → length ws ≡ length xs → take (length xs) (ws ++ drop (length ws) xs) ≡ ws
full [] [] same = refl
full [] (x ∷ xs) same = absurd (omega arith)
full (w ∷ ws) [] same = absurd (omega arith)
full (w ∷ ws) (x ∷ xs) same = ap (λ (rest : Places). w ∷ rest) (full ws xs (omega arith))

-- what a write to a place leaves
pub written : (xs ys : Places) (i : ℕ) (s : Option StampedVersion) → ys ≡ xs → refill (length xs) xs (set ys i s) ≡ set xs i s
written xs ys i s same = ap (λ (zs : Places). refill (length xs) xs (set zs i s)) same ∙ full (set xs i s) xs (length-set xs i s)

-- a version put in the place of the first of its table
pub put_in_place : (n : List ℕ) (places new : Places) (place : ℕ) (s : StampedVersion) → AllThere places → place ≡ position_or_len (holds n) places → place < length places
    → new ≡ set places place (Some s) → AllThere new × (versions_in new ≡ put (is_of n) s (versions_in places))
put_in_place n places new place s there at inside is =
    let same : new ≡ set places (position_or_len (holds n) places) (Some s) = is ∙ ap (λ (k : ℕ). set places k (Some s)) at in (
      subst AllThere (sym is) (there_set places place s there),
      ap versions_in same ∙ versions_in_place n places s there (subst (λ (k : ℕ). k < length places) at inside),
    )

-- a version put last
pub put_last : (n : List ℕ) (places new : Places) (place : ℕ) (s : StampedVersion) → AllThere places → place ≡ position_or_len (holds n) places → length places ≤ place
    → new ≡ places ++ Some s ∷ [] → AllThere new × (versions_in new ≡ put (is_of n) s (versions_in places))
put_last n places new place s there at past is = (
  subst AllThere (sym is) (there_push places s there),
  ap versions_in is ∙ (versions_last n places s there (subst (λ (k : ℕ). length places ≤ k) at past)).0,
)

-- where no place has a version of the table there is room for one
pub room_for : (n : List ℕ) (places : Places) (place limit : ℕ) (s : StampedVersion) → AllThere places → place ≡ position_or_len (holds n) places → length places ≤ place
    → IsSome (find (is_of n) (versions_in places)) ⊎ (length places < limit) → length places < limit
room_for n places place limit s there at past (inr room) = room
room_for n places place limit s there at past (inl some) =
    let none = (versions_last n places s there (subst (λ (k : ℕ). length places ≤ k) at past)).1 in
    absurd (is_none (find (is_of n) (versions_in places)) none some)
  where
    is_none : (o : Option StampedVersion) → o ≡ None → IsSome o → ⊥
    is_none None e h = cc
    is_none (Some x) e h = cc

-- ---- versions taken out

-- what `retain` leaves, where each call only tests
pub retained : {S X : Type 0} (R : S → X → Bool → S → X → Type 0) (test : X → Bool) (s : S) → ((t : S) (x y : X) (b : Bool) → R s x b t y → (b ≡ test x) × (y ≡ x) × (t ≡ s))
    → (xs ys : List X) → RetainsInTurn R s xs ys → ys ≡ filter test xs
retained R test s says [] ys is = is
retained {S} {X} R test s says (x ∷ xs) ys (b, t, y, call, zs, more, is) =
    let told = says t x y b call in
    let rest : zs ≡ filter test xs = retained R test s says xs zs (subst (λ (u : S). RetainsInTurn R u xs zs) told.2 more) in
    is ∙ ap (λ c. cond c (y ∷ zs) zs) told.0 ∙ ap (λ (z : X). cond (test x) (z ∷ zs) zs) told.1 ∙ ap (λ (rs : List X). cond (test x) (x ∷ rs) rs) rest

abbrev pub not_of_table : List ℕ → Option StampedVersion → Bool
not_of_table n o = not (holds n o)

taken_out : (n : List ℕ) (places : Places) → AllThere places → AllThere (filter (not_of_table n) places) × (versions_in (filter (not_of_table n) places) ≡ without (is_of n) (versions_in places))
taken_out n [] there = (tt, refl)
taken_out n (None ∷ places) there = absurd there
taken_out n (Some s ∷ places) there =
    let rest = taken_out n places there in
    elim (is_of n s) as (λ b. AllThere (cond (not b) (Some s ∷ filter (not_of_table n) places) (filter (not_of_table n) places))
    × (versions_in (cond (not b) (Some s ∷ filter (not_of_table n) places) (filter (not_of_table n) places)) ≡ cond (not b) (s ∷ without (is_of n) (versions_in places)) (without (is_of n) (versions_in places)))) [
      | true ↦ rest
      | false ↦ (rest.0, ap (λ (xs : List StampedVersion). s ∷ xs) rest.1)
    ]

pub left_there : (n : List ℕ) (places new : Places) → AllThere places → new ≡ filter (not_of_table n) places → AllThere new × (versions_in new ≡ without (is_of n) (versions_in places))
left_there n places new there is = (subst AllThere (sym is) (taken_out n places there).0, ap versions_in is ∙ (taken_out n places there).1)

-- ---- versions shared

stamped_push : (places : Places) (s : StampedVersion) → stamped_in (versions_in (places ++ Some s ∷ [])) ≡ stamped_in (versions_in places) ++ stamped_of s ∷ []
stamped_push [] s = refl
stamped_push (None ∷ places) s = stamped_push places s
stamped_push (Some r ∷ places) s = ap (λ (xs : List Stamped). stamped_of r ∷ xs) (stamped_push places s)

some_there : (places : Places) → AllThere places → (i : ℕ) (d : Option StampedVersion) → i < length places → get_or places i d ≡ None → ⊥
some_there [] there i d inside none = absurd (omega arith)
some_there (None ∷ places) there i d inside none = absurd there
some_there (Some s ∷ places) there zero d inside none = cc
some_there (Some s ∷ places) there (suc i) d inside none = some_there places there i d (omega arith) none

-- the versions so far are shared
abbrev pub AreShared : Places → ℕ → Places → Type 0
AreShared versions i shared = AllThere shared × (length shared ≡ i) × (stamped_in (versions_in shared) ≡ stamped_in (versions_in (take i versions)))

pub share_step : (versions shared new : Places) (i : ℕ) (v w : Option StampedVersion) → AllThere versions → i < length versions → w ≡ get_or versions i w
    → option_map stamped_of v ≡ option_map stamped_of w → AreShared versions i shared → new ≡ shared ++ v ∷ [] → AreShared versions (i + 1) new
share_step versions shared new i v None there inside is same so_far pushed = absurd (some_there versions there i None inside (sym is))
share_step versions shared new i None (Some b) there inside is same so_far pushed = cc
share_step versions shared new i (Some a) (Some b) there inside is same so_far pushed =
    let alike : stamped_of a ≡ stamped_of b = same_Some (stamped_of a) (stamped_of b) same in
    let longer : length new ≡ length shared + 1 = ap length pushed ∙ length-append shared (Some a ∷ []) in
    let count : length shared ≡ i = so_far.1 in
    let further : take (i + 1) versions ≡ take i versions ++ Some b ∷ [] = take_more versions i (Some b) inside ∙ ap (λ (o : Option StampedVersion). take i versions ++ o ∷ []) (sym is) in (
      subst AllThere (sym pushed) (there_push shared a so_far.0),
      omega arith,
      ap (λ (ps : Places). stamped_in (versions_in ps)) pushed ∙ stamped_push shared a ∙ ap (λ (xs : List Stamped). xs ++ stamped_of a ∷ []) so_far.2
          ∙ ap (λ (x : Stamped). stamped_in (versions_in (take i versions)) ++ x ∷ []) alike
          ∙ sym (ap (λ (ps : Places). stamped_in (versions_in ps)) further ∙ stamped_push (take i versions) b),
    )

-- ---- seen without places, and without stamps

pub seen_found : (n : List ℕ) (xs : List StampedVersion) → find (is_stamped n) (stamped_in xs) ≡ option_map stamped_of (find (is_of n) xs)
seen_found n xs = find_mapped stamped_of (is_stamped n) xs

pub rows_found : (n : List ℕ) (seen : List Stamped) → find (is_version n) (rows_only seen) ≡ option_map version_of (find (is_stamped n) seen)
rows_found n seen = find_mapped version_of (is_version n) seen

pub seen_put : (n : List ℕ) (s : StampedVersion) (xs : List StampedVersion) → stamped_in (put (is_of n) s xs) ≡ put (is_stamped n) (stamped_of s) (stamped_in xs)
seen_put n s xs = put_mapped stamped_of (is_stamped n) s xs

pub rows_put : (n : List ℕ) (s : Stamped) (seen : List Stamped) → rows_only (put (is_stamped n) s seen) ≡ put (is_version n) (version_of s) (rows_only seen)
rows_put n s seen = put_mapped version_of (is_version n) s seen

pub seen_without : (n : List ℕ) (xs : List StampedVersion) → stamped_in (without (is_of n) xs) ≡ without (is_stamped n) (stamped_in xs)
seen_without n xs = without_mapped stamped_of (is_stamped n) xs

pub rows_without : (n : List ℕ) (seen : List Stamped) → rows_only (without (is_stamped n) seen) ≡ without (is_version n) (rows_only seen)
rows_without n seen = without_mapped version_of (is_version n) seen

mapped_twice : {A B C : Type 0} (f : A → B) (g : B → C) (o : Option A) → option_map g (option_map f o) ≡ option_map (λ x. g (f x)) o
mapped_twice f g None = refl
mapped_twice f g (Some x) = refl

abbrev pub version_in : StampedVersion → Version
version_in s = arc_value s.version

-- the version of a table is that of the first place that has one
pub version_found : (n : List ℕ) (xs : List StampedVersion) (seen : List Stamped) → stamped_in xs ≡ seen → find (is_version n) (rows_only seen) ≡ option_map version_in (find (is_of n) xs)
version_found n xs seen view = rows_found n seen ∙ ap (λ (s : List Stamped). option_map version_of (find (is_stamped n) s)) (sym view)
    ∙ ap (option_map version_of) (seen_found n xs) ∙ mapped_twice stamped_of version_of (find (is_of n) xs)

-- and so is its stamp
pub stamp_found : (n : List ℕ) (xs : List StampedVersion) (seen : List Stamped) → stamped_in xs ≡ seen → stamp_of n seen ≡ stamp_or_zero (option_map stamped_of (find (is_of n) xs))
stamp_found n xs seen view = ap (λ (s : List Stamped). stamp_of n s) (sym view) ∙ ap stamp_or_zero (seen_found n xs)

-- there is room for a version of a table that is there, or for one more table
pub seen_room : (n : List ℕ) (places : Places) (seen : List Stamped) (limit : ℕ) → stamped_in (versions_in places) ≡ seen → AllThere places
    → IsSome (find (is_version n) (rows_only seen)) ⊎ (length seen < limit) → IsSome (find (is_of n) (versions_in places)) ⊎ (length places < limit)
seen_room n places seen limit view there (inr room) = inr (subst (λ (k : ℕ). k < limit) (stamped_length places seen view there) room)
seen_room n places seen limit view there (inl some) = inl (still (find (is_of n) (versions_in places)) (subst IsSome (version_found n (versions_in places) seen view) some))
  where
    still : (o : Option StampedVersion) → IsSome (option_map version_in o) → IsSome o
    still None h = h
    still (Some x) h = refl

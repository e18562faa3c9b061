-- Where rows stand under the names of tables alone, once under each, there are no more of them than tables.
use Rattle.std.proofs.Common.{◌≡◌, refl, sym, subst, ap, ◌∙◌, ℕ, ◌≤◌, ◌<◌, suc, Bool, true, false, cond, not, ◌&&◌, ◌||◌, List, [], ◌∷◌, map, length, Option, Some, None, is_some, inl, inr, ◌⊎◌, arith}
use Rattle.std.specs.Prelude.{find, IsSome}
use Rattle.std.specs.Str.{bytes_eq}
use Rattle.std.proofs.lemmas.Slice.Eq.{bytes_eq-Decides}
use Rattle.lb_cat.specs.Catalog.{Table, is_among, table_named}
use Rattle.lb_rows.specs.Stamped.{Stamped, rows_only}
use Rattle.lb_rows.specs.Tables.{Tables, Version, is_version, put_version}
use Rattle.lb_alter.specs.Named.{AreDifferent, are_different}
use Rattle.lb_journal.specs.State.{State, put_maybe}
use Rattle.lb_standing.specs.Standing.{IsStanding}
use Rattle.lb_book.specs.Leaving.{HasRoom}

both_left : (a b : Bool) → (a && b) ≡ true → a ≡ true
both_left true b h = refl
both_left false b h = absurd cc

both_right : (a b : Bool) → (a && b) ≡ true → b ≡ true
both_right true b h = h
both_right false b h = absurd cc

is_not : (a : Bool) → not a ≡ true → a ≡ false
is_not true h = absurd cc
is_not false h = refl

-- the list without the first such name
abbrev drop_one : List ℕ → List (List ℕ) → List (List ℕ)
drop_one n [] = []
drop_one n (m ∷ ms) = cond (bytes_eq m n) ms (m ∷ drop_one n ms)

one_less : (n : List ℕ) (ms : List (List ℕ)) → is_among ms n ≡ true → length ms ≡ suc (length (drop_one n ms))
one_less n [] h = absurd cc
one_less n (m ∷ ms) h =
    elim (bytes_eq m n) as (λ b. (b || is_among ms n) ≡ true → suc (length ms) ≡ suc (length (cond b ms (m ∷ drop_one n ms)))) [
      | true ↦ λ _. refl
      | false ↦ λ e. ap suc (one_less n ms e)
    ] h

still_among : (n k : List ℕ) (ms : List (List ℕ)) → bytes_eq n k ≡ false → is_among ms k ≡ true → is_among (drop_one n ms) k ≡ true
still_among n k [] off h = h
still_among n k (m ∷ ms) off h =
    elim (bytes_eq m n) as (λ b. bytes_eq m n ≡ b → is_among (cond b ms (m ∷ drop_one n ms)) k ≡ true) [
      | true ↦ λ same.
          let other : bytes_eq m k ≡ false = subst (λ (x : List ℕ). bytes_eq x k ≡ false) (sym ((bytes_eq-Decides m n).0 same)) off in
          subst (λ b. (b || is_among ms k) ≡ true) other h
      | false ↦ λ _.
          elim (bytes_eq m k) as (λ b. (b || is_among ms k) ≡ true → (b || is_among (drop_one n ms) k) ≡ true) [
            | true ↦ λ _. refl
            | false ↦ λ e. still_among n k ms off e
          ] h
    ] refl

-- different names that are all among some names are no more
fewer : (ns ms : List (List ℕ)) → AreDifferent ns → ((n : List ℕ) → is_among ns n ≡ true → is_among ms n ≡ true) → length ns ≤ length ms
fewer [] ms d h = omega arith
fewer (n ∷ ns) ms d h =
    let own : bytes_eq n n ≡ true = (bytes_eq-Decides n n).1 refl in
    let there : is_among ms n ≡ true = h n (ap (λ b. b || is_among ns n) own) in
    let less : length ms ≡ suc (length (drop_one n ms)) = one_less n ms there in
    let rest : length ns ≤ length (drop_one n ms) = fewer ns (drop_one n ms) (both_right (not (is_among ns n)) (are_different ns) d) (λ k i. still_among n k ms (apart k i) (h k (more k i))) in
    omega (arith, less, rest)
  where
    more : (k : List ℕ) → is_among ns k ≡ true → is_among (n ∷ ns) k ≡ true
    more k i = elim (bytes_eq n k) as (λ b. (b || is_among ns k) ≡ true) [ true ↦ refl | false ↦ i ]

    apart : (k : List ℕ) → is_among ns k ≡ true → bytes_eq n k ≡ false
    apart k i =
        elim (bytes_eq n k) as (λ b. bytes_eq n k ≡ b → b ≡ false) [
          | true ↦ λ same. absurd
              (let off : is_among ns n ≡ false = is_not (is_among ns n) (both_left (not (is_among ns n)) (are_different ns) d) in
              let on : is_among ns n ≡ true = subst (λ (x : List ℕ). is_among ns x ≡ true) (sym ((bytes_eq-Decides n k).0 same)) i in
              let no : false ≡ true = sym off ∙ on in cc)
          | false ↦ λ _. refl
        ] refl

-- a name is among those of some records exactly where one is found
module _ {R : Type 0} (name : R → List ℕ) where
  among_found : (n : List ℕ) (xs : List R) → is_among (map name xs) n ≡ is_some (find (λ x. bytes_eq (name x) n) xs)
  among_found n [] = refl
  among_found n (x ∷ xs) =
      elim (bytes_eq (name x) n) as (λ b. (b || is_among (map name xs) n) ≡ is_some (cond b (Some x) (find (λ y. bytes_eq (name y) n) xs))) [
        | true ↦ refl
        | false ↦ among_found n xs
      ]

  names_many : (xs : List R) → length (map name xs) ≡ length xs
  names_many [] = refl
  names_many (x ∷ xs) = ap suc (names_many xs)

-- so there are at most 64
few_versions : (S : State) → IsStanding S → length S.tables ≤ 64
few_versions S h =
    let versions = names_many (λ (v : Version). v.name) S.tables in
    let tables = names_many (λ (t : Table). t.name) S.cat.tables in
    let under = fewer (map (λ (v : Version). v.name) S.tables) (map (λ (t : Table). t.name) S.cat.tables) h.one_each there in
    omega (arith, versions, tables, under, h.sound.limits.tables)
  where
    named : (n : List ℕ) (o : Option Table) → table_named S.cat n ≡ o → is_some (find (is_version n) S.tables) ≡ true → is_some o ≡ true
    named n (Some t) e i = refl
    named n None e i = absurd (let none : false ≡ true = sym (ap is_some (h.nowhere n e)) ∙ i in cc)

    there : (n : List ℕ) → is_among (map (λ (v : Version). v.name) S.tables) n ≡ true → is_among (map (λ (t : Table). t.name) S.cat.tables) n ≡ true
    there n i =
        among_found (λ (t : Table). t.name) n S.cat.tables
        ∙ named n (table_named S.cat n) refl (sym (among_found (λ (v : Version). v.name) n S.tables) ∙ i)

-- a version that is put where none of its name is makes one more
one_more : (v : Version) (T : Tables) → find (is_version v.name) T ≡ None → length (put_version v T) ≡ suc (length T)
one_more v [] h = refl
one_more v (x ∷ T) h =
    elim (bytes_eq x.name v.name) as (λ b. cond b (Some x) (find (is_version v.name) T) ≡ None → length (cond b (v ∷ T) (x ∷ put_version v T)) ≡ suc (suc (length T))) [
      | true ↦ λ e. absurd cc
      | false ↦ λ e. ap suc (one_more v T e)
    ] h

rows_many : (tables : List Stamped) → length (rows_only tables) ≡ length tables
rows_many [] = refl
rows_many (s ∷ tables) = ap suc (rows_many tables)

-- there is room for a version where what stands with it is as a journal leaves it
pub has_room : (S : State) → IsStanding S → (o : Option Version) (tables : List Stamped) → S.tables ≡ put_maybe o (rows_only tables) → HasRoom o tables
has_room S h None tables e = tt
has_room S h (Some v) tables e =
    elim (find (is_version v.name) (rows_only tables)) as (λ o. find (is_version v.name) (rows_only tables) ≡ o → IsSome (find (is_version v.name) (rows_only tables)) ⊎ (length tables < 64)) [
      | Some x ↦ λ i. inl (ap is_some i)
      | None ↦ λ i.
          let many : length S.tables ≡ suc (length tables) = ap length e ∙ one_more v (rows_only tables) i ∙ ap suc (rows_many tables) in
          inr (omega (arith, many, few_versions S h))
    ] refl

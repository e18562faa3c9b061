-- The components of a new policy, one after another.
use Rattle.std.proofs.Common.{ℕ, ◌≡◌, refl, ap, sym, ◌∙◌, subst, ◌+◌, ◌<◌, ◌≤◌, Bool, true, false, ◌||◌, List, [], ◌∷◌, ◌++◌, take, length, get_or, Option, Some, None, arith}
use Rattle.std.specs.Prelude.{filter_map, is_none}
use Rattle.std.specs.List.{cons_option}
use Rattle.std.specs.Str.{bytes_eq}
use Rattle.std.proofs.lemmas.List.{length-take-le, take_more}
use Rattle.std.proofs.lemmas.List.Elements.{filter_map-append}
use Rattle.lb_cat.specs.declared.refusal.Refusal.TheVariants as refusals
use Rattle.lb_cat.specs.Catalog.{Cat, component_named, is_among}
use Rattle.lb_alter.specs.ChangePolicy.{components_refusal}
use Rattle.lb_alter.specs.Refusing.{when, earliest}
use Rattle.lb_changed.specs.declared.stop.Stop.{Stop}
use Rattle.lb_changed.specs.Given.{Refuses}
use Rattle.lb_policy.specs.Before.{turned, turned_onto}
use Rattle.lb_policy.proofs.Tests.{test_stops, one_test}

-- ---- names before a place

-- one name more
turned_last : (before ns : List (List ℕ)) (n : List ℕ) → turned_onto before (ns ++ n ∷ []) ≡ n ∷ turned_onto before ns
turned_last before [] n = refl
turned_last before (m ∷ ns) n = turned_last (m ∷ before) ns n

pub turned_more : (ns : List (List ℕ)) (n : List ℕ) → turned (ns ++ n ∷ []) ≡ n ∷ turned ns
turned_more ns n = turned_last [] ns n

either : (a b c : Bool) → (a || (b || c)) ≡ (b || (a || c))
either true true c = refl
either true false c = refl
either false true c = refl
either false false c = refl

among_onto : (before ns : List (List ℕ)) (n : List ℕ) → is_among (turned_onto before ns) n ≡ (is_among ns n || is_among before n)
among_onto before [] n = refl
among_onto before (m ∷ ns) n = among_onto (m ∷ before) ns n ∙ either (is_among ns n) (bytes_eq m n) (is_among before n) ∙ grouped (bytes_eq m n) (is_among ns n) (is_among before n)
  where
    grouped : (a b c : Bool) → (a || (b || c)) ≡ ((a || b) || c)
    grouped true b c = refl
    grouped false b c = refl

without_more : (b : Bool) → (b || false) ≡ b
without_more true = refl
without_more false = refl

-- the order doesn't matter
pub among_turned : (ns : List (List ℕ)) (n : List ℕ) → is_among (turned ns) n ≡ is_among ns n
among_turned ns n = among_onto [] ns n ∙ without_more (is_among ns n)

-- ---- one component

module _ (C : Cat) (before : List (List ℕ)) (n : List ℕ) (ns : List (List ℕ)) where
  -- one that isn't there
  pub absent_stops : (s : Stop) → Refuses (when (is_none (component_named C n)) (refusals.Unknown n)) s → Refuses (components_refusal C before (n ∷ ns)) s
  absent_stops s h = test_stops (when (is_none (component_named C n)) (refusals.Unknown n)) _ s h

  -- one that stands twice
  pub repeated_stops : (s : Stop) → when (is_none (component_named C n)) (refusals.Unknown n) ≡ None → Refuses (when (is_among before n) (refusals.Exists n)) s → Refuses (components_refusal C before (n ∷ ns)) s
  repeated_stops s there h =
      subst (λ t. Refuses (earliest (t ∷ when (is_among before n) (refusals.Exists n) ∷ components_refusal C (n ∷ before) ns ∷ [])) s) (sym there)
      (test_stops (when (is_among before n) (refusals.Exists n)) (components_refusal C (n ∷ before) ns ∷ []) s h)

  -- after one that passes the others follow
  pub component_passes : when (is_none (component_named C n)) (refusals.Unknown n) ≡ None → when (is_among before n) (refusals.Exists n) ≡ None → components_refusal C before (n ∷ ns) ≡ components_refusal C (n ∷ before) ns
  component_passes there first =
      ap (λ t. earliest (t ∷ when (is_among before n) (refusals.Exists n) ∷ components_refusal C (n ∷ before) ns ∷ [])) there
      ∙ ap (λ t. earliest (t ∷ components_refusal C (n ∷ before) ns ∷ [])) first
      ∙ sym (one_test (components_refusal C (n ∷ before) ns))

-- ---- the shape

no_longer : {X Y : Type 0} (h : X → Option Y) (xs : List X) → length (filter_map h xs) ≤ length xs
no_longer h [] = omega arith
no_longer h (x ∷ xs) =
    let rest : length (filter_map h xs) ≤ length xs = no_longer h xs in
    elim (h x) as (λ o. length (cons_option o (filter_map h xs)) ≤ length (x ∷ xs)) [
      | None ↦ omega (arith, rest)
      | Some y ↦ omega (arith, rest)
    ]

pub few_are_there : {X Y : Type 0} (h : X → Option Y) (xs : List X) (i : ℕ) → i < length xs → length xs ≤ 16 → length (filter_map h (take i xs)) < 16
few_are_there h xs i inside few =
    let front : length (take i xs) ≡ i = length-take-le i xs (omega (arith, inside)) in
    let short : length (filter_map h (take i xs)) ≤ length (take i xs) = no_longer h (take i xs) in
    omega (arith, front, short, inside, few)

-- one more
pub there_more : {X Y : Type 0} (h : X → Option Y) (xs : List X) (i : ℕ) (x : X) → i < length xs → x ≡ get_or xs i x → filter_map h (take (i + 1) xs) ≡ filter_map h (take i xs) ++ filter_map h (x ∷ [])
there_more h xs i x inside is =
    ap (filter_map h) (take_more xs i x inside) ∙ filter_map-append h (take i xs) (get_or xs i x ∷ []) ∙ ap (λ y. filter_map h (take i xs) ++ filter_map h (y ∷ [])) (sym is)

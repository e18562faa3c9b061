-- Permissions and masks that name what is looked for.
use Rattle.std.proofs.Common.{ℕ, ◌≡◌, refl, sym, ◌∙◌, Bool, true, false, cond, ◌||◌, List, [], ◌∷◌, ◌++◌, Option, Some, None, option_map}
use Rattle.std.specs.Prelude.{find, is_some}
use Rattle.std.specs.List.{flat_map, list_any}
use Rattle.std.proofs.lemmas.List.Folds.{list_any-append}
use Rattle.lb_cat.specs.Catalog.{Table}
use Rattle.lb_alter.specs.Stored.{Stored, mentions_of, mentioned_in, stored_in, stored_name}
use Rattle.lb_names.specs.Mentions.{Mention}

-- one of all mentions passes exactly where something mentions one that does
any_of_all : (test : Mention → Bool) (xs : List Stored) → list_any test (flat_map mentions_of xs) ≡ is_some (find (λ s. list_any test s.mentions) xs)
any_of_all test [] = refl
any_of_all test (x ∷ xs) = list_any-append test x.mentions (flat_map mentions_of xs) ∙
    elim (list_any test x.mentions) as (λ b. b || list_any test (flat_map mentions_of xs) ≡ is_some (cond b (Some x) (find (λ s. list_any test s.mentions) xs))) [
      | true ↦ refl
      | false ↦ any_of_all test xs
    ]

-- what is seen otherwise is there as well
pub is_there : {X : Type 0} (seen : X → List ℕ) (x : Option X) → is_some x ≡ is_some (option_map seen x)
is_there seen None = refl
is_there seen (Some x) = refl

-- a name is there exactly where what has it is
has_name : (x : Option Stored) → is_some (option_map stored_name x) ≡ is_some x
has_name None = refl
has_name (Some s) = refl

pub one_is_named : (test : Mention → Bool) (t : Table) → is_some (option_map stored_name (find (λ s. list_any test s.mentions) (stored_in t))) ≡ list_any test (mentioned_in t)
one_is_named test t = has_name (find (λ s. list_any test s.mentions) (stored_in t)) ∙ sym (any_of_all test (stored_in t))

-- of two lists, the first decides where it has one
pub first_of : (test : Stored → Bool) (xs ys : List Stored) (s : List ℕ) → option_map stored_name (find test xs) ≡ Some s → option_map stored_name (find test (xs ++ ys)) ≡ Some s
first_of test [] ys s h = absurd cc
first_of test (x ∷ xs) ys s h =
    elim (test x) as (λ b. option_map stored_name (cond b (Some x) (find test xs)) ≡ Some s → option_map stored_name (cond b (Some x) (find test (xs ++ ys))) ≡ Some s) [
      | true ↦ λ i. i
      | false ↦ λ i. first_of test xs ys s i
    ] h

pub second_of : (test : Stored → Bool) (xs ys : List Stored) → option_map stored_name (find test xs) ≡ None → option_map stored_name (find test (xs ++ ys)) ≡ option_map stored_name (find test ys)
second_of test [] ys h = refl
second_of test (x ∷ xs) ys h =
    elim (test x) as (λ b. option_map stored_name (cond b (Some x) (find test xs)) ≡ None → option_map stored_name (cond b (Some x) (find test (xs ++ ys))) ≡ option_map stored_name (find test ys)) [
      | true ↦ λ i. absurd cc
      | false ↦ λ i. second_of test xs ys i
    ] h

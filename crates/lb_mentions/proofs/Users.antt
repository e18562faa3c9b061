-- The first of some tables that reads a table, by whether the next one does.
use Rattle.std.proofs.Common.{ℕ, ◌≡◌, refl, ap, sym, ◌∙◌, zero, suc, ◌+◌, ◌<◌, true, false, cond, not, List, [], ◌∷◌, drop, length, Option, Some, None, option_map, arith}
use Rattle.std.specs.Prelude.{find, slice_get}
use Rattle.std.specs.Option.{option_or}
use Rattle.std.specs.List.{flat_map}
use Rattle.std.proofs.lemmas.List.Folds.{find-append}
use Rattle.lb_rows.specs.Lists.{without}
use Rattle.lb_cat.specs.Catalog.{Table, is_table}
use Rattle.lb_alter.specs.Stored.{Stored, names_table, stored_in, stored_name}
use Rattle.lb_mentions.specs.Seeking.{user_in}

-- of some tables
abbrev pub user_from : List ℕ → List Table → Option (List ℕ)
user_from n ts = option_map stored_name (find (names_table n) (flat_map stored_in (without (is_table n) ts)))

name_of_first : (x y : Option Stored) → option_map stored_name (option_or x y) ≡ option_or (option_map stored_name x) (option_map stored_name y)
name_of_first None y = refl
name_of_first (Some s) y = refl

of_two : (n : List ℕ) (t : Table) (ts : List Table) → user_from n (t ∷ ts) ≡ option_or (user_in n (Some t)) (user_from n ts)
of_two n t ts =
    elim (is_table n t) as (λ b. option_map stored_name (find (names_table n) (flat_map stored_in (cond (not b) (t ∷ without (is_table n) ts) (without (is_table n) ts)))) ≡ option_or (cond b None (option_map stored_name (find (names_table n) (stored_in t)))) (user_from n ts)) [
      | true ↦ refl
      | false ↦ ap (option_map stored_name) (find-append (names_table n) (stored_in t) (flat_map stored_in (without (is_table n) ts))) ∙ name_of_first (find (names_table n) (stored_in t)) (find (names_table n) (flat_map stored_in (without (is_table n) ts)))
    ]

next : (n : List ℕ) (ts : List Table) (i : ℕ) → i < length ts → user_from n (drop i ts) ≡ option_or (user_in n (slice_get ts i)) (user_from n (drop (i + 1) ts))
next n [] i h = absurd (omega (arith, h))
next n (t ∷ ts) zero h = of_two n t ts
next n (t ∷ ts) (suc i) h =
    let one_more : suc i + 1 ≡ suc (i + 1) = omega arith in
    next n ts i (omega (arith, h)) ∙ ap (λ (k : ℕ). option_or (user_in n (slice_get ts i)) (user_from n (drop k (t ∷ ts)))) (sym one_more)

pub user_here : (n : List ℕ) (ts : List Table) (i : ℕ) (x : List ℕ) → i < length ts → Some x ≡ user_in n (slice_get ts i) → user_from n (drop i ts) ≡ Some x
user_here n ts i x h found = next n ts i h ∙ ap (λ z. option_or z (user_from n (drop (i + 1) ts))) (sym found)

pub user_later : (n : List ℕ) (ts : List Table) (i : ℕ) → i < length ts → None ≡ user_in n (slice_get ts i) → user_from n (drop i ts) ≡ user_from n (drop (i + 1) ts)
user_later n ts i h none = next n ts i h ∙ ap (λ z. option_or z (user_from n (drop (i + 1) ts))) (sym none)

-- Whether some table passes a test, by the first that does; and what a change makes, in other words.
use Rattle.std.proofs.Common.{◌≡◌, refl, ap, ◌∙◌, subst, true, false, cond, ◌||◌, Bool, List, [], ◌∷◌, Option, None, Some}
use Rattle.std.specs.Prelude.{find, is_some, option_map, Result}
use Rattle.std.specs.List.{list_any}
use Rattle.lb_cat.specs.Catalog.{Cat, Table}
use Rattle.lb_cat.specs.Stamps.{Kept}
use Rattle.lb_rows.specs.Tables.{Tables}
use Rattle.lb_alter.specs.Refusing.{alters}
use Rattle.lb_changed.specs.declared.changed.Changed.{Changed as Made}
use Rattle.lb_changed.specs.declared.stop.Stop.{Stop}
use Rattle.lb_changed.specs.Made.{Makes}

-- whether there is one that passes
is_some_found : {A : Type 0} (test : A → Bool) (xs : List A) → is_some (find test xs) ≡ list_any test xs
is_some_found test [] = refl
is_some_found test (x ∷ xs) =
    elim (test x) as (λ b. is_some (cond b (Some x) (find test xs)) ≡ (b || list_any test xs)) [
      | true ↦ refl
      | false ↦ is_some_found test xs
    ]

is_some_seen : {A B : Type 0} (f : A → B) (x : Option A) → is_some x ≡ is_some (option_map f x)
is_some_seen f None = refl
is_some_seen f (Some x) = refl

-- the same of what stands for it in the program
pub some_passes : {A B : Type 0} (f : A → B) (test : B → Bool) (xs : List B) (found : Option A) → option_map f found ≡ find test xs → is_some found ≡ list_any test xs
some_passes f test xs found h = is_some_seen f found ∙ ap is_some h ∙ is_some_found test xs

-- a table's record in other words
pub alters_same : (K : Kept) (T : Tables) (C : Cat) (t u : Table) (result : Result Made Stop) → t ≡ u → Makes K T (alters C T t) result → Makes K T (alters C T u) result
alters_same K T C t u result h g = subst (λ v. Makes K T (alters C T v) result) h g

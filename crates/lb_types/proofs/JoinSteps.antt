-- The ON conditions of a chain, one after another.
use Rattle.std.proofs.Common.{ℕ, ◌≡◌, ap, sym, subst, ◌∙◌, List, [], ◌∷◌, ◌++◌, Ok}
use Rattle.lb_tree.specs.declared.query.Tab.{Tab}
use Rattle.lb_names.specs.Sights.{Name}
use Rattle.lb_names.specs.Typed.{◌>>=◌}
use Rattle.lb_names.specs.Places.{Place, on_place}
use Rattle.lb_names.specs.Carriers.{Joins}
use Rattle.lb_names.specs.SelectLists.{joins_typed}
use Rattle.lb_types.specs.declared.stop.Stop.{Stop}
use Rattle.lb_types.specs.Given.{Stops}
use Rattle.lb_types.proofs.Steps.{stops_then}

-- the joins after the first one
pub join_step : (P : Place) (all : List Name) (tabs more : List Tab) (j : Joins) (js : List Joins) (n m : ℕ) → more ≡ tabs ++ j.marked.tab ∷ [] → j.typed (on_place P all more) n ≡ Ok (tt, m)
    → joins_typed P all tabs (j ∷ js) n ≡ joins_typed P all more js m
join_step P all tabs more j js n m h k = (λ i. j.typed (on_place P all (sym h i)) n >>= λ x. joins_typed P all (sym h i) js x.1) ∙ ap (λ y. y >>= λ x. joins_typed P all more js x.1) k

-- they stop where the first one does
pub join_stops : (P : Place) (all : List Name) (tabs more : List Tab) (j : Joins) (js : List Joins) (n : ℕ) (s : Stop) → more ≡ tabs ++ j.marked.tab ∷ [] → Stops s (j.typed (on_place P all more) n)
    → Stops s (joins_typed P all tabs (j ∷ js) n)
join_stops P all tabs more j js n s h k = subst (Stops s) (λ i. j.typed (on_place P all (h i)) n >>= λ x. joins_typed P all (h i) js x.1) (stops_then s (j.typed (on_place P all more) n) (λ x. joins_typed P all more js x.1) k)

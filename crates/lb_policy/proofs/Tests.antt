-- The first refusal of some tests, one after another.
use Rattle.std.proofs.Common.{◌≡◌, refl, ap, sym, subst, List, [], ◌∷◌, Option, None, Some}
use Rattle.std.specs.Prelude.{Result}
use Rattle.lb_cat.specs.declared.refusal.Refusal.{Refusal}
use Rattle.lb_alter.specs.Refusing.{earliest}
use Rattle.lb_changed.specs.declared.stop.Stop.{Stop}
use Rattle.lb_changed.specs.declared.stop.Stop.TheVariants as stops
use Rattle.lb_changed.specs.Given.{Passes, Refuses, StopsFor}

-- what stops for a refusal refuses with it
pub refuses : (r : Refusal) (s : Stop) → StopsFor r s → Refuses (Some r) s
refuses r (stops.Refused q) h = ap Some (sym h)
refuses r stops.NoMemory h = tt

-- a test alone is the first of itself
pub one_test : (test : Option Refusal) → test ≡ earliest (test ∷ [])
one_test None = refl
one_test (Some r) = refl

-- a test that refuses is the first
pub test_stops : (test : Option Refusal) (tests : List (Option Refusal)) (s : Stop) → Refuses test s → Refuses (earliest (test ∷ tests)) s
test_stops test tests (stops.Refused r) h = ap (λ t. earliest (t ∷ tests)) h
test_stops test tests stops.NoMemory h = tt

-- after one that passes the others decide
pub test_passes : (test : Option Refusal) (tests : List (Option Refusal)) (result : Result (Unit {0}) Stop) → test ≡ None → Passes (earliest tests) result → Passes (earliest (test ∷ tests)) result
test_passes test tests result h g = subst (λ t. Passes (earliest (t ∷ tests)) result) (sym h) g

-- the last one decides alone
pub last_test : (test : Option Refusal) (result : Result (Unit {0}) Stop) → Passes test result → Passes (earliest (test ∷ [])) result
last_test test result h = subst (λ t. Passes t result) (one_test test) h

pub ruleset tests = (test_stops, test_passes, last_test)

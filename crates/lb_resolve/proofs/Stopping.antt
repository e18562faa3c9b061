-- How a pass that stopped, or came to the end of a part, goes on.
use Rattle.std.proofs.Common.{◌≡◌, ap, sym, subst, Option, None}
use Rattle.std.specs.Prelude.{Result}
use Rattle.lb_names.specs.declared.refused.Refused.{Refused}
use Rattle.lb_names.specs.SortNames.{or_else}
use Rattle.lb_resolve.specs.declared.stop.Stop.{Stop}
use Rattle.lb_resolve.specs.declared.stop.Stop.TheVariants as stops
use Rattle.lb_resolve.specs.Passing.{Stops, Passes}

-- what stopped the first part stops the whole
pub stops_then : (s : Stop) (x y : Option Refused) → Stops s x → Stops s (or_else x y)
stops_then (stops.Refused r) x y h = ap (λ z. or_else z y) h
stops_then stops.NoMemory x y h = tt

-- after a part without refusal the rest decides
pub passes_then : (r : Result (Unit {0}) Stop) (x y : Option Refused) → x ≡ None → Passes r y → Passes r (or_else x y)
passes_then r x y h g = subst (λ z. Passes r (or_else z y)) (sym h) g

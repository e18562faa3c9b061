-- How a statement goes on after one of its tests, or stops there.
use Rattle.std.proofs.Common.{◌≡◌, ap, sym, subst, ◌∙◌, Option, None, Some}
use Rattle.std.specs.Prelude.{Result, Ok, Err}
use Rattle.lb_cat.specs.declared.refusal.Refusal.{Refusal}
use Rattle.lb_cat.specs.OrRefused.{OrRefused, ◌>>=◌}
use Rattle.lb_cat.specs.Stamps.{Kept}
use Rattle.lb_rows.specs.Tables.{Tables}
use Rattle.lb_alter.specs.Refusing.{◌>>◌, Changed}
use Rattle.lb_changed.specs.declared.changed.Changed.{Changed as Made}
use Rattle.lb_changed.specs.declared.stop.Stop.{Stop}
use Rattle.lb_changed.specs.declared.stop.Stop.TheVariants as stops
use Rattle.lb_changed.specs.Given.{IsRefused, Refuses, StopsFor}
use Rattle.lb_changed.specs.Made.{Makes}

-- what is refused makes nothing
pub makes_none : (K : Kept) (T : Tables) (given : OrRefused Changed) (s : Stop) → IsRefused given s → Makes K T given (Err s)
makes_none K T (Ok said) s h = h
makes_none K T (Err r) s h = h

-- a test that refuses with what the change stops for
pub refuses_as : (test : Option Refusal) (r : Refusal) (s : Stop) → test ≡ Some r → StopsFor r s → Refuses test s
refuses_as test r (stops.Refused q) h g = h ∙ ap Some (sym g)
refuses_as test r stops.NoMemory h g = tt

-- a test that refuses ends the statement
pub stops_then : (K : Kept) (T : Tables) (test : Option Refusal) (rest : OrRefused Changed) (s : Stop) → Refuses test s → Makes K T (test >> rest) (Err s)
stops_then K T test rest (stops.Refused r) h = makes_none K T (test >> rest) (stops.Refused r) (ap (λ t. t >> rest) h)
stops_then K T test rest stops.NoMemory h = makes_none K T (test >> rest) stops.NoMemory tt

-- after a test that passes the rest decides
pub passes_then : (K : Kept) (T : Tables) (result : Result Made Stop) (test : Option Refusal) (rest : OrRefused Changed) → test ≡ None → Makes K T rest result → Makes K T (test >> rest) result
passes_then K T result test rest h g = subst (λ t. Makes K T (t >> rest) result) (sym h) g

-- what isn't given ends the statement
pub refused_then : {A : Type 0} (K : Kept) (T : Tables) (given : OrRefused A) (rest : A → OrRefused Changed) (s : Stop) → IsRefused given s → Makes K T (given >>= rest) (Err s)
refused_then K T given rest (stops.Refused r) h = makes_none K T (given >>= rest) (stops.Refused r) (ap (λ g. g >>= rest) h)
refused_then K T given rest stops.NoMemory h = makes_none K T (given >>= rest) stops.NoMemory tt

-- what is given goes into the rest
pub given_then : {A : Type 0} (K : Kept) (T : Tables) (result : Result Made Stop) (given : OrRefused A) (rest : A → OrRefused Changed) (x : A) → given ≡ Ok x → Makes K T (rest x) result → Makes K T (given >>= rest) result
given_then K T result given rest x h g = subst (λ m. Makes K T (m >>= rest) result) (sym h) g

pub ruleset steps = (stops_then, passes_then, refused_then, given_then)

-- What a step of a change gives: what the definitions give, or their refusal. Only want of memory comes without cause.
use Rattle.std.specs.Prelude.{◌≡◌, Option, None, Some, Result, Ok, Err}
use Rattle.lb_cat.specs.declared.refusal.Refusal.{Refusal}
use Rattle.lb_cat.specs.OrRefused.{OrRefused}
use Rattle.lb_changed.specs.declared.stop.Stop.{Stop}
use Rattle.lb_changed.specs.declared.stop.Stop.TheVariants as stops

-- the change stops with this refusal, or because memory ran out
abbrev pub StopsFor : Refusal → Stop → Type 0
StopsFor refusal (stops.Refused r) = r ≡ refusal
StopsFor refusal stops.NoMemory = Unit {0}

-- a test that stops a change refuses with what it stops for
abbrev pub Refuses : Option Refusal → Stop → Type 0
Refuses test (stops.Refused r) = test ≡ Some r
Refuses test stops.NoMemory = Unit {0}

-- a test lets the change go on exactly where it has no refusal
abbrev pub Passes : Option Refusal → Result (Unit {0}) Stop → Type 0
Passes test (Ok _) = test ≡ None
Passes test (Err stop) = Refuses test stop

-- what is refused stops for its refusal
abbrev pub IsRefused : {A : Type 0} → OrRefused A → Stop → Type 0
IsRefused given (stops.Refused r) = given ≡ Err r
IsRefused given stops.NoMemory = Unit {0}

-- the result, seen so, is what the definitions give
abbrev pub Gives : {A X : Type 0} → (X → A) → OrRefused A → Result X Stop → Type 0
Gives seen given (Ok x) = given ≡ Ok (seen x)
Gives seen given (Err stop) = IsRefused given stop

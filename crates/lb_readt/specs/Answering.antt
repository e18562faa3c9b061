-- How what a function returned compares with what a reader answers.
use Rattle.std.specs.Prelude.{◌≡◌, List, Bool, Result, Ok, Err}
use Rattle.std.specs.Borrow.{Bor}
use Rattle.lb_tok.specs.Kinds.{Kinds}
use Rattle.lb_tok.specs.declared.token.Token.{Token}
use Rattle.lb_readt.specs.declared.fault.Fault.{Fault}
use Rattle.lb_readt.specs.declared.fault.Fault.TheVariants.{Memory, Bad, Deep}
use Rattle.lb_readt.specs.Readers.{bad, deep, Answer, got, stop, Reader, heads}

-- a fault is the reader's stop at the same tokens; where memory runs out nothing is said
abbrev pub Faults : {Y : Type 0} → Fault → Answer Y → Type 0
Faults Memory a = Unit {0}
Faults (Bad rest) a = a ≡ stop bad rest.now
Faults (Deep rest) a = a ≡ stop deep rest.now

-- the result, as view shows it, is what the reader answers: its value and the tokens that are left, or its stop
abbrev pub Gives : {X Y : Type 0} → (X → Y × List Token) → Result X Fault → Answer Y → Type 0
Gives view (Ok x) a = a ≡ got (view x).0 (view x).1
Gives view (Err e) a = Faults e a

-- a function whose results are these reads as the reader f does
abbrev pub ReadsAs : {A : Type 0} → Reader A → (Bor (List Token) → Result (A × Bor (List Token)) Fault → Type 0) → Type 0
ReadsAs f results = (tokens : Bor (List Token)) (r : _) → results tokens r → Gives (λ p. (p.0, p.1.now)) r (f tokens.now)

-- a test whose results are these tells whether the next kind is among ks
abbrev pub TellsNext : Kinds → (Bor (List Token) → Bool → Type 0) → Type 0
TellsNext ks results = (tokens : Bor (List Token)) (b : Bool) → results tokens b → b ≡ heads ks tokens.now

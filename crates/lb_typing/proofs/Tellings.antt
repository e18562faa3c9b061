-- What is told of a typing that ended.
use Rattle.std.proofs.Common.{ℕ, ◌≡◌, ap, sym, subst, ◌∙◌, List, Ok, Err}
use Rattle.std.specs.Prelude.{Result}
use Rattle.lb_names.specs.Kinds.{Kind}
use Rattle.lb_names.specs.Typed.{Typed, ◌>>=◌}
use Rattle.lb_names.specs.Statements.{broken}
use Rattle.lb_types.specs.declared.stop.Stop.{Stop}
use Rattle.lb_types.specs.declared.stop.Stop.TheVariants.{Broken, NoMemory}
use Rattle.lb_types.specs.Given.{Stops, Goes}
use Rattle.lb_types.proofs.Steps.{stops_then, grouped}
use Rattle.lb_typing.specs.Given.{Tells}

-- it stopped
pub tells_stops : {A : Type 0} (s : Stop) (out : Typed A) → Stops s out → Tells (Err s) (broken out)
tells_stops (Broken n) out h = ap broken h
tells_stops NoMemory out h = tt

-- of what has no kind
pub tells_goes : (r : Result ℕ Stop) (out : Typed (Unit {0})) → Goes r out → Tells r (broken out)
tells_goes (Ok n) out h = ap broken h
tells_goes (Err s) out h = tells_stops s out h

-- of a query with its keys, after the query itself
pub tells_keys : (r : Result ℕ Stop) (whole : Typed (List Kind)) (keys : Typed (Unit {0})) (ks : List Kind) → whole ≡ (keys >>= λ x. Ok (ks, x.1)) → Goes r keys → Tells r (broken whole)
tells_keys (Ok n) whole keys ks h k = ap broken (h ∙ ap (λ y. y >>= λ x. Ok (ks, x.1)) k)
tells_keys (Err (Broken n)) whole keys ks h k = ap broken (h ∙ ap (λ y. y >>= λ x. Ok (ks, x.1)) k)
tells_keys (Err NoMemory) whole keys ks h k = tt

-- what comes after a part and a test of it
pub tested_then : {A B D : Type 0} (first : Typed A) (test : A × ℕ → Typed B) (rest : ℕ → Typed D) (x : B × ℕ) → (first >>= test) ≡ Ok x → (first >>= λ y. test y >>= λ z. rest z.1) ≡ rest x.1
tested_then first test rest x h = sym (grouped first test (λ z. rest z.1)) ∙ ap (λ y. y >>= λ z. rest z.1) h

-- what stops at the part or its test stops
pub tested_stops : {A B D : Type 0} (s : Stop) (first : Typed A) (test : A × ℕ → Typed B) (rest : ℕ → Typed D) → Stops s (first >>= test) → Stops s (first >>= λ y. test y >>= λ z. rest z.1)
tested_stops s first test rest h = subst (Stops s) (grouped first test (λ z. rest z.1)) (stops_then s (first >>= test) (λ z. rest z.1) h)

pub ruleset telling = (stops_then, tells_stops, tells_goes, tested_then, tested_stops)

-- How typing goes on after a part.
use Rattle.std.proofs.Common.{◌≡◌, refl, ap, sym, ◌∙◌, subst, ℕ, Ok, Err}
use Rattle.lb_names.specs.Typed.{Typed, ◌>>=◌}
use Rattle.lb_types.specs.declared.stop.Stop.{Stop}
use Rattle.lb_types.specs.declared.stop.Stop.TheVariants.{Broken, NoMemory}
use Rattle.std.specs.Prelude.{Result}
use Rattle.lb_types.specs.Given.{Stops, Gives, Goes}

-- what stopped the first part stops the whole
pub stops_then : {A B : Type 0} (s : Stop) (out : Typed A) (f : A × ℕ → Typed B) → Stops s out → Stops s (out >>= f)
stops_then (Broken n) out f h = ap (λ x. x >>= f) h
stops_then NoMemory out f h = tt

-- one part after another
pub grouped : {A B D : Type 0} (x : Typed A) (f : A × ℕ → Typed B) (g : B × ℕ → Typed D) → (x >>= f >>= g) ≡ (x >>= λ y. f y >>= g)
grouped (Ok x) f g = refl
grouped (Err at) f g = refl

-- the whole after its first part
pub onto : {A B : Type 0} (out : Typed B) (first : Typed A) (f : A × ℕ → Typed B) (x : A × ℕ) → out ≡ (first >>= f) → first ≡ Ok x → out ≡ f x
onto out first f x h k = h ∙ ap (λ y. y >>= f) k

-- the whole that stops at its first part
pub stops_at : {A B : Type 0} (s : Stop) (out : Typed B) (first : Typed A) (f : A × ℕ → Typed B) → out ≡ (first >>= f) → Stops s first → Stops s out
stops_at s out first f h k = subst (Stops s) (sym h) (stops_then s first f k)

-- what comes after the first part is the whole
pub gives_onto : {A B D : Type 0} (see : D → B) (r : Result (D × ℕ) Stop) (out : Typed B) (first : Typed A) (f : A × ℕ → Typed B) (x : A × ℕ) → out ≡ (first >>= f) → first ≡ Ok x → Gives see r (f x) → Gives see r out
gives_onto see r out first f x h k = subst (Gives see r) (sym (onto out first f x h k))

-- the same for what has no kind
pub goes_onto : {A : Type 0} (r : Result ℕ Stop) (out : Typed (Unit {0})) (first : Typed A) (f : A × ℕ → Typed (Unit {0})) (x : A × ℕ) → out ≡ (first >>= f) → first ≡ Ok x → Goes r (f x) → Goes r out
goes_onto r out first f x h k = subst (Goes r) (sym (onto out first f x h k))

-- The root of a mark: where its worker began. The turn asks of each mark that its root is one of the recording pass's own places.
use Rattle.std.specs.Prelude.{◌≡◌, ℕ, zero, suc, ◌<◌, ◌≤◌, List, [], ◌∷◌, ◌++◌, length, min, slice_get, Option, Some, None, refl, ⊤}
use Rattle.std.specs.List.{Contains}
use Rattle.std.proofs.Common.{ap, arith}
use Rattle.bench_turn.specs.declared.register.Mark.{Mark}
use Rattle.bench_turn.specs.declared.register.Mark.TheVariants.{Begins, Ends}

abbrev pub root_from : ℕ → Option Mark → ℕ
root_from place (Some (Ends began)) = min began place
root_from place _ = place

abbrev pub root : List Mark → ℕ → ℕ
root marks place = root_from place (slice_get marks place)

-- the worker that ends began at one of these places
abbrev pub IsBegun : List ℕ → Mark → Type 0
IsBegun own (Ends began) = Contains own began
IsBegun own Begins = ⊤

from_before : (place : ℕ) (mark : Option Mark) → root_from place mark ≤ place
from_before place (Some (Ends began)) = omega arith
from_before place (Some Begins) = omega arith
from_before place None = omega arith

pub root_before : (marks : List Mark) (place : ℕ) → root marks place ≤ place
root_before marks place = from_before place (slice_get marks place)

get_longer : (marks more : List Mark) (place : ℕ) → place < length marks → slice_get (marks ++ more) place ≡ slice_get marks place
get_longer [] more place lt = absurd (omega arith)
get_longer (x ∷ xs) more zero lt = refl
get_longer (x ∷ xs) more (suc k) lt = get_longer xs more k (omega arith)

pub root_stays : (marks more : List Mark) (place : ℕ) → place < length marks → root (marks ++ more) place ≡ root marks place
root_stays marks more place lt = ap (root_from place) (get_longer marks more place lt)

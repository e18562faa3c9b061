-- The root of an entry of the tape: the place where its session opened. Contracts say by it that each entry is of one of the sessions.
use Rattle.std.specs.Prelude.{◌≡◌, ℕ, zero, suc, ◌<◌, ◌≤◌, List, [], ◌∷◌, ◌++◌, length, min, slice_get, Option, Some, None, refl, ⊤}
use Rattle.std.specs.List.{Contains}
use Rattle.std.proofs.Common.{ap, arith}
use Rattle.turn_tests.specs.declared.tape.Entry.{Entry}
use Rattle.turn_tests.specs.declared.tape.Entry.TheVariants.{Opens, Adds}

-- the root of an added entry is its opener's place where that is earlier
abbrev pub root_from : ℕ → Option Entry → ℕ
root_from place (Some (Adds opener number)) = min opener place
root_from place _ = place

abbrev pub root : List Entry → ℕ → ℕ
root tape place = root_from place (slice_get tape place)

-- an added entry's session opened at one of these places
abbrev pub IsOpened : List ℕ → Entry → Type 0
IsOpened own (Adds opener number) = Contains own opener
IsOpened own (Opens session) = ⊤

-- the opens of three sessions, in order
abbrev pub three_opens : List Entry
three_opens = Opens 0 ∷ Opens 1 ∷ Opens 2 ∷ []

-- each of these places is on the tape, and its root is one of the first three
abbrev pub AreRooted : List Entry → List ℕ → Type 0
AreRooted tape places = (place : ℕ) → Contains places place → (place < length tape) × (root tape place < 3)

-- the root of each place of the tape is one of the first three
abbrev pub IsRooted : List Entry → Type 0
IsRooted tape = (place : ℕ) → place < length tape → root tape place < 3

from_before : (place : ℕ) (entry : Option Entry) → root_from place entry ≤ place
from_before place (Some (Adds opener number)) = omega arith
from_before place (Some (Opens session)) = omega arith
from_before place None = omega arith

pub root_before : (tape : List Entry) (place : ℕ) → root tape place ≤ place
root_before tape place = from_before place (slice_get tape place)

get_longer : (tape more : List Entry) (place : ℕ) → place < length tape → slice_get (tape ++ more) place ≡ slice_get tape place
get_longer [] more place lt = absurd (omega arith)
get_longer (x ∷ xs) more zero lt = refl
get_longer (x ∷ xs) more (suc k) lt = get_longer xs more k (omega arith)

pub root_stays : (tape more : List Entry) (place : ℕ) → place < length tape → root (tape ++ more) place ≡ root tape place
root_stays tape more place lt = ap (root_from place) (get_longer tape more place lt)

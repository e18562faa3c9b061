-- What a pass has seen of a history, which of its places are the pass's own, and how a split divides those. Contracts of lb_turn are stated in these words.
use Rattle.std.specs.Prelude.{◌≡◌, ◌⊎◌, ◌↔◌, ℕ, ◌<◌, ◌≤◌, List, [], ◌∷◌, ◌++◌, length, max, nat_lt, if◌then◌else◌}
use Rattle.std.specs.List.{Contains, filter}
use mathlib.Core.List.{IsPrefix}
use Rattle.lb_turn.specs.declared.rule.Known.{Known}

-- the parts that all seats of a turn have together: one for the chief, and one for each of the 64 passes that may be live beside it
abbrev pub all_parts : ℕ
all_parts = 65

-- the greatest of these places
abbrev pub greatest : List ℕ → ℕ
greatest [] = 0
greatest (place ∷ places) = max place (greatest places)

-- the one of these places that comes last in a history, if there is one
abbrev pub last_of : List ℕ → List ℕ
last_of [] = []
last_of (place ∷ places) = greatest (place ∷ places) ∷ []

-- the places before the last one
abbrev pub before_last : List ℕ → List ℕ
before_last places = filter (λ place. nat_lt place (greatest places)) places

module _ {N : Type 0} where
  abbrev pub known : List N → List ℕ → Known N
  known seen own = record { seen = seen; own = own }

  -- nothing was seen
  abbrev pub nothing : Known N
  nothing = known [] []

  -- the longer of two lists
  abbrev pub longer : List N → List N → List N
  longer xs ys = if nat_lt (length xs) (length ys) then ys else xs

  -- the longer of two seen lists, with the own places of both
  abbrev pub united : Known N → Known N → Known N
  united k l = known (longer k.seen l.seen) (k.own ++ l.own)

  -- the own places lie below the end of the seen list
  abbrev pub IsWithin : Known N → Type 0
  IsWithin k = (place : ℕ) → Contains k.own place → place < length k.seen

  -- The history is what was seen, and the own places are all its places.
  pub record IsWhole (k : Known N) (log : List N) : Type 0 where
    pub seen : log ≡ k.seen
    pub own : (place : ℕ) → place < length log ↔ Contains k.own place

module _ {N : Type 0} (root : List N → ℕ → ℕ) where
  -- It is true of the history: the seen list is a beginning of it, the own places lie in that list, and a place of the history is an own one exactly where its root is.
  pub record IsKnown (log : List N) (k : Known N) : Type 0 where
    pub seen : IsPrefix k.seen log
    pub below : (place : ℕ) → Contains k.own place → place < length k.seen
    pub own_by_root : (place : ℕ) → place < length log → Contains k.own place ↔ Contains k.own (root log place)

  -- The seen list has grown to this one: it begins it, and the root of no place that was added is an own place.
  pub record Grows (k : Known N) (log : List N) : Type 0 where
    pub seen : IsPrefix k.seen log
    pub others : (place : ℕ) → length k.seen ≤ place → place < length log → ¬ Contains k.own (root log place)

  -- The place belongs here: its root is the place itself or an own place.
  abbrev pub Belongs : List ℕ → List N → ℕ → Type 0
  Belongs own log place = (root log place ≡ place) ⊎ Contains own (root log place)

  -- the last own place, if there is one, is its own root
  abbrev pub IsLastRoot : Known N → Type 0
  IsLastRoot k = (place : ℕ) → Contains (last_of k.own) place → root k.seen place ≡ place

  -- The own places are divided into those that are kept and those that are given away: each is in exactly one of the two lists, which have no others, and is given away exactly where its root is.
  pub record Divides (k : Known N) (kept given : List ℕ) : Type 0 where
    pub each : (place : ℕ) → Contains k.own place → Contains kept place ⊎ Contains given place
    pub from_kept : (place : ℕ) → Contains kept place → Contains k.own place
    pub from_given : (place : ℕ) → Contains given place → Contains k.own place
    pub apart : (place : ℕ) → Contains kept place → ¬ Contains given place
    pub rooted : (place : ℕ) → Contains k.own place → Contains given place ↔ Contains given (root k.seen place)

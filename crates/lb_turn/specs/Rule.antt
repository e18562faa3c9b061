-- The rule of the turn: what holds of its three words, its slot and the views of all its seats between any two steps.
-- Word 0 is the next ticket, word 1 the ticket that is served, word 2 the count of the history.
use Rattle.std.specs.Prelude.{◌≡◌, ◌⊎◌, ℕ, ◌+◌, ◌%◌, ◌^◌, ◌<◌, ◌≤◌, List, [], ◌∷◌, length, Option, Some}
use Rattle.std.specs.List.{Contains}
use mathlib.Core.Option.{Option as Maybe, some}
use lib.ListN.{get_elem?}
use Rattle.atomic_table.specs.Table.{State}
use Rattle.lb_turn.specs.declared.rule.Role.{Role}
use Rattle.lb_turn.specs.declared.rule.Role.TheVariants.{Idle, Waits, Turns}
use Rattle.lb_turn.specs.declared.rule.View.{View}
use Rattle.lb_turn.specs.Known.{nothing, IsKnown, all_parts}

-- how many tickets a seat has
abbrev pub ticketed : Role → ℕ
ticketed Idle = 0
ticketed (Waits t) = 1
ticketed (Turns t) = 1

-- the seat has this ticket
abbrev pub HasTicket : Role → ℕ → Type 0
HasTicket Idle t = ⊥
HasTicket (Waits t') t = t' ≡ t
HasTicket (Turns t') t = t' ≡ t

-- it has not found its turn
abbrev pub IsStill : Role → Type 0
IsStill (Turns t) = ⊥
IsStill _ = Unit {0}

-- The ticket is the k-th that is out, and the seat's own. Tickets are counted modulo 2^64.
abbrev pub IsPlaced : ℕ → List ℕ → ℕ → ℕ → ℕ → Type 0
IsPlaced served queue seat t k = (get_elem? queue k ≡ some seat) × (t ≡ (served + k) % 2 ^ 64)

module _ {N : Type 0} where
  -- the seat 0 begins with every part
  abbrev pub starting : ℕ → View N
  starting n = record { role = Idle; known = nothing; other = nothing; number = n; parts = all_parts }

  -- what is left of a seat that was joined to another
  abbrev pub spent_view : View N
  spent_view = record { role = Idle; known = nothing; other = nothing; number = 0; parts = 0 }

  -- the parts of all views
  abbrev pub shares : List (View N) → ℕ
  shares [] = 0
  shares (v ∷ vs) = v.parts + shares vs

  -- how many views have a ticket
  abbrev pub out : List (View N) → ℕ
  out [] = 0
  out (v ∷ vs) = ticketed v.role + out vs

  -- the place is one of the view's own
  abbrev pub Owns : View N → ℕ → Type 0
  Owns v place = Contains v.known.own place ⊎ Contains v.other.own place

  -- A seat that waits has a ticket that is out. A seat has found its turn only with the ticket that is served, and then it has seen the whole history.
  abbrev pub IsPlacedAs : ℕ → List ℕ → List N → ℕ → View N → Role → Type 0
  IsPlacedAs served queue log seat v Idle = Unit {0}
  IsPlacedAs served queue log seat v (Waits t) = (k : ℕ) × IsPlaced served queue seat t k
  IsPlacedAs served queue log seat v (Turns t) = IsPlaced served queue seat t 0 × (v.known.seen ≡ log)

  -- each ticket that is out is that of the seat at its place in the queue
  abbrev pub AreOut : ℕ → List ℕ → List (View N) → Type 0
  AreOut served queue views = (k seat : ℕ) → get_elem? queue k ≡ some seat → (v : View N) × (get_elem? views seat ≡ some v) × HasTicket v.role ((served + k) % 2 ^ 64)

  -- the own places of two views are disjoint
  abbrev pub AreDisjoint : List (View N) → Type 0
  AreDisjoint views = (i j place : ℕ) (v w : View N) → get_elem? views i ≡ some v → get_elem? views j ≡ some w → Owns v place → Owns w place → i ≡ j

  -- each place below the count is an own place of some view
  abbrev pub AreOwned : List (View N) → ℕ → Type 0
  AreOwned views count = (place : ℕ) → place < count → (seat : ℕ) × (v : View N) × (get_elem? views seat ≡ some v) × Owns v place

  -- Each seat but the chief's, which is seat 0, has one part, or none once it is spent. A seat with a part is live.
  abbrev pub HasPart : ℕ → View N → Type 0
  HasPart seat v = 0 < seat → v.parts ≤ 1

module _ {N : Type 0} (root : List N → ℕ → ℕ) (key : ℕ) where
  -- what holds of the view of one seat
  pub record IsSeated (served : ℕ) (queue : List ℕ) (log : List N) (seat : ℕ) (v : View N) : Type 0 where
    pub placed : IsPlacedAs served queue log seat v v.role
    pub known : IsKnown root log v.known
    pub other : IsKnown root log v.other
    pub number : 0 < v.parts → v.number ≡ key
    pub live : ticketed v.role ≤ v.parts
    pub part : HasPart seat v
    -- a view without parts owns no place
    pub owner : (place : ℕ) → Owns v place → 0 < v.parts

module _ {S N : Type 0} (history : S → List N) (root : List N → ℕ → ℕ) (number : S → ℕ) where
  -- the state is in its slot, with this history and this number
  abbrev pub IsHome : ℕ → List N → List (Maybe (Option S)) → Type 0
  IsHome key log homes = (x : S) × (homes ≡ some (Some x) ∷ []) × (history x ≡ log) × (number x ≡ key)

  pub record Turned (key : ℕ) (s : State (Option S) (View N)) : Type 0 where
    pub ticket : ℕ
    pub served : ℕ
    pub log : List N
    -- the seats with a ticket, in the order of their tickets
    pub queue : List ℕ
    pub words : s.words ≡ ticket ∷ served ∷ length log ∷ []
    pub served_fits : served < 2 ^ 64
    -- as many tickets are out as ticket minus served, modulo 2^64, and each is the ticket of one live view
    pub drawn : ticket ≡ (served + length queue) % 2 ^ 64
    pub counted : out s.views ≡ length queue
    pub tickets : AreOut served queue s.views
    -- what each view knows, and that all places are owned once
    pub each : (seat : ℕ) (v : View N) → get_elem? s.views seat ≡ some v → IsSeated root key served queue log seat v
    pub disjoint : AreDisjoint s.views
    pub owned : AreOwned s.views (length log)
    -- all parts are there
    pub whole : shares s.views ≡ all_parts
    -- the slot is empty only while some view has found its turn
    pub slots : length s.homes ≡ 1
    pub home : ((seat : ℕ) (v : View N) → get_elem? s.views seat ≡ some v → IsStill v.role) → IsHome key log s.homes

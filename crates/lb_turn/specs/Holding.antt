-- What is known while a pass holds the turn. The contracts of `hold` and of the calls of `Held` are stated in these words.
use Rattle.std.specs.Prelude.{◌≡◌, ℕ, ◌<◌, List, [], ◌∷◌, ◌++◌, length, Option, Some, None, IsSome}
use Rattle.std.specs.Borrow.{MutBor}
use Rattle.atomic_table.specs.Table.{Me}
use Rattle.lb_turn.specs.declared.rule.Role.TheVariants.{Idle, Turns}
use Rattle.lb_turn.specs.declared.rule.Known.{Known}
use Rattle.lb_turn.specs.declared.rule.View.{View}
use Rattle.lb_turn.specs.declared.held.Held.{Held}
use Rattle.lb_turn.specs.declared.pass.Pass.{Pass}
use Rattle.lb_turn.specs.declared.turn.Turn.{Turn}
use Rattle.lb_turn.specs.Known.{nothing, Belongs}
use Rattle.lb_turn.specs.Passes.{fixed_number, view_by}

-- the fixed number of a state that is there
abbrev pub number_of : {S : Type 0} → (S → ℕ) → Option S → ℕ
number_of number (Some x) = number x
number_of number _ = 0

-- the history of a state that is there
abbrev pub history_of : {S N : Type 0} → (S → List N) → Option S → List N
history_of history (Some x) = history x
history_of history _ = []

module _ {S N : Type 0} where
  -- the seat has found its turn, and holds the slot with nothing in it
  abbrev pub HasTurn : Me (Option S) (View N) → Type 0
  HasTurn m = (t : ℕ) × (m.0.role ≡ Turns t) × (m.0.other ≡ nothing) × (m.1 ≡ (0, None) ∷ [])

  -- what the pass knows while it holds the turn
  abbrev pub known_in : Held S N → Known N
  known_in h = h.seat.me.0.known

  abbrev pub seen_in : Held S N → List N
  seen_in h = (known_in h).seen

  abbrev pub own_in : Held S N → List ℕ
  own_in h = (known_in h).own

  -- the turn that is held
  abbrev pub turn_of : Held S N → Turn S N
  turn_of h = h.turn.now

  -- the state that is lent
  abbrev pub state_in : Held S N → Option S
  state_in h = h.state

  -- it is lent to this pass, which is the value behind this reference
  abbrev pub IsLentTo : MutBor (Pass N) → Held S N → Type 0
  IsLentTo p h = h.pass.ghost_name ≡ p.ghost_name

  -- it is lent to the same pass still
  abbrev pub IsLentOn : Held S N → Held S N → Type 0
  IsLentOn h i = i.pass.ghost_name ≡ h.pass.ghost_name

  -- its seat is the pass's
  abbrev pub IsSeatOf : Pass N → Held S N → Type 0
  IsSeatOf p h = (h.seat.id ≡ p.badge.id) × (h.seat.me.0.parts ≡ (view_by p).parts)

  -- its seat is the same still
  abbrev pub IsSeatOn : Held S N → Held S N → Type 0
  IsSeatOn h i = (i.seat.id ≡ h.seat.id) × (i.seat.me.0.parts ≡ h.seat.me.0.parts)

  -- the pass once the state was given back: idle, with the same seat, and it knows what it knew in the hold
  abbrev pub IsGivenBack : Held S N → Pass N → Type 0
  IsGivenBack h p = (p.badge.views ≡ record h.seat.me.0 { role = Idle } ∷ []) × (p.badge.table_id ≡ h.seat.table_id) × (p.badge.id ≡ h.seat.id)

module _ {S N : Type 0} (number : S → ℕ) where
  -- its pass has the turn and the state, and its count is the length of what the pass has seen
  abbrev pub IsHolding : Held S N → Type 0
  IsHolding h =
      IsSome h.state × (h.seat.table_id ≡ h.turn.now.table.shared.table_id) × HasTurn h.seat.me × (h.seat.me.0.number ≡ fixed_number number h.turn.now)
      × (0 < h.seat.me.0.parts) × (h.count ≡ length (seen_in h))

  -- the fixed number of the state that is lent
  abbrev pub number_in : Held S N → ℕ
  number_in h = number_of number h.state

module _ {S N : Type 0} (history : S → List N) where
  -- the history of the state that is lent
  abbrev pub history_in : Held S N → List N
  history_in h = history_of history h.state

  -- that history is what the pass has seen and one entry more
  abbrev pub AddsOne : Held S N → Type 0
  AddsOne h = (e : N) × (history_in h ≡ seen_in h ++ e ∷ [])

  -- the root of its first entry that the pass has not seen is its own place or a place of the pass's own
  abbrev pub AddsOwn : (List N → ℕ → ℕ) → Held S N → Type 0
  AddsOwn root h = Belongs root (own_in h) (history_in h) (length (seen_in h))

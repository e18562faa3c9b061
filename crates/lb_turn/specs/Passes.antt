-- What contracts say of a pass and of the chief. Callers keep these facts from call to call.
use Rattle.std.specs.Prelude.{◌≡◌, ℕ, ◌+◌, ◌<◌, List, [], ◌∷◌}
use Rattle.lb_turn.specs.declared.rule.Role.TheVariants.{Idle}
use Rattle.lb_turn.specs.declared.rule.Known.{Known}
use Rattle.lb_turn.specs.declared.rule.View.{View}
use Rattle.lb_turn.specs.declared.pass.Pass.{Pass}
use Rattle.lb_turn.specs.declared.chief.Chief.{Chief}
use Rattle.lb_turn.specs.declared.turn.Turn.{Turn}
use Rattle.lb_turn.specs.Known.{nothing, all_parts}
use Rattle.lb_turn.specs.Rule.{spent_view}

module _ {N : Type 0} where
  -- a pass has one view, or none where its seat was moved out
  abbrev pub view_of : List (View N) → View N
  view_of [] = spent_view
  view_of (v ∷ vs) = v

  -- the view of a pass
  abbrev pub view_by : Pass N → View N
  view_by p = view_of p.badge.views

  -- what the pass knows: its seen list and its own places
  abbrev pub known_by : Pass N → Known N
  known_by p = (view_by p).known

  abbrev pub seen_by : Pass N → List N
  seen_by p = (known_by p).seen

  abbrev pub own_by : Pass N → List ℕ
  own_by p = (known_by p).own

  -- the chief's pass, and how many passes were split from it and not joined
  abbrev pub pass_of : Chief N → Pass N
  pass_of c = c.pass

  abbrev pub passes_of : Chief N → ℕ
  passes_of c = c.passes

  -- every part is with it: no other pass is live
  abbrev pub HasAllParts : Pass N → Type 0
  HasAllParts p = (view_by p).parts ≡ all_parts

  -- it is the same seat at the same turn
  abbrev pub IsSameSeat : Pass N → Pass N → Type 0
  IsSameSeat p q = (q.badge.table_id ≡ p.badge.table_id) × (q.badge.id ≡ p.badge.id) × ((view_by q).parts ≡ (view_by p).parts)

module _ {S N : Type 0} (number : S → ℕ) where
  -- the number of the state that the turn was opened with
  abbrev pub fixed_number : Turn S N → ℕ
  fixed_number turn = number turn.table.shared.key.value

  -- the pass is of this turn, and idle: it has no ticket, and one list
  abbrev pub IsIdle : Turn S N → Pass N → Type 0
  IsIdle turn p =
      (p.badge.views ≡ view_by p ∷ []) × ((view_by p).role ≡ Idle) × ((view_by p).other ≡ nothing) × (0 < (view_by p).parts)
      × ((view_by p).number ≡ fixed_number turn) × (p.badge.table_id ≡ turn.table.shared.table_id)

  -- it is one that was split from the chief
  abbrev pub IsSplit : Turn S N → Pass N → Type 0
  IsSplit turn p = IsIdle turn p × ((view_by p).parts ≡ 1)

  -- the chief is of this turn, its pass is idle and its own seat, and all parts but those of its passes are with it
  abbrev pub IsChief : Turn S N → Chief N → Type 0
  IsChief turn c = IsIdle turn c.pass × (c.pass.badge.id ≡ 0) × ((view_by c.pass).parts + c.passes ≡ all_parts)

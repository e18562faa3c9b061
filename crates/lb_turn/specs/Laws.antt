-- What the count of parts means in live views: the statement of the law `live_views`.
use Rattle.std.specs.Prelude.{◌≡◌, ℕ, ◌+◌, ◌<◌, ◌≤◌, List, [], ◌∷◌, nat_lt, if◌then◌else◌, Option}
use mathlib.Core.Option.{some}
use lib.ListN.{get_elem?}
use Rattle.atomic_table.specs.Table.{State}
use Rattle.lb_turn.specs.declared.rule.View.{View}
use Rattle.lb_turn.specs.Rule.{Turned}
use Rattle.lb_turn.specs.Known.{all_parts}

module _ {N : Type 0} where
  -- how many views are live
  abbrev pub live : List (View N) → ℕ
  live [] = 0
  live (v ∷ vs) = (if nat_lt 0 v.parts then 1 else 0) + live vs

module _ {S N : Type 0} (history : S → List N) (root : List N → ℕ → ℕ) (number : S → ℕ) where
  -- While the chief is there, the live views are the chief's and as many more as the chief's number says, which is at most 64.
  abbrev pub LiveViews : Type 0
  LiveViews = (key passes : ℕ) (s : State (Option S) (View N)) (chief : View N)
      → Turned history root number key s → get_elem? s.views 0 ≡ some chief → 0 < chief.parts → chief.parts + passes ≡ all_parts
      → (live s.views ≡ passes + 1) × (passes ≤ 64)

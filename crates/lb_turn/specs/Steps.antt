-- The kinds of step: what each tells the seat that takes it. `m` is the seat before, `found` the word as it was, `m'` the seat after.
use Rattle.std.specs.Prelude.{◌≡◌, ◌≢◌, ℕ, ◌+◌, ◌-◌, ◌≤◌, List, [], ◌∷◌, ◌++◌, length, Option, Some}
use mathlib.Core.Option.{some}
use Rattle.atomic_table.specs.Table.{Me, Step}
use Rattle.lb_turn.specs.declared.rule.Role.TheVariants.{Idle, Waits, Turns}
use Rattle.lb_turn.specs.declared.rule.View.{View}
use Rattle.lb_turn.specs.Known.{known, nothing, united, IsWithin, IsWhole, Grows, all_parts}

module _ {S N : Type 0} where
  -- 1. It draws a ticket: the number found.
  abbrev pub Draws : Step (Option S) → Me (Option S) (View N) → ℕ → Me (Option S) (View N) → Type 0
  Draws st m found m' = (m'.0 ≡ record m.0 { role = Waits found }) × (m'.1 ≡ m.1)

  -- 2. It looks at the ticket that is served. Where that is its own, it takes the state out of the slot, has seen the state's whole history, and keeps its own places, which lie in what it had seen. Where it has all parts, it had seen that history, and owns it all.
  abbrev pub Looks : (S → List N) → (List N → ℕ → ℕ) → (S → ℕ) → Step (Option S) → Me (Option S) (View N) → ℕ → Me (Option S) (View N) → Type 0
  Looks history root number st m found m' =
      (t : ℕ) → m.0.role ≡ Waits t → (found ≢ t → m' ≡ m)
      × (found ≡ t → (x : S) × (m'.1 ≡ (0, Some x) ∷ m.1) × (m'.0 ≡ record m.0 { role = Turns t; known = known (history x) m.0.known.own }) × Grows root m.0.known (history x) × (number x ≡ m.0.number) × IsWithin m.0.known × (m.0.parts ≡ all_parts → m.0.other ≡ nothing → IsWhole m.0.known (history x)))

  -- 3. It loads the count. While it has its turn, that is how many entries it has seen.
  abbrev pub Counts : Step (Option S) → Me (Option S) (View N) → ℕ → Me (Option S) (View N) → Type 0
  Counts st m found m' = (found ≡ length m.0.known.seen) × (m' ≡ m)

  -- After a join the longer of the two lists becomes what it has seen, and to each the other adds only places of others.
  abbrev pub Merges : (List N → ℕ → ℕ) → Step (Option S) → Me (Option S) (View N) → ℕ → Me (Option S) (View N) → Type 0
  Merges root st m found m' =
      (m' ≡ (record m.0 { known = united m.0.known m.0.other; other = nothing }, m.1))
      × Grows root m.0.known (united m.0.known m.0.other).seen × Grows root m.0.other (united m.0.known m.0.other).seen × (m.0.parts ≤ all_parts)
      × IsWithin (united m.0.known m.0.other)

  -- 4. It records the last entry of the announced state's history: it has seen that history, and the entry's place is its own.
  abbrev pub Records : (S → List N) → Step (Option S) → Me (Option S) (View N) → ℕ → Me (Option S) (View N) → Type 0
  Records history st m found m' = (x : S) → st.said ≡ some (Some x) → (m'.0 ≡ record m.0 { known = known (history x) (m.0.known.own ++ length m.0.known.seen ∷ []) }) × (m'.1 ≡ m.1)

  -- 5. It passes the turn on, and the state is back in the slot.
  abbrev pub PassesOn : Step (Option S) → Me (Option S) (View N) → ℕ → Me (Option S) (View N) → Type 0
  PassesOn st m found m' = (m'.0 ≡ record m.0 { role = Idle }) × (m'.1 ≡ [])

module _ {N : Type 0} where
  -- 6. A seat is split: the new one has one of its parts, has seen what it has, and is given some of its own places. The first list has the own places that are kept, the second those that are given.
  abbrev pub kept_view : (List ℕ → List ℕ) → View N → View N
  kept_view kept v = record v { known = known v.known.seen (kept v.known.own); parts = v.parts - 1 }

  abbrev pub given_view : (List ℕ → List ℕ) → View N → View N
  given_view given v = record { role = Idle; known = known v.known.seen (given v.known.own); other = nothing; number = v.number; parts = 1 }

  -- 7. A seat is joined to another, which keeps both lists until its next load.
  abbrev pub joined_view : View N → View N → View N
  joined_view v w = record v { other = w.known; parts = v.parts + w.parts }

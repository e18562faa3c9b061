-- What a stamp is, said of the journal as a whole: one more than the last place that touches the key.
use Rattle.std.specs.Prelude.{ℕ, zero, suc, ◌≡◌, ◌+◌, ◌≤◌, ◌⊎◌, true, false, List, take, drop, slice_get, Some}
use Rattle.lb_base.specs.declared.key.Key.{Key}
use Rattle.lb_stmt.specs.declared.write.Stmt.{Stmt}
use Rattle.lb_cat.specs.declared.entry.Said.{Said}
use Rattle.lb_cat.specs.declared.entry.Entry.{Entry}
use Rattle.lb_cat.specs.declared.entry.Entry.TheVariants as entries
use Rattle.lb_cat.specs.Keys.{has_key}
use Rattle.lb_journal.specs.State.{State, step, after, is_there}
use Rattle.lb_journal.specs.Journal.{Speaks}
use Rattle.lb_journal.specs.Replay.{Runs, Replay}

-- As the journal leaves S, the entry at that place touches the key: it is a statement, the entries before it leave a state in which the
-- statement touches the key, and from what it leaves there the entries after it leave S.
pub record Touches (J : List Entry) (S : State) (k : Key) (at : ℕ) : Type 0 where
  pub state : State
  pub before : Replay (take at J) state
  pub said : Said
  pub there : slice_get J at ≡ Some (entries.Said said)
  pub stmt : Stmt
  pub speaks : Speaks said.text stmt
  pub touches : has_key k (step state said.user said.groups said.day stmt).touched ≡ true
  pub rest : Runs (at + 1) (after at state said.user said.groups said.day stmt) (drop (at + 1) J) S

-- The stamp of the key is that number: one more than the last place that touches the key, which is there; or 0, where the key is not
-- there or no place touches it.
abbrev pub IsStamp : List Entry → State → Key → ℕ → Type 0
IsStamp J S k zero = (is_there S.cat S.tables k ≡ false) ⊎ ((at : ℕ) → Touches J S k at → ⊥)
IsStamp J S k (suc last) = (is_there S.cat S.tables k ≡ true) × Touches J S k last × ((at : ℕ) → Touches J S k at → at ≤ last)

-- the stamp that the state holds is that number
abbrev pub StampsAreLastTouches : Type 0
StampsAreLastTouches = (J : List Entry) (S : State) (k : Key) → Replay J S → IsStamp J S k (S.stamp k)

-- and no other number is
abbrev pub HasOneStamp : Type 0
HasOneStamp = (J : List Entry) (S : State) (k : Key) (n : ℕ) → Replay J S → IsStamp J S k n → n ≡ S.stamp k

-- What a journal leaves, and the reply at a place of it.
use Rattle.std.specs.Prelude.{ℕ, ◌≡◌, ◌+◌, List, [], ◌∷◌, take, slice_get, Some}
use Rattle.lb_stmt.specs.declared.write.Stmt.{Stmt}
use Rattle.lb_cat.specs.declared.entry.Entry.{Entry}
use Rattle.lb_cat.specs.declared.entry.Entry.TheVariants as entries
use Rattle.lb_cat.specs.declared.reply.Reply.{Reply}
use Rattle.lb_journal.specs.State.{State, first, step, after}
use Rattle.lb_journal.specs.Journal.{Speaks}

-- from S, the entry at that place leaves T
abbrev pub Steps : ℕ → State → Entry → State → Type 0
Steps at S (entries.Open user groups) T = T ≡ S
Steps at S (entries.Said d) T = (s : Stmt) × Speaks d.text s × (T ≡ after at S d.user d.groups d.day s)

-- what the entry answers from S
abbrev pub Replies : State → Entry → Reply → Type 0
Replies S (entries.Open user groups) r = ⊥
Replies S (entries.Said d) r = (s : Stmt) × Speaks d.text s × (r ≡ (step S d.user d.groups d.day s).reply)

-- from S at that place, the entries leave T
abbrev pub Runs : ℕ → State → List Entry → State → Type 0
Runs at S [] T = T ≡ S
Runs at S (e ∷ es) T = (U : State) × Steps at S e U × Runs (at + 1) U es T

-- what the journal leaves
abbrev pub Replay : List Entry → State → Type 0
Replay J T = Runs 0 first J T

-- the reply at place k: that of the entry there, from what the entries before it leave
pub record Rep (J : List Entry) (k : ℕ) (r : Reply) : Type 0 where
  pub state : State
  pub before : Replay (take k J) state
  pub entry : Entry
  pub there : slice_get J k ≡ Some entry
  pub gives : Replies state entry r

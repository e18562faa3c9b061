-- What the entry of a write or of a change leaves of the rows, for contracts that are not public.
use Rattle.std.specs.Prelude.{ℕ, ◌≡◌, ◌+◌, ◌<◌, ◌⊎◌, Bool, false, List, find, option_map, length, Option, None, Some, IsSome}
use Rattle.lb_base.specs.declared.key.Key.{Key}
use Rattle.lb_base.specs.declared.key.Key.TheVariants as keys
use Rattle.lb_stmt.specs.declared.write.Stmt.{Stmt}
use Rattle.lb_cat.specs.Credentials.{cred}
use Rattle.lb_cat.specs.declared.entry.Said.{Said}
use Rattle.lb_cat.specs.Keys.{has_key}
use Rattle.lb_cat.specs.Stamps.{Kept, bare}
use Rattle.lb_rows.specs.Lists.{without}
use Rattle.lb_rows.specs.Stamped.{Stamped, rows_only}
use Rattle.lb_rows.specs.Tables.{Version, is_version}
use Rattle.lb_answer.specs.Answer.{Answered}
use Rattle.lb_journal.specs.Journal.{Speaks}
use Rattle.lb_journal.specs.Rules.{answered_to}
use Rattle.lb_journal.specs.State.{State, after, step}
use Rattle.lb_changed.specs.declared.changed.Changed.{Changed as Made}
use Rattle.std.specs.Arc.{arc_value}
use Rattle.lb_journal.specs.Told.{is_change}
use Rattle.lb_book.specs.Grown.{put_stamped}
use Rattle.lb_book.specs.Stands.{IsKept}

-- what a query or a write is answered over catalogue and rows
abbrev pub given_to : Kept → List Stamped → Said → Stmt → Answered
given_to K tables d s = answered_to (bare K) (cred (bare K) d.user d.groups) (rows_only tables) d.day s

-- these are the rows that the write of that text leaves
abbrev pub IsWritten : Kept → List Stamped → Said → Option Version → Type 0
IsWritten K tables d table = (s : Stmt) × Speaks d.text s × (is_change s ≡ false) × (table ≡ (given_to K tables d s).table)

-- the rows of a table are touched
abbrev pub is_touched_in : List Key → Stamped → Bool
is_touched_in touched s = has_key (keys.Rows s.version.name) touched

-- the rows after a change: the new version has this stamp; without one, rows that are touched are gone
abbrev pub left_stamped : ℕ → Option Version → List Key → List Stamped → List Stamped
left_stamped stamp None touched tables = without (is_touched_in touched) tables
left_stamped stamp (Some v) touched tables = put_stamped stamp (Some v) tables

-- there is room for the version
abbrev pub HasRoom : Option Version → List Stamped → Type 0
HasRoom None tables = Unit {0}
HasRoom (Some v) tables = IsSome (find (is_version v.name) (rows_only tables)) ⊎ (length tables < 64)

-- the new catalogue and the new rows are what the statement of that text, as the entry at that place, leaves of the old ones
abbrev pub LeavesKept : ℕ → Kept → List Stamped → Said → Kept → List Stamped → Type 0
LeavesKept at K tables d L left = (s : Stmt) × Speaks d.text s × ((S : State) → IsKept K tables S → IsKept L left (after at S d.user d.groups d.day s))

-- What the change of that statement, as the entry at that place, leaves in the program, of catalogue and rows before it, and its reply, whatever
-- state these are of.
pub record IsTold (at : ℕ) (K : Kept) (tables : List Stamped) (d : Said) (s : Stmt) (m : Made) : Type 0 where
  pub leaves : (S : State) → IsKept K tables S → IsKept m.catalog (left_stamped (at + 1) (option_map arc_value m.table) m.touched tables) (after at S d.user d.groups d.day s)
  pub answers : (S : State) → IsKept K tables S → m.reply ≡ (step S d.user d.groups d.day s).reply

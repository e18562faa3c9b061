-- The journal of a run with what stands after it, and a session of it.
use Rattle.std.specs.Prelude.{ℕ, ◌≡◌, ◌≤◌, ◌<◌, ◌^◌, List, [], ◌∷◌, ◌++◌, length, Some}
use Rattle.lb_cat.specs.declared.entry.Entry.{Entry}
use Rattle.lb_cat.specs.declared.entry.Entry.TheVariants as entries
use Rattle.lb_model.specs.Step.{State}
use Rattle.lb_model.specs.Journal.{IsMade, opened_by, said_by, opens}
use Rattle.lb_model.specs.Replay.{Replay}
use Rattle.lb_refr.specs.Stored.{Stored}
use Rattle.lb_front.specs.declared.book.Session.{Session}
use Rattle.lb_front.specs.declared.stop.Stop.{Stop}
use Rattle.lb_front.specs.declared.stop.Stop.TheVariants as stops

-- the journal is well made and has at most so many entries, and the catalogue and the rows that stand are those that it leaves
pub record Stands (J : List Entry) (limit : ℕ) (stored : Stored) : Type 0 where
  pub made : IsMade J
  pub within : length J ≤ limit
  pub bounded : limit < 2 ^ 32
  pub state : State
  pub replay : Replay J state
  pub cat : state.cat ≡ stored.cat
  pub tables : state.tables ≡ stored.tables

-- the session was opened in the journal by its user with its groups, and has as many statements there as it counts
pub record IsSessionOf (J : List Entry) (s : Session) : Type 0 where
  pub opened : opened_by J s.number ≡ Some (s.user, s.groups)
  pub counted : s.said ≡ said_by J s.number

-- the session was opened now: its Open is the one entry more, and its number counts the sessions before it
pub record IsOpened (J K : List Entry) (user : List ℕ) (groups : List (List ℕ)) (s : Session) : Type 0 where
  pub grown : K ≡ J ++ entries.Open user groups ∷ []
  pub place : s.place ≡ length J
  pub number : s.number ≡ opens J
  pub of_user : s.user ≡ user
  pub of_groups : s.groups ≡ groups

-- why a session was not opened: memory was refused, or the journal has as many entries as it may have
abbrev pub IsOpenRefused : List Entry → ℕ → Stop → Type 0
IsOpenRefused J limit stops.NoMemory = Unit {0}
IsOpenRefused J limit (stops.JournalFull n) = (n ≡ limit) × (length J ≡ limit)
IsOpenRefused J limit _ = ⊥

-- What the sections of a script are told of one journal.
use Rattle.std.specs.Prelude.{ℕ, ℤ, ◌≡◌, ◌⊎◌, ◌+◌, ◌≤◌, Bool, List, [], ◌∷◌, ◌++◌, length, take, slice_get, filter_map, flat_map, Some, None}
use Rattle.std.specs.List.{range_with_len}
use Rattle.lb_stmt.specs.declared.write.Stmt.{Stmt}
use Rattle.lb_tok.specs.Syntax.{IsRepeatable, IsSyntaxAt}
use Rattle.lb_cat.specs.Catalog.{Cat}
use Rattle.lb_cat.specs.declared.refusal.Refusal.TheVariants as refusals
use Rattle.lb_cat.specs.declared.reply.Reply.{Reply}
use Rattle.lb_cat.specs.declared.reply.Reply.TheVariants as replies
use Rattle.lb_cat.specs.declared.entry.Entry.{Entry}
use Rattle.lb_cat.specs.declared.entry.Entry.TheVariants as entries
use Rattle.lb_cat.specs.declared.answer.Answer.{Answer}
use Rattle.lb_cat.specs.declared.answer.Mark.TheVariants as marks
use Rattle.lb_journal.specs.Journal.{IsMade, mine, opens}
use Rattle.lb_journal.specs.Told.{Asked, Told}

-- a section as it is written: who opens its session, and the texts of its statements
pub record Section : Type 0 where
  pub user : List ℕ
  pub groups : List (List ℕ)
  pub texts : List (List ℕ)

-- how its session was opened: at a place of the journal, with a number; or not, since the journal was full
pub data SessionOpening : Type 0 where
  opened : ℕ → ℕ → SessionOpening
  full : SessionOpening

-- what came of a section: how its session was opened, the days that its statements took, and their answers
pub record SectionResult : Type 0 where
  pub opening : SessionOpening
  pub days : List ℤ
  pub answers : List Answer

-- the statements with their days, one day for each
pub data AreAsked : List (List ℕ) → List ℤ → List Asked → Type 0 where
  none : AreAsked [] [] []
  more : {text : List ℕ} {day : ℤ} {texts : List (List ℕ)} {days : List ℤ} {qs : List Asked} → AreAsked texts days qs → AreAsked (text ∷ texts) (day ∷ days) (record { text = text; day = day } ∷ qs)

-- the answer to a statement of a section without a session: out of memory, refused at a byte of its text, or the journal is full
abbrev pub IsShut : ℕ → List ℕ → Reply → Type 0
IsShut limit text reply =
    (reply ≡ replies.NoMemory)
    ⊎ ((byte : ℕ) × (reply ≡ replies.Refused (refusals.Syntax byte)) × IsSyntaxAt text byte)
    ⊎ ((reply ≡ replies.Refused (refusals.JournalFull limit)) × ((s : Stmt) × IsRepeatable text s))

-- each statement of such a section has such an answer, without place and mark
abbrev pub AreShut : ℕ → List (List ℕ) → List Answer → Type 0
AreShut limit [] [] = Unit {0}
AreShut limit (text ∷ texts) (a ∷ answers) = (a.place ≡ None) × (a.mark ≡ marks.Dash) × IsShut limit text a.reply × AreShut limit texts answers
AreShut limit _ _ = ⊥

module _ (built : Cat → Stmt → Bool) (J : List Entry) (limit : ℕ) where
  -- The section's Open stands at this place, and the session's number counts the Opens before it; its statements were told of the journal.
  pub record WasOpened (place number : ℕ) (s : Section) (days : List ℤ) (answers : List Answer) : Type 0 where
    pub there : slice_get J place ≡ Some (entries.Open s.user s.groups)
    pub counted : number ≡ opens (take place J)
    pub asked : List Asked
    pub are_asked : AreAsked s.texts days asked
    pub told : Told built J limit (place + 1) (mine J number) asked answers

  -- The journal has as many entries as it may have, so the session was not opened; no day was asked for.
  pub record WasNotOpened (s : Section) (days : List ℤ) (answers : List Answer) : Type 0 where
    pub full : length J ≡ limit
    pub none : days ≡ []
    pub shut : AreShut limit s.texts answers

  -- what the section is told
  abbrev pub IsTold : Section → SessionOpening → List ℤ → List Answer → Type 0
  IsTold s (opened place number) days answers = WasOpened place number s days answers
  IsTold s full days answers = WasNotOpened s days answers

  -- each section is told of the journal
  abbrev pub AreTold : List Section → List SectionResult → Type 0
  AreTold [] [] = Unit {0}
  AreTold (s ∷ ss) (o ∷ os) = IsTold s o.opening o.days o.answers × AreTold ss os
  AreTold _ _ = ⊥

-- ---- the journal of a run

-- the place of a section's Open
abbrev pub place_of : SessionOpening → List ℕ
place_of (opened place number) = place ∷ []
place_of full = []

-- the places that answers show, in order
abbrev pub places : List Answer → List ℕ
places answers = filter_map (λ a. a.place) answers

-- the places that the lines of a section show
abbrev pub places_in : SectionResult → List ℕ
places_in o = place_of o.opening ++ places o.answers

-- the places of the Opens in a journal, where the first entry has this place
abbrev pub open_places : ℕ → List Entry → List ℕ
open_places at [] = []
open_places at (entries.Open user groups ∷ es) = at ∷ open_places (at + 1) es
open_places at (entries.Said d ∷ es) = open_places (at + 1) es

-- There is one journal, whatever way the sessions interleave: it is well made, has at most so many entries, and each section is told of it; the
-- sessions that were opened are all its sessions, in the order of the sections. So it has no entry that no section shows.
pub record Journaled (built : Cat → Stmt → Bool) (limit : ℕ) (sections : List Section) (results : List SectionResult) : Type 0 where
  pub journal : List Entry
  pub made : IsMade journal
  pub within : length journal ≤ limit
  pub told : AreTold built journal limit sections results
  pub opens : flat_map (λ o. place_of o.opening) results ≡ open_places 0 journal

-- the sections were run one after the other: the places that their lines show count up from 0
pub record IsInOrder (results : List SectionResult) : Type 0 where
  pub counted : flat_map places_in results ≡ range_with_len 0 (length (flat_map places_in results))

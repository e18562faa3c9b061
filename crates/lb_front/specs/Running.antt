-- A run between two statements, and between two sections.
use Rattle.std.specs.Prelude.{ℕ, ℤ, ◌≡◌, ◌⊎◌, ◌+◌, ◌≤◌, List, [], ◌++◌, take, length, flat_map, Option, None}
use Rattle.std.specs.Io.KnownBytes.{Appends}
use Rattle.lb_wire.specs.Told.{AppendsPart, GrewBy}
use Rattle.lb_wire.specs.declared.status.Status.{Status}
use Rattle.lb_wire.specs.declared.status.Status.TheVariants as statuses
use Rattle.lb_cat.specs.declared.entry.Entry.{Entry}
use Rattle.lb_cat.specs.declared.answer.Answer.{Answer}
use Rattle.lb_cat.specs.declared.answer.Mark.TheVariants as marks
use Rattle.lb_model.specs.Journal.{IsMade, opens}
use Rattle.lb_model.specs.Told.{count_from}
use Rattle.lb_model.specs.Telling.{Telling, SectionJournaled, first_of}
use Rattle.lb_model.specs.Sections.{Section, opened, SectionResult, IsShut, AreShut, AreTold, places_in, section_text, out}
use Rattle.lb_model.specs.Out.{block_text, full_text, bad_script_text}
use Rattle.lb_front.specs.declared.book.Book.{Book}
use Rattle.lb_front.specs.declared.book.Session.{Session}
use Rattle.lb_front.specs.declared.output.Cut.{Cut}
use Rattle.lb_front.specs.declared.output.Cut.TheVariants as cuts
use Rattle.lb_front.specs.Booked.{Stands, IsSessionOf, IsOpened}
use Rattle.lb_front.specs.Headline.{Outside, RunWritten, RunPartWritten, days_of, outside_of}

-- the status of a run that was cut short
abbrev pub cut_status : Cut → Status
cut_status cuts.NoMemory = statuses.NoMemory
cut_status cuts.WriteFault = statuses.WriteFault

-- ---- a section

-- the section was run, with a day for each statement, and its text was written
pub record SectionWritten (J K : List Entry) (limit : ℕ) (s : Section) (o : Outside) : Type 0 where
  pub result : SectionResult
  pub ran : SectionJournaled J K limit s result
  pub clock : GrewBy o.given o.given_now result.days
  pub bytes : Appends o.written o.written_now (section_text limit s result)

-- the first statements of the section were run, and the first bytes of their text were written
pub record SectionPartWritten (J K : List Entry) (limit : ℕ) (s : Section) (o : Outside) : Type 0 where
  pub count : ℕ
  pub result : SectionResult
  pub ran : SectionJournaled J K limit (first_of count s) result
  pub clock : GrewBy o.given o.given_now result.days
  pub bytes : AppendsPart o.written o.written_now (section_text limit (first_of count s) result)

-- the section was not begun
pub record NotBegun (J K : List Entry) (o : Outside) : Type 0 where
  pub same : K ≡ J
  pub clock : GrewBy o.given o.given_now []
  pub bytes : Appends o.written o.written_now []

abbrev pub SectionCut : List Entry → List Entry → ℕ → Section → Outside → Type 0
SectionCut J K limit s o = SectionPartWritten J K limit s o ⊎ NotBegun J K o

-- the answer to a statement of a section without a session
abbrev pub IsShutAnswer : ℕ → List ℕ → Answer → Type 0
IsShutAnswer limit text a = (a.place ≡ None) × (a.mark ≡ marks.Dash) × IsShut limit text a.reply

-- the text of a section without a session
abbrev pub shut_text : ℕ → List Answer → List ℕ
shut_text limit answers = full_text limit ++ flat_map block_text answers

pub record ShutWritten (limit : ℕ) (texts : List (List ℕ)) (written written_now : Option (List ℕ)) : Type 0 where
  pub answers : List Answer
  pub shut : AreShut limit texts answers
  pub bytes : Appends written written_now (shut_text limit answers)

pub record ShutPartWritten (limit : ℕ) (texts : List (List ℕ)) (written written_now : Option (List ℕ)) : Type 0 where
  pub count : ℕ
  pub answers : List Answer
  pub shut : AreShut limit (take count texts) answers
  pub bytes : AppendsPart written written_now (shut_text limit answers)

-- what holds before each statement of a section without a session
pub record ShutLoops (limit : ℕ) (texts : List (List ℕ)) (written written_now : Option (List ℕ)) (faults faults_now : ℕ) : Type 0 where
  pub ran : ShutWritten limit texts written written_now
  pub later : faults ≤ faults_now

-- ---- between two statements of a session

abbrev pub session_section : Session → List (List ℕ) → Section
session_section s texts = record { user = s.user; groups = s.groups; texts = texts }

-- The session that was opened after the entries of I has answered these texts, and the text of that was written.
pub record SessionProgress (I J : List Entry) (limit : ℕ) (s : Session) (texts : List (List ℕ)) (o : Outside) : Type 0 where
  pub days : List ℤ
  pub answers : List Answer
  pub telling : Telling I J limit s.number s.user s.groups texts days answers
  pub clock : GrewBy o.given o.given_now days
  pub bytes : Appends o.written o.written_now (section_text limit (session_section s texts) (record { opening = opened s.place s.number; days = days; answers = answers }))

-- Of a session that was opened when the journal became J: wherever that was, its statements were run, and the text of its section was written;
-- or the first statements, and the first bytes of their text.
abbrev pub SessionWritten : List Entry → List Entry → ℕ → Session → List (List ℕ) → Outside → Type 0
SessionWritten J K limit s texts o = (I : List Entry) → IsOpened I J s.user s.groups s → IsMade I → SectionWritten I K limit (session_section s texts) o

abbrev pub SessionPartWritten : List Entry → List Entry → ℕ → Session → List (List ℕ) → Outside → Type 0
SessionPartWritten J K limit s texts o = (I : List Entry) → IsOpened I J s.user s.groups s → IsMade I → SectionPartWritten I K limit (session_section s texts) o

-- now it is the same session, but for the count of its statements
pub record IsSame (s now : Session) : Type 0 where
  pub place : now.place ≡ s.place
  pub number : now.number ≡ s.number
  pub user : now.user ≡ s.user
  pub groups : now.groups ≡ s.groups

-- What holds before each statement of a session, of the book and the session at first and now: how far it is, wherever it was opened, and that
-- the book stands.
pub record SessionLoops (first book : Book) (s now : Session) (texts : List (List ℕ)) (o : Outside) (faults faults_now : ℕ) : Type 0 where
  pub progress : (I : List Entry) → IsOpened I first.journal.items s.user s.groups s → IsMade I → SessionProgress I book.journal.items book.limit s texts o
  pub stands : Stands book.journal.items book.limit book.store
  pub session_of : IsSessionOf book.journal.items now
  pub same : IsSame s now
  pub same_opens : opens book.journal.items ≡ opens first.journal.items
  pub same_limit : book.limit ≡ first.limit
  pub same_sessions : book.sessions ≡ first.sessions
  pub later : faults ≤ faults_now

-- ---- between two sections

-- these sections were run, and their text was written
pub record Progress (J : List Entry) (limit : ℕ) (done : List Section) (o : Outside) : Type 0 where
  pub results : List SectionResult
  pub told : AreTold J limit 0 done results
  pub counted : flat_map places_in results ≡ count_from 0 (length J)
  pub clock : GrewBy o.given o.given_now (days_of results)
  pub bytes : Appends o.written o.written_now (out limit done results)

-- wherever a run stands at these entries, these sections are run after those before
abbrev pub WrittenAfter : List Entry → List Entry → ℕ → List Section → Outside → Type 0
WrittenAfter J K limit sections o =
    (done : List Section) (given : Option (List ℤ)) (written : Option (List ℕ)) → Progress J limit done (outside_of given o.given written o.written)
    → Progress K limit (done ++ sections) (outside_of given o.given_now written o.written_now)

-- wherever a run stands at these entries, it is cut short in these sections, also with others after them
abbrev pub CutAfter : List Entry → ℕ → List Section → Outside → Type 0
CutAfter J limit sections o =
    (done behind : List Section) (given : Option (List ℤ)) (written : Option (List ℕ)) → Progress J limit done (outside_of given o.given written o.written)
    → RunPartWritten limit (done ++ (sections ++ behind)) (outside_of given o.given_now written o.written_now)

-- What holds before each section, of the book at first and now: how far the run is, and that the book stands.
pub record SectionsLoop (first book : Book) (ran : List Section) (o : Outside) (faults faults_now : ℕ) : Type 0 where
  pub ran_after : WrittenAfter first.journal.items book.journal.items book.limit ran o
  pub stands : Stands book.journal.items book.limit book.store
  pub counted : book.sessions ≡ opens book.journal.items
  pub same_limit : book.limit ≡ first.limit
  pub later : faults ≤ faults_now

-- how a run of these sections may end
abbrev pub ScriptEnds : Status → ℕ → List Section → Outside → Type 0
ScriptEnds statuses.Done limit sections o = RunWritten limit sections o
ScriptEnds statuses.WriteFault limit sections o = RunPartWritten limit sections o
ScriptEnds statuses.NoMemory limit sections o = RunPartWritten limit sections o
ScriptEnds _ limit sections o = ⊥

-- how a run of a script may end whose form is broken at that line
abbrev pub BrokenEnds : Status → ℕ → Option (List ℕ) → Option (List ℕ) → Type 0
BrokenEnds (statuses.BadScript m) n written written_now = (m ≡ n) × AppendsPart written written_now (bad_script_text n)
BrokenEnds statuses.NoMemory n written written_now = Appends written written_now []
BrokenEnds _ n written written_now = ⊥

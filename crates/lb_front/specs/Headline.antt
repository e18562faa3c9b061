-- What a whole run promises, status by status. `Ends` is the clause of the top call; the rest of the file is what it
-- is made of.
use Rattle.std.specs.Prelude.{ℕ, ℤ, ◌≡◌, ◌⊎◌, List, [], flat_map, Option, Ok, Err}
use Rattle.std.specs.Io.KnownBytes.{Appends}
use Rattle.lb_wire.specs.Told.{Took, AppendsPart, GrewBy}
use Rattle.lb_wire.specs.Inputs.{WasRead, WasTooLong}
use Rattle.lb_wire.specs.declared.status.Status.{Status}
use Rattle.lb_wire.specs.declared.status.Status.TheVariants as statuses
use Rattle.lb_split.specs.declared.script.Script.{Script}
use Rattle.lb_split.specs.Scripts.{script_of}
use Rattle.lb_model.specs.Out.{bad_script_text}
use Rattle.lb_model.specs.Sections.{Section, SectionResult, Journaled, out, IsFront}
use Rattle.lb_front.specs.Scripted.{sections_in}

-- the journal of a run has at most so many entries
abbrev pub most_entries : ℕ
most_entries = 1048576

-- what a call found of the clock and of the sink, and what it left
pub record Outside : Type 0 where
  pub given : Option (List ℤ)
  pub given_now : Option (List ℤ)
  pub written : Option (List ℕ)
  pub written_now : Option (List ℕ)

-- what stood of the clock's days and the sink's bytes before a call, and stands after it
abbrev pub outside_of : Option (List ℤ) → Option (List ℤ) → Option (List ℕ) → Option (List ℕ) → Outside
outside_of given given_now written written_now = record { given = given; given_now = given_now; written = written; written_now = written_now }

-- nothing was written, and no day was asked for
pub record IsSilent (o : Outside) : Type 0 where
  pub days : GrewBy o.given o.given_now []
  pub bytes : Appends o.written o.written_now []

-- the days that the sections took, in order
abbrev pub days_of : List SectionResult → List ℤ
days_of results = flat_map (λ o. o.days) results

-- the whole run: every statement of every section was answered, and the text of the run was written
pub record RunWritten (limit : ℕ) (sections : List Section) (o : Outside) : Type 0 where
  pub results : List SectionResult
  pub journaled : Journaled limit sections results
  pub clock : GrewBy o.given o.given_now (days_of results)
  pub bytes : Appends o.written o.written_now (out limit sections results)

-- A run that was cut short: the first sections were run, of the last of them the first statements, and the first bytes of their text were written.
pub record RunPartWritten (limit : ℕ) (sections : List Section) (o : Outside) : Type 0 where
  pub front : List Section
  pub is_front : IsFront front sections
  pub results : List SectionResult
  pub journaled : Journaled limit front results
  pub clock : GrewBy o.given o.given_now (days_of results)
  pub bytes : AppendsPart o.written o.written_now (out limit front results)

-- the whole input was read, and is a script of these sections
pub record WasScript (left left_now : Option (List ℕ)) (sections : List Section) : Type 0 where
  pub input : List ℕ
  pub read : WasRead left left_now input
  pub script : Script
  pub form : script_of input ≡ Ok script
  pub same : sections_in input script ≡ sections

-- the whole input was read, and breaks the form of a script at that line
pub record WasBroken (left left_now : Option (List ℕ)) (n : ℕ) : Type 0 where
  pub input : List ℕ
  pub read : WasRead left left_now input
  pub form : script_of input ≡ Err n

-- no day was asked for, and the first bytes of that text were written
pub record IsWrittenPart (text : List ℕ) (o : Outside) : Type 0 where
  pub days : GrewBy o.given o.given_now []
  pub bytes : AppendsPart o.written o.written_now text

-- What each status says: of the source's bytes before and after, and of clock and sink.
abbrev pub Ends : Status → ℕ → Option (List ℕ) → Option (List ℕ) → Outside → Type 0
Ends statuses.Done limit left left_now o = (sections : List Section) × WasScript left left_now sections × RunWritten limit sections o
Ends statuses.WriteFault limit left left_now o = (sections : List Section) × WasScript left left_now sections × RunPartWritten limit sections o
Ends statuses.NoMemory limit left left_now o = IsSilent o ⊎ ((sections : List Section) × WasScript left left_now sections × RunPartWritten limit sections o)
Ends (statuses.BadScript n) limit left left_now o = WasBroken left left_now n × IsWrittenPart (bad_script_text n) o
Ends statuses.TooLong limit left left_now o = WasTooLong left left_now × IsSilent o
Ends statuses.ReadFault limit left left_now o = IsSilent o
Ends statuses.BadWords limit left left_now o = Took left left_now [] × IsSilent o
Ends _ limit left left_now o = ⊥

-- the run was whole, or memory was refused; or the input breaks the form of a script
abbrev pub IsAnswered : Status → Type 0
IsAnswered status = (status ≡ statuses.Done) ⊎ (status ≡ statuses.NoMemory) ⊎ ((n : ℕ) × (status ≡ statuses.BadScript n))

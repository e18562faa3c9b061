-- Reading the sections one after the other.
use Rattle.std.specs.Prelude.{ℕ, ◌≡◌, Bool, true, false, List, [], ◌∷◌, ◌++◌, Option, Some, None, Result, Ok, Err, ⊤}
use Rattle.lb_split.specs.Pieces.{pieces_from, resumed, IsSpan}
use Rattle.lb_split.specs.Scripts.{is_misplaced, line_of, section_by}
use Rattle.lb_split.specs.declared.piece.Piece.{Piece}
use Rattle.lb_split.specs.declared.piece.Piece.TheVariants as pieces
use Rattle.lb_split.specs.declared.header.Header.{Header}
use Rattle.lb_split.specs.declared.header.SectionKind.{SectionKind}
use Rattle.lb_split.specs.declared.header.SectionKind.TheVariants.{Setup, Session}
use Rattle.lb_split.specs.declared.script.Script.{Script}
use Rattle.lb_split.specs.declared.script.Section.{Section}
use Rattle.lb_split.specs.declared.script.ScriptFault.{ScriptFault}
use Rattle.lb_split.specs.declared.script.ScriptFault.TheVariants as faults

-- the pieces from a header on, if there is one
abbrev pub headed : List ℕ → Option (ℕ × ℕ) → List Piece
headed bytes None = []
headed bytes (Some span) = pieces.Header span.0 span.1 ∷ pieces_from bytes (resumed bytes (pieces.Header span.0 span.1))

-- the pieces from the next header on
abbrev pub from_header : List Piece → List Piece
from_header [] = []
from_header (pieces.Header from to ∷ ps) = pieces.Header from to ∷ ps
from_header (pieces.Statement from to ∷ ps) = from_header ps
from_header (pieces.Quit from to ∷ ps) = from_header ps
from_header (pieces.End ∷ ps) = from_header ps

-- the header has some of the bytes
abbrev pub IsNextWithin : List ℕ → Option (ℕ × ℕ) → Type 0
IsNextWithin bytes None = ⊤
IsNextWithin bytes (Some span) = IsSpan bytes span.0 span.1

abbrev pub empty_script : Script
empty_script = record { setup = None; sessions = [] }

-- a script with one section more after its others
abbrev pub added_by : SectionKind → Section → Script → Script
added_by Setup section script = record { setup = Some section; sessions = script.sessions }
added_by Session section script = record { setup = script.setup; sessions = script.sessions ++ section ∷ [] }

abbrev pub added : Script → Header → List (ℕ × ℕ) → Script
added script header statements = added_by header.kind (section_by header statements) script

-- what a reading of a header line answers: what it says, where that is right there, else the line on which it begins
abbrev pub HeaderAnswers : List ℕ → ℕ → Option Header → Bool → Result Header ScriptFault → Type 0
HeaderAnswers bytes from said first (Ok header) = (said ≡ Some header) × (is_misplaced first (Some header) ≡ false)
HeaderAnswers bytes from said first (Err (faults.BadScript line)) = (is_misplaced first said ≡ true) × (line ≡ line_of bytes from)
HeaderAnswers bytes from said first (Err faults.NoMemory) = ⊤

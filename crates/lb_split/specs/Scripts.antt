-- The form of a script, and its sections.
use Rattle.std.specs.Prelude.{ℕ, ◌+◌, ◌==◌, ◌&&◌, not, Bool, true, false, List, [], ◌∷◌, take, count_by, slice_range, Option, Some, None, Result, Ok, Err, ◌≡◌, ⊤, if◌then◌else◌}
use Rattle.lb_split.specs.Pieces.{pieces_of, start_of}
use Rattle.lb_split.specs.Headers.{header_of, is_setup}
use Rattle.lb_split.specs.declared.piece.Piece.{Piece}
use Rattle.lb_split.specs.declared.piece.Piece.TheVariants as pieces
use Rattle.lb_split.specs.declared.header.Header.{Header}
use Rattle.lb_split.specs.declared.header.SectionKind.{SectionKind}
use Rattle.lb_split.specs.declared.header.SectionKind.TheVariants.{Setup, Session}
use Rattle.lb_split.specs.declared.script.Script.{Script}
use Rattle.lb_split.specs.declared.script.Section.{Section}
use Rattle.lb_split.specs.declared.script.ScriptFault.{ScriptFault}
use Rattle.lb_split.specs.declared.script.ScriptFault.TheVariants as faults

-- what the header line from one offset to another says, unless it is malformed
abbrev pub header_at : List ℕ → ℕ → ℕ → Option Header
header_at bytes from to = header_of (slice_range bytes from to)

-- a malformed header, or a SETUP that doesn't come first
abbrev pub is_misplaced : Bool → Option Header → Bool
is_misplaced first None = true
is_misplaced first (Some header) = is_setup header.kind && not first

-- A piece breaks the form of a script: a statement or QUIT that comes first, before any header, a malformed header,
-- or a SETUP that doesn't come first.
abbrev pub breaks : List ℕ → Bool → Piece → Bool
breaks bytes first (pieces.Header from to) = is_misplaced first (header_at bytes from to)
breaks bytes first (pieces.Statement from to) = first
breaks bytes first (pieces.Quit from to) = first
breaks bytes first pieces.End = false

-- the first of the pieces that breaks the form
abbrev pub breaking : List ℕ → Bool → List Piece → Option Piece
breaking bytes first [] = None
breaking bytes first (p ∷ ps) = if breaks bytes first p then Some p else breaking bytes false ps

-- the line of an offset, counted from 1
abbrev pub line_of : List ℕ → ℕ → ℕ
line_of bytes at = count_by (λ b. b == 10) (take at bytes) + 1

-- the text between two offsets of the bytes
abbrev pub text_in : List ℕ → ℕ × ℕ → List ℕ
text_in bytes span = slice_range bytes span.0 span.1

-- the statements before the next header, each as the offset of its first byte and the offset after its last one
abbrev pub section_statements : List Piece → List (ℕ × ℕ)
section_statements [] = []
section_statements (pieces.Header from to ∷ ps) = []
section_statements (pieces.Statement from to ∷ ps) = (from, to) ∷ section_statements ps
section_statements (pieces.Quit from to ∷ ps) = section_statements ps
section_statements (pieces.End ∷ ps) = section_statements ps

-- a section before those of a script
abbrev pub with_section : SectionKind → Section → Script → Script
with_section Setup section script = record { setup = Some section; sessions = script.sessions }
with_section Session section script = record { setup = script.setup; sessions = section ∷ script.sessions }

abbrev pub section_by : Header → List (ℕ × ℕ) → Section
section_by header statements = record { user = header.user; groups = header.groups; statements = statements }

abbrev pub with_header : Option Header → List (ℕ × ℕ) → Script → Script
with_header None statements script = script
with_header (Some header) statements script = with_section header.kind (section_by header statements) script

-- the sections that the pieces make, one for each header
abbrev pub script_in : List ℕ → List Piece → Script
script_in bytes [] = record { setup = None; sessions = [] }
script_in bytes (pieces.Header from to ∷ ps) = with_header (header_at bytes from to) (section_statements ps) (script_in bytes ps)
script_in bytes (pieces.Statement from to ∷ ps) = script_in bytes ps
script_in bytes (pieces.Quit from to ∷ ps) = script_in bytes ps
script_in bytes (pieces.End ∷ ps) = script_in bytes ps

-- the sections, unless a piece breaks the form; then the line on which that piece begins
abbrev pub unless_broken : List ℕ → Option Piece → Script → Result Script ℕ
unless_broken bytes None script = Ok script
unless_broken bytes (Some p) script = Err (line_of bytes (start_of bytes p))

-- what these pieces of the bytes say: the sections, or the line that breaks the form first
abbrev pub script_by : List ℕ → List Piece → Result Script ℕ
script_by bytes ps = unless_broken bytes (breaking bytes true ps) (script_in bytes ps)

-- what the bytes of a script say
abbrev pub script_of : List ℕ → Result Script ℕ
script_of bytes = script_by bytes (pieces_of bytes)

-- the answer is just that, unless memory is refused
abbrev pub Answers : Result Script ℕ → Result Script ScriptFault → Type 0
Answers said (Ok script) = said ≡ Ok script
Answers said (Err (faults.BadScript line)) = said ≡ Err line
Answers said (Err faults.NoMemory) = ⊤

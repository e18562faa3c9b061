-- The pieces of a script, each with the offset of its first byte and the offset after its last one.
use Rattle.std.specs.Prelude.{ℕ, zero, suc, ◌≡◌, ◌+◌, ◌-◌, ◌≤◌, ◌<◌, ⊤, List, [], ◌∷◌, length, take, drop, Option, Some, None, min, if◌then◌else◌}
use Rattle.lb_split.specs.Lexing.{begins, gap_len, statement_len, is_blank, white_len, is_quit, line_len, next_line, next_header_line}
use Rattle.lb_split.specs.declared.piece.Piece.{Piece}
use Rattle.lb_split.specs.declared.piece.Piece.TheVariants as pieces
use Rattle.lb_split.specs.declared.scan.PieceKind.{PieceKind}
use Rattle.lb_split.specs.declared.scan.PieceKind.TheVariants as piece_kinds

-- the bytes of the statement that a text begins with, without its `;`
abbrev pub statement_of : List ℕ → List ℕ
statement_of text = take (statement_len text) text

-- What begins at the start of a statement: after white space and comments a `@` begins a header line;
-- else it is a statement, blank or QUIT or another one.
abbrev pub piece_kind : List ℕ → PieceKind
piece_kind text =
    if begins 64 (drop (gap_len text) text) then piece_kinds.Header
    else if is_blank (statement_of text) then piece_kinds.Blank
    else if is_quit (statement_of text) then piece_kinds.Quit
    else piece_kinds.Statement

-- Its piece, where the text stands at this offset. A header goes from its `@` to the line's end, a statement
-- from its first byte that isn't white space to its `;` or the end; a blank statement is no piece.
abbrev pub piece_at : PieceKind → ℕ → List ℕ → Option Piece
piece_at piece_kinds.Header at text = Some (pieces.Header (at + gap_len text) (at + gap_len text + line_len (drop (gap_len text) text)))
piece_at piece_kinds.Blank at text = None
piece_at piece_kinds.Quit at text = Some (pieces.Quit (at + white_len text) (at + statement_len text))
piece_at piece_kinds.Statement at text = Some (pieces.Statement (at + white_len text) (at + statement_len text))

-- How many bytes stand before what comes next: a header takes its line feed too, a statement its `;`,
-- and QUIT all up to the next line that begins with `@`.
abbrev pub taken : PieceKind → List ℕ → ℕ
taken piece_kinds.Header text = gap_len text + next_line (drop (gap_len text) text)
taken piece_kinds.Blank text = statement_len text + 1
taken piece_kinds.Quit text = statement_len text + next_header_line (drop (statement_len text) text)
taken piece_kinds.Statement text = statement_len text + 1

abbrev pub with_some : Option Piece → List Piece → List Piece
with_some None ps = ps
with_some (Some p) ps = p ∷ ps

-- The pieces of a text that stands at this offset, after so many bytes of it: those bytes are passed over, and
-- then one piece comes after the other.
abbrev pub pieces_in : List ℕ → ℕ → ℕ → List Piece
pieces_in [] at skip = []
pieces_in (b ∷ bs) at zero = with_some (piece_at (piece_kind (b ∷ bs)) at (b ∷ bs)) (pieces_in bs (at + 1) (taken (piece_kind (b ∷ bs)) (b ∷ bs) - 1))
pieces_in (b ∷ bs) at (suc skip) = pieces_in bs (at + 1) skip

-- the pieces of a script from this offset on, at which a statement starts
abbrev pub pieces_from : List ℕ → ℕ → List Piece
pieces_from bytes from = pieces_in bytes 0 from

-- the pieces of a script
abbrev pub pieces_of : List ℕ → List Piece
pieces_of bytes = pieces_from bytes 0

-- the first of the pieces, or the end
abbrev pub first_of : List Piece → Piece
first_of [] = pieces.End
first_of (p ∷ ps) = p

-- a piece before others; nothing comes after the end
abbrev pub before : Piece → List Piece → List Piece
before (pieces.Header from to) ps = pieces.Header from to ∷ ps
before (pieces.Statement from to) ps = pieces.Statement from to ∷ ps
before (pieces.Quit from to) ps = pieces.Quit from to ∷ ps
before pieces.End ps = []

-- The offset at which what comes after a piece starts: after the line of a header, after the `;` of a statement,
-- and for QUIT the next line that begins with `@`. Where nothing comes it is the number of bytes.
abbrev pub resumed : List ℕ → Piece → ℕ
resumed bytes (pieces.Header from to) = to + next_line (drop to bytes)
resumed bytes (pieces.Statement from to) = min (to + 1) (length bytes)
resumed bytes (pieces.Quit from to) = to + next_header_line (drop to bytes)
resumed bytes pieces.End = length bytes

-- the offset of a piece's first byte; that of the end is the number of bytes
abbrev pub start_of : List ℕ → Piece → ℕ
start_of bytes (pieces.Header from to) = from
start_of bytes (pieces.Statement from to) = from
start_of bytes (pieces.Quit from to) = from
start_of bytes pieces.End = length bytes

-- from one offset to the other stand some of the bytes
abbrev pub IsSpan : List ℕ → ℕ → ℕ → Type 0
IsSpan bytes from to = (from < to) × (to ≤ length bytes)

-- the piece has some of the bytes
abbrev pub IsWithin : List ℕ → Piece → Type 0
IsWithin bytes (pieces.Header from to) = IsSpan bytes from to
IsWithin bytes (pieces.Statement from to) = IsSpan bytes from to
IsWithin bytes (pieces.Quit from to) = IsSpan bytes from to
IsWithin bytes pieces.End = ⊤

-- the piece has ended: the `;` or the line's end that ends it stands in the bytes
abbrev pub HasEnded : List ℕ → Piece → Type 0
HasEnded bytes (pieces.Header from to) = to < length bytes
HasEnded bytes (pieces.Statement from to) = to < length bytes
HasEnded bytes (pieces.Quit from to) = to < length bytes
HasEnded bytes pieces.End = ⊥

-- what comes after the piece starts at the same offset in both inputs; after QUIT it does where the line that begins with `@`, up to which all
-- is passed over, stands in the first input
abbrev pub GoesOnThere : List ℕ → List ℕ → Piece → Type 0
GoesOnThere bytes longer (pieces.Header from to) = resumed longer (pieces.Header from to) ≡ resumed bytes (pieces.Header from to)
GoesOnThere bytes longer (pieces.Statement from to) = resumed longer (pieces.Statement from to) ≡ resumed bytes (pieces.Statement from to)
GoesOnThere bytes longer (pieces.Quit from to) = resumed bytes (pieces.Quit from to) < length bytes → resumed longer (pieces.Quit from to) ≡ resumed bytes (pieces.Quit from to)
GoesOnThere bytes longer pieces.End = ⊤

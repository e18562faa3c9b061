-- What is said of a text, and of the statements of a script.
use Rattle.std.specs.Prelude.{ℕ, ◌≡◌, List, [], ◌∷◌, ◌++◌, ◌⊎◌, codes, flat_map, map, take, Option}
use Rattle.std.specs.Fmt.{decimal}
use Rattle.std.specs.Io.KnownBytes.{Appends}
use Rattle.lb_wire.specs.Told.{AppendsPart}
use Rattle.lb_split.specs.Pieces.{pieces_of}
use Rattle.lb_split.specs.Scripts.{text_in}
use Rattle.lb_split.specs.declared.piece.Piece.{Piece}
use Rattle.lb_split.specs.declared.piece.Piece.TheVariants as pieces
use Rattle.lb_stmt.specs.declared.write.Stmt.{Stmt}
use Rattle.lb_tok.specs.Canonical.{canonical}
use Rattle.lb_tok.specs.Syntax.{IsRepeatable, IsSyntaxAt}
use Rattle.lbac_canonical.specs.declared.line.Line.{Line}
use Rattle.lbac_canonical.specs.declared.line.Line.TheVariants as lines

-- The text is that of a statement, and the line is the statement's canonical text, which can be read again; or the
-- text goes wrong at the byte that the line names, which is 4096 where the canonical text can't be read again.
abbrev pub IsLineOf : List ℕ → Line → Type 0
IsLineOf text (lines.Canonical told) = (s : Stmt) × IsRepeatable text s × (told ≡ canonical s)
IsLineOf text (lines.Syntax at) = IsSyntaxAt text at

-- the line as it is printed, without its end
abbrev pub line_text : Line → List ℕ
line_text (lines.Canonical told) = told
line_text (lines.Syntax at) = codes "SYNTAX " ++ decimal at

-- the line with its end
abbrev pub printed : Line → List ℕ
printed line = line_text line ++ 10 ∷ []

-- these are the bytes of the line of a text
abbrev pub IsPrinted : List ℕ → List ℕ → Type 0
IsPrinted text bytes = (line : Line) × IsLineOf text line × (bytes ≡ printed line)

-- a line for each text
abbrev pub AreLinesOf : List (List ℕ) → List Line → Type 0
AreLinesOf [] [] = Unit {0}
AreLinesOf (text ∷ texts) (line ∷ told) = IsLineOf text line × AreLinesOf texts told
AreLinesOf _ _ = ⊥

-- the statements among pieces, each as the offset of its first byte and the offset after its last one; headers and QUIT are none
abbrev pub all_statements : List Piece → List (ℕ × ℕ)
all_statements [] = []
all_statements (pieces.Header from to ∷ ps) = all_statements ps
all_statements (pieces.Statement from to ∷ ps) = (from, to) ∷ all_statements ps
all_statements (pieces.Quit from to ∷ ps) = all_statements ps
all_statements (pieces.End ∷ ps) = all_statements ps

-- the texts of a script's statements
abbrev pub texts_of : List ℕ → List (List ℕ)
texts_of script = map (text_in script) (all_statements (pieces_of script))

-- the line of the text was written
abbrev pub IsPut : List ℕ → Option (List ℕ) → Option (List ℕ) → Type 0
IsPut text before after = (line : Line) × IsLineOf text line × Appends before after (printed line)

-- nothing was written, or the first bytes of the line of the text
abbrev pub IsPutPart : List ℕ → Option (List ℕ) → Option (List ℕ) → Type 0
IsPutPart text before after = Appends before after [] ⊎ ((line : Line) × IsLineOf text line × AppendsPart before after (printed line))

-- the lines of the texts were written
pub record Printed (texts : List (List ℕ)) (before after : Option (List ℕ)) : Type 0 where
  pub told : List Line
  pub right : AreLinesOf texts told
  pub bytes : Appends before after (flat_map printed told)

-- the first bytes of the lines of some first texts were written
pub record PrintedPart (texts : List (List ℕ)) (before after : Option (List ℕ)) : Type 0 where
  pub count : ℕ
  pub told : List Line
  pub right : AreLinesOf (take count texts) told
  pub bytes : AppendsPart before after (flat_map printed told)

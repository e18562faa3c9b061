-- The loop over the pieces of a script keeps what the sections so far are.
use Rattle.std.proofs.Common.{Bool, true, false, ◌≡◌, ℕ, ◌+◌, ◌-◌, ◌<◌, ◌≤◌, List, [], ◌∷◌, ◌++◌, length, Option, Some, None, Ok, Err, refl, sym, ap, ◌∙◌, arith, append_assoc, append-nil}
use Rattle.std.specs.Prelude.{◌&&◌, not}
use Rattle.lb_split.specs.Pieces.{pieces_from, before, resumed}
use Rattle.lb_split.specs.Headers.{is_setup}
use Rattle.lb_split.specs.Scripts.{header_at, is_misplaced, breaks, breaking, line_of, section_statements, with_section, section_by, with_header, script_in, unless_broken, script_by, script_of}
use Rattle.lb_split.specs.Sections.{headed, from_header, empty_script, added_by, added}
use Rattle.lb_split.specs.declared.piece.Piece.{Piece}
use Rattle.lb_split.specs.declared.piece.Piece.TheVariants as pieces
use Rattle.lb_split.specs.declared.header.Header.{Header}
use Rattle.lb_split.specs.declared.header.SectionKind.{SectionKind}
use Rattle.lb_split.specs.declared.header.SectionKind.TheVariants.{Setup, Session}
use Rattle.lb_split.specs.declared.script.Script.{Script}
use Rattle.lb_split.specs.declared.script.Section.{Section}

abbrev pub or_some : Option Section → Option Section → Option Section
or_some None o = o
or_some (Some s) o = Some s

-- the sections of two parts of a script
abbrev pub joined : Script → Script → Script
joined s t = record { setup = or_some s.setup t.setup; sessions = s.sessions ++ t.sessions }

pub script_next : (bytes : List ℕ) (ps : List Piece) → script_in bytes (from_header ps) ≡ script_in bytes ps
script_next bytes [] = refl
script_next bytes (pieces.Header from to ∷ ps) = refl
script_next bytes (pieces.Statement from to ∷ ps) = script_next bytes ps
script_next bytes (pieces.Quit from to ∷ ps) = script_next bytes ps
script_next bytes (pieces.End ∷ ps) = script_next bytes ps

pub breaking_next : (bytes : List ℕ) (ps : List Piece) → breaking bytes false (from_header ps) ≡ breaking bytes false ps
breaking_next bytes [] = refl
breaking_next bytes (pieces.Header from to ∷ ps) = refl
breaking_next bytes (pieces.Statement from to ∷ ps) = breaking_next bytes ps
breaking_next bytes (pieces.Quit from to ∷ ps) = breaking_next bytes ps
breaking_next bytes (pieces.End ∷ ps) = breaking_next bytes ps

pub next_len : (ps : List Piece) → length (from_header ps) ≤ length ps
next_len [] = omega arith
next_len (pieces.Header from to ∷ ps) = omega arith
next_len (pieces.Statement from to ∷ ps) = omega (arith, next_len ps)
next_len (pieces.Quit from to ∷ ps) = omega (arith, next_len ps)
next_len (pieces.End ∷ ps) = omega (arith, next_len ps)

joined_by : (k : SectionKind) (x : Section) (s t : Script) → (is_setup k ≡ true → s.setup ≡ None) → joined s (with_section k x t) ≡ joined (added_by k x s) t
joined_by Setup x s t h =
    ap (λ (o : Option Section). let j : Script = record { setup = or_some o (Some x); sessions = s.sessions ++ t.sessions } in j) (h refl)
joined_by Session x s t h =
    ap (λ (l : List Section). let j : Script = record { setup = or_some s.setup t.setup; sessions = l } in j) (sym (append_assoc s.sessions (x ∷ []) t.sessions))

-- one turn: the header is right there, and its statements go up to the next header
breaking_turn : (bytes : List ℕ) (first : Bool) (p : Piece) (ps next : List Piece) → breaks bytes first p ≡ false → from_header ps ≡ next
    → breaking bytes first (p ∷ ps) ≡ breaking bytes false next
breaking_turn bytes first p ps next h e = rw h (sym (breaking_next bytes ps) ∙ ap (breaking bytes false) e)

pub turn_breaks : (bytes : List ℕ) (first : Bool) (span : ℕ × ℕ) (next : Option (ℕ × ℕ)) (h : Header) → header_at bytes span.0 span.1 ≡ Some h → is_misplaced first (Some h) ≡ false
    → from_header (pieces_from bytes (resumed bytes (pieces.Header span.0 span.1))) ≡ headed bytes next
    → breaking bytes first (headed bytes (Some span)) ≡ breaking bytes false (headed bytes next)
turn_breaks bytes first span next h said right e =
    breaking_turn bytes first (pieces.Header span.0 span.1) (pieces_from bytes (resumed bytes (pieces.Header span.0 span.1))) (headed bytes next) (ap (is_misplaced first) said ∙ right) e

setup_first : (k : Bool) (first : Bool) (s : Option Section) → (k && not first) ≡ false → (first ≡ true → s ≡ None) → k ≡ true → s ≡ None
setup_first true true s h f e = f refl
setup_first true false s h f e = absurd cc
setup_first false first s h f e = absurd cc

pub turn_joins : (bytes : List ℕ) (first : Bool) (span : ℕ × ℕ) (next : Option (ℕ × ℕ)) (h : Header) (statements : List (ℕ × ℕ)) (script : Script)
    → header_at bytes span.0 span.1 ≡ Some h → is_misplaced first (Some h) ≡ false → (first ≡ true → script.setup ≡ None)
    → statements ≡ section_statements (pieces_from bytes (resumed bytes (pieces.Header span.0 span.1)))
    → from_header (pieces_from bytes (resumed bytes (pieces.Header span.0 span.1))) ≡ headed bytes next
    → joined script (script_in bytes (headed bytes (Some span))) ≡ joined (added script h statements) (script_in bytes (headed bytes next))
turn_joins bytes first span next h statements script said right fresh es e =
    let rest : List Piece = pieces_from bytes (resumed bytes (pieces.Header span.0 span.1)) in
    let tail : script_in bytes (pieces_from bytes (resumed bytes (pieces.Header span.0 span.1))) ≡ script_in bytes (headed bytes next) =
    sym (script_next bytes (pieces_from bytes (resumed bytes (pieces.Header span.0 span.1)))) ∙ ap (script_in bytes) e in
    ap (λ (o : Option Header). joined script (with_header o (section_statements (pieces_from bytes (resumed bytes (pieces.Header span.0 span.1)))) (script_in bytes (pieces_from bytes (resumed bytes (pieces.Header span.0 span.1)))))) said
    ∙ ap (λ (st : List (ℕ × ℕ)). joined script (with_header (Some h) st (script_in bytes (pieces_from bytes (resumed bytes (pieces.Header span.0 span.1)))))) (sym es)
    ∙ ap (λ (t : Script). joined script (with_header (Some h) statements t)) tail
    ∙ joined_by h.kind (section_by h statements) script (script_in bytes (headed bytes next)) (setup_first (is_setup h.kind) first script.setup right fresh)

pub turn_shorter : (bytes : List ℕ) (span : ℕ × ℕ) (next : Option (ℕ × ℕ))
    → from_header (pieces_from bytes (resumed bytes (pieces.Header span.0 span.1))) ≡ headed bytes next
    → length (headed bytes next) < length (headed bytes (Some span))
turn_shorter bytes span next e =
    let le = next_len (pieces_from bytes (resumed bytes (pieces.Header span.0 span.1))) in
    let same : length (from_header (pieces_from bytes (resumed bytes (pieces.Header span.0 span.1)))) ≡ length (headed bytes next) = ap length e in
    omega (arith, le, same)

header_breaks : (bytes : List ℕ) (first : Bool) (from to : ℕ) (ps : List Piece) → is_misplaced first (header_at bytes from to) ≡ true
    → breaking bytes first (pieces.Header from to ∷ ps) ≡ Some (pieces.Header from to)
header_breaks bytes first from to ps h = rw h refl

pub broken_here : (bytes : List ℕ) (ps : List Piece) (first : Bool) (span : ℕ × ℕ) (line : ℕ) → breaking bytes true ps ≡ breaking bytes first (headed bytes (Some span))
    → is_misplaced first (header_at bytes span.0 span.1) ≡ true → line ≡ line_of bytes span.0 → script_by bytes ps ≡ Err line
broken_here bytes ps first span line e h l =
    ap (λ (o : Option Piece). unless_broken bytes o (script_in bytes ps)) (e ∙ header_breaks bytes first span.0 span.1 (pieces_from bytes (resumed bytes (pieces.Header span.0 span.1))) h) ∙ ap (λ (n : ℕ). Err n) (sym l)

joined_empty : (s : Script) → joined s empty_script ≡ s
joined_empty s =
    ap (λ (o : Option Section). let j : Script = record { setup = o; sessions = s.sessions ++ [] } in j) (or_none s.setup)
    ∙ ap (λ (l : List Section). let j : Script = record { setup = s.setup; sessions = l } in j) (append-nil s.sessions)
  where
    or_none : (o : Option Section) → or_some o None ≡ o
    or_none None = refl
    or_none (Some x) = refl

pub whole_here : (bytes : List ℕ) (ps : List Piece) (first : Bool) (script : Script) → breaking bytes true ps ≡ breaking bytes first (headed bytes None)
    → script_in bytes ps ≡ joined script (script_in bytes (headed bytes None)) → script_by bytes ps ≡ Ok script
whole_here bytes ps first script e j =
    ap (λ (o : Option Piece). unless_broken bytes o (script_in bytes ps)) e ∙ ap (λ (t : Script). Ok t) (j ∙ joined_empty script)

-- the first piece of all
pub none_at_all : (bytes : List ℕ) (ps : List Piece) → pieces_from bytes 0 ≡ before pieces.End ps → script_of bytes ≡ Ok empty_script
none_at_all bytes ps e = ap (script_by bytes) e

pub statement_first : (bytes : List ℕ) (ps : List Piece) (from to line : ℕ) → pieces_from bytes 0 ≡ before (pieces.Statement from to) ps → line ≡ line_of bytes from → script_of bytes ≡ Err line
statement_first bytes ps from to line e l = ap (script_by bytes) e ∙ ap (λ (n : ℕ). Err n) (sym l)

pub quit_first : (bytes : List ℕ) (ps : List Piece) (from to line : ℕ) → pieces_from bytes 0 ≡ before (pieces.Quit from to) ps → line ≡ line_of bytes from → script_of bytes ≡ Err line
quit_first bytes ps from to line e l = ap (script_by bytes) e ∙ ap (λ (n : ℕ). Err n) (sym l)

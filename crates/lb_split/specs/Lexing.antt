-- White space, comments, texts between quotes, and how far each goes.
use Rattle.std.specs.Prelude.{ℕ, ◌+◌, ◌==◌, ◌&&◌, ◌||◌, not, Bool, true, false, List, [], ◌∷◌, length, take, drop, codes, if◌then◌else◌}
use Rattle.std.specs.List.{prefix_len}
use Rattle.std.specs.Str.{bytes_eq}
use Rattle.lb_base.specs.Names.{folded}
use Rattle.lb_split.specs.declared.scan.Place.{Place}
use Rattle.lb_split.specs.declared.scan.Place.TheVariants.{Open, Quoted, Comment}

-- a space, a tab, a carriage return or a line feed
abbrev pub is_white : ℕ → Bool
is_white b = b == 32 || b == 9 || b == 13 || b == 10

-- the text begins with this byte
abbrev pub begins : ℕ → List ℕ → Bool
begins c [] = false
begins c (b ∷ bs) = b == c

-- Where the reading is after a byte, before the bytes that follow it. A `'` begins a text and a `'` ends it;
-- a `--` outside texts begins a comment and the line's end ends it.
abbrev pub behind : Place → ℕ → List ℕ → Place
behind Open b rest = if b == 39 then Quoted else if b == 45 && begins 45 rest then Comment else Open
behind Quoted b rest = if b == 39 then Open else Quoted
behind Comment b rest = if b == 10 then Open else Comment

-- how many bytes pass a test, up to the first that fails; the test is given the place after the byte, and the byte
abbrev pub passed_len : (Place → ℕ → Bool) → Place → List ℕ → ℕ
passed_len test place [] = 0
passed_len test place (b ∷ bs) = if test (behind place b bs) b then passed_len test (behind place b bs) bs + 1 else 0

-- white space outside texts, or a byte of a comment
abbrev pub is_gap : Place → ℕ → Bool
is_gap Open b = is_white b
is_gap Quoted b = false
is_gap Comment b = true

-- any byte but a `;` outside texts and comments
abbrev pub is_inside : Place → ℕ → Bool
is_inside Open b = not (b == 59)
is_inside Quoted b = true
is_inside Comment b = true

-- how many bytes of white space and comments a text begins with
abbrev pub gap_len : List ℕ → ℕ
gap_len text = passed_len is_gap Open text

-- how many bytes stand before the first `;` outside texts and comments, or in all
abbrev pub statement_len : List ℕ → ℕ
statement_len text = passed_len is_inside Open text

-- white space and comments alone
abbrev pub is_blank : List ℕ → Bool
is_blank text = gap_len text == length text

-- how many bytes of white space a text begins with
abbrev pub white_len : List ℕ → ℕ
white_len text = prefix_len is_white text

-- the word QUIT in any case, with white space and comments before and after it
abbrev pub is_quit : List ℕ → Bool
is_quit text = bytes_eq (folded (take 4 (drop (gap_len text) text))) (codes "QUIT") && is_blank (drop 4 (drop (gap_len text) text))

-- how many bytes a line has: those before its line feed, or before a carriage return and its line feed, or before the end
abbrev pub line_len : List ℕ → ℕ
line_len [] = 0
line_len (b ∷ bs) = if b == 10 || b == 13 && begins 10 bs then 0 else line_len bs + 1

-- how many bytes stand before the next line, or before the end
abbrev pub next_line : List ℕ → ℕ
next_line [] = 0
next_line (b ∷ bs) = if b == 10 then 1 else next_line bs + 1

-- how many bytes stand before the next line that begins with `@`, or before the end
abbrev pub next_header_line : List ℕ → ℕ
next_header_line [] = 0
next_header_line (b ∷ bs) = if b == 10 && begins 64 bs then 1 else next_header_line bs + 1

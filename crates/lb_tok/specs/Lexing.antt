-- The tokens of a text, as a relation between its bytes and its tokens.
use Rattle.std.specs.Prelude.{ℕ, ◌≡◌, ◌≤◌, ◌^◌, ◌+◌, ◌-◌, ◌*◌, Bool, true, false, ◌&&◌, ◌||◌, ◌==◌, not, List, [], ◌∷◌, ◌++◌, length, codes, Option, Some, None, if◌then◌else◌, ◌⊎◌}
use Rattle.std.specs.List.{list_all}
use Rattle.std.specs.Char.{is_ascii_digit}
use Rattle.lb_base.specs.Names.{is_name_byte, name_of}
use Rattle.lb_tok.specs.declared.kind.Kind.{Kind}
use Rattle.lb_tok.specs.declared.kind.Kind.TheVariants as kinds
use Rattle.lb_tok.specs.declared.token.Token.{Token}
use Rattle.lb_tok.specs.declared.token.Content.TheVariants as contents
use Rattle.lb_tok.specs.declared.token.Span.{Span}
use Rattle.lb_tok.specs.declared.token.Tokens.{Tokens}
use Rattle.lb_tok.specs.Kinds.{Kinds, only, from_to, names, has, kind_of, spelling}

-- ---- between tokens

-- a space, a tab, a carriage return or a line feed
abbrev pub is_blank : ℕ → Bool
is_blank b = b == 32 || b == 9 || b == 13 || b == 10

abbrev pub is_line : List ℕ → Bool
is_line = list_all (λ b. not (b == 10))

-- a blank, or a comment: `--`, the rest of its line, and the line feed
pub data Piece : Type 0 where
  a_blank : ℕ → Piece
  a_comment : List ℕ → Piece

-- the pieces one after the other; where nothing follows, a last comment needs no line feed
abbrev pub GapOf : List Piece → List ℕ → List ℕ → Type 0
GapOf [] gap rest = (gap ≡ []) ⊎ ((rest ≡ []) × (line : List ℕ) × (is_line line ≡ true) × (gap ≡ 45 ∷ 45 ∷ line))
GapOf (a_blank b ∷ ps) gap rest = (more : List ℕ) × (is_blank b ≡ true) × GapOf ps more rest × (gap ≡ b ∷ more)
GapOf (a_comment line ∷ ps) gap rest = (more : List ℕ) × (is_line line ≡ true) × GapOf ps more rest × (gap ≡ 45 ∷ 45 ∷ (line ++ 10 ∷ more))

-- what separates tokens, where rest follows
abbrev pub Gap : List ℕ → List ℕ → Type 0
Gap gap rest = (ps : List Piece) × GapOf ps gap rest

-- ---- tokens

-- each `'` twice
abbrev pub doubled : List ℕ → List ℕ
doubled [] = []
doubled (b ∷ bs) = if b == 39 then 39 ∷ 39 ∷ doubled bs else b ∷ doubled bs

-- the number that decimal digits write, after a number written before
abbrev pub decimal_on : ℕ → List ℕ → ℕ
decimal_on n [] = n
decimal_on n (b ∷ bs) = decimal_on (n * 10 + (b - 48)) bs

-- the token of a word: a keyword or a name, which it tells where it may be one
abbrev pub word_token : List ℕ → Token
word_token n = record { kind = kind_of n; content = if has names (kind_of n) then contents.Word n else contents.Nothing }

-- the token of an integer
abbrev pub number_token : ℕ → Token
number_token v = record { kind = kinds.Numeral; content = contents.Number v }

-- the token of a text between quotes
abbrev pub text_token : List ℕ → Token
text_token t = record { kind = kinds.Text; content = contents.Text t }

abbrev pub symbol_token : Kind → Token
symbol_token k = record { kind = k; content = contents.Nothing }

-- a name or keyword in any case, of at most 64 bytes
abbrev pub IsWord : List ℕ → Token → Type 0
IsWord front t = (n : List ℕ) × (name_of front ≡ Some n) × (t ≡ word_token n)

-- decimal digits that write a number of at most 2 ^ 63
abbrev pub IsNumeral : List ℕ → Token → Type 0
IsNumeral front t =
    (b : ℕ) × (bs : List ℕ) × (front ≡ b ∷ bs) × (list_all is_ascii_digit front ≡ true) × (decimal_on 0 front ≤ 2 ^ 63)
    × (t ≡ record { kind = kinds.Numeral; content = contents.Number (decimal_on 0 front) })

-- a text between quotes, with each quote in it twice
abbrev pub IsQuoted : List ℕ → Token → Type 0
IsQuoted front t = (text : List ℕ) × (front ≡ 39 ∷ doubled text ++ 39 ∷ []) × (t ≡ record { kind = kinds.Text; content = contents.Text text })

-- a symbol; `!=` is another way to write `<>`
abbrev pub IsSymbol : List ℕ → Token → Type 0
IsSymbol front t =
    ((k : Kind) × (has (from_to kinds.Open kinds.RightBrace) k ≡ true) × (front ≡ spelling k) × (t ≡ symbol_token k))
    ⊎ ((front ≡ codes "!=") × (t ≡ symbol_token kinds.NotEqual))

-- the bytes write the token
abbrev pub Writes : List ℕ → Token → Type 0
Writes front t = IsWord front t ⊎ IsNumeral front t ⊎ IsQuoted front t ⊎ IsSymbol front t

-- words, of which Word is any but a keyword
abbrev pub words : Kinds
words = from_to kinds.And kinds.Word

-- whether a token of this kind would go on with the byte: the longest one is meant, and `--` begins a comment
abbrev pub goes_on : Kind → ℕ → Bool
goes_on k b =
    if has words k then is_name_byte b
    else if has (only kinds.Numeral) k then is_ascii_digit b
    else if has (only kinds.Text) k then b == 39
    else if has (only kinds.Less) k then (b == 61 || b == 62)
    else if has (only kinds.Greater) k then b == 61
    else if has (only kinds.Minus) k then b == 45
    else false

abbrev pub begins : (ℕ → Bool) → List ℕ → Bool
begins p [] = false
begins p (b ∷ bs) = p b

-- a blank or a comment begins there
abbrev pub begins_gap : List ℕ → Bool
begins_gap [] = false
begins_gap (b ∷ bs) = is_blank b || (b == 45 && begins (λ c. c == 45) bs)

-- the token stands at the front of the bytes, and rest after it
abbrev pub StandsBefore : List ℕ → Token → List ℕ → Type 0
StandsBefore bs t rest = (front : List ℕ) × Writes front t × (begins (goes_on t.kind) rest ≡ false) × (bs ≡ front ++ rest)

-- ---- texts

abbrev pub is_quoteless : List ℕ → Bool
is_quoteless = list_all (λ b. not (b == 39))

-- the bytes from an offset on: gaps and tokens with their spans, up to the end or to a byte that begins no token
abbrev pub LexedFrom : ℕ → List ℕ → List Token → List Span → Option ℕ → Type 0
LexedFrom at bs [] [] None = Gap bs []
LexedFrom at bs [] [] (Some stop) =
    (gap : List ℕ) × (b : ℕ) × (rest : List ℕ) × Gap gap (b ∷ rest) × (bs ≡ gap ++ b ∷ rest) × (stop ≡ at + length gap)
    × (begins_gap (b ∷ rest) ≡ false) × ((t : Token) (after : List ℕ) → StandsBefore (b ∷ rest) t after → ⊥)
LexedFrom at bs [] (s ∷ ss) stop = ⊥
LexedFrom at bs (t ∷ ts) [] stop = ⊥
LexedFrom at bs (t ∷ ts) (s ∷ ss) stop =
    (gap : List ℕ) × (front : List ℕ) × (rest : List ℕ) × Gap gap (front ++ rest) × Writes front t × (begins (goes_on t.kind) rest ≡ false)
    × (bs ≡ gap ++ (front ++ rest)) × (s ≡ record { from = at + length gap; to = at + length gap + length front })
    × LexedFrom (at + length gap + length front) rest ts ss stop

-- the tokens of the text, before the first byte that begins none
abbrev pub Lexed : List ℕ → Tokens → Type 0
Lexed text found = LexedFrom 0 text found.tokens found.spans found.stop × (found.length ≡ length text)

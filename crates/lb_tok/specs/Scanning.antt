-- Scanning from left to right: what the lexer's inner functions give.
use Rattle.std.specs.Prelude.{ℕ, ◌≡◌, ◌^◌, ◌+◌, ◌-◌, ◌*◌, Bool, true, false, ◌&&◌, ◌==◌, List, [], ◌∷◌, ◌++◌, Option, Some, None, nat_le, if◌then◌else◌}
use Rattle.std.specs.Option.{option_and_then}
use Rattle.std.specs.Char.{is_ascii_digit, is_ascii_alphabetic}
use Rattle.lb_base.specs.Names.{is_name_byte, name_of}
use Rattle.lb_tok.specs.declared.kind.Kind.{Kind}
use Rattle.lb_tok.specs.declared.kind.Kind.TheVariants as kinds
use Rattle.lb_tok.specs.declared.token.Token.{Token}
use Rattle.lb_tok.specs.declared.token.Content.TheVariants as contents
use Rattle.lb_tok.specs.Lexing.{is_blank, begins, word_token, symbol_token, number_token, text_token}

-- what follows the blanks and comments in front, or, inside a comment, the rest of its line first
abbrev pub past_gap_in : Bool → List ℕ → List ℕ
past_gap_in c [] = []
past_gap_in true (b ∷ bs) = if b == 10 then past_gap_in false bs else past_gap_in true bs
past_gap_in false (b ∷ bs) = if is_blank b then past_gap_in false bs else if b == 45 && begins (λ c. c == 45) bs then past_gap_in true bs else b ∷ bs

unfoldable pub past_gap : List ℕ → List ℕ
past_gap = past_gap_in false

-- the bytes in front that pass the test, and the others
unfoldable pub split_run : (ℕ → Bool) → List ℕ → List ℕ × List ℕ
split_run p [] = ([], [])
split_run p (b ∷ bs) = if p b then (b ∷ (split_run p bs).0, (split_run p bs).1) else ([], b ∷ bs)

-- no byte that passes the test begins the text
abbrev pub NoneBegins : (ℕ → Bool) → List ℕ → Type 0
NoneBegins p all = (b : ℕ) (bs : List ℕ) → all ≡ b ∷ bs → p b ≡ false

-- the number that digits write after another one, at most 2 ^ 63
abbrev pub value_more : ℕ → ℕ → Option ℕ
value_more v b = if nat_le (v * 10 + (b - 48)) (2 ^ 63) then Some (v * 10 + (b - 48)) else None

unfoldable pub value_on : Option ℕ → List ℕ → Option ℕ
value_on v [] = v
value_on v (b ∷ bs) = value_on (option_and_then (λ n. value_more n b) v) bs

-- the text after an opening quote, and what follows its closing one
unfoldable pub quoted_from : List ℕ → List ℕ → Option (List ℕ × List ℕ)
quoted_from front [] = None
quoted_from front (b ∷ []) = if b == 39 then Some (front, []) else None
quoted_from front (b ∷ c ∷ bs) = if b == 39 then (if c == 39 then quoted_from (front ++ 39 ∷ []) bs else Some (front, c ∷ bs)) else quoted_from (front ++ b ∷ []) (c ∷ bs)

abbrev pub single : ℕ → Option Kind
single b =
    if b == 40 then Some kinds.Open else if b == 41 then Some kinds.Close else if b == 44 then Some kinds.Comma else if b == 46 then Some kinds.Dot
    else if b == 61 then Some kinds.Equal else if b == 60 then Some kinds.Less else if b == 62 then Some kinds.Greater
    else if b == 43 then Some kinds.Plus else if b == 45 then Some kinds.Minus else if b == 42 then Some kinds.Star
    else if b == 91 then Some kinds.LeftBracket else if b == 93 then Some kinds.RightBracket else if b == 123 then Some kinds.LeftBrace else if b == 125 then Some kinds.RightBrace
    else None

-- a symbol of two bytes
abbrev pub double : ℕ → ℕ → Option Kind
double b c =
    if b == 60 && c == 62 then Some kinds.NotEqual else if b == 33 && c == 61 then Some kinds.NotEqual
    else if b == 60 && c == 61 then Some kinds.AtMost else if b == 62 && c == 61 then Some kinds.AtLeast
    else if b == 124 && c == 124 then Some kinds.Bars else None

abbrev pub with_rest : List ℕ → Option Kind → Option (Token × List ℕ)
with_rest rest o = option_and_then (λ k. Some (symbol_token k, rest)) o

-- the first of two answers
abbrev pub or_else : {A : Type 0} → Option A → Option A → Option A
or_else None o = o
or_else (Some x) o = Some x

-- the symbol that begins with the byte, the longer one first
unfoldable pub symbol_from : ℕ → List ℕ → Option (Token × List ℕ)
symbol_from b [] = with_rest [] (single b)
symbol_from b (c ∷ bs) = or_else (with_rest bs (double b c)) (with_rest (c ∷ bs) (single b))

abbrev pub word_from : List ℕ × List ℕ → Option (Token × List ℕ)
word_from r = option_and_then (λ n. Some (word_token n, r.1)) (name_of r.0)

abbrev pub number_from : List ℕ × List ℕ → Option (Token × List ℕ)
number_from r = option_and_then (λ v. Some (number_token v, r.1)) (value_on (Some 0) r.0)

-- the token at the front, and what follows it
unfoldable pub token_from : List ℕ → Option (Token × List ℕ)
token_from [] = None
token_from (b ∷ bs) =
    if b == 39 then option_and_then (λ q. Some (text_token q.0, q.1)) (quoted_from [] bs)
    else if is_ascii_alphabetic b then word_from (split_run is_name_byte (b ∷ bs))
    else if is_ascii_digit b then number_from (split_run is_ascii_digit (b ∷ bs))
    else symbol_from b bs

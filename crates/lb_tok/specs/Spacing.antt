-- The text of tokens: which of them stand without a blank between them.
use Rattle.std.specs.Prelude.{ℕ, Bool, true, false, List, [], ◌∷◌, ◌++◌, if◌then◌else◌}
use Rattle.std.specs.List.{flat_map}
use Rattle.std.specs.Fmt.{decimal}
use Rattle.lb_tok.specs.declared.kind.Kind.{Kind}
use Rattle.lb_tok.specs.declared.kind.Kind.TheVariants as kinds
use Rattle.lb_tok.specs.declared.token.Token.{Token}
use Rattle.lb_tok.specs.declared.token.Content.{Content}
use Rattle.lb_tok.specs.declared.token.Content.TheVariants as contents
use Rattle.lb_tok.specs.Kinds.{Kinds, only, names, has, spelling}
use Rattle.lb_tok.specs.Lexing.{doubled, word_token, number_token, text_token}

-- ---- tokens

-- the token of a keyword or a symbol
abbrev pub keyword : Kind → Token
keyword k = record { kind = k; content = if has names k then contents.Word (spelling k) else contents.Nothing }

-- a text between quotes, with each quote in it twice
abbrev pub quoted : List ℕ → List ℕ
quoted text = 39 ∷ doubled text ++ 39 ∷ []

-- how a token is written: names in upper case as they are kept, numbers in decimal digits
abbrev pub written : Kind → Content → List ℕ
written k contents.Nothing = spelling k
written k (contents.Word n) = n
written k (contents.Number n) = decimal n
written k (contents.Text text) = quoted text

abbrev pub token_text : Token → List ℕ
token_text t = written t.kind t.content

-- ---- pieces

-- Tokens without a blank between them: mostly one token, but a function's name or VARCHAR and its `(`, names round a `.`,
-- and a minus and the digits of its literal are one piece. The tokens alone do not tell: `COUNT (` stands where COUNT is a table,
-- and `- 1` where the minus stands between two parts of a sum.
abbrev pub Piece : Type 0
Piece = List Token

-- a keyword or a symbol by itself
abbrev pub mark : Kind → Piece
mark k = keyword k ∷ []

-- a name
abbrev pub name : List ℕ → Piece
name n = word_token n ∷ []

-- name . name
abbrev pub dotted : List ℕ → List ℕ → Piece
dotted a b = word_token a ∷ keyword kinds.Dot ∷ word_token b ∷ []

-- name . *
abbrev pub all_of : List ℕ → Piece
all_of a = word_token a ∷ keyword kinds.Dot ∷ keyword kinds.Star ∷ []

-- the name of a function, or VARCHAR, with its `(`
abbrev pub opening : Kind → Piece
opening k = keyword k ∷ keyword kinds.Open ∷ []

abbrev pub literal : List ℕ → Piece
literal text = text_token text ∷ []

abbrev pub digits : ℕ → Piece
digits n = number_token n ∷ []

-- - digits
abbrev pub negative : ℕ → Piece
negative n = keyword kinds.Minus ∷ number_token n ∷ []

-- the tokens of pieces
abbrev pub tokens_in : List Piece → List Token
tokens_in ps = flat_map (λ p. p) ps

-- ---- blanks

-- `( [ {`, after which there is no blank
abbrev pub openings : Kinds
openings = only kinds.Open ++ only kinds.LeftBracket ++ only kinds.LeftBrace

-- `, ) ] }`, before which there is no blank
abbrev pub closings : Kinds
closings = only kinds.Comma ++ only kinds.Close ++ only kinds.RightBracket ++ only kinds.RightBrace

abbrev pub begins_closing : Piece → Bool
begins_closing [] = false
begins_closing (t ∷ ts) = has closings t.kind

abbrev pub ends_opening : Piece → Bool
ends_opening [] = false
ends_opening (t ∷ []) = has openings t.kind
ends_opening (t ∷ u ∷ ts) = ends_opening (u ∷ ts)

abbrev pub piece_text : Piece → List ℕ
piece_text p = flat_map token_text p

-- a text so far, and whether no blank follows it: at its beginning and after `( [ {`
pub record Layout : Type 0 where
  pub text : List ℕ
  pub fresh : Bool

abbrev pub start : Layout
start = record { text = []; fresh = true }

-- what stands between a text and the next piece
abbrev pub gap : Bool → Bool → List ℕ
gap true closing = []
gap false true = []
gap false false = 32 ∷ []

-- the text with one piece more
unfoldable pub lay : Layout → Piece → Layout
lay l p = record { text = l.text ++ (gap l.fresh (begins_closing p) ++ piece_text p); fresh = ends_opening p }

-- the text with the pieces after it, from left to right
abbrev pub laid : Layout → List Piece → Layout
laid l [] = l
laid l (p ∷ ps) = laid (lay l p) ps

-- the text of pieces
abbrev pub spaced : List Piece → List ℕ
spaced ps = (laid start ps).text

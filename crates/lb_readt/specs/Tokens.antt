-- Readers of single tokens, and of columns.
use Rattle.std.specs.Prelude.{ℕ, List, Option, ℤ}
use Rattle.lb_tree.specs.declared.query.Column.{Column}
use Rattle.lb_tree.specs.declared.query.Comparison.{Comparison}
use Rattle.lb_tok.specs.declared.kind.Kind.TheVariants as kinds
use Rattle.lb_tok.specs.declared.call.Call.{Call}
use Rattle.lb_tok.specs.Kinds.{only, from_to, names}
use Rattle.lb_tok.specs.Words.{name_in, text_in, int_in, negative_in, count_in, day_in, word_in, comparison_of}
use Rattle.lb_tok.specs.Grammar.{alone, of_table}
use Rattle.lb_readt.specs.Readers.{Reader, seq, give, one, pick, after, made}

-- a name: its bytes, in upper case
abbrev pub name_at : Reader (List ℕ)
name_at = one names (λ t. name_in t.content)

-- a text: its bytes
abbrev pub text_at : Reader (List ℕ)
text_at = one (only kinds.Text) (λ t. text_in t.content)

-- an integer below 2 ^ 63
abbrev pub int_at : Reader ℤ
int_at = one (only kinds.Numeral) (λ t. int_in t.content)

-- the digits after a minus: the negative of a number up to 2 ^ 63
abbrev pub negative_at : Reader ℤ
negative_at = one (only kinds.Numeral) (λ t. negative_in t.content)

-- an integer from 1 on, below 2 ^ 63
abbrev pub count_at : Reader ℤ
count_at = one (only kinds.Numeral) (λ t. count_in t.content)

-- a text that writes a day: the day's number
abbrev pub day_at : Reader ℤ
day_at = one (only kinds.Text) (λ t. day_in t.content)

-- a name, and the function that it names, if it names one
abbrev pub word_at : Reader (Option Call × List ℕ)
word_at = one names word_in

-- a comparison sign
abbrev pub comparison_at : Reader Comparison
comparison_at = one (from_to kinds.Equal kinds.AtLeast) (λ t. comparison_of t.kind)

-- after a name: the column of the table that it names, or the column that it names
unfoldable pub column_on : List ℕ → Reader Column
column_on n = pick (only kinds.Dot) (after kinds.Dot (made (of_table n) name_at)) (give (alone n))

-- name [. name]
unfoldable pub column_at : Reader Column
column_at = seq name_at column_on

-- The readers of single tokens and of columns are exact.
use Rattle.std.proofs.Common.{Bool, false, ℕ, List, [], refl, codes}
use Rattle.lb_tree.specs.declared.query.Column.{Column}
use Rattle.lb_base.specs.Days.{day_of}
use Rattle.lb_tok.specs.declared.kind.Kind.TheVariants as kinds
use Rattle.lb_tok.specs.declared.token.Token.{Token}
use Rattle.lb_tok.specs.declared.token.Content.TheVariants as contents
use Rattle.lb_tok.specs.Kinds.{only, from_to, names, has}
use Rattle.lb_tok.specs.Words.{word_in, comparison_of}
use Rattle.lb_tok.specs.Form.{Lang, Nothing, One, Either, After, Made}
use Rattle.lb_tok.specs.Grammar.{IsName, IsText, IsInt, IsNegative, IsCount, IsDayLiteral, alone, of_table, IsColumn, IsComparison}
use Rattle.lb_readt.specs.Tokens.{name_at, text_at, int_at, negative_at, count_at, day_at, word_at, comparison_at, column_on, column_at}
use Rattle.lb_readt.proofs.Sets.{has_only}
use Rattle.lb_readt.proofs.Combined.{IsReaderOf, plain_token, one_reads, give_reads, then_reads, pick_reads, wide, made_reads, after_reads}

abbrev pub name_token : Token
name_token = record { kind = kinds.Word; content = contents.Word (codes "A") }

pub name_reads : {b : Bool} {d : ℕ} → IsReaderOf b d name_at IsName false names []
unfolding has
name_reads = one_reads name_token refl refl refl

abbrev text_token : Token
text_token = record { kind = kinds.Text; content = contents.Text (codes "1970-01-01") }

abbrev number_token : Token
number_token = record { kind = kinds.Numeral; content = contents.Number 1 }

pub text_reads : {b : Bool} {d : ℕ} → IsReaderOf b d text_at IsText false (only kinds.Text) []
text_reads = one_reads text_token (has_only kinds.Text) refl refl

pub int_reads : {b : Bool} {d : ℕ} → IsReaderOf b d int_at IsInt false (only kinds.Numeral) []
int_reads = one_reads number_token (has_only kinds.Numeral) refl refl

pub negative_reads : {b : Bool} {d : ℕ} → IsReaderOf b d negative_at IsNegative false (only kinds.Numeral) []
negative_reads = one_reads number_token (has_only kinds.Numeral) refl refl

pub count_reads : {b : Bool} {d : ℕ} → IsReaderOf b d count_at IsCount false (only kinds.Numeral) []
count_reads = one_reads number_token (has_only kinds.Numeral) refl refl

pub day_reads : {b : Bool} {d : ℕ} → IsReaderOf b d day_at IsDayLiteral false (only kinds.Text) []
unfolding day_of
day_reads = one_reads text_token (has_only kinds.Text) refl refl

pub word_at_reads : {b : Bool} {d : ℕ} → IsReaderOf b d word_at (One names word_in) false names []
unfolding has
word_at_reads = one_reads name_token refl refl refl

pub comparison_reads : {b : Bool} {d : ℕ} → IsReaderOf b d comparison_at IsComparison false (from_to kinds.Equal kinds.AtLeast) []
unfolding has comparison_of
comparison_reads = one_reads (plain_token kinds.Equal) refl refl refl

-- columns

abbrev ColumnOn : List ℕ → Lang Column
ColumnOn n = Either (After kinds.Dot (Made (of_table n) IsName)) (Nothing (alone n))

pub column_reads : {b : Bool} {d : ℕ} → IsReaderOf b d column_at IsColumn false names (only kinds.Dot)
unfolding column_at column_on
column_reads = wide _ _ refl refl refl (then_reads name_reads (λ n. pick_reads (after_reads kinds.Dot refl (made_reads (of_table n) name_reads)) (give_reads (alone n)) refl) refl)

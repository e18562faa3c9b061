-- What single tokens say: the operator of a comparison, the aggregate or function that a word names, a literal's
-- value.
use Rattle.std.specs.Prelude.{ℕ, ◌^◌, ◌&&◌, List, Bool, true, false, Option, Some, None, ℤ, pos, neg_ℤ, nat_lt, nat_le, if◌then◌else◌}
use Rattle.std.specs.Option.{option_and_then}
use Rattle.lb_tree.specs.declared.query.Comparison.{Comparison}
use Rattle.lb_tree.specs.declared.query.Comparison.TheVariants as comparisons
use Rattle.lb_tree.specs.declared.query.Aggregate.TheVariants as aggregates
use Rattle.lb_tree.specs.declared.query.Function.TheVariants as functions
use Rattle.lb_base.specs.Days.{day_of}
use Rattle.lb_tok.specs.declared.kind.Kind.{Kind}
use Rattle.lb_tok.specs.declared.kind.Kind.TheVariants as kinds
use Rattle.lb_tok.specs.declared.call.Call.{Call}
use Rattle.lb_tok.specs.declared.call.Call.TheVariants as calls
use Rattle.lb_tok.specs.declared.token.Token.{Token}
use Rattle.lb_tok.specs.declared.token.Content.{Content}
use Rattle.lb_tok.specs.declared.token.Content.TheVariants as contents

abbrev pub name_in : Content → Option (List ℕ)
name_in (contents.Word n) = Some n
name_in c = None

abbrev pub text_in : Content → Option (List ℕ)
text_in (contents.Text t) = Some t
text_in c = None

abbrev pub number_in : Content → Option ℕ
number_in (contents.Number n) = Some n
number_in c = None

-- the integer that a numeral stands for, which 64 bits must hold
abbrev pub int_in : Content → Option ℤ
int_in c = option_and_then (λ n. if nat_lt n (2 ^ 63) then Some (pos n) else None) (number_in c)

-- the same after a minus
abbrev pub negative_in : Content → Option ℤ
negative_in c = option_and_then (λ n. if nat_le n (2 ^ 63) then Some (neg_ℤ (pos n)) else None) (number_in c)

-- the same from 1 on
abbrev pub count_in : Content → Option ℤ
count_in c = option_and_then (λ n. if nat_lt 0 n && nat_lt n (2 ^ 63) then Some (pos n) else None) (number_in c)

-- the day that a text writes
abbrev pub day_in : Content → Option ℤ
day_in c = option_and_then day_of (text_in c)

-- the function that a word names
unfoldable pub call_of : Kind → Option Call
call_of kinds.Count = Some calls.Count
call_of kinds.Sum = Some (calls.Total aggregates.Sum)
call_of kinds.Min = Some (calls.Total aggregates.Min)
call_of kinds.Max = Some (calls.Total aggregates.Max)
call_of kinds.Substr = Some calls.Substr
call_of kinds.Length = Some (calls.Apply functions.Length)
call_of kinds.Coalesce = Some calls.Coalesce
call_of kinds.Year = Some (calls.Apply functions.Year)
call_of kinds.Month = Some (calls.Apply functions.Month)
call_of kinds.Day = Some (calls.Apply functions.Day)
call_of kinds.VerifyRoleForUser = Some calls.VerifyRole
call_of kinds.VerifyGroupForUser = Some calls.VerifyGroup
call_of kinds.SecLabel = Some calls.SecLabel
call_of kinds.SecLabelByName = Some calls.SecLabelByName
call_of kinds.SecLabelToChar = Some calls.SecLabelToChar
call_of kinds.Date = Some calls.Date
call_of k = None

-- DATE, which a literal may follow
unfoldable pub is_date : Call → Bool
is_date calls.Date = true
is_date c = false

-- the comparison that a symbol stands for
unfoldable pub comparison_of : Kind → Option Comparison
comparison_of kinds.Equal = Some comparisons.Equal
comparison_of kinds.NotEqual = Some comparisons.NotEqual
comparison_of kinds.Less = Some comparisons.Less
comparison_of kinds.AtMost = Some comparisons.AtMost
comparison_of kinds.Greater = Some comparisons.Greater
comparison_of kinds.AtLeast = Some comparisons.AtLeast
comparison_of k = None

-- a word that may be a name: the function that it names, if it names one, and itself
abbrev pub word_in : Token → Option (Option Call × List ℕ)
word_in t = option_and_then (λ n. Some (call_of t.kind, n)) (name_in t.content)

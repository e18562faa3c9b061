-- How values compare: with three-valued truth in conditions, and in one total order over all values for sorting.
use Rattle.std.specs.Prelude.{ℕ, Bool, true, false}
use Rattle.std.specs.Ordering.{nat_cmp, int_cmp, int_eq, is_lt, is_eq}
use Rattle.std.specs.Cmp.Lexicographic.{slice_cmp}
use Rattle.std.specs.Cmp.{IsTotalOrder, IsStrictWeakOrder}
use Rattle.std.specs.declared.cmp.Ordering.{Ordering}
use Rattle.std.specs.Str.{bytes_eq}
use Rattle.lb_base.specs.declared.value.Value.{Value}
use Rattle.lb_base.specs.declared.value.Value.TheVariants.{Null, Int, Text, Date, Label}
use Rattle.lb_base.specs.declared.truth.Truth.{Truth}
use Rattle.lb_base.specs.declared.truth.Truth.TheVariants as truths

-- where a value stands among those of other kinds: integers first, then texts, days and labels, and null last
abbrev pub rank_of : Value → ℕ
rank_of (Int x) = 0
rank_of (Text x) = 1
rank_of (Date x) = 2
rank_of (Label p) = 3
rank_of Null = 4

-- integers and days by number, texts byte by byte, labels part by part, and values of two kinds by their ranks
abbrev pub order_of : Value → Value → Ordering
order_of (Int x) (Int y) = int_cmp x y
order_of (Text x) (Text y) = slice_cmp nat_cmp x y
order_of (Date x) (Date y) = int_cmp x y
order_of (Label p) (Label q) = slice_cmp nat_cmp p.items q.items
order_of a b = nat_cmp (rank_of a) (rank_of b)

-- the first stands before the second
abbrev pub stands_before : Value → Value → Bool
stands_before a b = is_lt (order_of a b)

-- one value, and null is one with null: for groups, DISTINCT and COUNT(DISTINCT)
abbrev pub is_same : Value → Value → Bool
is_same a b = is_eq (order_of a b)

-- the order is a total one, and so one that a sort accepts
abbrev pub OrderIsTotal : Type 0
OrderIsTotal = IsTotalOrder order_of

-- so it is one that a sort accepts
abbrev pub OrderIsSortable : Type 0
OrderIsSortable = IsStrictWeakOrder stands_before

-- true or false, and not unknown
abbrev pub truth_of : Bool → Truth
truth_of true = truths.True
truth_of false = truths.False

-- `=`: unknown with a null, and for values of two kinds, which no well-typed condition compares
abbrev pub equal_of : Value → Value → Truth
equal_of (Int x) (Int y) = truth_of (int_eq x y)
equal_of (Text x) (Text y) = truth_of (bytes_eq x y)
equal_of (Date x) (Date y) = truth_of (int_eq x y)
equal_of (Label p) (Label q) = truth_of (bytes_eq p.items q.items)
equal_of a b = truths.Unknown

-- `<`: unknown with a null, and for labels and for values of two kinds, which no well-typed condition compares
abbrev pub less_of : Value → Value → Truth
less_of (Int x) (Int y) = truth_of (is_lt (int_cmp x y))
less_of (Text x) (Text y) = truth_of (is_lt (slice_cmp nat_cmp x y))
less_of (Date x) (Date y) = truth_of (is_lt (int_cmp x y))
less_of a b = truths.Unknown

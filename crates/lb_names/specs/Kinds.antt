-- Kinds of values, and which go together.
use Rattle.std.specs.Prelude.{Bool, true, false, if◌then◌else◌}
use Rattle.std.specs.Str.{bytes_eq}
use Rattle.lb_base.specs.declared.key.Ty.{Ty}
use Rattle.lb_base.specs.declared.key.Ty.TheVariants as types
use Rattle.lb_tree.specs.declared.query.Comparison.{Comparison}
use Rattle.lb_tree.specs.declared.query.Comparison.TheVariants as comparisons
use Rattle.lb_tree.specs.declared.query.Aggregate.{Aggregate}
use Rattle.lb_tree.specs.declared.query.Aggregate.TheVariants as aggregates
use Rattle.lb_tree.specs.declared.query.Function.{Function}
use Rattle.lb_tree.specs.declared.query.Function.TheVariants as functions
use Rattle.lb_names.specs.Sights.{Name}

-- the kind of an expression
pub data Kind : Type 0 where
  -- a NULL literal, which takes the kind of the others
  null : Kind
  integer : Kind
  text : Kind
  date : Kind
  -- a label of the policy with that name
  label : Name → Kind

-- the kind of the values of a type
abbrev pub kind_of : Ty → Kind
kind_of types.Int = integer
kind_of (types.Text width) = text
kind_of types.Date = date
kind_of (types.Label policy) = label policy

-- the kind that some parts have in common
pub data Common : Type 0 where
  one : Kind → Common
  -- two of them differ
  differ : Common

-- there is one
abbrev pub is_one : Common → Bool
is_one (one k) = true
is_one differ = false

-- it is a label
abbrev pub is_label : Kind → Bool
is_label (label p) = true
is_label _ = false

-- the kind that both have, a NULL literal taking the other's; none where they differ
abbrev pub both : Kind → Kind → Common
both null k = one k
both integer null = one integer
both integer integer = one integer
both integer _ = differ
both text null = one text
both text text = one text
both text _ = differ
both date null = one date
both date date = one date
both date _ = differ
both (label p) null = one (label p)
both (label p) (label q) = if bytes_eq p q then one (label p) else differ
both (label p) _ = differ

-- the kind so far, none where two kinds differed, with one more
abbrev pub with_kind : Common → Kind → Common
with_kind differ k = differ
with_kind (one so_far) k = both so_far k

-- an integer, a text or a date
abbrev pub is_plain : Common → Bool
is_plain (one integer) = true
is_plain (one text) = true
is_plain (one date) = true
is_plain _ = false

-- it is = or <>
abbrev pub is_equality : Comparison → Bool
is_equality comparisons.Equal = true
is_equality comparisons.NotEqual = true
is_equality _ = false

-- values of the kind may be compared so: labels of one policy by = and <> alone
abbrev pub is_compared_by : Comparison → Common → Bool
is_compared_by by (one (label p)) = is_equality by
is_compared_by by k = is_plain k

-- a value of the second kind may be given to a column of the first
abbrev pub takes : Kind → Kind → Bool
takes wanted k = is_one (both wanted k)

-- the kind of MIN and MAX of an argument of that kind, none of a label
abbrev pub or_integer : Kind → Common
or_integer null = one integer
or_integer (label p) = differ
or_integer k = one k

-- the kind of an aggregate of an argument, none where it doesn't take it
abbrev pub aggregated : Aggregate → Kind → Common
aggregated aggregates.Count k = one integer
aggregated aggregates.CountDistinct k = if is_label k then differ else one integer
aggregated aggregates.Sum k = both integer k
aggregated aggregates.Min k = or_integer k
aggregated aggregates.Max k = or_integer k

-- the kind of a function's argument
abbrev pub argument : Function → Kind
argument functions.Length = text
argument functions.Year = date
argument functions.Month = date
argument functions.Day = date

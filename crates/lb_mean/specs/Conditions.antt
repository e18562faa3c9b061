-- What conditions mean, by what their parts mean.
use Rattle.std.specs.Prelude.{Bool, true, false, if◌then◌else◌, List, [], ◌∷◌, map, Ok, Err}
use Rattle.std.specs.List.{list_any, flat_map}
use Rattle.lb_base.specs.Compare.{equal_of, less_of, truth_of}
use Rattle.lb_base.specs.Conditions.{all_true, any_true, at_most_of, is_between, is_in, is_null, is_same_row}
use Rattle.lb_base.specs.declared.fault.Fault.TheVariants.{ManyRows}
use Rattle.lb_base.specs.declared.value.Value.{Value}
use Rattle.lb_base.specs.declared.value.Value.TheVariants as values
use Rattle.lb_base.specs.declared.truth.Truth.{Truth}
use Rattle.lb_base.specs.Evaluated.{Evaluated, ◌>>=◌, each}
use Rattle.lb_base.specs.Truths.{not_of}
use Rattle.lb_tree.specs.declared.query.Comparison.{Comparison}
use Rattle.lb_tree.specs.declared.query.Comparison.TheVariants as comparisons
use Rattle.lb_tree.specs.declared.query.Cond.TheOpen as layers
use Rattle.lb_tree.specs.Folds.{Layer}
use Rattle.lb_mean.specs.Setting.{Env}
use Rattle.lb_mean.specs.Meant.{Means, Says, Part, Shows, Answers, meaning}
use Rattle.lb_mean.specs.Sure.{cond_sure, cond_total}

-- ---- subqueries, in which no mask applies

-- the outputs of a row or group, from left to right
abbrev pub outputs : List Shows → Env → Evaluated (List Value)
outputs items env = each (flat_map (λ item. item.values env) items)

-- DISTINCT: the first of equal rows stays, beside those already seen
abbrev pub different_rows : List (List Value) → List (List Value) → List (List Value)
different_rows seen [] = []
different_rows seen (x ∷ xs) = if list_any (is_same_row x) seen then different_rows seen xs else x ∷ different_rows (x ∷ seen) xs

-- the rows of a subquery, which is evaluated whole
abbrev pub all_rows : Answers → Env → Evaluated (List (List Value))
all_rows q env = do
  frames ← q.frames false env
  rows ← each (map (λ f. outputs q.items (f ∷ env)) frames)
  Ok (if q.distinct then different_rows [] rows else rows)

-- there is one at least
abbrev pub is_listed : {A : Type 0} → List A → Bool
is_listed [] = false
is_listed (x ∷ xs) = true

-- EXISTS: its rows or groups up to HAVING, without outputs
abbrev pub has_rows : Answers → Env → Evaluated Truth
has_rows q env = q.frames false env >>= λ frames. Ok (truth_of (is_listed frames))

-- the one output of a row; a subquery that gives values has one output
abbrev pub first_output : List Value → Value
first_output [] = values.Null
first_output (x ∷ xs) = x

-- a scalar subquery has one row at most; none gives null
abbrev pub only_row : List (List Value) → Evaluated Value
only_row [] = Ok values.Null
only_row (r ∷ []) = Ok (first_output r)
only_row (r ∷ s ∷ rows) = Err ManyRows

-- the value of a scalar subquery
abbrev pub scalar : Answers → Env → Evaluated Value
scalar q env = all_rows q env >>= only_row

-- ---- conditions

-- the truth of each condition
abbrev pub tests : List Says → Env → List (Evaluated Truth)
tests cs env = map (λ c. c.test env) cs

-- a comparison of two values
abbrev pub compared : Comparison → Value → Value → Truth
compared comparisons.Equal x y = equal_of x y
compared comparisons.NotEqual x y = not_of (equal_of x y)
compared comparisons.Less x y = less_of x y
compared comparisons.AtMost x y = at_most_of x y
compared comparisons.Greater x y = less_of y x
compared comparisons.AtLeast x y = at_most_of y x

-- both values from the left, and then the comparison
abbrev pub comparison : Comparison → Means → Means → Env → Evaluated Truth
comparison by a b env = do
  x ← a.value env
  y ← b.value env
  Ok (compared by x y)

-- the value, then the whole subquery, and then the comparison
abbrev pub query_comparison : Comparison → Means → Answers → Env → Evaluated Truth
query_comparison by a q env = do
  x ← a.value env
  y ← scalar q env
  Ok (compared by x y)

-- IN over a list: the value, and then the list in order up to a part that equals it
abbrev pub is_listed_in : Means → List Means → Env → Evaluated Truth
is_listed_in a ms env = a.value env >>= λ x. is_in x (map (λ m. m.value env) ms)

-- IN over a subquery: the value, then the whole subquery, and then its rows in order
abbrev pub is_row_of : Means → Answers → Env → Evaluated Truth
is_row_of a q env = do
  x ← a.value env
  rows ← all_rows q env
  is_in x (map (λ r. Ok (first_output r)) rows)

-- BETWEEN: the value and the lower bound, and the upper bound only if the value isn't below the lower one
abbrev pub lies_between : Means → Means → Means → Env → Evaluated Truth
lies_between a low high env = do
  x ← a.value env
  y ← low.value env
  is_between x y (high.value env)

-- the truth of a condition
abbrev pub cond_test : Layer meaning layers.Cond-F → Env → Evaluated Truth
cond_test (layers.Cond-F.Or cs) env = any_true (tests cs env)
cond_test (layers.Cond-F.And cs) env = all_true (tests cs env)
cond_test (layers.Cond-F.Not c) env = c.test env >>= λ t. Ok (not_of t)
cond_test (layers.Cond-F.Exists q) env = has_rows q env
cond_test (layers.Cond-F.Compare by a b) env = comparison by a b env
cond_test (layers.Cond-F.CompareQuery by a q) env = query_comparison by a q env
cond_test (layers.Cond-F.IsNull a) env = a.value env >>= λ x. Ok (truth_of (is_null x))
cond_test (layers.Cond-F.InQuery a q) env = is_row_of a q env
cond_test (layers.Cond-F.InList a ms) env = is_listed_in a ms env
cond_test (layers.Cond-F.Between a low high) env = lies_between a low high env

-- a condition as a part of a list of AND
abbrev pub part_of : Says → Part
part_of c = record { test = c.test; sure = c.sure }

-- the parts of a list of AND, or else the one condition
abbrev pub cond_parts : Layer meaning layers.Cond-F → List Part
cond_parts (layers.Cond-F.And cs) = map part_of cs
cond_parts x = record { test = cond_test x; sure = cond_sure x } ∷ []

-- what a condition means
abbrev pub cond_step : Layer meaning layers.Cond-F → Says
cond_step x = record { test = cond_test x; sure = cond_sure x; total = cond_total x; parts = cond_parts x }

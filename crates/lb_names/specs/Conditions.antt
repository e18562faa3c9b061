-- The types of conditions.
use Rattle.std.specs.Prelude.{ℕ, true, false, List, [], ◌∷◌, Ok}
use Rattle.lb_tree.specs.declared.query.Comparison.{Comparison}
use Rattle.lb_tree.specs.declared.query.Cond.TheOpen as layers
use Rattle.lb_tree.specs.Folds.{Layer}
use Rattle.lb_names.specs.Marks.{marks_in_cond}
use Rattle.lb_names.specs.Kinds.{Kind, Common, null, both, is_plain, is_compared_by}
use Rattle.lb_names.specs.Typed.{Typed, next, ◌>>=◌, only_if}
use Rattle.lb_names.specs.Places.{Place}
use Rattle.lb_names.specs.Carriers.{Means, Says, Answers, typing, typing_marks, subquery}
use Rattle.lb_names.specs.Parts.{kind_of_two, kind_of_three, kind_with_all, all_typed}
use Rattle.lb_names.specs.Sure.{cond_totals, cond_sures}
use Rattle.lb_names.specs.Expressions.{totals, sures}

-- the parts of that node have one kind in common, an integer, a text or a date
abbrev pub of_plain : ℕ → Common × ℕ → Typed (Unit {0})
of_plain at x = only_if (is_plain x.0) at (tt, x.1)

-- the parts of that node have a kind in common, and values of it may be compared so
abbrev pub compared : Comparison → ℕ → Common × ℕ → Typed (Unit {0})
compared by at x = only_if (is_compared_by by x.0) at (tt, x.1)

-- the kind of the first output
abbrev pub first_kind : List Kind → Kind
first_kind [] = null
first_kind (k ∷ ks) = k

-- the kind so far with that of a query's one output
abbrev pub query_with : Kind → Answers → Place → ℕ → Typed Common
query_with k q P n = q.kinds (subquery true) P n >>= λ x. Ok (both k (first_kind x.0), x.1)

-- the kind that an expression and a query's one output have in common
abbrev pub kind_with_query : Means → Answers → Place → ℕ → Typed Common
kind_with_query m q P n = m.kind P n >>= λ x. query_with x.0 q P x.1

-- a comparison of two expressions
unfoldable pub compare_typed : Comparison → Means → Means → Place → ℕ → Typed (Unit {0})
compare_typed by m n P at = kind_of_two m n P (next at) >>= compared by at

-- IN with a list: all have one kind
unfoldable pub in_list_typed : Means → List Means → Place → ℕ → Typed (Unit {0})
in_list_typed m ms P at = kind_with_all m ms P (next at) >>= of_plain at

-- BETWEEN: all three have one kind
unfoldable pub between_typed : Means → Means → Means → Place → ℕ → Typed (Unit {0})
between_typed m low high P at = kind_of_three m low high P (next at) >>= of_plain at

-- the types of a condition by those of its parts; AND, OR and NOT ask for nothing but their parts
abbrev pub cond_typed : Layer typing layers.Cond-F → Place → ℕ → Typed (Unit {0})
cond_typed (layers.Cond-F.Or cs) P at = all_typed cs P (next at)
cond_typed (layers.Cond-F.And cs) P at = all_typed cs P (next at)
cond_typed (layers.Cond-F.Not c) P at = c.typed P (next at)
cond_typed (layers.Cond-F.Exists q) P at = q.kinds (subquery false) P (next at) >>= λ x. Ok (tt, x.1)
cond_typed (layers.Cond-F.Compare by m n) P at = compare_typed by m n P at
cond_typed (layers.Cond-F.CompareQuery by m q) P at = kind_with_query m q P (next at) >>= compared by at
cond_typed (layers.Cond-F.IsNull m) P at = m.kind P (next at) >>= λ x. Ok (tt, x.1)
cond_typed (layers.Cond-F.InQuery m q) P at = kind_with_query m q P (next at) >>= of_plain at
cond_typed (layers.Cond-F.InList m ms) P at = in_list_typed m ms P at
cond_typed (layers.Cond-F.Between m low high) P at = between_typed m low high P at

-- a condition, by its parts
abbrev pub cond_step : Layer typing layers.Cond-F → Says
cond_step x = record { marks = marks_in_cond typing typing_marks x; typed = cond_typed x; total = cond_totals totals x; sure = cond_sures sures x }

-- AND, OR, IN and BETWEEN over parts that may fault, evaluated from the left.
use Rattle.std.specs.Prelude.{Bool, true, false, if◌then◌else◌, List, [], ◌∷◌, map, Ok}
use Rattle.std.specs.Cmp.Lexicographic.{pointwise}
use Rattle.lb_base.specs.declared.value.Value.{Value}
use Rattle.lb_base.specs.declared.value.Value.TheVariants.{Null}
use Rattle.lb_base.specs.declared.truth.Truth.{Truth}
use Rattle.lb_base.specs.declared.truth.Truth.TheVariants.{True, False}
use Rattle.lb_base.specs.Compare.{equal_of, is_same, less_of}
use Rattle.lb_base.specs.Evaluated.{Evaluated, ◌>>=◌}
use Rattle.lb_base.specs.Truths.{and_of, is_false, is_true, not_of, or_of}

-- AND of the parts, up to the first that is false; the later ones aren't evaluated
abbrev pub all_true : List (Evaluated Truth) → Evaluated Truth
all_true [] = Ok True
all_true (x ∷ xs) = x >>= λ t. if is_false t then Ok False else all_true xs >>= λ rest. Ok (and_of t rest)

-- OR of the parts, up to the first that is true; the later ones aren't evaluated
abbrev pub any_true : List (Evaluated Truth) → Evaluated Truth
any_true [] = Ok False
any_true (x ∷ xs) = x >>= λ t. if is_true t then Ok True else any_true xs >>= λ rest. Ok (or_of t rest)

-- `a <= b`
abbrev pub at_most_of : Value → Value → Truth
at_most_of a b = not_of (less_of b a)

-- IS NULL
abbrev pub is_null : Value → Bool
is_null Null = true
is_null _ = false

-- `x = y`, where the value of `y` may fault
abbrev pub is_equal_to : Value → Evaluated Value → Evaluated Truth
is_equal_to x y = y >>= λ v. Ok (equal_of x v)

-- IN: `=` with each value in order, joined by OR
abbrev pub is_in : Value → List (Evaluated Value) → Evaluated Truth
is_in x ys = any_true (map (is_equal_to x) ys)

-- BETWEEN: `x >= low` and `x <= high` joined by AND, where `high` is evaluated only if the first isn't false
abbrev pub is_between : Value → Value → Evaluated Value → Evaluated Truth
is_between x low high = all_true (Ok (at_most_of low x) ∷ (high >>= λ v. Ok (at_most_of x v)) ∷ [])

-- rows with the same values, null being one with null
abbrev pub is_same_row : List Value → List Value → Bool
is_same_row = pointwise is_same

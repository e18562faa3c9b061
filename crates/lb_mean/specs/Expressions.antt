-- What expressions mean, by what their parts mean.
use Rattle.std.specs.Prelude.{Bool, if◌then◌else◌, List, [], ◌∷◌, map, Option, Some, None, Ok, pos}
use Rattle.lb_base.specs.declared.value.Value.{Value}
use Rattle.lb_base.specs.declared.value.Value.TheVariants as values
use Rattle.lb_base.specs.Arithmetic.{sum_of, product_of}
use Rattle.lb_base.specs.Compare.{equal_of}
use Rattle.lb_base.specs.Conditions.{is_null}
use Rattle.lb_base.specs.DateParts.{year_value, month_value, day_value}
use Rattle.lb_base.specs.Evaluated.{Evaluated, ◌>>=◌, each, through}
use Rattle.lb_base.specs.Texts.{concatenated, substring, char_count}
use Rattle.lb_base.specs.Truths.{is_true}
use Rattle.lb_tree.specs.declared.query.Function.{Function}
use Rattle.lb_tree.specs.declared.query.Function.TheVariants as functions
use Rattle.lb_tree.specs.declared.query.Cond.TheOpen as layers
use Rattle.lb_tree.specs.Folds.{Layer}
use Rattle.lb_cat.specs.Catalog.{Policy}
use Rattle.lb_mean.specs.Setting.{Setting, Env}
use Rattle.lb_mean.specs.Environment.{group_of, outside, atom_value, atom_policy}
use Rattle.lb_mean.specs.Meant.{Means, Arms, Chooses, Signs, meaning}
use Rattle.lb_mean.specs.Aggregates.{aggregate}
use Rattle.lb_mean.specs.Sure.{expr_sure, expr_total}

-- the values of all parts, from left to right
abbrev pub all_values : List Means → Env → Evaluated (List Value)
all_values ms env = each (map (λ m. m.value env) ms)

-- ---- sums, products and `||`: all parts are evaluated first, and then combined from the left

-- a part of a sum with its value
pub record Addend : Type 0 where
  pub minus : Bool
  pub value : Value

-- the value of a part of a sum
abbrev pub addend : Env → Signs → Evaluated Addend
addend env m = m.part.value env >>= λ x. Ok (record { minus = m.minus; value = x })

-- a sum so far with one part more
abbrev pub added : Value → Addend → Evaluated Value
added sum x = sum_of sum x.minus x.value

-- the sum of the parts
abbrev pub sum_value : List Signs → Env → Evaluated Value
sum_value ms env = each (map (addend env) ms) >>= through added (values.Int (pos 0))

-- a product so far with one factor more
abbrev pub multiplied : Value → Value → Evaluated Value
multiplied product x = product_of product x

-- the product of the factors
abbrev pub product_value : List Means → Env → Evaluated Value
product_value ms env = all_values ms env >>= through multiplied (values.Int (pos 1))

-- a text so far with one part more
abbrev pub appended : Value → Value → Evaluated Value
appended text x = Ok (concatenated text x)

-- the parts of `||`, one after the other
abbrev pub text_value : List Means → Env → Evaluated Value
text_value ms env = all_values ms env >>= through appended (values.Text [])

-- ---- CASE and COALESCE

-- the value of ELSE, and null where there is none
abbrev pub or_null : Option Means → Env → Evaluated Value
or_null None env = Ok values.Null
or_null (Some m) env = m.value env

-- the value of a part that may be missing
abbrev pub if_written : Option Means → Env → Evaluated (Option Value)
if_written None env = Ok None
if_written (Some m) env = m.value env >>= λ x. Ok (Some x)

-- the result of the first arm whose condition is true, if one is; no other result is evaluated
abbrev pub first_true : List Arms → Env → Evaluated (Option Value)
first_true [] env = Ok None
first_true (arm ∷ arms) env = arm.when.test env >>= λ t. if is_true t then if_written (Some arm.result) env else first_true arms env

-- the result of the first arm whose value equals the operand's, if one does; later arms aren't evaluated
abbrev pub first_equal : Value → List Chooses → Env → Evaluated (Option Value)
first_equal x [] env = Ok None
first_equal x (arm ∷ arms) env = arm.when.value env >>= λ y. if is_true (equal_of x y) then if_written (Some arm.result) env else first_equal x arms env

-- the result of an arm, or else ELSE
abbrev pub otherwise : Option Means → Env → Option Value → Evaluated Value
otherwise other env (Some x) = Ok x
otherwise other env None = or_null other env

-- COALESCE: the first value that isn't null; later parts aren't evaluated
abbrev pub first_known : List Means → Env → Evaluated Value
first_known [] env = Ok values.Null
first_known (m ∷ ms) env = m.value env >>= λ x. if is_null x then first_known ms env else Ok x

-- ---- functions

-- SUBSTR: its parts from left to right, and then the text
abbrev pub substr_value : Means → Means → Option Means → Env → Evaluated Value
substr_value text start count env = do
  t ← text.value env
  s ← start.value env
  n ← if_written count env
  Ok (substring t s n)

-- a function of one value; null gives null
abbrev pub applied : Function → Value → Value
applied functions.Length x = char_count x
applied functions.Year x = year_value x
applied functions.Month x = month_value x
applied functions.Day x = day_value x

-- ---- expressions

-- the value of an expression
abbrev pub expr_value : Setting → Layer meaning layers.Expr-F → Env → Evaluated Value
expr_value S (layers.Expr-F.Atom x) env = atom_value S x env
expr_value S (layers.Expr-F.Sum ms) env = sum_value ms env
expr_value S (layers.Expr-F.Concat ms) env = text_value ms env
expr_value S (layers.Expr-F.Product ms) env = product_value ms env
expr_value S (layers.Expr-F.Case arms other) env = first_true arms env >>= otherwise other env
expr_value S (layers.Expr-F.Match m arms other) env = m.value env >>= λ x. first_equal x arms env >>= otherwise other env
expr_value S (layers.Expr-F.Aggregate op m) env = aggregate op m (group_of env) (outside env)
expr_value S (layers.Expr-F.Substr text start count) env = substr_value text start count env
expr_value S (layers.Expr-F.Apply f m) env = m.value env >>= λ x. Ok (applied f x)
expr_value S (layers.Expr-F.Coalesce ms) env = first_known ms env

-- the policy of an expression whose value is a label: only a column and the calls that make labels can be one
abbrev pub expr_policy : Setting → Layer meaning layers.Expr-F → Env → Option Policy
expr_policy S (layers.Expr-F.Atom x) env = atom_policy S x env
expr_policy S _ env = None

-- what an expression means
abbrev pub expr_step : Setting → Layer meaning layers.Expr-F → Means
expr_step S x = record { value = expr_value S x; policy = expr_policy S x; sure = expr_sure x; total = expr_total x }

-- what an arm of a CASE without operand means
abbrev pub arm_step : Layer meaning layers.Arm-F → Arms
arm_step x = record { when = x.when; result = x.result }

-- what an arm of a CASE with an operand means
abbrev pub choice_step : Layer meaning layers.Choice-F → Chooses
choice_step x = record { when = x.when; result = x.result }

-- what a part of a sum means
abbrev pub signed_step : Layer meaning layers.Signed-F → Signs
signed_step x = record { minus = x.minus; part = x.part }

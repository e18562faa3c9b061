-- The days that a tree writes, as DATE literals, in text order.
use Rattle.std.specs.Prelude.{List, [], ◌∷◌, ◌++◌, Option, Some, None, ℤ}
use Rattle.std.specs.List.{flat_map, AllByRecursion}
use Rattle.lb_base.specs.Days.{IsDay}
use Rattle.lb_tree.specs.declared.query.Atom.{Atom}
use Rattle.lb_tree.specs.declared.query.Atom.TheVariants as atoms
use Rattle.lb_tree.specs.declared.query.Expr.{Expr}
use Rattle.lb_tree.specs.declared.query.Cond.{Cond}
use Rattle.lb_tree.specs.declared.query.Query.{Query}
use Rattle.lb_tree.specs.declared.query.Cond.TheOpen as layers
use Rattle.lb_tree.specs.Folds.{Kinds, Layer, Steps, cond_of, expr_of, query_of}

-- day numbers, in text order
abbrev pub Days : Type 0
Days = List ℤ

-- a part that may be missing
abbrev pub if_given : Option Days → Days
if_given None = []
if_given (Some days) = days

-- the days of all parts in order
abbrev pub all_of : List Days → Days
all_of parts = flat_map (λ days. days) parts

-- a DATE literal writes its day
abbrev pub in_atom : Atom → Days
in_atom (atoms.Date day) = day ∷ []
in_atom _ = []

-- what each kind of node writes
abbrev pub writing : Kinds
writing = record { cond = Days; expr = Days; item = Days; join = Days; arm = Days; chain = Days; choice = Days; query = Days; signed = Days }

-- the days in an expression, by those in its parts
abbrev pub in_expr_layer : Layer writing layers.Expr-F → Days
in_expr_layer (layers.Expr-F.Atom x) = in_atom x
in_expr_layer (layers.Expr-F.Sum xs) = all_of xs
in_expr_layer (layers.Expr-F.Concat xs) = all_of xs
in_expr_layer (layers.Expr-F.Product xs) = all_of xs
in_expr_layer (layers.Expr-F.Case arms otherwise) = all_of arms ++ if_given otherwise
in_expr_layer (layers.Expr-F.Match operand choices otherwise) = operand ++ (all_of choices ++ if_given otherwise)
in_expr_layer (layers.Expr-F.Aggregate op x) = x
in_expr_layer (layers.Expr-F.Substr text from count) = text ++ (from ++ if_given count)
in_expr_layer (layers.Expr-F.Apply f x) = x
in_expr_layer (layers.Expr-F.Coalesce xs) = all_of xs

-- those in a condition
abbrev pub in_cond_layer : Layer writing layers.Cond-F → Days
in_cond_layer (layers.Cond-F.Or xs) = all_of xs
in_cond_layer (layers.Cond-F.And xs) = all_of xs
in_cond_layer (layers.Cond-F.Not x) = x
in_cond_layer (layers.Cond-F.Exists q) = q
in_cond_layer (layers.Cond-F.Compare by a b) = a ++ b
in_cond_layer (layers.Cond-F.CompareQuery by a q) = a ++ q
in_cond_layer (layers.Cond-F.IsNull a) = a
in_cond_layer (layers.Cond-F.InQuery a q) = a ++ q
in_cond_layer (layers.Cond-F.InList a xs) = a ++ all_of xs
in_cond_layer (layers.Cond-F.Between a low high) = a ++ (low ++ high)

-- those in an item of a select list
abbrev pub in_item_layer : Layer writing layers.Item-F → Days
in_item_layer layers.Item-F.Everything = []
in_item_layer (layers.Item-F.AllOf n) = []
in_item_layer (layers.Item-F.Value x name) = x

-- those in a join: in its ON condition
abbrev pub in_join_layer : Layer writing layers.Join-F → Days
in_join_layer (layers.Join-F.Inner tab on) = on
in_join_layer (layers.Join-F.Left tab on) = on
in_join_layer (layers.Join-F.Cross tab) = []

-- those in a query: in its items, its joins, its WHERE and its HAVING
abbrev pub in_query_layer : Layer writing layers.Query-F → Days
in_query_layer q = all_of q.items ++ (all_of q.from ++ (if_given q.filter ++ if_given q.having))

-- those in each kind of node
abbrev pub day_steps : Steps writing
day_steps = record {
  cond = in_cond_layer;
  expr = in_expr_layer;
  item = in_item_layer;
  join = in_join_layer;
  arm = λ x. x.when ++ x.result;
  chain = λ x. all_of x.joins;
  choice = λ x. x.when ++ x.result;
  query = in_query_layer;
  signed = λ x. x.part;
}

-- the days in a condition, in an expression and in a query
unfoldable pub days_in_cond : Cond → Days
days_in_cond = cond_of writing day_steps

-- the days in an expression
unfoldable pub days_in : Expr → Days
days_in = expr_of writing day_steps

-- the days in a query
unfoldable pub days_in_query : Query → Days
days_in_query = query_of writing day_steps

-- all are days of the calendar, as those of every text that is read are
abbrev pub AreDays : Days → Type 0
AreDays days = AllByRecursion IsDay days

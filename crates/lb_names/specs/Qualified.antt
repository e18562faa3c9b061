-- Trees of which each column has a correlation name, as stored ones have.
use Rattle.std.specs.Prelude.{Bool, true, ◌&&◌, List, Option, Some, None}
use Rattle.std.specs.List.{list_all}
use Rattle.lb_tree.specs.declared.query.Atom.{Atom}
use Rattle.lb_tree.specs.declared.query.Atom.TheVariants as atoms
use Rattle.lb_tree.specs.declared.query.Column.{Column}
use Rattle.lb_tree.specs.declared.query.Expr.{Expr}
use Rattle.lb_tree.specs.declared.query.Cond.{Cond}
use Rattle.lb_tree.specs.declared.query.Cond.TheOpen as layers
use Rattle.lb_tree.specs.Folds.{Kinds, Layer, Steps, cond_of, expr_of}
use Rattle.lb_names.specs.Scopes.{is_some}

-- the column is qualified
abbrev pub has_correlation : Column → Bool
has_correlation c = is_some c.correlation

-- a column, and that of SECLABEL_TO_CHAR
abbrev pub is_qualified_atom : Atom → Bool
is_qualified_atom (atoms.Column c) = has_correlation c
is_qualified_atom (atoms.SecLabelToChar p c) = has_correlation c
is_qualified_atom _ = true

-- all parts
abbrev pub all_of_them : List Bool → Bool
all_of_them bs = list_all (λ b. b) bs

-- a part that may be missing
abbrev pub if_there : Option Bool → Bool
if_there None = true
if_there (Some b) = b

-- whether all columns in a node have correlation names
abbrev pub testing : Kinds
testing = record { cond = Bool; expr = Bool; item = Bool; join = Bool; arm = Bool; chain = Bool; choice = Bool; query = Bool; signed = Bool }

-- of a condition
abbrev pub is_qualified_cond : Layer testing layers.Cond-F → Bool
is_qualified_cond (layers.Cond-F.Or xs) = all_of_them xs
is_qualified_cond (layers.Cond-F.And xs) = all_of_them xs
is_qualified_cond (layers.Cond-F.Not x) = x
is_qualified_cond (layers.Cond-F.Exists q) = q
is_qualified_cond (layers.Cond-F.Compare by a b) = a && b
is_qualified_cond (layers.Cond-F.CompareQuery by a q) = a && q
is_qualified_cond (layers.Cond-F.IsNull a) = a
is_qualified_cond (layers.Cond-F.InQuery a q) = a && q
is_qualified_cond (layers.Cond-F.InList a xs) = a && all_of_them xs
is_qualified_cond (layers.Cond-F.Between a low high) = a && (low && high)

-- of an expression
abbrev pub is_qualified_expr : Layer testing layers.Expr-F → Bool
is_qualified_expr (layers.Expr-F.Atom a) = is_qualified_atom a
is_qualified_expr (layers.Expr-F.Sum xs) = all_of_them xs
is_qualified_expr (layers.Expr-F.Concat xs) = all_of_them xs
is_qualified_expr (layers.Expr-F.Product xs) = all_of_them xs
is_qualified_expr (layers.Expr-F.Case arms otherwise) = all_of_them arms && if_there otherwise
is_qualified_expr (layers.Expr-F.Match x choices otherwise) = x && (all_of_them choices && if_there otherwise)
is_qualified_expr (layers.Expr-F.Aggregate op x) = x
is_qualified_expr (layers.Expr-F.Substr x from n) = x && (from && if_there n)
is_qualified_expr (layers.Expr-F.Apply f x) = x
is_qualified_expr (layers.Expr-F.Coalesce xs) = all_of_them xs

-- of an item; `*` and `x.*` name no column
abbrev pub is_qualified_item : Layer testing layers.Item-F → Bool
is_qualified_item layers.Item-F.Everything = true
is_qualified_item (layers.Item-F.AllOf x) = true
is_qualified_item (layers.Item-F.Value x name) = x

-- of a join
abbrev pub is_qualified_join : Layer testing layers.Join-F → Bool
is_qualified_join (layers.Join-F.Inner tab on) = on
is_qualified_join (layers.Join-F.Left tab on) = on
is_qualified_join (layers.Join-F.Cross tab) = true

-- the columns of GROUP BY too
abbrev pub is_qualified_query : Layer testing layers.Query-F → Bool
is_qualified_query q = all_of_them q.items && (all_of_them q.from && (if_there q.filter && (list_all has_correlation q.group && if_there q.having)))

-- of each kind of node
abbrev pub qualified_steps : Steps testing
qualified_steps = record {
  cond = is_qualified_cond;
  expr = is_qualified_expr;
  item = is_qualified_item;
  join = is_qualified_join;
  arm = λ x. x.when && x.result;
  chain = λ x. all_of_them x.joins;
  choice = λ x. x.when && x.result;
  query = is_qualified_query;
  signed = λ x. x.part;
}

-- each column of the condition has a correlation name
unfoldable pub are_qualified : Cond → Bool
are_qualified = cond_of testing qualified_steps

-- each column of the expression has a correlation name
unfoldable pub are_qualified_in : Expr → Bool
are_qualified_in = expr_of testing qualified_steps

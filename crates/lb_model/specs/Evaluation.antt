-- The truth of a stored condition over a row: columns are looked up by name in the row's frame.
-- So far an expression is a column or SESSION_USER, and a condition compares two of them by `=`.
use Rattle.std.specs.Prelude.{ℕ, Bool, true, false, ◌&&◌, List, [], ◌∷◌, Option, None, Some, if◌then◌else◌}
use Rattle.std.specs.Str.{bytes_eq}
use Rattle.lb_base.specs.Compare.{equal_of}
use Rattle.lb_base.specs.declared.value.Value.{Value}
use Rattle.lb_base.specs.declared.value.Value.TheVariants as values
use Rattle.lb_base.specs.declared.truth.Truth.{Truth}
use Rattle.lb_base.specs.declared.truth.Truth.TheVariants as truths
use Rattle.lb_tree.specs.declared.query.Expr.{Expr}
use Rattle.lb_tree.specs.declared.query.Cond.{Cond}
use Rattle.lb_tree.specs.declared.query.Item.{Item}
use Rattle.lb_tree.specs.declared.query.Join.{Join}
use Rattle.lb_tree.specs.declared.query.Arm.{Arm}
use Rattle.lb_tree.specs.declared.query.Chain.{Chain}
use Rattle.lb_tree.specs.declared.query.Choice.{Choice}
use Rattle.lb_tree.specs.declared.query.Query.{Query}
use Rattle.lb_tree.specs.declared.query.Signed.{Signed}
use Rattle.lb_tree.specs.declared.query.Cond.TheOpen as layers
use Rattle.lb_tree.specs.declared.query.Cond.TheViews.{out-Expr, out-Cond}
use Rattle.lb_tree.specs.declared.query.Atom.{Atom}
use Rattle.lb_tree.specs.declared.query.Atom.TheVariants as atoms
use Rattle.lb_tree.specs.declared.query.Column.{Column}
use Rattle.lb_tree.specs.declared.query.Comparison.{Comparison}
use Rattle.lb_tree.specs.declared.query.Comparison.TheVariants as comparisons
use Rattle.lb_model.specs.declared.catalog.ColumnRec.{ColumnRec}

-- a column of a row, under the correlation name of its table
pub record Cell : Type 0 where
  pub correlation : List ℕ
  pub column : List ℕ
  pub value : Value

-- the row of a table as a frame
abbrev pub frame_of : List ℕ → List ColumnRec → List Value → List Cell
frame_of correlation (c ∷ cs) (v ∷ vs) = record { correlation = correlation; column = c.name; value = v } ∷ frame_of correlation cs vs
frame_of correlation _ _ = []

-- the correlation name is the one written, where one is written
abbrev pub is_qualified_by : Option (List ℕ) → List ℕ → Bool
is_qualified_by None correlation = true
is_qualified_by (Some written) correlation = bytes_eq written correlation

-- the value of the column in the frame
abbrev pub column_value : Column → List Cell → Value
column_value c [] = values.Null
column_value c (cell ∷ cells) = if is_qualified_by c.correlation cell.correlation && bytes_eq c.name cell.column then cell.value else column_value c cells

-- `=` of two texts; so far no other values are compared, and null gives unknown
abbrev pub text_equality : Value → Value → Truth
text_equality (values.Text a) (values.Text b) = equal_of (values.Text a) (values.Text b)
text_equality _ _ = truths.Unknown

-- an expression and a condition, seen by what they are made of
abbrev pub ExprLayer : Type 0
ExprLayer = layers.Expr-F Cond Expr Item Join Arm Chain Choice Query Signed

abbrev pub CondLayer : Type 0
CondLayer = layers.Cond-F Cond Expr Item Join Arm Chain Choice Query Signed

abbrev pub layer_value : List ℕ → List Cell → ExprLayer → Value
layer_value user frame (layers.Expr-F.Atom (atoms.Column c)) = column_value c frame
layer_value user frame (layers.Expr-F.Atom atoms.SessionUser) = values.Text user
layer_value user frame _ = values.Null

-- the value of an expression in a session of the user, over the frame
abbrev pub value_of : List ℕ → List Cell → Expr → Value
value_of user frame e = layer_value user frame (out-Expr e)

abbrev pub layer_truth : List ℕ → List Cell → CondLayer → Truth
layer_truth user frame (layers.Cond-F.Compare comparisons.Equal a b) = text_equality (value_of user frame a) (value_of user frame b)
layer_truth user frame _ = truths.Unknown

-- the truth of a condition in a session of the user, over the frame
abbrev pub truth_of : List ℕ → List Cell → Cond → Truth
truth_of user frame q = layer_truth user frame (out-Cond q)

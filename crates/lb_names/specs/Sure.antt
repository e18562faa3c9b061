-- Which expressions and conditions have an aggregate, and which are sure, having neither arithmetic nor a subquery. It is said of a node by
-- what is said of its parts; typing and evaluation both ask it.
use Rattle.std.specs.Prelude.{Bool, true, false, not, ◌&&◌, ◌||◌, Option, Some, None}
use Rattle.std.specs.List.{list_any, list_all}
use Rattle.lb_tree.specs.declared.query.Aggregate.{Aggregate}
use Rattle.lb_tree.specs.declared.query.Atom.{Atom}
use Rattle.lb_tree.specs.declared.query.Atom.TheVariants as atoms
use Rattle.lb_tree.specs.declared.query.Cond.TheOpen as layers
use Rattle.lb_tree.specs.Folds.{Kinds, Layer}

-- a part that may be missing is there and passes the test
abbrev pub if_any : {A : Type 0} → (A → Bool) → Option A → Bool
if_any test None = false
if_any test (Some x) = test x

-- a part that may be missing is missing or passes the test
abbrev pub unless_any : {A : Type 0} → (A → Bool) → Option A → Bool
unless_any test None = true
unless_any test (Some x) = test x

-- a test of each kind of part
pub record PartTests (K : Kinds) : Type 0 where
  pub cond : K.cond → Bool
  pub expr : K.expr → Bool
  pub arm : K.arm → Bool
  pub choice : K.choice → Bool
  pub signed : K.signed → Bool

-- COUNT(*) is an aggregate
abbrev pub counts_rows : Atom → Bool
counts_rows atoms.CountRows = true
counts_rows _ = false

module _ {K : Kinds} (said : PartTests K) where
  -- an expression has an aggregate; those of subqueries are theirs
  abbrev pub expr_totals : Layer K layers.Expr-F → Bool
  expr_totals (layers.Expr-F.Atom a) = counts_rows a
  expr_totals (layers.Expr-F.Sum xs) = list_any said.signed xs
  expr_totals (layers.Expr-F.Concat xs) = list_any said.expr xs
  expr_totals (layers.Expr-F.Product xs) = list_any said.expr xs
  expr_totals (layers.Expr-F.Case arms otherwise) = list_any said.arm arms || if_any said.expr otherwise
  expr_totals (layers.Expr-F.Match operand choices otherwise) = said.expr operand || (list_any said.choice choices || if_any said.expr otherwise)
  expr_totals (layers.Expr-F.Aggregate op x) = true
  expr_totals (layers.Expr-F.Substr x from n) = said.expr x || (said.expr from || if_any said.expr n)
  expr_totals (layers.Expr-F.Apply f x) = said.expr x
  expr_totals (layers.Expr-F.Coalesce xs) = list_any said.expr xs

  -- a condition has an aggregate; those of subqueries are theirs
  abbrev pub cond_totals : Layer K layers.Cond-F → Bool
  cond_totals (layers.Cond-F.Or cs) = list_any said.cond cs
  cond_totals (layers.Cond-F.And cs) = list_any said.cond cs
  cond_totals (layers.Cond-F.Not c) = said.cond c
  cond_totals (layers.Cond-F.Exists q) = false
  cond_totals (layers.Cond-F.Compare by x y) = said.expr x || said.expr y
  cond_totals (layers.Cond-F.CompareQuery by x q) = said.expr x
  cond_totals (layers.Cond-F.IsNull x) = said.expr x
  cond_totals (layers.Cond-F.InQuery x q) = said.expr x
  cond_totals (layers.Cond-F.InList x ys) = said.expr x || list_any said.expr ys
  cond_totals (layers.Cond-F.Between x low high) = said.expr x || (said.expr low || said.expr high)

  -- An expression is sure without `+ - *`, without an aggregate that counts as arithmetic, and where its parts are.
  abbrev pub expr_sures : (Aggregate → Bool) → Layer K layers.Expr-F → Bool
  expr_sures adds (layers.Expr-F.Atom a) = true
  expr_sures adds (layers.Expr-F.Sum xs) = false
  expr_sures adds (layers.Expr-F.Concat xs) = list_all said.expr xs
  expr_sures adds (layers.Expr-F.Product xs) = false
  expr_sures adds (layers.Expr-F.Case arms otherwise) = list_all said.arm arms && unless_any said.expr otherwise
  expr_sures adds (layers.Expr-F.Match operand choices otherwise) = said.expr operand && (list_all said.choice choices && unless_any said.expr otherwise)
  expr_sures adds (layers.Expr-F.Aggregate op x) = not (adds op) && said.expr x
  expr_sures adds (layers.Expr-F.Substr x from n) = said.expr x && (said.expr from && unless_any said.expr n)
  expr_sures adds (layers.Expr-F.Apply f x) = said.expr x
  expr_sures adds (layers.Expr-F.Coalesce xs) = list_all said.expr xs

  -- a condition is sure without subqueries, and where its expressions are
  abbrev pub cond_sures : Layer K layers.Cond-F → Bool
  cond_sures (layers.Cond-F.Or cs) = list_all said.cond cs
  cond_sures (layers.Cond-F.And cs) = list_all said.cond cs
  cond_sures (layers.Cond-F.Not c) = said.cond c
  cond_sures (layers.Cond-F.Exists q) = false
  cond_sures (layers.Cond-F.Compare by x y) = said.expr x && said.expr y
  cond_sures (layers.Cond-F.CompareQuery by x q) = false
  cond_sures (layers.Cond-F.IsNull x) = said.expr x
  cond_sures (layers.Cond-F.InQuery x q) = false
  cond_sures (layers.Cond-F.InList x ys) = said.expr x && list_all said.expr ys
  cond_sures (layers.Cond-F.Between x low high) = said.expr x && (said.expr low && said.expr high)

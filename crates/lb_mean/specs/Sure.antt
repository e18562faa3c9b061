-- Which expressions and conditions are sure, having neither arithmetic nor a subquery, and which have an aggregate.
use Rattle.std.specs.Prelude.{◌&&◌, ◌||◌, Bool, true, false}
use Rattle.lb_tree.specs.declared.query.Aggregate.{Aggregate}
use Rattle.lb_tree.specs.declared.query.Aggregate.TheVariants as aggregates
use Rattle.lb_tree.specs.declared.query.Cond.TheOpen as layers
use Rattle.lb_tree.specs.Folds.{Layer}
use Rattle.lb_names.specs.Sure.{PartTests, expr_totals, expr_sures, cond_totals, cond_sures}
use Rattle.lb_mean.specs.Meant.{Means, meaning}

-- the expression has an aggregate
abbrev pub is_total : Means → Bool
is_total m = m.total

-- which parts are sure
abbrev pub sures : PartTests meaning
sures = record { cond = λ c. c.sure; expr = λ m. m.sure; arm = λ x. x.when.sure && x.result.sure; choice = λ x. x.when.sure && x.result.sure; signed = λ m. m.part.sure }

-- which parts have an aggregate
abbrev pub totals : PartTests meaning
totals = record { cond = λ c. c.total; expr = is_total; arm = λ x. x.when.total || x.result.total; choice = λ x. x.when.total || x.result.total; signed = λ m. m.part.total }

-- SUM adds, and is arithmetic like `+ - *`
abbrev pub adds : Aggregate → Bool
adds aggregates.Sum = true
adds _ = false

-- an expression is sure without `+ - *` and SUM
abbrev pub expr_sure : Layer meaning layers.Expr-F → Bool
expr_sure x = expr_sures sures adds x

-- an expression has an aggregate; those of subqueries are theirs
abbrev pub expr_total : Layer meaning layers.Expr-F → Bool
expr_total x = expr_totals totals x

-- a condition is sure without subqueries, and where its expressions are
abbrev pub cond_sure : Layer meaning layers.Cond-F → Bool
cond_sure x = cond_sures sures x

-- a condition has an aggregate; those of subqueries are theirs
abbrev pub cond_total : Layer meaning layers.Cond-F → Bool
cond_total x = cond_totals totals x

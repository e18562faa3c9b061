-- What expressions, conditions and queries mean in a setting.
use Rattle.lb_base.specs.declared.value.Value.{Value}
use Rattle.lb_base.specs.declared.truth.Truth.{Truth}
use Rattle.lb_base.specs.Evaluated.{Evaluated}
use Rattle.lb_tree.specs.declared.query.Expr.{Expr}
use Rattle.lb_tree.specs.declared.query.Cond.{Cond}
use Rattle.lb_tree.specs.declared.query.Query.{Query}
use Rattle.lb_tree.specs.declared.query.Item.{Item}
use Rattle.lb_tree.specs.declared.query.Join.{Join}
use Rattle.lb_tree.specs.declared.query.Arm.{Arm}
use Rattle.lb_tree.specs.declared.query.Chain.{Chain}
use Rattle.lb_tree.specs.declared.query.Choice.{Choice}
use Rattle.lb_tree.specs.declared.query.Signed.{Signed}
use Rattle.lb_tree.specs.Folds.{Steps, cond_of, expr_of, item_of, join_of, arm_of, chain_of, choice_of, query_of, signed_of}
use Rattle.lb_mean.specs.Setting.{Setting, Env}
use Rattle.lb_mean.specs.Meant.{Means, Says, Shows, Joins, Arms, Chains, Chooses, Answers, Signs, meaning}
use Rattle.lb_mean.specs.Expressions.{expr_step, arm_step, choice_step, signed_step}
use Rattle.lb_mean.specs.Conditions.{cond_step}
use Rattle.lb_mean.specs.Joined.{join_step, chain_step}
use Rattle.lb_mean.specs.Queries.{item_step, query_step}

-- what each node means, by what its parts mean
abbrev pub steps : Setting → Steps meaning
steps S = record {
  cond = cond_step;
  expr = expr_step S;
  item = item_step;
  join = join_step S;
  arm = arm_step;
  chain = chain_step S;
  choice = choice_step;
  query = query_step;
  signed = signed_step;
}

module _ (S : Setting) where
  -- what a condition says
  unfoldable pub says : Cond → Says
  says = cond_of meaning (steps S)

  -- what an expression means
  unfoldable pub means : Expr → Means
  means = expr_of meaning (steps S)

  -- what an item of a select list shows
  unfoldable pub shows : Item → Shows
  shows = item_of meaning (steps S)

  -- what a join adds
  unfoldable pub joins : Join → Joins
  joins = join_of meaning (steps S)

  -- what an arm of a CASE without operand gives
  unfoldable pub arms : Arm → Arms
  arms = arm_of meaning (steps S)

  -- what a table with its joins gives
  unfoldable pub chains : Chain → Chains
  chains = chain_of meaning (steps S)

  -- what an arm of a CASE with an operand gives
  unfoldable pub choices : Choice → Chooses
  choices = choice_of meaning (steps S)

  -- what a query answers
  unfoldable pub answers : Query → Answers
  answers = query_of meaning (steps S)

  -- what a part of a sum adds
  unfoldable pub signs : Signed → Signs
  signs = signed_of meaning (steps S)

  -- the value of an expression in an environment
  abbrev pub value_of : Expr → Env → Evaluated Value
  value_of e = (means e).value

  -- the truth of a condition in an environment
  abbrev pub test_of : Cond → Env → Evaluated Truth
  test_of c = (says c).test

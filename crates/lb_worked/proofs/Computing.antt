-- What opens a tree, so that its meaning is computed.
use Rattle.std.proofs.Common.{ℕ, ◌≡◌, List}
use Rattle.lb_tree.specs.declared.query.Cond.TheOpen as layers
pub use Rattle.lb_tree.specs.declared.query.Cond.TheViews.{out-roll-Query, out-roll-Item, out-roll-Expr}
use Rattle.lb_tree.specs.declared.query.Cond.TheViews.{roll-Cond, roll-Expr, roll-Item, roll-Join, roll-Arm, roll-Chain, roll-Choice, roll-Query, roll-Signed}
use Rattle.lb_tree.specs.Folds.{Written, cond_of, cond_layer, expr_of, expr_layer, item_of, item_layer, join_of, join_layer, arm_of, arm_layer, chain_of, chain_layer, choice_of, choice_layer, query_of, query_layer, signed_of, signed_layer}
use Rattle.lb_tree.proofs.Opens.{cond_roll, expr_roll, item_roll, join_roll, arm_roll, chain_roll, choice_roll, query_roll, signed_roll}
use Rattle.lb_cat.specs.declared.catalog.ColumnRec.{ColumnRec}
use Rattle.lb_names.specs.Mentions.{naming, naming_steps, in_cond, in_expr, in_query}
use Rattle.lb_mean.specs.Meant.{meaning}
use Rattle.lb_mean.specs.Meaning.{steps, says, means, answers}
use Rattle.lb_mean.specs.Setting.{Setting}
use Rattle.lb_mean.specs.Uses.{using, use_steps, uses_in, uses_in_cond, uses_in_query}

pub m_cond : (S : Setting) (x : Written layers.Cond-F) → cond_of meaning (steps S) (roll-Cond x) ≡ (steps S).cond (cond_layer meaning (steps S) x)
m_cond S x = cond_roll meaning (steps S) x

pub m_expr : (S : Setting) (x : Written layers.Expr-F) → expr_of meaning (steps S) (roll-Expr x) ≡ (steps S).expr (expr_layer meaning (steps S) x)
m_expr S x = expr_roll meaning (steps S) x

pub m_item : (S : Setting) (x : Written layers.Item-F) → item_of meaning (steps S) (roll-Item x) ≡ (steps S).item (item_layer meaning (steps S) x)
m_item S x = item_roll meaning (steps S) x

pub m_join : (S : Setting) (x : Written layers.Join-F) → join_of meaning (steps S) (roll-Join x) ≡ (steps S).join (join_layer meaning (steps S) x)
m_join S x = join_roll meaning (steps S) x

pub m_arm : (S : Setting) (x : Written layers.Arm-F) → arm_of meaning (steps S) (roll-Arm x) ≡ (steps S).arm (arm_layer meaning (steps S) x)
m_arm S x = arm_roll meaning (steps S) x

pub m_chain : (S : Setting) (x : Written layers.Chain-F) → chain_of meaning (steps S) (roll-Chain x) ≡ (steps S).chain (chain_layer meaning (steps S) x)
m_chain S x = chain_roll meaning (steps S) x

pub m_choice : (S : Setting) (x : Written layers.Choice-F) → choice_of meaning (steps S) (roll-Choice x) ≡ (steps S).choice (choice_layer meaning (steps S) x)
m_choice S x = choice_roll meaning (steps S) x

pub m_query : (S : Setting) (x : Written layers.Query-F) → query_of meaning (steps S) (roll-Query x) ≡ (steps S).query (query_layer meaning (steps S) x)
m_query S x = query_roll meaning (steps S) x

pub m_signed : (S : Setting) (x : Written layers.Signed-F) → signed_of meaning (steps S) (roll-Signed x) ≡ (steps S).signed (signed_layer meaning (steps S) x)
m_signed S x = signed_roll meaning (steps S) x

pub n_cond : (x : Written layers.Cond-F) → cond_of naming naming_steps (roll-Cond x) ≡ naming_steps.cond (cond_layer naming naming_steps x)
n_cond x = cond_roll naming naming_steps x

pub n_expr : (x : Written layers.Expr-F) → expr_of naming naming_steps (roll-Expr x) ≡ naming_steps.expr (expr_layer naming naming_steps x)
n_expr x = expr_roll naming naming_steps x

pub n_item : (x : Written layers.Item-F) → item_of naming naming_steps (roll-Item x) ≡ naming_steps.item (item_layer naming naming_steps x)
n_item x = item_roll naming naming_steps x

pub n_join : (x : Written layers.Join-F) → join_of naming naming_steps (roll-Join x) ≡ naming_steps.join (join_layer naming naming_steps x)
n_join x = join_roll naming naming_steps x

pub n_arm : (x : Written layers.Arm-F) → arm_of naming naming_steps (roll-Arm x) ≡ naming_steps.arm (arm_layer naming naming_steps x)
n_arm x = arm_roll naming naming_steps x

pub n_chain : (x : Written layers.Chain-F) → chain_of naming naming_steps (roll-Chain x) ≡ naming_steps.chain (chain_layer naming naming_steps x)
n_chain x = chain_roll naming naming_steps x

pub n_choice : (x : Written layers.Choice-F) → choice_of naming naming_steps (roll-Choice x) ≡ naming_steps.choice (choice_layer naming naming_steps x)
n_choice x = choice_roll naming naming_steps x

pub n_query : (x : Written layers.Query-F) → query_of naming naming_steps (roll-Query x) ≡ naming_steps.query (query_layer naming naming_steps x)
n_query x = query_roll naming naming_steps x

pub n_signed : (x : Written layers.Signed-F) → signed_of naming naming_steps (roll-Signed x) ≡ naming_steps.signed (signed_layer naming naming_steps x)
n_signed x = signed_roll naming naming_steps x

pub u_cond : (columns : List ℕ → List ColumnRec) (x : Written layers.Cond-F) → cond_of using (use_steps columns) (roll-Cond x) ≡ (use_steps columns).cond (cond_layer using (use_steps columns) x)
u_cond columns x = cond_roll using (use_steps columns) x

pub u_expr : (columns : List ℕ → List ColumnRec) (x : Written layers.Expr-F) → expr_of using (use_steps columns) (roll-Expr x) ≡ (use_steps columns).expr (expr_layer using (use_steps columns) x)
u_expr columns x = expr_roll using (use_steps columns) x

pub u_item : (columns : List ℕ → List ColumnRec) (x : Written layers.Item-F) → item_of using (use_steps columns) (roll-Item x) ≡ (use_steps columns).item (item_layer using (use_steps columns) x)
u_item columns x = item_roll using (use_steps columns) x

pub u_join : (columns : List ℕ → List ColumnRec) (x : Written layers.Join-F) → join_of using (use_steps columns) (roll-Join x) ≡ (use_steps columns).join (join_layer using (use_steps columns) x)
u_join columns x = join_roll using (use_steps columns) x

pub u_arm : (columns : List ℕ → List ColumnRec) (x : Written layers.Arm-F) → arm_of using (use_steps columns) (roll-Arm x) ≡ (use_steps columns).arm (arm_layer using (use_steps columns) x)
u_arm columns x = arm_roll using (use_steps columns) x

pub u_chain : (columns : List ℕ → List ColumnRec) (x : Written layers.Chain-F) → chain_of using (use_steps columns) (roll-Chain x) ≡ (use_steps columns).chain (chain_layer using (use_steps columns) x)
u_chain columns x = chain_roll using (use_steps columns) x

pub u_choice : (columns : List ℕ → List ColumnRec) (x : Written layers.Choice-F) → choice_of using (use_steps columns) (roll-Choice x) ≡ (use_steps columns).choice (choice_layer using (use_steps columns) x)
u_choice columns x = choice_roll using (use_steps columns) x

pub u_query : (columns : List ℕ → List ColumnRec) (x : Written layers.Query-F) → query_of using (use_steps columns) (roll-Query x) ≡ (use_steps columns).query (query_layer using (use_steps columns) x)
u_query columns x = query_roll using (use_steps columns) x

pub u_signed : (columns : List ℕ → List ColumnRec) (x : Written layers.Signed-F) → signed_of using (use_steps columns) (roll-Signed x) ≡ (use_steps columns).signed (signed_layer using (use_steps columns) x)
u_signed columns x = signed_roll using (use_steps columns) x

pub open_says : (S : Setting) (x : Written layers.Cond-F) → says S (roll-Cond x) ≡ (steps S).cond (cond_layer meaning (steps S) x)
unfolding says
open_says S x = cond_roll meaning (steps S) x

pub open_means : (S : Setting) (x : Written layers.Expr-F) → means S (roll-Expr x) ≡ (steps S).expr (expr_layer meaning (steps S) x)
unfolding means
open_means S x = expr_roll meaning (steps S) x

pub open_answers : (S : Setting) (x : Written layers.Query-F) → answers S (roll-Query x) ≡ (steps S).query (query_layer meaning (steps S) x)
unfolding answers
open_answers S x = query_roll meaning (steps S) x

pub open_mentions_of_cond : (x : Written layers.Cond-F) → in_cond (roll-Cond x) ≡ naming_steps.cond (cond_layer naming naming_steps x)
unfolding in_cond
open_mentions_of_cond x = cond_roll naming naming_steps x

pub open_mentions_of_expr : (x : Written layers.Expr-F) → in_expr (roll-Expr x) ≡ naming_steps.expr (expr_layer naming naming_steps x)
unfolding in_expr
open_mentions_of_expr x = expr_roll naming naming_steps x

pub open_mentions_of_query : (x : Written layers.Query-F) → in_query (roll-Query x) ≡ naming_steps.query (query_layer naming naming_steps x)
unfolding in_query
open_mentions_of_query x = query_roll naming naming_steps x

pub open_uses_of_cond : (columns : List ℕ → List ColumnRec) (x : Written layers.Cond-F) → uses_in_cond columns (roll-Cond x) ≡ (use_steps columns).cond (cond_layer using (use_steps columns) x)
unfolding uses_in_cond
open_uses_of_cond columns x = cond_roll using (use_steps columns) x

pub open_uses_of_expr : (columns : List ℕ → List ColumnRec) (x : Written layers.Expr-F) → uses_in columns (roll-Expr x) ≡ (use_steps columns).expr (expr_layer using (use_steps columns) x)
unfolding uses_in
open_uses_of_expr columns x = expr_roll using (use_steps columns) x

pub open_uses_of_query : (columns : List ℕ → List ColumnRec) (x : Written layers.Query-F) → uses_in_query columns (roll-Query x) ≡ (use_steps columns).query (query_layer using (use_steps columns) x)
unfolding uses_in_query
open_uses_of_query columns x = query_roll using (use_steps columns) x

pub ruleset computing = (open_says, open_means, open_answers, open_mentions_of_cond, open_mentions_of_expr, open_mentions_of_query, open_uses_of_cond, open_uses_of_expr, open_uses_of_query, m_cond, m_expr, m_item, m_join, m_arm, m_chain, m_choice, m_query, m_signed, n_cond, n_expr, n_item, n_join, n_arm, n_chain, n_choice, n_query, n_signed, u_cond, u_expr, u_item, u_join, u_arm, u_chain, u_choice, u_query, u_signed, out-roll-Query, out-roll-Item, out-roll-Expr)

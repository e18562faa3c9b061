-- What a fold gives at each kind of node, by what it gives for the parts. tools/fold-equations writes this file.
use Rattle.std.proofs.Common.{ℕ, ◌≡◌, refl, ap, sym, ◌∙◌, List, Bool, Option, Some, None, map}
use Rattle.std.specs.Option.{option_map}
use Rattle.lb_tree.specs.declared.query.Cond.{Cond}
use Rattle.lb_tree.specs.declared.query.Expr.{Expr}
use Rattle.lb_tree.specs.declared.query.Item.{Item}
use Rattle.lb_tree.specs.declared.query.Join.{Join}
use Rattle.lb_tree.specs.declared.query.Arm.{Arm}
use Rattle.lb_tree.specs.declared.query.Chain.{Chain}
use Rattle.lb_tree.specs.declared.query.Choice.{Choice}
use Rattle.lb_tree.specs.declared.query.Query.{Query}
use Rattle.lb_tree.specs.declared.query.Signed.{Signed}
use Rattle.lb_tree.specs.declared.query.Aggregate.{Aggregate}
use Rattle.lb_tree.specs.declared.query.Atom.{Atom}
use Rattle.lb_tree.specs.declared.query.Column.{Column}
use Rattle.lb_tree.specs.declared.query.Comparison.{Comparison}
use Rattle.lb_tree.specs.declared.query.Function.{Function}
use Rattle.lb_tree.specs.declared.query.Tab.{Tab}
use Rattle.lb_tree.specs.declared.query.Cond.TheVariants as conds
use Rattle.lb_tree.specs.declared.query.Expr.TheVariants as exprs
use Rattle.lb_tree.specs.declared.query.Item.TheVariants as items
use Rattle.lb_tree.specs.declared.query.Join.TheVariants as joins
use Rattle.lb_tree.specs.declared.query.Cond.TheOpen as layers
use Rattle.lb_tree.specs.declared.query.Cond.TheViews.{roll-Cond, roll-Expr, roll-Item, roll-Join, roll-Arm, roll-Chain, roll-Choice, roll-Query, roll-Signed, out-Query}
use Rattle.lb_tree.specs.declared.query.Cond.TheFolds.{fold-roll-Cond, fold-roll-Expr, fold-roll-Item, fold-roll-Join, fold-roll-Arm, fold-roll-Chain, fold-roll-Choice, fold-roll-Query, fold-roll-Signed, fold_out-Arm, fold_out-Chain, fold_out-Choice, fold_out-Query, fold_out-Signed, map-Query}
use Rattle.lb_tree.specs.Folds.{Kinds, Written, Steps, cond_of, cond_layer, expr_of, expr_layer, item_of, item_layer, join_of, join_layer, arm_of, arm_layer, chain_of, chain_layer, choice_of, choice_layer, query_of, query_layer, signed_of, signed_layer}

abbrev Name : Type 0
Name = List ℕ

module _ (K : Kinds) (s : Steps K) where
  pub cond_roll : (x : Written layers.Cond-F) → cond_of K s (roll-Cond x) ≡ s.cond (cond_layer K s x)
  unfolding cond_of expr_of item_of join_of arm_of chain_of choice_of query_of signed_of
  cond_roll x = fold-roll-Cond K.cond K.expr K.item K.join K.arm K.chain K.choice K.query K.signed s.cond s.expr s.item s.join s.arm s.chain s.choice s.query s.signed x

  pub expr_roll : (x : Written layers.Expr-F) → expr_of K s (roll-Expr x) ≡ s.expr (expr_layer K s x)
  unfolding cond_of expr_of item_of join_of arm_of chain_of choice_of query_of signed_of
  expr_roll x = fold-roll-Expr K.cond K.expr K.item K.join K.arm K.chain K.choice K.query K.signed s.cond s.expr s.item s.join s.arm s.chain s.choice s.query s.signed x

  pub item_roll : (x : Written layers.Item-F) → item_of K s (roll-Item x) ≡ s.item (item_layer K s x)
  unfolding cond_of expr_of item_of join_of arm_of chain_of choice_of query_of signed_of
  item_roll x = fold-roll-Item K.cond K.expr K.item K.join K.arm K.chain K.choice K.query K.signed s.cond s.expr s.item s.join s.arm s.chain s.choice s.query s.signed x

  pub join_roll : (x : Written layers.Join-F) → join_of K s (roll-Join x) ≡ s.join (join_layer K s x)
  unfolding cond_of expr_of item_of join_of arm_of chain_of choice_of query_of signed_of
  join_roll x = fold-roll-Join K.cond K.expr K.item K.join K.arm K.chain K.choice K.query K.signed s.cond s.expr s.item s.join s.arm s.chain s.choice s.query s.signed x

  pub arm_roll : (x : Written layers.Arm-F) → arm_of K s (roll-Arm x) ≡ s.arm (arm_layer K s x)
  unfolding cond_of expr_of item_of join_of arm_of chain_of choice_of query_of signed_of
  arm_roll x = fold-roll-Arm K.cond K.expr K.item K.join K.arm K.chain K.choice K.query K.signed s.cond s.expr s.item s.join s.arm s.chain s.choice s.query s.signed x

  pub chain_roll : (x : Written layers.Chain-F) → chain_of K s (roll-Chain x) ≡ s.chain (chain_layer K s x)
  unfolding cond_of expr_of item_of join_of arm_of chain_of choice_of query_of signed_of
  chain_roll x = fold-roll-Chain K.cond K.expr K.item K.join K.arm K.chain K.choice K.query K.signed s.cond s.expr s.item s.join s.arm s.chain s.choice s.query s.signed x

  pub choice_roll : (x : Written layers.Choice-F) → choice_of K s (roll-Choice x) ≡ s.choice (choice_layer K s x)
  unfolding cond_of expr_of item_of join_of arm_of chain_of choice_of query_of signed_of
  choice_roll x = fold-roll-Choice K.cond K.expr K.item K.join K.arm K.chain K.choice K.query K.signed s.cond s.expr s.item s.join s.arm s.chain s.choice s.query s.signed x

  pub query_roll : (x : Written layers.Query-F) → query_of K s (roll-Query x) ≡ s.query (query_layer K s x)
  unfolding cond_of expr_of item_of join_of arm_of chain_of choice_of query_of signed_of
  query_roll x = fold-roll-Query K.cond K.expr K.item K.join K.arm K.chain K.choice K.query K.signed s.cond s.expr s.item s.join s.arm s.chain s.choice s.query s.signed x

  pub signed_roll : (x : Written layers.Signed-F) → signed_of K s (roll-Signed x) ≡ s.signed (signed_layer K s x)
  unfolding cond_of expr_of item_of join_of arm_of chain_of choice_of query_of signed_of
  signed_roll x = fold-roll-Signed K.cond K.expr K.item K.join K.arm K.chain K.choice K.query K.signed s.cond s.expr s.item s.join s.arm s.chain s.choice s.query s.signed x

  pub cond_or : (a : List Cond) → cond_of K s (conds.Or a) ≡ s.cond (layers.Cond-F.Or (map (cond_of K s) a))
  cond_or a = ap (cond_of K s) (sym (conds.rolls-Or a)) ∙ cond_roll (layers.Cond-F.Or a)

  pub cond_and : (a : List Cond) → cond_of K s (conds.And a) ≡ s.cond (layers.Cond-F.And (map (cond_of K s) a))
  cond_and a = ap (cond_of K s) (sym (conds.rolls-And a)) ∙ cond_roll (layers.Cond-F.And a)

  pub cond_not : (a : Cond) → cond_of K s (conds.Not a) ≡ s.cond (layers.Cond-F.Not (cond_of K s a))
  cond_not a = ap (cond_of K s) (sym (conds.rolls-Not a)) ∙ cond_roll (layers.Cond-F.Not a)

  pub cond_exists : (a : Query) → cond_of K s (conds.Exists a) ≡ s.cond (layers.Cond-F.Exists (query_of K s a))
  cond_exists a = ap (cond_of K s) (sym (conds.rolls-Exists a)) ∙ cond_roll (layers.Cond-F.Exists a)

  pub cond_compare : (a : Comparison) (b : Expr) (c : Expr) → cond_of K s (conds.Compare a b c) ≡ s.cond (layers.Cond-F.Compare a (expr_of K s b) (expr_of K s c))
  cond_compare a b c = ap (cond_of K s) (sym (conds.rolls-Compare a b c)) ∙ cond_roll (layers.Cond-F.Compare a b c)

  pub cond_comparequery : (a : Comparison) (b : Expr) (c : Query) → cond_of K s (conds.CompareQuery a b c) ≡ s.cond (layers.Cond-F.CompareQuery a (expr_of K s b) (query_of K s c))
  cond_comparequery a b c = ap (cond_of K s) (sym (conds.rolls-CompareQuery a b c)) ∙ cond_roll (layers.Cond-F.CompareQuery a b c)

  pub cond_isnull : (a : Expr) → cond_of K s (conds.IsNull a) ≡ s.cond (layers.Cond-F.IsNull (expr_of K s a))
  cond_isnull a = ap (cond_of K s) (sym (conds.rolls-IsNull a)) ∙ cond_roll (layers.Cond-F.IsNull a)

  pub cond_inquery : (a : Expr) (b : Query) → cond_of K s (conds.InQuery a b) ≡ s.cond (layers.Cond-F.InQuery (expr_of K s a) (query_of K s b))
  cond_inquery a b = ap (cond_of K s) (sym (conds.rolls-InQuery a b)) ∙ cond_roll (layers.Cond-F.InQuery a b)

  pub cond_inlist : (a : Expr) (b : List Expr) → cond_of K s (conds.InList a b) ≡ s.cond (layers.Cond-F.InList (expr_of K s a) (map (expr_of K s) b))
  cond_inlist a b = ap (cond_of K s) (sym (conds.rolls-InList a b)) ∙ cond_roll (layers.Cond-F.InList a b)

  pub cond_between : (a : Expr) (b : Expr) (c : Expr) → cond_of K s (conds.Between a b c) ≡ s.cond (layers.Cond-F.Between (expr_of K s a) (expr_of K s b) (expr_of K s c))
  cond_between a b c = ap (cond_of K s) (sym (conds.rolls-Between a b c)) ∙ cond_roll (layers.Cond-F.Between a b c)

  pub expr_atom : (a : Atom) → expr_of K s (exprs.Atom a) ≡ s.expr (layers.Expr-F.Atom a)
  expr_atom a = ap (expr_of K s) (sym (exprs.rolls-Atom a)) ∙ expr_roll (layers.Expr-F.Atom a)

  pub expr_sum : (a : List Signed) → expr_of K s (exprs.Sum a) ≡ s.expr (layers.Expr-F.Sum (map (signed_of K s) a))
  expr_sum a = ap (expr_of K s) (sym (exprs.rolls-Sum a)) ∙ expr_roll (layers.Expr-F.Sum a)

  pub expr_concat : (a : List Expr) → expr_of K s (exprs.Concat a) ≡ s.expr (layers.Expr-F.Concat (map (expr_of K s) a))
  expr_concat a = ap (expr_of K s) (sym (exprs.rolls-Concat a)) ∙ expr_roll (layers.Expr-F.Concat a)

  pub expr_product : (a : List Expr) → expr_of K s (exprs.Product a) ≡ s.expr (layers.Expr-F.Product (map (expr_of K s) a))
  expr_product a = ap (expr_of K s) (sym (exprs.rolls-Product a)) ∙ expr_roll (layers.Expr-F.Product a)

  pub expr_case : (a : List Arm) (b : Option Expr) → expr_of K s (exprs.Case a b) ≡ s.expr (layers.Expr-F.Case (map (arm_of K s) a) (option_map (expr_of K s) b))
  expr_case a None = ap (expr_of K s) (sym (exprs.rolls-Case a None)) ∙ expr_roll (layers.Expr-F.Case a None)
  expr_case a (Some b) = ap (expr_of K s) (sym (exprs.rolls-Case a (Some b))) ∙ expr_roll (layers.Expr-F.Case a (Some b))

  pub expr_match : (a : Expr) (b : List Choice) (c : Option Expr) → expr_of K s (exprs.Match a b c) ≡ s.expr (layers.Expr-F.Match (expr_of K s a) (map (choice_of K s) b) (option_map (expr_of K s) c))
  expr_match a b None = ap (expr_of K s) (sym (exprs.rolls-Match a b None)) ∙ expr_roll (layers.Expr-F.Match a b None)
  expr_match a b (Some c) = ap (expr_of K s) (sym (exprs.rolls-Match a b (Some c))) ∙ expr_roll (layers.Expr-F.Match a b (Some c))

  pub expr_aggregate : (a : Aggregate) (b : Expr) → expr_of K s (exprs.Aggregate a b) ≡ s.expr (layers.Expr-F.Aggregate a (expr_of K s b))
  expr_aggregate a b = ap (expr_of K s) (sym (exprs.rolls-Aggregate a b)) ∙ expr_roll (layers.Expr-F.Aggregate a b)

  pub expr_substr : (a : Expr) (b : Expr) (c : Option Expr) → expr_of K s (exprs.Substr a b c) ≡ s.expr (layers.Expr-F.Substr (expr_of K s a) (expr_of K s b) (option_map (expr_of K s) c))
  expr_substr a b None = ap (expr_of K s) (sym (exprs.rolls-Substr a b None)) ∙ expr_roll (layers.Expr-F.Substr a b None)
  expr_substr a b (Some c) = ap (expr_of K s) (sym (exprs.rolls-Substr a b (Some c))) ∙ expr_roll (layers.Expr-F.Substr a b (Some c))

  pub expr_apply : (a : Function) (b : Expr) → expr_of K s (exprs.Apply a b) ≡ s.expr (layers.Expr-F.Apply a (expr_of K s b))
  expr_apply a b = ap (expr_of K s) (sym (exprs.rolls-Apply a b)) ∙ expr_roll (layers.Expr-F.Apply a b)

  pub expr_coalesce : (a : List Expr) → expr_of K s (exprs.Coalesce a) ≡ s.expr (layers.Expr-F.Coalesce (map (expr_of K s) a))
  expr_coalesce a = ap (expr_of K s) (sym (exprs.rolls-Coalesce a)) ∙ expr_roll (layers.Expr-F.Coalesce a)

  pub item_everything : item_of K s (items.Everything) ≡ s.item (layers.Item-F.Everything)
  item_everything = ap (item_of K s) (sym items.rolls-Everything) ∙ item_roll layers.Item-F.Everything

  pub item_allof : (a : Name) → item_of K s (items.AllOf a) ≡ s.item (layers.Item-F.AllOf a)
  item_allof a = ap (item_of K s) (sym (items.rolls-AllOf a)) ∙ item_roll (layers.Item-F.AllOf a)

  pub item_value : (a : Expr) (b : Option Name) → item_of K s (items.Value a b) ≡ s.item (layers.Item-F.Value (expr_of K s a) b)
  item_value a b = ap (item_of K s) (sym (items.rolls-Value a b)) ∙ item_roll (layers.Item-F.Value a b)

  pub join_inner : (a : Tab) (b : Cond) → join_of K s (joins.Inner a b) ≡ s.join (layers.Join-F.Inner a (cond_of K s b))
  join_inner a b = ap (join_of K s) (sym (joins.rolls-Inner a b)) ∙ join_roll (layers.Join-F.Inner a b)

  pub join_left : (a : Tab) (b : Cond) → join_of K s (joins.Left a b) ≡ s.join (layers.Join-F.Left a (cond_of K s b))
  join_left a b = ap (join_of K s) (sym (joins.rolls-Left a b)) ∙ join_roll (layers.Join-F.Left a b)

  pub join_cross : (a : Tab) → join_of K s (joins.Cross a) ≡ s.join (layers.Join-F.Cross a)
  join_cross a = ap (join_of K s) (sym (joins.rolls-Cross a)) ∙ join_roll (layers.Join-F.Cross a)

  pub arm_out : (x : Arm) → arm_of K s x ≡ s.arm (record { when = (cond_of K s x.when); result = (expr_of K s x.result) })
  unfolding cond_of expr_of item_of join_of arm_of chain_of choice_of query_of signed_of
  arm_out x = fold_out-Arm K.cond K.expr K.item K.join K.arm K.chain K.choice K.query K.signed s.cond s.expr s.item s.join s.arm s.chain s.choice s.query s.signed x

  pub chain_out : (x : Chain) → chain_of K s x ≡ s.chain (record { first = x.first; joins = (map (join_of K s) x.joins) })
  unfolding cond_of expr_of item_of join_of arm_of chain_of choice_of query_of signed_of
  chain_out x = fold_out-Chain K.cond K.expr K.item K.join K.arm K.chain K.choice K.query K.signed s.cond s.expr s.item s.join s.arm s.chain s.choice s.query s.signed x

  pub choice_out : (x : Choice) → choice_of K s x ≡ s.choice (record { when = (expr_of K s x.when); result = (expr_of K s x.result) })
  unfolding cond_of expr_of item_of join_of arm_of chain_of choice_of query_of signed_of
  choice_out x = fold_out-Choice K.cond K.expr K.item K.join K.arm K.chain K.choice K.query K.signed s.cond s.expr s.item s.join s.arm s.chain s.choice s.query s.signed x

  query_opened : (distinct : Bool) (items : List Item) (from : List Chain) (filter : Option Cond) (group : List Column) (having : Option Cond)
      → s.query (map-Query Cond Expr Item Join Arm Chain Choice Query Signed K.cond K.expr K.item K.join K.arm K.chain K.choice K.query K.signed (cond_of K s) (expr_of K s) (item_of K s) (join_of K s) (arm_of K s) (chain_of K s) (choice_of K s) (query_of K s) (signed_of K s) (record { distinct = distinct; items = items; from = from; filter = filter; group = group; having = having }))
      ≡ s.query (record { distinct = distinct; items = (map (item_of K s) items); from = (map (chain_of K s) from); filter = (option_map (cond_of K s) filter); group = group; having = (option_map (cond_of K s) having) })
  query_opened distinct items from None group None = refl
  query_opened distinct items from None group (Some having) = refl
  query_opened distinct items from (Some filter) group None = refl
  query_opened distinct items from (Some filter) group (Some having) = refl

  pub query_out : (x : Query) → query_of K s x ≡ s.query (record { distinct = (out-Query x).distinct; items = (map (item_of K s) (out-Query x).items); from = (map (chain_of K s) (out-Query x).from); filter = (option_map (cond_of K s) (out-Query x).filter); group = (out-Query x).group; having = (option_map (cond_of K s) (out-Query x).having) })
  unfolding cond_of expr_of item_of join_of arm_of chain_of choice_of query_of signed_of
  query_out x = fold_out-Query K.cond K.expr K.item K.join K.arm K.chain K.choice K.query K.signed s.cond s.expr s.item s.join s.arm s.chain s.choice s.query s.signed x ∙ query_opened (out-Query x).distinct (out-Query x).items (out-Query x).from (out-Query x).filter (out-Query x).group (out-Query x).having

  pub signed_out : (x : Signed) → signed_of K s x ≡ s.signed (record { minus = x.minus; part = (expr_of K s x.part) })
  unfolding cond_of expr_of item_of join_of arm_of chain_of choice_of query_of signed_of
  signed_out x = fold_out-Signed K.cond K.expr K.item K.join K.arm K.chain K.choice K.query K.signed s.cond s.expr s.item s.join s.arm s.chain s.choice s.query s.signed x

-- A fold over the tree of queries: one step for each kind of node, which is given what its parts mean.
-- tools/fold-equations writes this file.
use Rattle.lb_tree.specs.declared.query.Cond.{Cond}
use Rattle.lb_tree.specs.declared.query.Expr.{Expr}
use Rattle.lb_tree.specs.declared.query.Item.{Item}
use Rattle.lb_tree.specs.declared.query.Join.{Join}
use Rattle.lb_tree.specs.declared.query.Arm.{Arm}
use Rattle.lb_tree.specs.declared.query.Chain.{Chain}
use Rattle.lb_tree.specs.declared.query.Choice.{Choice}
use Rattle.lb_tree.specs.declared.query.Query.{Query}
use Rattle.lb_tree.specs.declared.query.Signed.{Signed}
use Rattle.lb_tree.specs.declared.query.Cond.TheOpen as layers
use Rattle.lb_tree.specs.declared.query.Cond.TheFolds.{map-Cond, map-Expr, map-Item, map-Join, map-Arm, map-Chain, map-Choice, map-Query, map-Signed, fold-Cond, fold-Expr, fold-Item, fold-Join, fold-Arm, fold-Chain, fold-Choice, fold-Query, fold-Signed}

-- what each kind of node means
pub record Kinds : Type 1 where
  pub cond : Type 0
  pub expr : Type 0
  pub item : Type 0
  pub join : Type 0
  pub arm : Type 0
  pub chain : Type 0
  pub choice : Type 0
  pub query : Type 0
  pub signed : Type 0

-- a layer of the tree whose parts are what they mean
abbrev pub Layer : Kinds → (Type 0 → Type 0 → Type 0 → Type 0 → Type 0 → Type 0 → Type 0 → Type 0 → Type 0 → Type 0) → Type 0
Layer K F = F K.cond K.expr K.item K.join K.arm K.chain K.choice K.query K.signed

-- what a node means, by what its parts mean
pub record Steps (K : Kinds) : Type 0 where
  pub cond : Layer K layers.Cond-F → K.cond
  pub expr : Layer K layers.Expr-F → K.expr
  pub item : Layer K layers.Item-F → K.item
  pub join : Layer K layers.Join-F → K.join
  pub arm : Layer K layers.Arm-F → K.arm
  pub chain : Layer K layers.Chain-F → K.chain
  pub choice : Layer K layers.Choice-F → K.choice
  pub query : Layer K layers.Query-F → K.query
  pub signed : Layer K layers.Signed-F → K.signed

-- what a tree of each kind means
unfoldable pub cond_of : (K : Kinds) → Steps K → Cond → K.cond
cond_of K s = fold-Cond K.cond K.expr K.item K.join K.arm K.chain K.choice K.query K.signed s.cond s.expr s.item s.join s.arm s.chain s.choice s.query s.signed

unfoldable pub expr_of : (K : Kinds) → Steps K → Expr → K.expr
expr_of K s = fold-Expr K.cond K.expr K.item K.join K.arm K.chain K.choice K.query K.signed s.cond s.expr s.item s.join s.arm s.chain s.choice s.query s.signed

unfoldable pub item_of : (K : Kinds) → Steps K → Item → K.item
item_of K s = fold-Item K.cond K.expr K.item K.join K.arm K.chain K.choice K.query K.signed s.cond s.expr s.item s.join s.arm s.chain s.choice s.query s.signed

unfoldable pub join_of : (K : Kinds) → Steps K → Join → K.join
join_of K s = fold-Join K.cond K.expr K.item K.join K.arm K.chain K.choice K.query K.signed s.cond s.expr s.item s.join s.arm s.chain s.choice s.query s.signed

unfoldable pub arm_of : (K : Kinds) → Steps K → Arm → K.arm
arm_of K s = fold-Arm K.cond K.expr K.item K.join K.arm K.chain K.choice K.query K.signed s.cond s.expr s.item s.join s.arm s.chain s.choice s.query s.signed

unfoldable pub chain_of : (K : Kinds) → Steps K → Chain → K.chain
chain_of K s = fold-Chain K.cond K.expr K.item K.join K.arm K.chain K.choice K.query K.signed s.cond s.expr s.item s.join s.arm s.chain s.choice s.query s.signed

unfoldable pub choice_of : (K : Kinds) → Steps K → Choice → K.choice
choice_of K s = fold-Choice K.cond K.expr K.item K.join K.arm K.chain K.choice K.query K.signed s.cond s.expr s.item s.join s.arm s.chain s.choice s.query s.signed

unfoldable pub query_of : (K : Kinds) → Steps K → Query → K.query
query_of K s = fold-Query K.cond K.expr K.item K.join K.arm K.chain K.choice K.query K.signed s.cond s.expr s.item s.join s.arm s.chain s.choice s.query s.signed

unfoldable pub signed_of : (K : Kinds) → Steps K → Signed → K.signed
signed_of K s = fold-Signed K.cond K.expr K.item K.join K.arm K.chain K.choice K.query K.signed s.cond s.expr s.item s.join s.arm s.chain s.choice s.query s.signed

-- a layer as it is written
abbrev pub Written : (Type 0 → Type 0 → Type 0 → Type 0 → Type 0 → Type 0 → Type 0 → Type 0 → Type 0 → Type 0) → Type 0
Written F = F Cond Expr Item Join Arm Chain Choice Query Signed

-- a layer with each part replaced by what it means
abbrev pub cond_layer : (K : Kinds) → Steps K → Written layers.Cond-F → Layer K layers.Cond-F
cond_layer K s x = map-Cond Cond Expr Item Join Arm Chain Choice Query Signed K.cond K.expr K.item K.join K.arm K.chain K.choice K.query K.signed (cond_of K s) (expr_of K s) (item_of K s) (join_of K s) (arm_of K s) (chain_of K s) (choice_of K s) (query_of K s) (signed_of K s) x

abbrev pub expr_layer : (K : Kinds) → Steps K → Written layers.Expr-F → Layer K layers.Expr-F
expr_layer K s x = map-Expr Cond Expr Item Join Arm Chain Choice Query Signed K.cond K.expr K.item K.join K.arm K.chain K.choice K.query K.signed (cond_of K s) (expr_of K s) (item_of K s) (join_of K s) (arm_of K s) (chain_of K s) (choice_of K s) (query_of K s) (signed_of K s) x

abbrev pub item_layer : (K : Kinds) → Steps K → Written layers.Item-F → Layer K layers.Item-F
item_layer K s x = map-Item Cond Expr Item Join Arm Chain Choice Query Signed K.cond K.expr K.item K.join K.arm K.chain K.choice K.query K.signed (cond_of K s) (expr_of K s) (item_of K s) (join_of K s) (arm_of K s) (chain_of K s) (choice_of K s) (query_of K s) (signed_of K s) x

abbrev pub join_layer : (K : Kinds) → Steps K → Written layers.Join-F → Layer K layers.Join-F
join_layer K s x = map-Join Cond Expr Item Join Arm Chain Choice Query Signed K.cond K.expr K.item K.join K.arm K.chain K.choice K.query K.signed (cond_of K s) (expr_of K s) (item_of K s) (join_of K s) (arm_of K s) (chain_of K s) (choice_of K s) (query_of K s) (signed_of K s) x

abbrev pub arm_layer : (K : Kinds) → Steps K → Written layers.Arm-F → Layer K layers.Arm-F
arm_layer K s x = map-Arm Cond Expr Item Join Arm Chain Choice Query Signed K.cond K.expr K.item K.join K.arm K.chain K.choice K.query K.signed (cond_of K s) (expr_of K s) (item_of K s) (join_of K s) (arm_of K s) (chain_of K s) (choice_of K s) (query_of K s) (signed_of K s) x

abbrev pub chain_layer : (K : Kinds) → Steps K → Written layers.Chain-F → Layer K layers.Chain-F
chain_layer K s x = map-Chain Cond Expr Item Join Arm Chain Choice Query Signed K.cond K.expr K.item K.join K.arm K.chain K.choice K.query K.signed (cond_of K s) (expr_of K s) (item_of K s) (join_of K s) (arm_of K s) (chain_of K s) (choice_of K s) (query_of K s) (signed_of K s) x

abbrev pub choice_layer : (K : Kinds) → Steps K → Written layers.Choice-F → Layer K layers.Choice-F
choice_layer K s x = map-Choice Cond Expr Item Join Arm Chain Choice Query Signed K.cond K.expr K.item K.join K.arm K.chain K.choice K.query K.signed (cond_of K s) (expr_of K s) (item_of K s) (join_of K s) (arm_of K s) (chain_of K s) (choice_of K s) (query_of K s) (signed_of K s) x

abbrev pub query_layer : (K : Kinds) → Steps K → Written layers.Query-F → Layer K layers.Query-F
query_layer K s x = map-Query Cond Expr Item Join Arm Chain Choice Query Signed K.cond K.expr K.item K.join K.arm K.chain K.choice K.query K.signed (cond_of K s) (expr_of K s) (item_of K s) (join_of K s) (arm_of K s) (chain_of K s) (choice_of K s) (query_of K s) (signed_of K s) x

abbrev pub signed_layer : (K : Kinds) → Steps K → Written layers.Signed-F → Layer K layers.Signed-F
signed_layer K s x = map-Signed Cond Expr Item Join Arm Chain Choice Query Signed K.cond K.expr K.item K.join K.arm K.chain K.choice K.query K.signed (cond_of K s) (expr_of K s) (item_of K s) (join_of K s) (arm_of K s) (chain_of K s) (choice_of K s) (query_of K s) (signed_of K s) x

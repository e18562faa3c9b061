-- The frame law of folds: two sets of steps that agree on what a tree mentions give it one meaning. tools/frame-law writes this file.
use Rattle.std.proofs.Common.{◌≡◌, refl, sym, subst, ◌∙◌, List, [], ◌∷◌, ◌++◌, Bool, Option, Some, None, map}
use Rattle.lb_tree.specs.declared.query.Cond.{Cond}
use Rattle.lb_tree.specs.declared.query.Expr.{Expr}
use Rattle.lb_tree.specs.declared.query.Item.{Item}
use Rattle.lb_tree.specs.declared.query.Join.{Join}
use Rattle.lb_tree.specs.declared.query.Arm.{Arm}
use Rattle.lb_tree.specs.declared.query.Chain.{Chain}
use Rattle.lb_tree.specs.declared.query.Choice.{Choice}
use Rattle.lb_tree.specs.declared.query.Query.{Query}
use Rattle.lb_tree.specs.declared.query.Signed.{Signed}
use Rattle.lb_tree.specs.declared.query.Column.{Column}
use Rattle.lb_tree.specs.declared.query.Cond.TheOpen as layers
use Rattle.lb_tree.specs.declared.query.Cond.TheViews.{roll-Cond, roll-Expr, roll-Item, roll-Join, roll-Arm, roll-Chain, roll-Choice, roll-Query, roll-Signed}
use Rattle.lb_tree.specs.declared.query.Cond.TheFolds.{map-Cond, map-Expr, map-Item, map-Join, map-Arm, map-Chain, map-Choice, map-Query, map-Signed, ind-Cond, ind-Expr, ind-Query}
use Rattle.lb_tree.specs.Folds.{Kinds, Layer, Steps, Written, cond_of, cond_layer, expr_of, expr_layer, item_of, item_layer, join_of, join_layer, arm_of, arm_layer, chain_of, chain_layer, choice_of, choice_layer, query_of, query_layer, signed_of, signed_layer}
use Rattle.lb_tree.proofs.Opens.{cond_roll, expr_roll, item_roll, join_roll, arm_roll, chain_roll, choice_roll, query_roll, signed_roll}
use Rattle.lb_names.specs.Mentions.{Mention, Mentions, table, all_of, in_atom, naming, naming_steps, in_cond as cond_mentions, in_expr as expr_mentions, in_query as query_mentions}
use Rattle.lb_mean.specs.Frame.{Agrees}
use Rattle.lb_mean.proofs.Agreeing.{first, second}

abbrev in_cond : Cond → Mentions
in_cond = cond_of naming naming_steps

abbrev in_expr : Expr → Mentions
in_expr = expr_of naming naming_steps

abbrev in_item : Item → Mentions
in_item = item_of naming naming_steps

abbrev in_join : Join → Mentions
in_join = join_of naming naming_steps

abbrev in_arm : Arm → Mentions
in_arm = arm_of naming naming_steps

abbrev in_chain : Chain → Mentions
in_chain = chain_of naming naming_steps

abbrev in_choice : Choice → Mentions
in_choice = choice_of naming naming_steps

abbrev in_query : Query → Mentions
in_query = query_of naming naming_steps

abbrev in_signed : Signed → Mentions
in_signed = signed_of naming naming_steps

-- what a node itself mentions, its parts left out
module _ {A B C D E F G H I : Type 0} where
  abbrev pub head_expr : layers.Expr-F A B C D E F G H I → Mentions
  head_expr (layers.Expr-F.Atom x) = in_atom x
  head_expr _ = []

  abbrev pub head_join : layers.Join-F A B C D E F G H I → Mentions
  head_join (layers.Join-F.Inner tab c) = table tab.table ∷ []
  head_join (layers.Join-F.Left tab c) = table tab.table ∷ []
  head_join (layers.Join-F.Cross tab) = table tab.table ∷ []

  abbrev pub head_chain : layers.Chain-F A B C D E F G H I → Mentions
  head_chain x = table x.first.table ∷ []

-- two sets of steps give the same for a node whose parts have the same meanings, where they agree on what the node itself mentions
pub record Alike (K : Kinds) (s t : Steps K) (A : Mention → Type 0) : Type 0 where
  pub cond : (x : Layer K layers.Cond-F) → s.cond x ≡ t.cond x
  pub expr : (x : Layer K layers.Expr-F) → Agrees A (head_expr x) → s.expr x ≡ t.expr x
  pub item : (x : Layer K layers.Item-F) → s.item x ≡ t.item x
  pub join : (x : Layer K layers.Join-F) → Agrees A (head_join x) → s.join x ≡ t.join x
  pub arm : (x : Layer K layers.Arm-F) → s.arm x ≡ t.arm x
  pub chain : (x : Layer K layers.Chain-F) → Agrees A (head_chain x) → s.chain x ≡ t.chain x
  pub choice : (x : Layer K layers.Choice-F) → s.choice x ≡ t.choice x
  pub query : (x : Layer K layers.Query-F) → s.query x ≡ t.query x
  pub signed : (x : Layer K layers.Signed-F) → s.signed x ≡ t.signed x

module _ (K : Kinds) (s t : Steps K) (A : Mention → Type 0) (alike : Alike K s t A) where
  -- a node and its law
  abbrev Good : {X M : Type 0} → (X → Mentions) → (X → M) → (X → M) → X → Type 0
  Good names f g x = Agrees A (names x) → f x ≡ g x

  abbrev With : {X M : Type 0} → (X → Mentions) → (X → M) → (X → M) → Type 0
  With {X = X} names f g = (x : X) × Good names f g x

  all_good : {X M : Type 0} (names : X → Mentions) (f g : X → M) (xs : List (With names f g)) → Agrees A (all_of (map names (map (λ x. x.0) xs))) → map f (map (λ x. x.0) xs) ≡ map g (map (λ x. x.0) xs)
  all_good names f g [] h = refl
  all_good names f g (x ∷ xs) h = λ i. x.1 (first A (names x.0) (all_of (map names (map (λ x. x.0) xs))) h) i ∷ all_good names f g xs (second A (names x.0) (all_of (map names (map (λ x. x.0) xs))) h) i

  abbrev GCond : Cond → Type 0
  GCond = Good in_cond (cond_of K s) (cond_of K t)

  abbrev GExpr : Expr → Type 0
  GExpr = Good in_expr (expr_of K s) (expr_of K t)

  abbrev GItem : Item → Type 0
  GItem = Good in_item (item_of K s) (item_of K t)

  abbrev GJoin : Join → Type 0
  GJoin = Good in_join (join_of K s) (join_of K t)

  abbrev GArm : Arm → Type 0
  GArm = Good in_arm (arm_of K s) (arm_of K t)

  abbrev GChain : Chain → Type 0
  GChain = Good in_chain (chain_of K s) (chain_of K t)

  abbrev GChoice : Choice → Type 0
  GChoice = Good in_choice (choice_of K s) (choice_of K t)

  abbrev GQuery : Query → Type 0
  GQuery = Good in_query (query_of K s) (query_of K t)

  abbrev GSigned : Signed → Type 0
  GSigned = Good in_signed (signed_of K s) (signed_of K t)

  by_cond : (x : Written layers.Cond-F) → (Agrees A (naming_steps.cond (cond_layer naming naming_steps x)) → s.cond (cond_layer K s x) ≡ t.cond (cond_layer K t x)) → GCond (roll-Cond x)
  by_cond x f h = cond_roll K s x ∙ f (subst (Agrees A) (cond_roll naming naming_steps x) h) ∙ sym (cond_roll K t x)

  by_expr : (x : Written layers.Expr-F) → (Agrees A (naming_steps.expr (expr_layer naming naming_steps x)) → s.expr (expr_layer K s x) ≡ t.expr (expr_layer K t x)) → GExpr (roll-Expr x)
  by_expr x f h = expr_roll K s x ∙ f (subst (Agrees A) (expr_roll naming naming_steps x) h) ∙ sym (expr_roll K t x)

  by_item : (x : Written layers.Item-F) → (Agrees A (naming_steps.item (item_layer naming naming_steps x)) → s.item (item_layer K s x) ≡ t.item (item_layer K t x)) → GItem (roll-Item x)
  by_item x f h = item_roll K s x ∙ f (subst (Agrees A) (item_roll naming naming_steps x) h) ∙ sym (item_roll K t x)

  by_join : (x : Written layers.Join-F) → (Agrees A (naming_steps.join (join_layer naming naming_steps x)) → s.join (join_layer K s x) ≡ t.join (join_layer K t x)) → GJoin (roll-Join x)
  by_join x f h = join_roll K s x ∙ f (subst (Agrees A) (join_roll naming naming_steps x) h) ∙ sym (join_roll K t x)

  by_arm : (x : Written layers.Arm-F) → (Agrees A (naming_steps.arm (arm_layer naming naming_steps x)) → s.arm (arm_layer K s x) ≡ t.arm (arm_layer K t x)) → GArm (roll-Arm x)
  by_arm x f h = arm_roll K s x ∙ f (subst (Agrees A) (arm_roll naming naming_steps x) h) ∙ sym (arm_roll K t x)

  by_chain : (x : Written layers.Chain-F) → (Agrees A (naming_steps.chain (chain_layer naming naming_steps x)) → s.chain (chain_layer K s x) ≡ t.chain (chain_layer K t x)) → GChain (roll-Chain x)
  by_chain x f h = chain_roll K s x ∙ f (subst (Agrees A) (chain_roll naming naming_steps x) h) ∙ sym (chain_roll K t x)

  by_choice : (x : Written layers.Choice-F) → (Agrees A (naming_steps.choice (choice_layer naming naming_steps x)) → s.choice (choice_layer K s x) ≡ t.choice (choice_layer K t x)) → GChoice (roll-Choice x)
  by_choice x f h = choice_roll K s x ∙ f (subst (Agrees A) (choice_roll naming naming_steps x) h) ∙ sym (choice_roll K t x)

  by_query : (x : Written layers.Query-F) → (Agrees A (naming_steps.query (query_layer naming naming_steps x)) → s.query (query_layer K s x) ≡ t.query (query_layer K t x)) → GQuery (roll-Query x)
  by_query x f h = query_roll K s x ∙ f (subst (Agrees A) (query_roll naming naming_steps x) h) ∙ sym (query_roll K t x)

  by_signed : (x : Written layers.Signed-F) → (Agrees A (naming_steps.signed (signed_layer naming naming_steps x)) → s.signed (signed_layer K s x) ≡ t.signed (signed_layer K t x)) → GSigned (roll-Signed x)
  by_signed x f h = signed_roll K s x ∙ f (subst (Agrees A) (signed_roll naming naming_steps x) h) ∙ sym (signed_roll K t x)

  abbrev Goods : (Type 0 → Type 0 → Type 0 → Type 0 → Type 0 → Type 0 → Type 0 → Type 0 → Type 0 → Type 0) → Type 0
  Goods F = F (With in_cond (cond_of K s) (cond_of K t)) (With in_expr (expr_of K s) (expr_of K t)) (With in_item (item_of K s) (item_of K t)) (With in_join (join_of K s) (join_of K t)) (With in_arm (arm_of K s) (arm_of K t)) (With in_chain (chain_of K s) (chain_of K t)) (With in_choice (choice_of K s) (choice_of K t)) (With in_query (query_of K s) (query_of K t)) (With in_signed (signed_of K s) (signed_of K t))

  abbrev down_cond : Goods layers.Cond-F → Written layers.Cond-F
  down_cond = map-Cond (With in_cond (cond_of K s) (cond_of K t)) (With in_expr (expr_of K s) (expr_of K t)) (With in_item (item_of K s) (item_of K t)) (With in_join (join_of K s) (join_of K t)) (With in_arm (arm_of K s) (arm_of K t)) (With in_chain (chain_of K s) (chain_of K t)) (With in_choice (choice_of K s) (choice_of K t)) (With in_query (query_of K s) (query_of K t)) (With in_signed (signed_of K s) (signed_of K t)) Cond Expr Item Join Arm Chain Choice Query Signed (λ x. x.0) (λ x. x.0) (λ x. x.0) (λ x. x.0) (λ x. x.0) (λ x. x.0) (λ x. x.0) (λ x. x.0) (λ x. x.0)

  abbrev down_expr : Goods layers.Expr-F → Written layers.Expr-F
  down_expr = map-Expr (With in_cond (cond_of K s) (cond_of K t)) (With in_expr (expr_of K s) (expr_of K t)) (With in_item (item_of K s) (item_of K t)) (With in_join (join_of K s) (join_of K t)) (With in_arm (arm_of K s) (arm_of K t)) (With in_chain (chain_of K s) (chain_of K t)) (With in_choice (choice_of K s) (choice_of K t)) (With in_query (query_of K s) (query_of K t)) (With in_signed (signed_of K s) (signed_of K t)) Cond Expr Item Join Arm Chain Choice Query Signed (λ x. x.0) (λ x. x.0) (λ x. x.0) (λ x. x.0) (λ x. x.0) (λ x. x.0) (λ x. x.0) (λ x. x.0) (λ x. x.0)

  abbrev down_item : Goods layers.Item-F → Written layers.Item-F
  down_item = map-Item (With in_cond (cond_of K s) (cond_of K t)) (With in_expr (expr_of K s) (expr_of K t)) (With in_item (item_of K s) (item_of K t)) (With in_join (join_of K s) (join_of K t)) (With in_arm (arm_of K s) (arm_of K t)) (With in_chain (chain_of K s) (chain_of K t)) (With in_choice (choice_of K s) (choice_of K t)) (With in_query (query_of K s) (query_of K t)) (With in_signed (signed_of K s) (signed_of K t)) Cond Expr Item Join Arm Chain Choice Query Signed (λ x. x.0) (λ x. x.0) (λ x. x.0) (λ x. x.0) (λ x. x.0) (λ x. x.0) (λ x. x.0) (λ x. x.0) (λ x. x.0)

  abbrev down_join : Goods layers.Join-F → Written layers.Join-F
  down_join = map-Join (With in_cond (cond_of K s) (cond_of K t)) (With in_expr (expr_of K s) (expr_of K t)) (With in_item (item_of K s) (item_of K t)) (With in_join (join_of K s) (join_of K t)) (With in_arm (arm_of K s) (arm_of K t)) (With in_chain (chain_of K s) (chain_of K t)) (With in_choice (choice_of K s) (choice_of K t)) (With in_query (query_of K s) (query_of K t)) (With in_signed (signed_of K s) (signed_of K t)) Cond Expr Item Join Arm Chain Choice Query Signed (λ x. x.0) (λ x. x.0) (λ x. x.0) (λ x. x.0) (λ x. x.0) (λ x. x.0) (λ x. x.0) (λ x. x.0) (λ x. x.0)

  abbrev down_arm : Goods layers.Arm-F → Written layers.Arm-F
  down_arm = map-Arm (With in_cond (cond_of K s) (cond_of K t)) (With in_expr (expr_of K s) (expr_of K t)) (With in_item (item_of K s) (item_of K t)) (With in_join (join_of K s) (join_of K t)) (With in_arm (arm_of K s) (arm_of K t)) (With in_chain (chain_of K s) (chain_of K t)) (With in_choice (choice_of K s) (choice_of K t)) (With in_query (query_of K s) (query_of K t)) (With in_signed (signed_of K s) (signed_of K t)) Cond Expr Item Join Arm Chain Choice Query Signed (λ x. x.0) (λ x. x.0) (λ x. x.0) (λ x. x.0) (λ x. x.0) (λ x. x.0) (λ x. x.0) (λ x. x.0) (λ x. x.0)

  abbrev down_chain : Goods layers.Chain-F → Written layers.Chain-F
  down_chain = map-Chain (With in_cond (cond_of K s) (cond_of K t)) (With in_expr (expr_of K s) (expr_of K t)) (With in_item (item_of K s) (item_of K t)) (With in_join (join_of K s) (join_of K t)) (With in_arm (arm_of K s) (arm_of K t)) (With in_chain (chain_of K s) (chain_of K t)) (With in_choice (choice_of K s) (choice_of K t)) (With in_query (query_of K s) (query_of K t)) (With in_signed (signed_of K s) (signed_of K t)) Cond Expr Item Join Arm Chain Choice Query Signed (λ x. x.0) (λ x. x.0) (λ x. x.0) (λ x. x.0) (λ x. x.0) (λ x. x.0) (λ x. x.0) (λ x. x.0) (λ x. x.0)

  abbrev down_choice : Goods layers.Choice-F → Written layers.Choice-F
  down_choice = map-Choice (With in_cond (cond_of K s) (cond_of K t)) (With in_expr (expr_of K s) (expr_of K t)) (With in_item (item_of K s) (item_of K t)) (With in_join (join_of K s) (join_of K t)) (With in_arm (arm_of K s) (arm_of K t)) (With in_chain (chain_of K s) (chain_of K t)) (With in_choice (choice_of K s) (choice_of K t)) (With in_query (query_of K s) (query_of K t)) (With in_signed (signed_of K s) (signed_of K t)) Cond Expr Item Join Arm Chain Choice Query Signed (λ x. x.0) (λ x. x.0) (λ x. x.0) (λ x. x.0) (λ x. x.0) (λ x. x.0) (λ x. x.0) (λ x. x.0) (λ x. x.0)

  abbrev down_query : Goods layers.Query-F → Written layers.Query-F
  down_query = map-Query (With in_cond (cond_of K s) (cond_of K t)) (With in_expr (expr_of K s) (expr_of K t)) (With in_item (item_of K s) (item_of K t)) (With in_join (join_of K s) (join_of K t)) (With in_arm (arm_of K s) (arm_of K t)) (With in_chain (chain_of K s) (chain_of K t)) (With in_choice (choice_of K s) (choice_of K t)) (With in_query (query_of K s) (query_of K t)) (With in_signed (signed_of K s) (signed_of K t)) Cond Expr Item Join Arm Chain Choice Query Signed (λ x. x.0) (λ x. x.0) (λ x. x.0) (λ x. x.0) (λ x. x.0) (λ x. x.0) (λ x. x.0) (λ x. x.0) (λ x. x.0)

  abbrev down_signed : Goods layers.Signed-F → Written layers.Signed-F
  down_signed = map-Signed (With in_cond (cond_of K s) (cond_of K t)) (With in_expr (expr_of K s) (expr_of K t)) (With in_item (item_of K s) (item_of K t)) (With in_join (join_of K s) (join_of K t)) (With in_arm (arm_of K s) (arm_of K t)) (With in_chain (chain_of K s) (chain_of K t)) (With in_choice (choice_of K s) (choice_of K t)) (With in_query (query_of K s) (query_of K t)) (With in_signed (signed_of K s) (signed_of K t)) Cond Expr Item Join Arm Chain Choice Query Signed (λ x. x.0) (λ x. x.0) (λ x. x.0) (λ x. x.0) (λ x. x.0) (λ x. x.0) (λ x. x.0) (λ x. x.0) (λ x. x.0)

  expr_good : (y : Goods layers.Expr-F) → GExpr (roll-Expr (down_expr y))
  expr_good (layers.Expr-F.Atom x) = by_expr (layers.Expr-F.Atom x) (λ h. alike.expr (layers.Expr-F.Atom x) h)
  expr_good (layers.Expr-F.Sum parts) = by_expr (layers.Expr-F.Sum (map (λ x. x.0) parts)) (λ h. (λ i. s.expr (layers.Expr-F.Sum (all_good in_signed (signed_of K s) (signed_of K t) parts h i))) ∙ alike.expr (layers.Expr-F.Sum (map (signed_of K t) (map (λ x. x.0) parts))) tt)
  expr_good (layers.Expr-F.Concat parts) = by_expr (layers.Expr-F.Concat (map (λ x. x.0) parts)) (λ h. (λ i. s.expr (layers.Expr-F.Concat (all_good in_expr (expr_of K s) (expr_of K t) parts h i))) ∙ alike.expr (layers.Expr-F.Concat (map (expr_of K t) (map (λ x. x.0) parts))) tt)
  expr_good (layers.Expr-F.Product parts) = by_expr (layers.Expr-F.Product (map (λ x. x.0) parts)) (λ h. (λ i. s.expr (layers.Expr-F.Product (all_good in_expr (expr_of K s) (expr_of K t) parts h i))) ∙ alike.expr (layers.Expr-F.Product (map (expr_of K t) (map (λ x. x.0) parts))) tt)
  expr_good (layers.Expr-F.Case arms None) = by_expr (layers.Expr-F.Case (map (λ x. x.0) arms) None) (λ h. let m0 : Mentions = all_of (map in_arm (map (λ x. x.0) arms)) in let r0 : Mentions = ([]) in let p0 : Agrees A m0 = first A m0 r0 h in let k0 : Agrees A r0 = second A m0 r0 h in (λ i. s.expr (layers.Expr-F.Case (all_good in_arm (arm_of K s) (arm_of K t) arms p0 i) None)) ∙ alike.expr (layers.Expr-F.Case (map (arm_of K t) (map (λ x. x.0) arms)) None) tt)
  expr_good (layers.Expr-F.Case arms (Some other)) = by_expr (layers.Expr-F.Case (map (λ x. x.0) arms) (Some other.0)) (λ h. let m0 : Mentions = all_of (map in_arm (map (λ x. x.0) arms)) in let r0 : Mentions = (in_expr other.0) in let p0 : Agrees A m0 = first A m0 r0 h in let k0 : Agrees A r0 = second A m0 r0 h in (λ i. s.expr (layers.Expr-F.Case (all_good in_arm (arm_of K s) (arm_of K t) arms p0 i) (Some (other.1 k0 i)))) ∙ alike.expr (layers.Expr-F.Case (map (arm_of K t) (map (λ x. x.0) arms)) (Some (expr_of K t other.0))) tt)
  expr_good (layers.Expr-F.Match d arms None) = by_expr (layers.Expr-F.Match d.0 (map (λ x. x.0) arms) None) (λ h. let m0 : Mentions = in_expr d.0 in let r0 : Mentions = (all_of (map in_choice (map (λ x. x.0) arms))) ++ (([])) in let p0 : Agrees A m0 = first A m0 r0 h in let k0 : Agrees A r0 = second A m0 r0 h in let m1 : Mentions = all_of (map in_choice (map (λ x. x.0) arms)) in let r1 : Mentions = ([]) in let p1 : Agrees A m1 = first A m1 r1 k0 in let k1 : Agrees A r1 = second A m1 r1 k0 in (λ i. s.expr (layers.Expr-F.Match (d.1 p0 i) (all_good in_choice (choice_of K s) (choice_of K t) arms p1 i) None)) ∙ alike.expr (layers.Expr-F.Match (expr_of K t d.0) (map (choice_of K t) (map (λ x. x.0) arms)) None) tt)
  expr_good (layers.Expr-F.Match d arms (Some other)) = by_expr (layers.Expr-F.Match d.0 (map (λ x. x.0) arms) (Some other.0)) (λ h. let m0 : Mentions = in_expr d.0 in let r0 : Mentions = (all_of (map in_choice (map (λ x. x.0) arms))) ++ ((in_expr other.0)) in let p0 : Agrees A m0 = first A m0 r0 h in let k0 : Agrees A r0 = second A m0 r0 h in let m1 : Mentions = all_of (map in_choice (map (λ x. x.0) arms)) in let r1 : Mentions = (in_expr other.0) in let p1 : Agrees A m1 = first A m1 r1 k0 in let k1 : Agrees A r1 = second A m1 r1 k0 in (λ i. s.expr (layers.Expr-F.Match (d.1 p0 i) (all_good in_choice (choice_of K s) (choice_of K t) arms p1 i) (Some (other.1 k1 i)))) ∙ alike.expr (layers.Expr-F.Match (expr_of K t d.0) (map (choice_of K t) (map (λ x. x.0) arms)) (Some (expr_of K t other.0))) tt)
  expr_good (layers.Expr-F.Aggregate op d) = by_expr (layers.Expr-F.Aggregate op d.0) (λ h. (λ i. s.expr (layers.Expr-F.Aggregate op (d.1 h i))) ∙ alike.expr (layers.Expr-F.Aggregate op (expr_of K t d.0)) tt)
  expr_good (layers.Expr-F.Substr d from None) = by_expr (layers.Expr-F.Substr d.0 from.0 None) (λ h. let m0 : Mentions = in_expr d.0 in let r0 : Mentions = (in_expr from.0) ++ (([])) in let p0 : Agrees A m0 = first A m0 r0 h in let k0 : Agrees A r0 = second A m0 r0 h in let m1 : Mentions = in_expr from.0 in let r1 : Mentions = ([]) in let p1 : Agrees A m1 = first A m1 r1 k0 in let k1 : Agrees A r1 = second A m1 r1 k0 in (λ i. s.expr (layers.Expr-F.Substr (d.1 p0 i) (from.1 p1 i) None)) ∙ alike.expr (layers.Expr-F.Substr (expr_of K t d.0) (expr_of K t from.0) None) tt)
  expr_good (layers.Expr-F.Substr d from (Some count)) = by_expr (layers.Expr-F.Substr d.0 from.0 (Some count.0)) (λ h. let m0 : Mentions = in_expr d.0 in let r0 : Mentions = (in_expr from.0) ++ ((in_expr count.0)) in let p0 : Agrees A m0 = first A m0 r0 h in let k0 : Agrees A r0 = second A m0 r0 h in let m1 : Mentions = in_expr from.0 in let r1 : Mentions = (in_expr count.0) in let p1 : Agrees A m1 = first A m1 r1 k0 in let k1 : Agrees A r1 = second A m1 r1 k0 in (λ i. s.expr (layers.Expr-F.Substr (d.1 p0 i) (from.1 p1 i) (Some (count.1 k1 i)))) ∙ alike.expr (layers.Expr-F.Substr (expr_of K t d.0) (expr_of K t from.0) (Some (expr_of K t count.0))) tt)
  expr_good (layers.Expr-F.Apply f d) = by_expr (layers.Expr-F.Apply f d.0) (λ h. (λ i. s.expr (layers.Expr-F.Apply f (d.1 h i))) ∙ alike.expr (layers.Expr-F.Apply f (expr_of K t d.0)) tt)
  expr_good (layers.Expr-F.Coalesce parts) = by_expr (layers.Expr-F.Coalesce (map (λ x. x.0) parts)) (λ h. (λ i. s.expr (layers.Expr-F.Coalesce (all_good in_expr (expr_of K s) (expr_of K t) parts h i))) ∙ alike.expr (layers.Expr-F.Coalesce (map (expr_of K t) (map (λ x. x.0) parts))) tt)

  cond_good : (y : Goods layers.Cond-F) → GCond (roll-Cond (down_cond y))
  cond_good (layers.Cond-F.Or cs) = by_cond (layers.Cond-F.Or (map (λ x. x.0) cs)) (λ h. (λ i. s.cond (layers.Cond-F.Or (all_good in_cond (cond_of K s) (cond_of K t) cs h i))) ∙ alike.cond (layers.Cond-F.Or (map (cond_of K t) (map (λ x. x.0) cs))))
  cond_good (layers.Cond-F.And cs) = by_cond (layers.Cond-F.And (map (λ x. x.0) cs)) (λ h. (λ i. s.cond (layers.Cond-F.And (all_good in_cond (cond_of K s) (cond_of K t) cs h i))) ∙ alike.cond (layers.Cond-F.And (map (cond_of K t) (map (λ x. x.0) cs))))
  cond_good (layers.Cond-F.Not c) = by_cond (layers.Cond-F.Not c.0) (λ h. (λ i. s.cond (layers.Cond-F.Not (c.1 h i))) ∙ alike.cond (layers.Cond-F.Not (cond_of K t c.0)))
  cond_good (layers.Cond-F.Exists q) = by_cond (layers.Cond-F.Exists q.0) (λ h. (λ i. s.cond (layers.Cond-F.Exists (q.1 h i))) ∙ alike.cond (layers.Cond-F.Exists (query_of K t q.0)))
  cond_good (layers.Cond-F.Compare by a b) = by_cond (layers.Cond-F.Compare by a.0 b.0) (λ h. let m0 : Mentions = in_expr a.0 in let r0 : Mentions = (in_expr b.0) in let p0 : Agrees A m0 = first A m0 r0 h in let k0 : Agrees A r0 = second A m0 r0 h in (λ i. s.cond (layers.Cond-F.Compare by (a.1 p0 i) (b.1 k0 i))) ∙ alike.cond (layers.Cond-F.Compare by (expr_of K t a.0) (expr_of K t b.0)))
  cond_good (layers.Cond-F.CompareQuery by a q) = by_cond (layers.Cond-F.CompareQuery by a.0 q.0) (λ h. let m0 : Mentions = in_expr a.0 in let r0 : Mentions = (in_query q.0) in let p0 : Agrees A m0 = first A m0 r0 h in let k0 : Agrees A r0 = second A m0 r0 h in (λ i. s.cond (layers.Cond-F.CompareQuery by (a.1 p0 i) (q.1 k0 i))) ∙ alike.cond (layers.Cond-F.CompareQuery by (expr_of K t a.0) (query_of K t q.0)))
  cond_good (layers.Cond-F.IsNull a) = by_cond (layers.Cond-F.IsNull a.0) (λ h. (λ i. s.cond (layers.Cond-F.IsNull (a.1 h i))) ∙ alike.cond (layers.Cond-F.IsNull (expr_of K t a.0)))
  cond_good (layers.Cond-F.InQuery a q) = by_cond (layers.Cond-F.InQuery a.0 q.0) (λ h. let m0 : Mentions = in_expr a.0 in let r0 : Mentions = (in_query q.0) in let p0 : Agrees A m0 = first A m0 r0 h in let k0 : Agrees A r0 = second A m0 r0 h in (λ i. s.cond (layers.Cond-F.InQuery (a.1 p0 i) (q.1 k0 i))) ∙ alike.cond (layers.Cond-F.InQuery (expr_of K t a.0) (query_of K t q.0)))
  cond_good (layers.Cond-F.InList a parts) = by_cond (layers.Cond-F.InList a.0 (map (λ x. x.0) parts)) (λ h. let m0 : Mentions = in_expr a.0 in let r0 : Mentions = (all_of (map in_expr (map (λ x. x.0) parts))) in let p0 : Agrees A m0 = first A m0 r0 h in let k0 : Agrees A r0 = second A m0 r0 h in (λ i. s.cond (layers.Cond-F.InList (a.1 p0 i) (all_good in_expr (expr_of K s) (expr_of K t) parts k0 i))) ∙ alike.cond (layers.Cond-F.InList (expr_of K t a.0) (map (expr_of K t) (map (λ x. x.0) parts))))
  cond_good (layers.Cond-F.Between a low high) = by_cond (layers.Cond-F.Between a.0 low.0 high.0) (λ h. let m0 : Mentions = in_expr a.0 in let r0 : Mentions = (in_expr low.0) ++ ((in_expr high.0)) in let p0 : Agrees A m0 = first A m0 r0 h in let k0 : Agrees A r0 = second A m0 r0 h in let m1 : Mentions = in_expr low.0 in let r1 : Mentions = (in_expr high.0) in let p1 : Agrees A m1 = first A m1 r1 k0 in let k1 : Agrees A r1 = second A m1 r1 k0 in (λ i. s.cond (layers.Cond-F.Between (a.1 p0 i) (low.1 p1 i) (high.1 k1 i))) ∙ alike.cond (layers.Cond-F.Between (expr_of K t a.0) (expr_of K t low.0) (expr_of K t high.0)))

  item_good : (y : Goods layers.Item-F) → GItem (roll-Item (down_item y))
  item_good layers.Item-F.Everything = by_item layers.Item-F.Everything (λ h. alike.item layers.Item-F.Everything)
  item_good (layers.Item-F.AllOf n) = by_item (layers.Item-F.AllOf n) (λ h. alike.item (layers.Item-F.AllOf n))
  item_good (layers.Item-F.Value d name) = by_item (layers.Item-F.Value d.0 name) (λ h. (λ i. s.item (layers.Item-F.Value (d.1 h i) name)) ∙ alike.item (layers.Item-F.Value (expr_of K t d.0) name))

  join_good : (y : Goods layers.Join-F) → GJoin (roll-Join (down_join y))
  join_good (layers.Join-F.Inner tab c) = by_join (layers.Join-F.Inner tab c.0) (λ h. (λ i. s.join (layers.Join-F.Inner tab (c.1 h.1 i))) ∙ alike.join (layers.Join-F.Inner tab (cond_of K t c.0)) (h.0, tt))
  join_good (layers.Join-F.Left tab c) = by_join (layers.Join-F.Left tab c.0) (λ h. (λ i. s.join (layers.Join-F.Left tab (c.1 h.1 i))) ∙ alike.join (layers.Join-F.Left tab (cond_of K t c.0)) (h.0, tt))
  join_good (layers.Join-F.Cross tab) = by_join (layers.Join-F.Cross tab) (λ h. alike.join (layers.Join-F.Cross tab) (h.0, tt))

  arm_good : (y : Goods layers.Arm-F) → GArm (roll-Arm (down_arm y))
  arm_good y = by_arm (down_arm y) (λ h. let m0 : Mentions = in_cond y.when.0 in let r0 : Mentions = (in_expr y.result.0) in let p0 : Agrees A m0 = first A m0 r0 h in let k0 : Agrees A r0 = second A m0 r0 h in (λ i. s.arm (record { when = (y.when.1 p0 i); result = (y.result.1 k0 i) })) ∙ alike.arm (record { when = (cond_of K t y.when.0); result = (expr_of K t y.result.0) }))

  chain_good : (y : Goods layers.Chain-F) → GChain (roll-Chain (down_chain y))
  chain_good y = by_chain (down_chain y) (λ h. (λ i. s.chain (record { first = y.first; joins = (all_good in_join (join_of K s) (join_of K t) y.joins h.1 i) })) ∙ alike.chain (record { first = y.first; joins = (map (join_of K t) (map (λ x. x.0) y.joins)) }) (h.0, tt))

  choice_good : (y : Goods layers.Choice-F) → GChoice (roll-Choice (down_choice y))
  choice_good y = by_choice (down_choice y) (λ h. let m0 : Mentions = in_expr y.when.0 in let r0 : Mentions = (in_expr y.result.0) in let p0 : Agrees A m0 = first A m0 r0 h in let k0 : Agrees A r0 = second A m0 r0 h in (λ i. s.choice (record { when = (y.when.1 p0 i); result = (y.result.1 k0 i) })) ∙ alike.choice (record { when = (expr_of K t y.when.0); result = (expr_of K t y.result.0) }))

  signed_good : (y : Goods layers.Signed-F) → GSigned (roll-Signed (down_signed y))
  signed_good y = by_signed (down_signed y) (λ h. (λ i. s.signed (record { minus = y.minus; part = (y.part.1 h i) })) ∙ alike.signed (record { minus = y.minus; part = (expr_of K t y.part.0) }))

  query_good : (distinct : Bool) (items : List (With in_item (item_of K s) (item_of K t))) (from : List (With in_chain (chain_of K s) (chain_of K t))) (filter : Option (With in_cond (cond_of K s) (cond_of K t))) (group : List Column) (having : Option (With in_cond (cond_of K s) (cond_of K t)))
      → GQuery (roll-Query (down_query (record { distinct = distinct; items = items; from = from; filter = filter; group = group; having = having })))
  query_good distinct items from None group None = by_query (record { distinct = distinct; items = (map (λ x. x.0) items); from = (map (λ x. x.0) from); filter = None; group = group; having = None })
      (λ h. let m0 : Mentions = all_of (map in_item (map (λ x. x.0) items)) in let r0 : Mentions = (all_of (map in_chain (map (λ x. x.0) from))) ++ (([]) ++ (([]))) in let p0 : Agrees A m0 = first A m0 r0 h in let k0 : Agrees A r0 = second A m0 r0 h in let m1 : Mentions = all_of (map in_chain (map (λ x. x.0) from)) in let r1 : Mentions = ([]) ++ (([])) in let p1 : Agrees A m1 = first A m1 r1 k0 in let k1 : Agrees A r1 = second A m1 r1 k0 in let m2 : Mentions = [] in let r2 : Mentions = ([]) in let p2 : Agrees A m2 = first A m2 r2 k1 in let k2 : Agrees A r2 = second A m2 r2 k1 in (λ i. s.query (record { distinct = distinct; items = (all_good in_item (item_of K s) (item_of K t) items p0 i); from = (all_good in_chain (chain_of K s) (chain_of K t) from p1 i); filter = None; group = group; having = None })) ∙ alike.query (record { distinct = distinct; items = (map (item_of K t) (map (λ x. x.0) items)); from = (map (chain_of K t) (map (λ x. x.0) from)); filter = None; group = group; having = None }))
  query_good distinct items from None group (Some having) = by_query (record { distinct = distinct; items = (map (λ x. x.0) items); from = (map (λ x. x.0) from); filter = None; group = group; having = (Some having.0) })
      (λ h. let m0 : Mentions = all_of (map in_item (map (λ x. x.0) items)) in let r0 : Mentions = (all_of (map in_chain (map (λ x. x.0) from))) ++ (([]) ++ ((in_cond having.0))) in let p0 : Agrees A m0 = first A m0 r0 h in let k0 : Agrees A r0 = second A m0 r0 h in let m1 : Mentions = all_of (map in_chain (map (λ x. x.0) from)) in let r1 : Mentions = ([]) ++ ((in_cond having.0)) in let p1 : Agrees A m1 = first A m1 r1 k0 in let k1 : Agrees A r1 = second A m1 r1 k0 in let m2 : Mentions = [] in let r2 : Mentions = (in_cond having.0) in let p2 : Agrees A m2 = first A m2 r2 k1 in let k2 : Agrees A r2 = second A m2 r2 k1 in (λ i. s.query (record { distinct = distinct; items = (all_good in_item (item_of K s) (item_of K t) items p0 i); from = (all_good in_chain (chain_of K s) (chain_of K t) from p1 i); filter = None; group = group; having = (Some (having.1 k2 i)) })) ∙ alike.query (record { distinct = distinct; items = (map (item_of K t) (map (λ x. x.0) items)); from = (map (chain_of K t) (map (λ x. x.0) from)); filter = None; group = group; having = (Some (cond_of K t having.0)) }))
  query_good distinct items from (Some filter) group None = by_query (record { distinct = distinct; items = (map (λ x. x.0) items); from = (map (λ x. x.0) from); filter = (Some filter.0); group = group; having = None })
      (λ h. let m0 : Mentions = all_of (map in_item (map (λ x. x.0) items)) in let r0 : Mentions = (all_of (map in_chain (map (λ x. x.0) from))) ++ ((in_cond filter.0) ++ (([]))) in let p0 : Agrees A m0 = first A m0 r0 h in let k0 : Agrees A r0 = second A m0 r0 h in let m1 : Mentions = all_of (map in_chain (map (λ x. x.0) from)) in let r1 : Mentions = (in_cond filter.0) ++ (([])) in let p1 : Agrees A m1 = first A m1 r1 k0 in let k1 : Agrees A r1 = second A m1 r1 k0 in let m2 : Mentions = in_cond filter.0 in let r2 : Mentions = ([]) in let p2 : Agrees A m2 = first A m2 r2 k1 in let k2 : Agrees A r2 = second A m2 r2 k1 in (λ i. s.query (record { distinct = distinct; items = (all_good in_item (item_of K s) (item_of K t) items p0 i); from = (all_good in_chain (chain_of K s) (chain_of K t) from p1 i); filter = (Some (filter.1 p2 i)); group = group; having = None })) ∙ alike.query (record { distinct = distinct; items = (map (item_of K t) (map (λ x. x.0) items)); from = (map (chain_of K t) (map (λ x. x.0) from)); filter = (Some (cond_of K t filter.0)); group = group; having = None }))
  query_good distinct items from (Some filter) group (Some having) = by_query (record { distinct = distinct; items = (map (λ x. x.0) items); from = (map (λ x. x.0) from); filter = (Some filter.0); group = group; having = (Some having.0) })
      (λ h. let m0 : Mentions = all_of (map in_item (map (λ x. x.0) items)) in let r0 : Mentions = (all_of (map in_chain (map (λ x. x.0) from))) ++ ((in_cond filter.0) ++ ((in_cond having.0))) in let p0 : Agrees A m0 = first A m0 r0 h in let k0 : Agrees A r0 = second A m0 r0 h in let m1 : Mentions = all_of (map in_chain (map (λ x. x.0) from)) in let r1 : Mentions = (in_cond filter.0) ++ ((in_cond having.0)) in let p1 : Agrees A m1 = first A m1 r1 k0 in let k1 : Agrees A r1 = second A m1 r1 k0 in let m2 : Mentions = in_cond filter.0 in let r2 : Mentions = (in_cond having.0) in let p2 : Agrees A m2 = first A m2 r2 k1 in let k2 : Agrees A r2 = second A m2 r2 k1 in (λ i. s.query (record { distinct = distinct; items = (all_good in_item (item_of K s) (item_of K t) items p0 i); from = (all_good in_chain (chain_of K s) (chain_of K t) from p1 i); filter = (Some (filter.1 p2 i)); group = group; having = (Some (having.1 k2 i)) })) ∙ alike.query (record { distinct = distinct; items = (map (item_of K t) (map (λ x. x.0) items)); from = (map (chain_of K t) (map (λ x. x.0) from)); filter = (Some (cond_of K t filter.0)); group = group; having = (Some (cond_of K t having.0)) }))

  expr_agrees : (x : Expr) → GExpr x
  expr_agrees = ind-Expr GCond GExpr GItem GJoin GArm GChain GChoice GQuery GSigned (λ x y is. subst (λ z. GCond (roll-Cond z)) is (cond_good y)) (λ x y is. subst (λ z. GExpr (roll-Expr z)) is (expr_good y)) (λ x y is. subst (λ z. GItem (roll-Item z)) is (item_good y)) (λ x y is. subst (λ z. GJoin (roll-Join z)) is (join_good y)) (λ x y is. subst (λ z. GArm (roll-Arm z)) is (arm_good y)) (λ x y is. subst (λ z. GChain (roll-Chain z)) is (chain_good y)) (λ x y is. subst (λ z. GChoice (roll-Choice z)) is (choice_good y)) (λ x y is. subst (λ z. GQuery (roll-Query z)) is (query_good y.distinct y.items y.from y.filter y.group y.having)) (λ x y is. subst (λ z. GSigned (roll-Signed z)) is (signed_good y))

  pub expr_framed : (x : Expr) → Agrees A (expr_mentions x) → expr_of K s x ≡ expr_of K t x
  unfolding expr_mentions
  expr_framed x h = expr_agrees x h

  cond_agrees : (x : Cond) → GCond x
  cond_agrees = ind-Cond GCond GExpr GItem GJoin GArm GChain GChoice GQuery GSigned (λ x y is. subst (λ z. GCond (roll-Cond z)) is (cond_good y)) (λ x y is. subst (λ z. GExpr (roll-Expr z)) is (expr_good y)) (λ x y is. subst (λ z. GItem (roll-Item z)) is (item_good y)) (λ x y is. subst (λ z. GJoin (roll-Join z)) is (join_good y)) (λ x y is. subst (λ z. GArm (roll-Arm z)) is (arm_good y)) (λ x y is. subst (λ z. GChain (roll-Chain z)) is (chain_good y)) (λ x y is. subst (λ z. GChoice (roll-Choice z)) is (choice_good y)) (λ x y is. subst (λ z. GQuery (roll-Query z)) is (query_good y.distinct y.items y.from y.filter y.group y.having)) (λ x y is. subst (λ z. GSigned (roll-Signed z)) is (signed_good y))

  pub cond_framed : (x : Cond) → Agrees A (cond_mentions x) → cond_of K s x ≡ cond_of K t x
  unfolding cond_mentions
  cond_framed x h = cond_agrees x h

  query_agrees : (x : Query) → GQuery x
  query_agrees = ind-Query GCond GExpr GItem GJoin GArm GChain GChoice GQuery GSigned (λ x y is. subst (λ z. GCond (roll-Cond z)) is (cond_good y)) (λ x y is. subst (λ z. GExpr (roll-Expr z)) is (expr_good y)) (λ x y is. subst (λ z. GItem (roll-Item z)) is (item_good y)) (λ x y is. subst (λ z. GJoin (roll-Join z)) is (join_good y)) (λ x y is. subst (λ z. GArm (roll-Arm z)) is (arm_good y)) (λ x y is. subst (λ z. GChain (roll-Chain z)) is (chain_good y)) (λ x y is. subst (λ z. GChoice (roll-Choice z)) is (choice_good y)) (λ x y is. subst (λ z. GQuery (roll-Query z)) is (query_good y.distinct y.items y.from y.filter y.group y.having)) (λ x y is. subst (λ z. GSigned (roll-Signed z)) is (signed_good y))

  pub query_framed : (x : Query) → Agrees A (query_mentions x) → query_of K s x ≡ query_of K t x
  unfolding query_mentions
  query_framed x h = query_agrees x h

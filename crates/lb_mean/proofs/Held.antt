-- What each step keeps of its parts the fold keeps of a tree, as far as it holds of what the tree mentions. tools/frame-law writes this file.
use Rattle.std.proofs.Common.{sym, subst, List, [], ◌∷◌, ◌++◌, Bool, Option, Some, None, map}
use Rattle.std.specs.List.{AllByRecursion}
use Rattle.lb_tree.specs.declared.query.Cond.{Cond}
use Rattle.lb_tree.specs.declared.query.Expr.{Expr}
use Rattle.lb_tree.specs.declared.query.Item.{Item}
use Rattle.lb_tree.specs.declared.query.Join.{Join}
use Rattle.lb_tree.specs.declared.query.Arm.{Arm}
use Rattle.lb_tree.specs.declared.query.Chain.{Chain}
use Rattle.lb_tree.specs.declared.query.Choice.{Choice}
use Rattle.lb_tree.specs.declared.query.Query.{Query}
use Rattle.lb_tree.specs.declared.query.Signed.{Signed}
use Rattle.lb_tree.specs.declared.query.Column.{Column}
use Rattle.lb_tree.specs.declared.query.Cond.TheOpen as layers
use Rattle.lb_tree.specs.declared.query.Cond.TheViews.{roll-Cond, roll-Expr, roll-Item, roll-Join, roll-Arm, roll-Chain, roll-Choice, roll-Query, roll-Signed}
use Rattle.lb_tree.specs.declared.query.Cond.TheFolds.{map-Cond, map-Expr, map-Item, map-Join, map-Arm, map-Chain, map-Choice, map-Query, map-Signed, ind-Cond, ind-Expr, ind-Query}
use Rattle.lb_tree.specs.Folds.{Kinds, Layer, Steps, Written, cond_of, cond_layer, expr_of, expr_layer, item_of, item_layer, join_of, join_layer, arm_of, arm_layer, chain_of, chain_layer, choice_of, choice_layer, query_of, query_layer, signed_of, signed_layer}
use Rattle.lb_tree.proofs.Opens.{cond_roll, expr_roll, item_roll, join_roll, arm_roll, chain_roll, choice_roll, query_roll, signed_roll}
use Rattle.lb_names.specs.Mentions.{Mention, Mentions, all_of, naming, naming_steps, in_cond as cond_mentions, in_expr as expr_mentions, in_query as query_mentions}
use Rattle.lb_mean.specs.Frame.{Agrees}
use Rattle.lb_mean.proofs.Agreeing.{first, second}
use Rattle.lb_mean.proofs.Framed.{head_expr, head_join, head_chain}

abbrev in_cond : Cond → Mentions
in_cond = cond_of naming naming_steps

abbrev in_expr : Expr → Mentions
in_expr = expr_of naming naming_steps

abbrev in_item : Item → Mentions
in_item = item_of naming naming_steps

abbrev in_join : Join → Mentions
in_join = join_of naming naming_steps

abbrev in_arm : Arm → Mentions
in_arm = arm_of naming naming_steps

abbrev in_chain : Chain → Mentions
in_chain = chain_of naming naming_steps

abbrev in_choice : Choice → Mentions
in_choice = choice_of naming naming_steps

abbrev in_query : Query → Mentions
in_query = query_of naming naming_steps

abbrev in_signed : Signed → Mentions
in_signed = signed_of naming naming_steps

-- what holds of what the steps give, for each kind of node
pub record Holding (K : Kinds) : Type 1 where
  pub cond : K.cond → Type 0
  pub expr : K.expr → Type 0
  pub item : K.item → Type 0
  pub join : K.join → Type 0
  pub arm : K.arm → Type 0
  pub chain : K.chain → Type 0
  pub choice : K.choice → Type 0
  pub query : K.query → Type 0
  pub signed : K.signed → Type 0

-- of a part that may be missing
abbrev pub IfThere : {X : Type 0} → (X → Type 0) → Option X → Type 0
IfThere P None = Unit {0}
IfThere P (Some x) = P x

-- it holds of all parts of a node
module _ (K : Kinds) (I : Holding K) where
  abbrev pub parts_expr : Layer K layers.Expr-F → Type 0
  parts_expr (layers.Expr-F.Atom x) = Unit {0}
  parts_expr (layers.Expr-F.Sum parts) = AllByRecursion I.signed parts
  parts_expr (layers.Expr-F.Concat parts) = AllByRecursion I.expr parts
  parts_expr (layers.Expr-F.Product parts) = AllByRecursion I.expr parts
  parts_expr (layers.Expr-F.Case arms other) = AllByRecursion I.arm arms × (IfThere I.expr other)
  parts_expr (layers.Expr-F.Match d arms other) = I.expr d × (AllByRecursion I.choice arms × (IfThere I.expr other))
  parts_expr (layers.Expr-F.Aggregate op d) = I.expr d
  parts_expr (layers.Expr-F.Substr d from count) = I.expr d × (I.expr from × (IfThere I.expr count))
  parts_expr (layers.Expr-F.Apply f d) = I.expr d
  parts_expr (layers.Expr-F.Coalesce parts) = AllByRecursion I.expr parts

  abbrev pub parts_cond : Layer K layers.Cond-F → Type 0
  parts_cond (layers.Cond-F.Or cs) = AllByRecursion I.cond cs
  parts_cond (layers.Cond-F.And cs) = AllByRecursion I.cond cs
  parts_cond (layers.Cond-F.Not c) = I.cond c
  parts_cond (layers.Cond-F.Exists q) = I.query q
  parts_cond (layers.Cond-F.Compare by a b) = I.expr a × (I.expr b)
  parts_cond (layers.Cond-F.CompareQuery by a q) = I.expr a × (I.query q)
  parts_cond (layers.Cond-F.IsNull a) = I.expr a
  parts_cond (layers.Cond-F.InQuery a q) = I.expr a × (I.query q)
  parts_cond (layers.Cond-F.InList a parts) = I.expr a × (AllByRecursion I.expr parts)
  parts_cond (layers.Cond-F.Between a low high) = I.expr a × (I.expr low × (I.expr high))

  abbrev pub parts_item : Layer K layers.Item-F → Type 0
  parts_item layers.Item-F.Everything = Unit {0}
  parts_item (layers.Item-F.AllOf n) = Unit {0}
  parts_item (layers.Item-F.Value d name) = I.expr d

  abbrev pub parts_join : Layer K layers.Join-F → Type 0
  parts_join (layers.Join-F.Inner tab c) = I.cond c
  parts_join (layers.Join-F.Left tab c) = I.cond c
  parts_join (layers.Join-F.Cross tab) = Unit {0}

  abbrev pub parts_arm : Layer K layers.Arm-F → Type 0
  parts_arm x = I.cond x.when × (I.expr x.result)

  abbrev pub parts_chain : Layer K layers.Chain-F → Type 0
  parts_chain x = AllByRecursion I.join x.joins

  abbrev pub parts_choice : Layer K layers.Choice-F → Type 0
  parts_choice x = I.expr x.when × (I.expr x.result)

  abbrev pub parts_query : Layer K layers.Query-F → Type 0
  parts_query x = AllByRecursion I.item x.items × (AllByRecursion I.chain x.from × (IfThere I.cond x.filter × (IfThere I.cond x.having)))

  abbrev pub parts_signed : Layer K layers.Signed-F → Type 0
  parts_signed x = I.expr x.part

-- each step keeps it of the parts, where what the node itself mentions is so
pub record Keeps (K : Kinds) (s : Steps K) (A : Mention → Type 0) (I : Holding K) : Type 0 where
  pub cond : (x : Layer K layers.Cond-F) → parts_cond K I x → I.cond (s.cond x)
  pub expr : (x : Layer K layers.Expr-F) → Agrees A (head_expr x) → parts_expr K I x → I.expr (s.expr x)
  pub item : (x : Layer K layers.Item-F) → parts_item K I x → I.item (s.item x)
  pub join : (x : Layer K layers.Join-F) → Agrees A (head_join x) → parts_join K I x → I.join (s.join x)
  pub arm : (x : Layer K layers.Arm-F) → parts_arm K I x → I.arm (s.arm x)
  pub chain : (x : Layer K layers.Chain-F) → Agrees A (head_chain x) → parts_chain K I x → I.chain (s.chain x)
  pub choice : (x : Layer K layers.Choice-F) → parts_choice K I x → I.choice (s.choice x)
  pub query : (x : Layer K layers.Query-F) → parts_query K I x → I.query (s.query x)
  pub signed : (x : Layer K layers.Signed-F) → parts_signed K I x → I.signed (s.signed x)

module _ (K : Kinds) (s : Steps K) (A : Mention → Type 0) (I : Holding K) (keeps : Keeps K s A I) where
  -- a node and its law
  abbrev Good : {X M : Type 0} → (X → Mentions) → (X → M) → (M → Type 0) → X → Type 0
  Good names f P x = Agrees A (names x) → P (f x)

  abbrev With : {X M : Type 0} → (X → Mentions) → (X → M) → (M → Type 0) → Type 0
  With {X = X} names f P = (x : X) × Good names f P x

  all_held : {X M : Type 0} (names : X → Mentions) (f : X → M) (P : M → Type 0) (xs : List (With names f P)) → Agrees A (all_of (map names (map (λ x. x.0) xs))) → AllByRecursion P (map f (map (λ x. x.0) xs))
  all_held names f P [] h = tt
  all_held names f P (x ∷ xs) h = (x.1 (first A (names x.0) (all_of (map names (map (λ x. x.0) xs))) h), all_held names f P xs (second A (names x.0) (all_of (map names (map (λ x. x.0) xs))) h))

  abbrev GCond : Cond → Type 0
  GCond = Good in_cond (cond_of K s) I.cond

  abbrev GExpr : Expr → Type 0
  GExpr = Good in_expr (expr_of K s) I.expr

  abbrev GItem : Item → Type 0
  GItem = Good in_item (item_of K s) I.item

  abbrev GJoin : Join → Type 0
  GJoin = Good in_join (join_of K s) I.join

  abbrev GArm : Arm → Type 0
  GArm = Good in_arm (arm_of K s) I.arm

  abbrev GChain : Chain → Type 0
  GChain = Good in_chain (chain_of K s) I.chain

  abbrev GChoice : Choice → Type 0
  GChoice = Good in_choice (choice_of K s) I.choice

  abbrev GQuery : Query → Type 0
  GQuery = Good in_query (query_of K s) I.query

  abbrev GSigned : Signed → Type 0
  GSigned = Good in_signed (signed_of K s) I.signed

  by_cond : (x : Written layers.Cond-F) → (Agrees A (naming_steps.cond (cond_layer naming naming_steps x)) → I.cond (s.cond (cond_layer K s x))) → GCond (roll-Cond x)
  by_cond x f h = subst I.cond (sym (cond_roll K s x)) (f (subst (Agrees A) (cond_roll naming naming_steps x) h))

  by_expr : (x : Written layers.Expr-F) → (Agrees A (naming_steps.expr (expr_layer naming naming_steps x)) → I.expr (s.expr (expr_layer K s x))) → GExpr (roll-Expr x)
  by_expr x f h = subst I.expr (sym (expr_roll K s x)) (f (subst (Agrees A) (expr_roll naming naming_steps x) h))

  by_item : (x : Written layers.Item-F) → (Agrees A (naming_steps.item (item_layer naming naming_steps x)) → I.item (s.item (item_layer K s x))) → GItem (roll-Item x)
  by_item x f h = subst I.item (sym (item_roll K s x)) (f (subst (Agrees A) (item_roll naming naming_steps x) h))

  by_join : (x : Written layers.Join-F) → (Agrees A (naming_steps.join (join_layer naming naming_steps x)) → I.join (s.join (join_layer K s x))) → GJoin (roll-Join x)
  by_join x f h = subst I.join (sym (join_roll K s x)) (f (subst (Agrees A) (join_roll naming naming_steps x) h))

  by_arm : (x : Written layers.Arm-F) → (Agrees A (naming_steps.arm (arm_layer naming naming_steps x)) → I.arm (s.arm (arm_layer K s x))) → GArm (roll-Arm x)
  by_arm x f h = subst I.arm (sym (arm_roll K s x)) (f (subst (Agrees A) (arm_roll naming naming_steps x) h))

  by_chain : (x : Written layers.Chain-F) → (Agrees A (naming_steps.chain (chain_layer naming naming_steps x)) → I.chain (s.chain (chain_layer K s x))) → GChain (roll-Chain x)
  by_chain x f h = subst I.chain (sym (chain_roll K s x)) (f (subst (Agrees A) (chain_roll naming naming_steps x) h))

  by_choice : (x : Written layers.Choice-F) → (Agrees A (naming_steps.choice (choice_layer naming naming_steps x)) → I.choice (s.choice (choice_layer K s x))) → GChoice (roll-Choice x)
  by_choice x f h = subst I.choice (sym (choice_roll K s x)) (f (subst (Agrees A) (choice_roll naming naming_steps x) h))

  by_query : (x : Written layers.Query-F) → (Agrees A (naming_steps.query (query_layer naming naming_steps x)) → I.query (s.query (query_layer K s x))) → GQuery (roll-Query x)
  by_query x f h = subst I.query (sym (query_roll K s x)) (f (subst (Agrees A) (query_roll naming naming_steps x) h))

  by_signed : (x : Written layers.Signed-F) → (Agrees A (naming_steps.signed (signed_layer naming naming_steps x)) → I.signed (s.signed (signed_layer K s x))) → GSigned (roll-Signed x)
  by_signed x f h = subst I.signed (sym (signed_roll K s x)) (f (subst (Agrees A) (signed_roll naming naming_steps x) h))

  abbrev Goods : (Type 0 → Type 0 → Type 0 → Type 0 → Type 0 → Type 0 → Type 0 → Type 0 → Type 0 → Type 0) → Type 0
  Goods F = F (With in_cond (cond_of K s) I.cond) (With in_expr (expr_of K s) I.expr) (With in_item (item_of K s) I.item) (With in_join (join_of K s) I.join) (With in_arm (arm_of K s) I.arm) (With in_chain (chain_of K s) I.chain) (With in_choice (choice_of K s) I.choice) (With in_query (query_of K s) I.query) (With in_signed (signed_of K s) I.signed)

  abbrev down_cond : Goods layers.Cond-F → Written layers.Cond-F
  down_cond = map-Cond (With in_cond (cond_of K s) I.cond) (With in_expr (expr_of K s) I.expr) (With in_item (item_of K s) I.item) (With in_join (join_of K s) I.join) (With in_arm (arm_of K s) I.arm) (With in_chain (chain_of K s) I.chain) (With in_choice (choice_of K s) I.choice) (With in_query (query_of K s) I.query) (With in_signed (signed_of K s) I.signed) Cond Expr Item Join Arm Chain Choice Query Signed (λ x. x.0) (λ x. x.0) (λ x. x.0) (λ x. x.0) (λ x. x.0) (λ x. x.0) (λ x. x.0) (λ x. x.0) (λ x. x.0)

  abbrev down_expr : Goods layers.Expr-F → Written layers.Expr-F
  down_expr = map-Expr (With in_cond (cond_of K s) I.cond) (With in_expr (expr_of K s) I.expr) (With in_item (item_of K s) I.item) (With in_join (join_of K s) I.join) (With in_arm (arm_of K s) I.arm) (With in_chain (chain_of K s) I.chain) (With in_choice (choice_of K s) I.choice) (With in_query (query_of K s) I.query) (With in_signed (signed_of K s) I.signed) Cond Expr Item Join Arm Chain Choice Query Signed (λ x. x.0) (λ x. x.0) (λ x. x.0) (λ x. x.0) (λ x. x.0) (λ x. x.0) (λ x. x.0) (λ x. x.0) (λ x. x.0)

  abbrev down_item : Goods layers.Item-F → Written layers.Item-F
  down_item = map-Item (With in_cond (cond_of K s) I.cond) (With in_expr (expr_of K s) I.expr) (With in_item (item_of K s) I.item) (With in_join (join_of K s) I.join) (With in_arm (arm_of K s) I.arm) (With in_chain (chain_of K s) I.chain) (With in_choice (choice_of K s) I.choice) (With in_query (query_of K s) I.query) (With in_signed (signed_of K s) I.signed) Cond Expr Item Join Arm Chain Choice Query Signed (λ x. x.0) (λ x. x.0) (λ x. x.0) (λ x. x.0) (λ x. x.0) (λ x. x.0) (λ x. x.0) (λ x. x.0) (λ x. x.0)

  abbrev down_join : Goods layers.Join-F → Written layers.Join-F
  down_join = map-Join (With in_cond (cond_of K s) I.cond) (With in_expr (expr_of K s) I.expr) (With in_item (item_of K s) I.item) (With in_join (join_of K s) I.join) (With in_arm (arm_of K s) I.arm) (With in_chain (chain_of K s) I.chain) (With in_choice (choice_of K s) I.choice) (With in_query (query_of K s) I.query) (With in_signed (signed_of K s) I.signed) Cond Expr Item Join Arm Chain Choice Query Signed (λ x. x.0) (λ x. x.0) (λ x. x.0) (λ x. x.0) (λ x. x.0) (λ x. x.0) (λ x. x.0) (λ x. x.0) (λ x. x.0)

  abbrev down_arm : Goods layers.Arm-F → Written layers.Arm-F
  down_arm = map-Arm (With in_cond (cond_of K s) I.cond) (With in_expr (expr_of K s) I.expr) (With in_item (item_of K s) I.item) (With in_join (join_of K s) I.join) (With in_arm (arm_of K s) I.arm) (With in_chain (chain_of K s) I.chain) (With in_choice (choice_of K s) I.choice) (With in_query (query_of K s) I.query) (With in_signed (signed_of K s) I.signed) Cond Expr Item Join Arm Chain Choice Query Signed (λ x. x.0) (λ x. x.0) (λ x. x.0) (λ x. x.0) (λ x. x.0) (λ x. x.0) (λ x. x.0) (λ x. x.0) (λ x. x.0)

  abbrev down_chain : Goods layers.Chain-F → Written layers.Chain-F
  down_chain = map-Chain (With in_cond (cond_of K s) I.cond) (With in_expr (expr_of K s) I.expr) (With in_item (item_of K s) I.item) (With in_join (join_of K s) I.join) (With in_arm (arm_of K s) I.arm) (With in_chain (chain_of K s) I.chain) (With in_choice (choice_of K s) I.choice) (With in_query (query_of K s) I.query) (With in_signed (signed_of K s) I.signed) Cond Expr Item Join Arm Chain Choice Query Signed (λ x. x.0) (λ x. x.0) (λ x. x.0) (λ x. x.0) (λ x. x.0) (λ x. x.0) (λ x. x.0) (λ x. x.0) (λ x. x.0)

  abbrev down_choice : Goods layers.Choice-F → Written layers.Choice-F
  down_choice = map-Choice (With in_cond (cond_of K s) I.cond) (With in_expr (expr_of K s) I.expr) (With in_item (item_of K s) I.item) (With in_join (join_of K s) I.join) (With in_arm (arm_of K s) I.arm) (With in_chain (chain_of K s) I.chain) (With in_choice (choice_of K s) I.choice) (With in_query (query_of K s) I.query) (With in_signed (signed_of K s) I.signed) Cond Expr Item Join Arm Chain Choice Query Signed (λ x. x.0) (λ x. x.0) (λ x. x.0) (λ x. x.0) (λ x. x.0) (λ x. x.0) (λ x. x.0) (λ x. x.0) (λ x. x.0)

  abbrev down_query : Goods layers.Query-F → Written layers.Query-F
  down_query = map-Query (With in_cond (cond_of K s) I.cond) (With in_expr (expr_of K s) I.expr) (With in_item (item_of K s) I.item) (With in_join (join_of K s) I.join) (With in_arm (arm_of K s) I.arm) (With in_chain (chain_of K s) I.chain) (With in_choice (choice_of K s) I.choice) (With in_query (query_of K s) I.query) (With in_signed (signed_of K s) I.signed) Cond Expr Item Join Arm Chain Choice Query Signed (λ x. x.0) (λ x. x.0) (λ x. x.0) (λ x. x.0) (λ x. x.0) (λ x. x.0) (λ x. x.0) (λ x. x.0) (λ x. x.0)

  abbrev down_signed : Goods layers.Signed-F → Written layers.Signed-F
  down_signed = map-Signed (With in_cond (cond_of K s) I.cond) (With in_expr (expr_of K s) I.expr) (With in_item (item_of K s) I.item) (With in_join (join_of K s) I.join) (With in_arm (arm_of K s) I.arm) (With in_chain (chain_of K s) I.chain) (With in_choice (choice_of K s) I.choice) (With in_query (query_of K s) I.query) (With in_signed (signed_of K s) I.signed) Cond Expr Item Join Arm Chain Choice Query Signed (λ x. x.0) (λ x. x.0) (λ x. x.0) (λ x. x.0) (λ x. x.0) (λ x. x.0) (λ x. x.0) (λ x. x.0) (λ x. x.0)

  expr_good : (y : Goods layers.Expr-F) → GExpr (roll-Expr (down_expr y))
  expr_good (layers.Expr-F.Atom x) = by_expr (layers.Expr-F.Atom x) (λ h. keeps.expr (layers.Expr-F.Atom x) h tt)
  expr_good (layers.Expr-F.Sum parts) = by_expr (layers.Expr-F.Sum (map (λ x. x.0) parts)) (λ h. keeps.expr (layers.Expr-F.Sum (map (signed_of K s) (map (λ x. x.0) parts))) tt (all_held in_signed (signed_of K s) I.signed parts h))
  expr_good (layers.Expr-F.Concat parts) = by_expr (layers.Expr-F.Concat (map (λ x. x.0) parts)) (λ h. keeps.expr (layers.Expr-F.Concat (map (expr_of K s) (map (λ x. x.0) parts))) tt (all_held in_expr (expr_of K s) I.expr parts h))
  expr_good (layers.Expr-F.Product parts) = by_expr (layers.Expr-F.Product (map (λ x. x.0) parts)) (λ h. keeps.expr (layers.Expr-F.Product (map (expr_of K s) (map (λ x. x.0) parts))) tt (all_held in_expr (expr_of K s) I.expr parts h))
  expr_good (layers.Expr-F.Case arms None) = by_expr (layers.Expr-F.Case (map (λ x. x.0) arms) None) (λ h. let m0 : Mentions = all_of (map in_arm (map (λ x. x.0) arms)) in let r0 : Mentions = ([]) in let p0 : Agrees A m0 = first A m0 r0 h in let k0 : Agrees A r0 = second A m0 r0 h in keeps.expr (layers.Expr-F.Case (map (arm_of K s) (map (λ x. x.0) arms)) None) tt (all_held in_arm (arm_of K s) I.arm arms p0, (tt)))
  expr_good (layers.Expr-F.Case arms (Some other)) = by_expr (layers.Expr-F.Case (map (λ x. x.0) arms) (Some other.0)) (λ h. let m0 : Mentions = all_of (map in_arm (map (λ x. x.0) arms)) in let r0 : Mentions = (in_expr other.0) in let p0 : Agrees A m0 = first A m0 r0 h in let k0 : Agrees A r0 = second A m0 r0 h in keeps.expr (layers.Expr-F.Case (map (arm_of K s) (map (λ x. x.0) arms)) (Some (expr_of K s other.0))) tt (all_held in_arm (arm_of K s) I.arm arms p0, (other.1 k0)))
  expr_good (layers.Expr-F.Match d arms None) = by_expr (layers.Expr-F.Match d.0 (map (λ x. x.0) arms) None) (λ h. let m0 : Mentions = in_expr d.0 in let r0 : Mentions = (all_of (map in_choice (map (λ x. x.0) arms))) ++ (([])) in let p0 : Agrees A m0 = first A m0 r0 h in let k0 : Agrees A r0 = second A m0 r0 h in let m1 : Mentions = all_of (map in_choice (map (λ x. x.0) arms)) in let r1 : Mentions = ([]) in let p1 : Agrees A m1 = first A m1 r1 k0 in let k1 : Agrees A r1 = second A m1 r1 k0 in keeps.expr (layers.Expr-F.Match (expr_of K s d.0) (map (choice_of K s) (map (λ x. x.0) arms)) None) tt (d.1 p0, (all_held in_choice (choice_of K s) I.choice arms p1, (tt))))
  expr_good (layers.Expr-F.Match d arms (Some other)) = by_expr (layers.Expr-F.Match d.0 (map (λ x. x.0) arms) (Some other.0)) (λ h. let m0 : Mentions = in_expr d.0 in let r0 : Mentions = (all_of (map in_choice (map (λ x. x.0) arms))) ++ ((in_expr other.0)) in let p0 : Agrees A m0 = first A m0 r0 h in let k0 : Agrees A r0 = second A m0 r0 h in let m1 : Mentions = all_of (map in_choice (map (λ x. x.0) arms)) in let r1 : Mentions = (in_expr other.0) in let p1 : Agrees A m1 = first A m1 r1 k0 in let k1 : Agrees A r1 = second A m1 r1 k0 in keeps.expr (layers.Expr-F.Match (expr_of K s d.0) (map (choice_of K s) (map (λ x. x.0) arms)) (Some (expr_of K s other.0))) tt (d.1 p0, (all_held in_choice (choice_of K s) I.choice arms p1, (other.1 k1))))
  expr_good (layers.Expr-F.Aggregate op d) = by_expr (layers.Expr-F.Aggregate op d.0) (λ h. keeps.expr (layers.Expr-F.Aggregate op (expr_of K s d.0)) tt (d.1 h))
  expr_good (layers.Expr-F.Substr d from None) = by_expr (layers.Expr-F.Substr d.0 from.0 None) (λ h. let m0 : Mentions = in_expr d.0 in let r0 : Mentions = (in_expr from.0) ++ (([])) in let p0 : Agrees A m0 = first A m0 r0 h in let k0 : Agrees A r0 = second A m0 r0 h in let m1 : Mentions = in_expr from.0 in let r1 : Mentions = ([]) in let p1 : Agrees A m1 = first A m1 r1 k0 in let k1 : Agrees A r1 = second A m1 r1 k0 in keeps.expr (layers.Expr-F.Substr (expr_of K s d.0) (expr_of K s from.0) None) tt (d.1 p0, (from.1 p1, (tt))))
  expr_good (layers.Expr-F.Substr d from (Some count)) = by_expr (layers.Expr-F.Substr d.0 from.0 (Some count.0)) (λ h. let m0 : Mentions = in_expr d.0 in let r0 : Mentions = (in_expr from.0) ++ ((in_expr count.0)) in let p0 : Agrees A m0 = first A m0 r0 h in let k0 : Agrees A r0 = second A m0 r0 h in let m1 : Mentions = in_expr from.0 in let r1 : Mentions = (in_expr count.0) in let p1 : Agrees A m1 = first A m1 r1 k0 in let k1 : Agrees A r1 = second A m1 r1 k0 in keeps.expr (layers.Expr-F.Substr (expr_of K s d.0) (expr_of K s from.0) (Some (expr_of K s count.0))) tt (d.1 p0, (from.1 p1, (count.1 k1))))
  expr_good (layers.Expr-F.Apply f d) = by_expr (layers.Expr-F.Apply f d.0) (λ h. keeps.expr (layers.Expr-F.Apply f (expr_of K s d.0)) tt (d.1 h))
  expr_good (layers.Expr-F.Coalesce parts) = by_expr (layers.Expr-F.Coalesce (map (λ x. x.0) parts)) (λ h. keeps.expr (layers.Expr-F.Coalesce (map (expr_of K s) (map (λ x. x.0) parts))) tt (all_held in_expr (expr_of K s) I.expr parts h))

  cond_good : (y : Goods layers.Cond-F) → GCond (roll-Cond (down_cond y))
  cond_good (layers.Cond-F.Or cs) = by_cond (layers.Cond-F.Or (map (λ x. x.0) cs)) (λ h. keeps.cond (layers.Cond-F.Or (map (cond_of K s) (map (λ x. x.0) cs))) (all_held in_cond (cond_of K s) I.cond cs h))
  cond_good (layers.Cond-F.And cs) = by_cond (layers.Cond-F.And (map (λ x. x.0) cs)) (λ h. keeps.cond (layers.Cond-F.And (map (cond_of K s) (map (λ x. x.0) cs))) (all_held in_cond (cond_of K s) I.cond cs h))
  cond_good (layers.Cond-F.Not c) = by_cond (layers.Cond-F.Not c.0) (λ h. keeps.cond (layers.Cond-F.Not (cond_of K s c.0)) (c.1 h))
  cond_good (layers.Cond-F.Exists q) = by_cond (layers.Cond-F.Exists q.0) (λ h. keeps.cond (layers.Cond-F.Exists (query_of K s q.0)) (q.1 h))
  cond_good (layers.Cond-F.Compare by a b) = by_cond (layers.Cond-F.Compare by a.0 b.0) (λ h. let m0 : Mentions = in_expr a.0 in let r0 : Mentions = (in_expr b.0) in let p0 : Agrees A m0 = first A m0 r0 h in let k0 : Agrees A r0 = second A m0 r0 h in keeps.cond (layers.Cond-F.Compare by (expr_of K s a.0) (expr_of K s b.0)) (a.1 p0, (b.1 k0)))
  cond_good (layers.Cond-F.CompareQuery by a q) = by_cond (layers.Cond-F.CompareQuery by a.0 q.0) (λ h. let m0 : Mentions = in_expr a.0 in let r0 : Mentions = (in_query q.0) in let p0 : Agrees A m0 = first A m0 r0 h in let k0 : Agrees A r0 = second A m0 r0 h in keeps.cond (layers.Cond-F.CompareQuery by (expr_of K s a.0) (query_of K s q.0)) (a.1 p0, (q.1 k0)))
  cond_good (layers.Cond-F.IsNull a) = by_cond (layers.Cond-F.IsNull a.0) (λ h. keeps.cond (layers.Cond-F.IsNull (expr_of K s a.0)) (a.1 h))
  cond_good (layers.Cond-F.InQuery a q) = by_cond (layers.Cond-F.InQuery a.0 q.0) (λ h. let m0 : Mentions = in_expr a.0 in let r0 : Mentions = (in_query q.0) in let p0 : Agrees A m0 = first A m0 r0 h in let k0 : Agrees A r0 = second A m0 r0 h in keeps.cond (layers.Cond-F.InQuery (expr_of K s a.0) (query_of K s q.0)) (a.1 p0, (q.1 k0)))
  cond_good (layers.Cond-F.InList a parts) = by_cond (layers.Cond-F.InList a.0 (map (λ x. x.0) parts)) (λ h. let m0 : Mentions = in_expr a.0 in let r0 : Mentions = (all_of (map in_expr (map (λ x. x.0) parts))) in let p0 : Agrees A m0 = first A m0 r0 h in let k0 : Agrees A r0 = second A m0 r0 h in keeps.cond (layers.Cond-F.InList (expr_of K s a.0) (map (expr_of K s) (map (λ x. x.0) parts))) (a.1 p0, (all_held in_expr (expr_of K s) I.expr parts k0)))
  cond_good (layers.Cond-F.Between a low high) = by_cond (layers.Cond-F.Between a.0 low.0 high.0) (λ h. let m0 : Mentions = in_expr a.0 in let r0 : Mentions = (in_expr low.0) ++ ((in_expr high.0)) in let p0 : Agrees A m0 = first A m0 r0 h in let k0 : Agrees A r0 = second A m0 r0 h in let m1 : Mentions = in_expr low.0 in let r1 : Mentions = (in_expr high.0) in let p1 : Agrees A m1 = first A m1 r1 k0 in let k1 : Agrees A r1 = second A m1 r1 k0 in keeps.cond (layers.Cond-F.Between (expr_of K s a.0) (expr_of K s low.0) (expr_of K s high.0)) (a.1 p0, (low.1 p1, (high.1 k1))))

  item_good : (y : Goods layers.Item-F) → GItem (roll-Item (down_item y))
  item_good layers.Item-F.Everything = by_item layers.Item-F.Everything (λ h. keeps.item layers.Item-F.Everything tt)
  item_good (layers.Item-F.AllOf n) = by_item (layers.Item-F.AllOf n) (λ h. keeps.item (layers.Item-F.AllOf n) tt)
  item_good (layers.Item-F.Value d name) = by_item (layers.Item-F.Value d.0 name) (λ h. keeps.item (layers.Item-F.Value (expr_of K s d.0) name) (d.1 h))

  join_good : (y : Goods layers.Join-F) → GJoin (roll-Join (down_join y))
  join_good (layers.Join-F.Inner tab c) = by_join (layers.Join-F.Inner tab c.0) (λ h. keeps.join (layers.Join-F.Inner tab (cond_of K s c.0)) (h.0, tt) (c.1 h.1))
  join_good (layers.Join-F.Left tab c) = by_join (layers.Join-F.Left tab c.0) (λ h. keeps.join (layers.Join-F.Left tab (cond_of K s c.0)) (h.0, tt) (c.1 h.1))
  join_good (layers.Join-F.Cross tab) = by_join (layers.Join-F.Cross tab) (λ h. keeps.join (layers.Join-F.Cross tab) (h.0, tt) tt)

  arm_good : (y : Goods layers.Arm-F) → GArm (roll-Arm (down_arm y))
  arm_good y = by_arm (down_arm y) (λ h. let m0 : Mentions = in_cond y.when.0 in let r0 : Mentions = (in_expr y.result.0) in let p0 : Agrees A m0 = first A m0 r0 h in let k0 : Agrees A r0 = second A m0 r0 h in keeps.arm (record { when = (cond_of K s y.when.0); result = (expr_of K s y.result.0) }) (y.when.1 p0, (y.result.1 k0)))

  chain_good : (y : Goods layers.Chain-F) → GChain (roll-Chain (down_chain y))
  chain_good y = by_chain (down_chain y) (λ h. keeps.chain (record { first = y.first; joins = (map (join_of K s) (map (λ x. x.0) y.joins)) }) (h.0, tt) (all_held in_join (join_of K s) I.join y.joins h.1))

  choice_good : (y : Goods layers.Choice-F) → GChoice (roll-Choice (down_choice y))
  choice_good y = by_choice (down_choice y) (λ h. let m0 : Mentions = in_expr y.when.0 in let r0 : Mentions = (in_expr y.result.0) in let p0 : Agrees A m0 = first A m0 r0 h in let k0 : Agrees A r0 = second A m0 r0 h in keeps.choice (record { when = (expr_of K s y.when.0); result = (expr_of K s y.result.0) }) (y.when.1 p0, (y.result.1 k0)))

  signed_good : (y : Goods layers.Signed-F) → GSigned (roll-Signed (down_signed y))
  signed_good y = by_signed (down_signed y) (λ h. keeps.signed (record { minus = y.minus; part = (expr_of K s y.part.0) }) (y.part.1 h))

  query_good : (distinct : Bool) (items : List (With in_item (item_of K s) I.item)) (from : List (With in_chain (chain_of K s) I.chain)) (filter : Option (With in_cond (cond_of K s) I.cond)) (group : List Column) (having : Option (With in_cond (cond_of K s) I.cond))
      → GQuery (roll-Query (down_query (record { distinct = distinct; items = items; from = from; filter = filter; group = group; having = having })))
  query_good distinct items from None group None = by_query (record { distinct = distinct; items = (map (λ x. x.0) items); from = (map (λ x. x.0) from); filter = None; group = group; having = None })
      (λ h. let m0 : Mentions = all_of (map in_item (map (λ x. x.0) items)) in let r0 : Mentions = (all_of (map in_chain (map (λ x. x.0) from))) ++ (([]) ++ (([]))) in let p0 : Agrees A m0 = first A m0 r0 h in let k0 : Agrees A r0 = second A m0 r0 h in let m1 : Mentions = all_of (map in_chain (map (λ x. x.0) from)) in let r1 : Mentions = ([]) ++ (([])) in let p1 : Agrees A m1 = first A m1 r1 k0 in let k1 : Agrees A r1 = second A m1 r1 k0 in let m2 : Mentions = [] in let r2 : Mentions = ([]) in let p2 : Agrees A m2 = first A m2 r2 k1 in let k2 : Agrees A r2 = second A m2 r2 k1 in keeps.query (record { distinct = distinct; items = (map (item_of K s) (map (λ x. x.0) items)); from = (map (chain_of K s) (map (λ x. x.0) from)); filter = None; group = group; having = None }) (all_held in_item (item_of K s) I.item items p0, (all_held in_chain (chain_of K s) I.chain from p1, (tt, (tt)))))
  query_good distinct items from None group (Some having) = by_query (record { distinct = distinct; items = (map (λ x. x.0) items); from = (map (λ x. x.0) from); filter = None; group = group; having = (Some having.0) })
      (λ h. let m0 : Mentions = all_of (map in_item (map (λ x. x.0) items)) in let r0 : Mentions = (all_of (map in_chain (map (λ x. x.0) from))) ++ (([]) ++ ((in_cond having.0))) in let p0 : Agrees A m0 = first A m0 r0 h in let k0 : Agrees A r0 = second A m0 r0 h in let m1 : Mentions = all_of (map in_chain (map (λ x. x.0) from)) in let r1 : Mentions = ([]) ++ ((in_cond having.0)) in let p1 : Agrees A m1 = first A m1 r1 k0 in let k1 : Agrees A r1 = second A m1 r1 k0 in let m2 : Mentions = [] in let r2 : Mentions = (in_cond having.0) in let p2 : Agrees A m2 = first A m2 r2 k1 in let k2 : Agrees A r2 = second A m2 r2 k1 in keeps.query (record { distinct = distinct; items = (map (item_of K s) (map (λ x. x.0) items)); from = (map (chain_of K s) (map (λ x. x.0) from)); filter = None; group = group; having = (Some (cond_of K s having.0)) }) (all_held in_item (item_of K s) I.item items p0, (all_held in_chain (chain_of K s) I.chain from p1, (tt, (having.1 k2)))))
  query_good distinct items from (Some filter) group None = by_query (record { distinct = distinct; items = (map (λ x. x.0) items); from = (map (λ x. x.0) from); filter = (Some filter.0); group = group; having = None })
      (λ h. let m0 : Mentions = all_of (map in_item (map (λ x. x.0) items)) in let r0 : Mentions = (all_of (map in_chain (map (λ x. x.0) from))) ++ ((in_cond filter.0) ++ (([]))) in let p0 : Agrees A m0 = first A m0 r0 h in let k0 : Agrees A r0 = second A m0 r0 h in let m1 : Mentions = all_of (map in_chain (map (λ x. x.0) from)) in let r1 : Mentions = (in_cond filter.0) ++ (([])) in let p1 : Agrees A m1 = first A m1 r1 k0 in let k1 : Agrees A r1 = second A m1 r1 k0 in let m2 : Mentions = in_cond filter.0 in let r2 : Mentions = ([]) in let p2 : Agrees A m2 = first A m2 r2 k1 in let k2 : Agrees A r2 = second A m2 r2 k1 in keeps.query (record { distinct = distinct; items = (map (item_of K s) (map (λ x. x.0) items)); from = (map (chain_of K s) (map (λ x. x.0) from)); filter = (Some (cond_of K s filter.0)); group = group; having = None }) (all_held in_item (item_of K s) I.item items p0, (all_held in_chain (chain_of K s) I.chain from p1, (filter.1 p2, (tt)))))
  query_good distinct items from (Some filter) group (Some having) = by_query (record { distinct = distinct; items = (map (λ x. x.0) items); from = (map (λ x. x.0) from); filter = (Some filter.0); group = group; having = (Some having.0) })
      (λ h. let m0 : Mentions = all_of (map in_item (map (λ x. x.0) items)) in let r0 : Mentions = (all_of (map in_chain (map (λ x. x.0) from))) ++ ((in_cond filter.0) ++ ((in_cond having.0))) in let p0 : Agrees A m0 = first A m0 r0 h in let k0 : Agrees A r0 = second A m0 r0 h in let m1 : Mentions = all_of (map in_chain (map (λ x. x.0) from)) in let r1 : Mentions = (in_cond filter.0) ++ ((in_cond having.0)) in let p1 : Agrees A m1 = first A m1 r1 k0 in let k1 : Agrees A r1 = second A m1 r1 k0 in let m2 : Mentions = in_cond filter.0 in let r2 : Mentions = (in_cond having.0) in let p2 : Agrees A m2 = first A m2 r2 k1 in let k2 : Agrees A r2 = second A m2 r2 k1 in keeps.query (record { distinct = distinct; items = (map (item_of K s) (map (λ x. x.0) items)); from = (map (chain_of K s) (map (λ x. x.0) from)); filter = (Some (cond_of K s filter.0)); group = group; having = (Some (cond_of K s having.0)) }) (all_held in_item (item_of K s) I.item items p0, (all_held in_chain (chain_of K s) I.chain from p1, (filter.1 p2, (having.1 k2)))))

  expr_keeps : (x : Expr) → GExpr x
  expr_keeps = ind-Expr GCond GExpr GItem GJoin GArm GChain GChoice GQuery GSigned (λ x y is. subst (λ z. GCond (roll-Cond z)) is (cond_good y)) (λ x y is. subst (λ z. GExpr (roll-Expr z)) is (expr_good y)) (λ x y is. subst (λ z. GItem (roll-Item z)) is (item_good y)) (λ x y is. subst (λ z. GJoin (roll-Join z)) is (join_good y)) (λ x y is. subst (λ z. GArm (roll-Arm z)) is (arm_good y)) (λ x y is. subst (λ z. GChain (roll-Chain z)) is (chain_good y)) (λ x y is. subst (λ z. GChoice (roll-Choice z)) is (choice_good y)) (λ x y is. subst (λ z. GQuery (roll-Query z)) is (query_good y.distinct y.items y.from y.filter y.group y.having)) (λ x y is. subst (λ z. GSigned (roll-Signed z)) is (signed_good y))

  pub expr_held : (x : Expr) → Agrees A (expr_mentions x) → I.expr (expr_of K s x)
  unfolding expr_mentions
  expr_held x h = expr_keeps x h

  cond_keeps : (x : Cond) → GCond x
  cond_keeps = ind-Cond GCond GExpr GItem GJoin GArm GChain GChoice GQuery GSigned (λ x y is. subst (λ z. GCond (roll-Cond z)) is (cond_good y)) (λ x y is. subst (λ z. GExpr (roll-Expr z)) is (expr_good y)) (λ x y is. subst (λ z. GItem (roll-Item z)) is (item_good y)) (λ x y is. subst (λ z. GJoin (roll-Join z)) is (join_good y)) (λ x y is. subst (λ z. GArm (roll-Arm z)) is (arm_good y)) (λ x y is. subst (λ z. GChain (roll-Chain z)) is (chain_good y)) (λ x y is. subst (λ z. GChoice (roll-Choice z)) is (choice_good y)) (λ x y is. subst (λ z. GQuery (roll-Query z)) is (query_good y.distinct y.items y.from y.filter y.group y.having)) (λ x y is. subst (λ z. GSigned (roll-Signed z)) is (signed_good y))

  pub cond_held : (x : Cond) → Agrees A (cond_mentions x) → I.cond (cond_of K s x)
  unfolding cond_mentions
  cond_held x h = cond_keeps x h

  query_keeps : (x : Query) → GQuery x
  query_keeps = ind-Query GCond GExpr GItem GJoin GArm GChain GChoice GQuery GSigned (λ x y is. subst (λ z. GCond (roll-Cond z)) is (cond_good y)) (λ x y is. subst (λ z. GExpr (roll-Expr z)) is (expr_good y)) (λ x y is. subst (λ z. GItem (roll-Item z)) is (item_good y)) (λ x y is. subst (λ z. GJoin (roll-Join z)) is (join_good y)) (λ x y is. subst (λ z. GArm (roll-Arm z)) is (arm_good y)) (λ x y is. subst (λ z. GChain (roll-Chain z)) is (chain_good y)) (λ x y is. subst (λ z. GChoice (roll-Choice z)) is (choice_good y)) (λ x y is. subst (λ z. GQuery (roll-Query z)) is (query_good y.distinct y.items y.from y.filter y.group y.having)) (λ x y is. subst (λ z. GSigned (roll-Signed z)) is (signed_good y))

  pub query_held : (x : Query) → Agrees A (query_mentions x) → I.query (query_of K s x)
  unfolding query_mentions
  query_held x h = query_keeps x h

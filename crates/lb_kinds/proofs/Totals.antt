-- Typing and meaning agree on which nodes have an aggregate. tools/kind-totals writes this file.
use Rattle.std.proofs.Common.{◌≡◌, refl, sym, subst, Bool, false, ◌||◌, List, [], ◌∷◌, map, Some, None}
use Rattle.std.specs.List.{list_any}
use Rattle.lb_tree.specs.declared.query.Cond.{Cond}
use Rattle.lb_tree.specs.declared.query.Expr.{Expr}
use Rattle.lb_tree.specs.declared.query.Item.{Item}
use Rattle.lb_tree.specs.declared.query.Join.{Join}
use Rattle.lb_tree.specs.declared.query.Arm.{Arm}
use Rattle.lb_tree.specs.declared.query.Chain.{Chain}
use Rattle.lb_tree.specs.declared.query.Choice.{Choice}
use Rattle.lb_tree.specs.declared.query.Query.{Query}
use Rattle.lb_tree.specs.declared.query.Signed.{Signed}
use Rattle.lb_tree.specs.declared.query.Cond.TheOpen as layers
use Rattle.lb_tree.specs.declared.query.Cond.TheViews.{roll-Cond, roll-Expr, roll-Item, roll-Arm, roll-Choice, roll-Signed}
use Rattle.lb_tree.specs.declared.query.Cond.TheFolds.{map-Cond, map-Expr, map-Item, map-Arm, map-Choice, map-Signed, ind-Expr, ind-Item}
use Rattle.lb_tree.specs.Folds.{Written, cond_of, cond_layer, expr_of, expr_layer, item_of, item_layer, arm_of, arm_layer, choice_of, choice_layer, signed_of, signed_layer}
use Rattle.lb_tree.proofs.Opens.{cond_roll, expr_roll, item_roll, arm_roll, choice_roll, signed_roll}
use Rattle.lb_names.specs.Scopes.{Catalogue}
use Rattle.lb_names.specs.Carriers as typed
use Rattle.lb_names.specs.Expressions as expressions
use Rattle.lb_names.specs.Typing.{steps as typed_steps}
use Rattle.lb_mean.specs.Setting.{Setting}
use Rattle.lb_mean.specs.Meant as meant
use Rattle.lb_mean.specs.Sure as sure
use Rattle.lb_mean.specs.Meaning.{steps}

same_any : {A B X : Type 0} (f : A → Bool) (g : B → Bool) (n : X → A) (v : X → B) (xs : List ((x : X) × (f (n x) ≡ g (v x)))) → list_any f (map n (map (λ x. x.0) xs)) ≡ list_any g (map v (map (λ x. x.0) xs))
same_any f g n v [] = refl
same_any f g n v (x ∷ xs) = λ i. x.1 i || same_any f g n v xs i

module _ (C : Catalogue) (S : Setting) where
  abbrev NCond : Cond → typed.Says
  NCond = cond_of typed.typing (typed_steps C)

  abbrev VCond : Cond → meant.Says
  VCond = cond_of meant.meaning (steps S)

  abbrev RCond : typed.Says → meant.Says → Type 0
  RCond m w = m.total ≡ w.total

  abbrev GCond : Cond → Type 0
  GCond x = RCond (NCond x) (VCond x)

  abbrev NExpr : Expr → typed.Means
  NExpr = expr_of typed.typing (typed_steps C)

  abbrev VExpr : Expr → meant.Means
  VExpr = expr_of meant.meaning (steps S)

  abbrev RExpr : typed.Means → meant.Means → Type 0
  RExpr m w = m.total ≡ w.total

  abbrev GExpr : Expr → Type 0
  GExpr x = RExpr (NExpr x) (VExpr x)

  abbrev NItem : Item → typed.Shows
  NItem = item_of typed.typing (typed_steps C)

  abbrev VItem : Item → meant.Shows
  VItem = item_of meant.meaning (steps S)

  abbrev RItem : typed.Shows → meant.Shows → Type 0
  RItem m w = m.total ≡ w.total

  abbrev GItem : Item → Type 0
  GItem x = RItem (NItem x) (VItem x)

  abbrev NArm : Arm → typed.Arms
  NArm = arm_of typed.typing (typed_steps C)

  abbrev VArm : Arm → meant.Arms
  VArm = arm_of meant.meaning (steps S)

  abbrev RArm : typed.Arms → meant.Arms → Type 0
  RArm m w = (m.when.total || m.result.total) ≡ (w.when.total || w.result.total)

  abbrev GArm : Arm → Type 0
  GArm x = RArm (NArm x) (VArm x)

  abbrev NChoice : Choice → typed.Choices
  NChoice = choice_of typed.typing (typed_steps C)

  abbrev VChoice : Choice → meant.Chooses
  VChoice = choice_of meant.meaning (steps S)

  abbrev RChoice : typed.Choices → meant.Chooses → Type 0
  RChoice m w = (m.when.total || m.result.total) ≡ (w.when.total || w.result.total)

  abbrev GChoice : Choice → Type 0
  GChoice x = RChoice (NChoice x) (VChoice x)

  abbrev NSigned : Signed → typed.Means
  NSigned = signed_of typed.typing (typed_steps C)

  abbrev VSigned : Signed → meant.Signs
  VSigned = signed_of meant.meaning (steps S)

  abbrev RSigned : typed.Means → meant.Signs → Type 0
  RSigned m w = m.total ≡ w.part.total

  abbrev GSigned : Signed → Type 0
  GSigned x = RSigned (NSigned x) (VSigned x)

  -- nothing is claimed of the other nodes
  abbrev Any : {X : Type 0} → X → Type 0
  Any x = Unit {0}

  by_cond : (x : Written layers.Cond-F) → RCond ((typed_steps C).cond (cond_layer typed.typing (typed_steps C) x)) ((steps S).cond (cond_layer meant.meaning (steps S) x)) → GCond (roll-Cond x)
  by_cond x h = subst (λ m. RCond m (VCond (roll-Cond x))) (sym (cond_roll typed.typing (typed_steps C) x)) (subst (λ w. RCond ((typed_steps C).cond (cond_layer typed.typing (typed_steps C) x)) w) (sym (cond_roll meant.meaning (steps S) x)) h)

  by_expr : (x : Written layers.Expr-F) → RExpr ((typed_steps C).expr (expr_layer typed.typing (typed_steps C) x)) ((steps S).expr (expr_layer meant.meaning (steps S) x)) → GExpr (roll-Expr x)
  by_expr x h = subst (λ m. RExpr m (VExpr (roll-Expr x))) (sym (expr_roll typed.typing (typed_steps C) x)) (subst (λ w. RExpr ((typed_steps C).expr (expr_layer typed.typing (typed_steps C) x)) w) (sym (expr_roll meant.meaning (steps S) x)) h)

  by_item : (x : Written layers.Item-F) → RItem ((typed_steps C).item (item_layer typed.typing (typed_steps C) x)) ((steps S).item (item_layer meant.meaning (steps S) x)) → GItem (roll-Item x)
  by_item x h = subst (λ m. RItem m (VItem (roll-Item x))) (sym (item_roll typed.typing (typed_steps C) x)) (subst (λ w. RItem ((typed_steps C).item (item_layer typed.typing (typed_steps C) x)) w) (sym (item_roll meant.meaning (steps S) x)) h)

  by_arm : (x : Written layers.Arm-F) → RArm ((typed_steps C).arm (arm_layer typed.typing (typed_steps C) x)) ((steps S).arm (arm_layer meant.meaning (steps S) x)) → GArm (roll-Arm x)
  by_arm x h = subst (λ m. RArm m (VArm (roll-Arm x))) (sym (arm_roll typed.typing (typed_steps C) x)) (subst (λ w. RArm ((typed_steps C).arm (arm_layer typed.typing (typed_steps C) x)) w) (sym (arm_roll meant.meaning (steps S) x)) h)

  by_choice : (x : Written layers.Choice-F) → RChoice ((typed_steps C).choice (choice_layer typed.typing (typed_steps C) x)) ((steps S).choice (choice_layer meant.meaning (steps S) x)) → GChoice (roll-Choice x)
  by_choice x h = subst (λ m. RChoice m (VChoice (roll-Choice x))) (sym (choice_roll typed.typing (typed_steps C) x)) (subst (λ w. RChoice ((typed_steps C).choice (choice_layer typed.typing (typed_steps C) x)) w) (sym (choice_roll meant.meaning (steps S) x)) h)

  by_signed : (x : Written layers.Signed-F) → RSigned ((typed_steps C).signed (signed_layer typed.typing (typed_steps C) x)) ((steps S).signed (signed_layer meant.meaning (steps S) x)) → GSigned (roll-Signed x)
  by_signed x h = subst (λ m. RSigned m (VSigned (roll-Signed x))) (sym (signed_roll typed.typing (typed_steps C) x)) (subst (λ w. RSigned ((typed_steps C).signed (signed_layer typed.typing (typed_steps C) x)) w) (sym (signed_roll meant.meaning (steps S) x)) h)

  abbrev With : {X : Type 0} → (X → Type 0) → Type 0
  With {X = X} G = (x : X) × G x

  abbrev Goods : (Type 0 → Type 0 → Type 0 → Type 0 → Type 0 → Type 0 → Type 0 → Type 0 → Type 0 → Type 0) → Type 0
  Goods F = F (With GCond) (With GExpr) (With GItem) (With (Any {X = Join})) (With GArm) (With (Any {X = Chain})) (With GChoice) (With (Any {X = Query})) (With GSigned)

  abbrev down_cond : Goods layers.Cond-F → Written layers.Cond-F
  down_cond = map-Cond (With GCond) (With GExpr) (With GItem) (With (Any {X = Join})) (With GArm) (With (Any {X = Chain})) (With GChoice) (With (Any {X = Query})) (With GSigned) Cond Expr Item Join Arm Chain Choice Query Signed (λ x. x.0) (λ x. x.0) (λ x. x.0) (λ x. x.0) (λ x. x.0) (λ x. x.0) (λ x. x.0) (λ x. x.0) (λ x. x.0)

  abbrev down_expr : Goods layers.Expr-F → Written layers.Expr-F
  down_expr = map-Expr (With GCond) (With GExpr) (With GItem) (With (Any {X = Join})) (With GArm) (With (Any {X = Chain})) (With GChoice) (With (Any {X = Query})) (With GSigned) Cond Expr Item Join Arm Chain Choice Query Signed (λ x. x.0) (λ x. x.0) (λ x. x.0) (λ x. x.0) (λ x. x.0) (λ x. x.0) (λ x. x.0) (λ x. x.0) (λ x. x.0)

  abbrev down_item : Goods layers.Item-F → Written layers.Item-F
  down_item = map-Item (With GCond) (With GExpr) (With GItem) (With (Any {X = Join})) (With GArm) (With (Any {X = Chain})) (With GChoice) (With (Any {X = Query})) (With GSigned) Cond Expr Item Join Arm Chain Choice Query Signed (λ x. x.0) (λ x. x.0) (λ x. x.0) (λ x. x.0) (λ x. x.0) (λ x. x.0) (λ x. x.0) (λ x. x.0) (λ x. x.0)

  abbrev down_arm : Goods layers.Arm-F → Written layers.Arm-F
  down_arm = map-Arm (With GCond) (With GExpr) (With GItem) (With (Any {X = Join})) (With GArm) (With (Any {X = Chain})) (With GChoice) (With (Any {X = Query})) (With GSigned) Cond Expr Item Join Arm Chain Choice Query Signed (λ x. x.0) (λ x. x.0) (λ x. x.0) (λ x. x.0) (λ x. x.0) (λ x. x.0) (λ x. x.0) (λ x. x.0) (λ x. x.0)

  abbrev down_choice : Goods layers.Choice-F → Written layers.Choice-F
  down_choice = map-Choice (With GCond) (With GExpr) (With GItem) (With (Any {X = Join})) (With GArm) (With (Any {X = Chain})) (With GChoice) (With (Any {X = Query})) (With GSigned) Cond Expr Item Join Arm Chain Choice Query Signed (λ x. x.0) (λ x. x.0) (λ x. x.0) (λ x. x.0) (λ x. x.0) (λ x. x.0) (λ x. x.0) (λ x. x.0) (λ x. x.0)

  abbrev down_signed : Goods layers.Signed-F → Written layers.Signed-F
  down_signed = map-Signed (With GCond) (With GExpr) (With GItem) (With (Any {X = Join})) (With GArm) (With (Any {X = Chain})) (With GChoice) (With (Any {X = Query})) (With GSigned) Cond Expr Item Join Arm Chain Choice Query Signed (λ x. x.0) (λ x. x.0) (λ x. x.0) (λ x. x.0) (λ x. x.0) (λ x. x.0) (λ x. x.0) (λ x. x.0) (λ x. x.0)

  expr_good : (y : Goods layers.Expr-F) → GExpr (roll-Expr (down_expr y))
  expr_good (layers.Expr-F.Atom x) = by_expr (layers.Expr-F.Atom x) refl
  expr_good (layers.Expr-F.Sum parts) = by_expr (layers.Expr-F.Sum (map (λ x. x.0) parts)) (λ i. same_any expressions.is_total (λ m. m.part.total) NSigned VSigned parts i)
  expr_good (layers.Expr-F.Concat parts) = by_expr (layers.Expr-F.Concat (map (λ x. x.0) parts)) (λ i. same_any expressions.is_total sure.is_total NExpr VExpr parts i)
  expr_good (layers.Expr-F.Product parts) = by_expr (layers.Expr-F.Product (map (λ x. x.0) parts)) (λ i. same_any expressions.is_total sure.is_total NExpr VExpr parts i)
  expr_good (layers.Expr-F.Case arms None) = by_expr (layers.Expr-F.Case (map (λ x. x.0) arms) None) (λ i. same_any (λ a. a.when.total || a.result.total) (λ a. a.when.total || a.result.total) NArm VArm arms i || (false))
  expr_good (layers.Expr-F.Case arms (Some other)) = by_expr (layers.Expr-F.Case (map (λ x. x.0) arms) (Some other.0)) (λ i. same_any (λ a. a.when.total || a.result.total) (λ a. a.when.total || a.result.total) NArm VArm arms i || (other.1 i))
  expr_good (layers.Expr-F.Match d choices None) = by_expr (layers.Expr-F.Match d.0 (map (λ x. x.0) choices) None) (λ i. d.1 i || (same_any (λ a. a.when.total || a.result.total) (λ a. a.when.total || a.result.total) NChoice VChoice choices i || (false)))
  expr_good (layers.Expr-F.Match d choices (Some other)) = by_expr (layers.Expr-F.Match d.0 (map (λ x. x.0) choices) (Some other.0)) (λ i. d.1 i || (same_any (λ a. a.when.total || a.result.total) (λ a. a.when.total || a.result.total) NChoice VChoice choices i || (other.1 i)))
  expr_good (layers.Expr-F.Aggregate op d) = by_expr (layers.Expr-F.Aggregate op d.0) refl
  expr_good (layers.Expr-F.Substr d from None) = by_expr (layers.Expr-F.Substr d.0 from.0 None) (λ i. d.1 i || (from.1 i || (false)))
  expr_good (layers.Expr-F.Substr d from (Some count)) = by_expr (layers.Expr-F.Substr d.0 from.0 (Some count.0)) (λ i. d.1 i || (from.1 i || (count.1 i)))
  expr_good (layers.Expr-F.Apply f d) = by_expr (layers.Expr-F.Apply f d.0) (λ i. d.1 i)
  expr_good (layers.Expr-F.Coalesce parts) = by_expr (layers.Expr-F.Coalesce (map (λ x. x.0) parts)) (λ i. same_any expressions.is_total sure.is_total NExpr VExpr parts i)

  cond_good : (y : Goods layers.Cond-F) → GCond (roll-Cond (down_cond y))
  cond_good (layers.Cond-F.Or cs) = by_cond (layers.Cond-F.Or (map (λ x. x.0) cs)) (λ i. same_any (λ c. c.total) (λ c. c.total) NCond VCond cs i)
  cond_good (layers.Cond-F.And cs) = by_cond (layers.Cond-F.And (map (λ x. x.0) cs)) (λ i. same_any (λ c. c.total) (λ c. c.total) NCond VCond cs i)
  cond_good (layers.Cond-F.Not c) = by_cond (layers.Cond-F.Not c.0) (λ i. c.1 i)
  cond_good (layers.Cond-F.Exists q) = by_cond (layers.Cond-F.Exists q.0) refl
  cond_good (layers.Cond-F.Compare by a b) = by_cond (layers.Cond-F.Compare by a.0 b.0) (λ i. a.1 i || (b.1 i))
  cond_good (layers.Cond-F.CompareQuery by a q) = by_cond (layers.Cond-F.CompareQuery by a.0 q.0) (λ i. a.1 i)
  cond_good (layers.Cond-F.IsNull a) = by_cond (layers.Cond-F.IsNull a.0) (λ i. a.1 i)
  cond_good (layers.Cond-F.InQuery a q) = by_cond (layers.Cond-F.InQuery a.0 q.0) (λ i. a.1 i)
  cond_good (layers.Cond-F.InList a parts) = by_cond (layers.Cond-F.InList a.0 (map (λ x. x.0) parts)) (λ i. a.1 i || (same_any expressions.is_total sure.is_total NExpr VExpr parts i))
  cond_good (layers.Cond-F.Between a low high) = by_cond (layers.Cond-F.Between a.0 low.0 high.0) (λ i. a.1 i || (low.1 i || (high.1 i)))

  item_good : (y : Goods layers.Item-F) → GItem (roll-Item (down_item y))
  item_good layers.Item-F.Everything = by_item layers.Item-F.Everything refl
  item_good (layers.Item-F.AllOf n) = by_item (layers.Item-F.AllOf n) refl
  item_good (layers.Item-F.Value d name) = by_item (layers.Item-F.Value d.0 name) (λ i. d.1 i)

  arm_good : (y : Goods layers.Arm-F) → GArm (roll-Arm (down_arm y))
  arm_good y = by_arm (down_arm y) (λ i. y.when.1 i || y.result.1 i)

  choice_good : (y : Goods layers.Choice-F) → GChoice (roll-Choice (down_choice y))
  choice_good y = by_choice (down_choice y) (λ i. y.when.1 i || y.result.1 i)

  signed_good : (y : Goods layers.Signed-F) → GSigned (roll-Signed (down_signed y))
  signed_good y = by_signed (down_signed y) y.part.1

  pub expr_total : (x : Expr) → GExpr x
  expr_total = ind-Expr GCond GExpr GItem Any GArm Any GChoice Any GSigned (λ x y is. subst (λ z. GCond (roll-Cond z)) is (cond_good y)) (λ x y is. subst (λ z. GExpr (roll-Expr z)) is (expr_good y)) (λ x y is. subst (λ z. GItem (roll-Item z)) is (item_good y)) (λ x y is. tt) (λ x y is. subst (λ z. GArm (roll-Arm z)) is (arm_good y)) (λ x y is. tt) (λ x y is. subst (λ z. GChoice (roll-Choice z)) is (choice_good y)) (λ x y is. tt) (λ x y is. subst (λ z. GSigned (roll-Signed z)) is (signed_good y))

  pub item_total : (x : Item) → GItem x
  item_total = ind-Item GCond GExpr GItem Any GArm Any GChoice Any GSigned (λ x y is. subst (λ z. GCond (roll-Cond z)) is (cond_good y)) (λ x y is. subst (λ z. GExpr (roll-Expr z)) is (expr_good y)) (λ x y is. subst (λ z. GItem (roll-Item z)) is (item_good y)) (λ x y is. tt) (λ x y is. subst (λ z. GArm (roll-Arm z)) is (arm_good y)) (λ x y is. tt) (λ x y is. subst (λ z. GChoice (roll-Choice z)) is (choice_good y)) (λ x y is. tt) (λ x y is. subst (λ z. GSigned (roll-Signed z)) is (signed_good y))

  pub items_total : (xs : List Item) → list_any (λ x. x.total) (map NItem xs) ≡ list_any (λ x. x.total) (map VItem xs)
  items_total [] = refl
  items_total (x ∷ xs) = λ i. item_total x i || items_total xs i

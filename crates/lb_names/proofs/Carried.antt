-- The marks that typing carries are the marks of the tree. tools/names-inductions writes this file.
use Rattle.std.proofs.Common.{◌≡◌, refl, ap, sym, subst, ◌∙◌, List, [], ◌∷◌, ◌++◌, Bool, Option, Some, None, map}
use Rattle.lb_tree.specs.declared.query.Cond.{Cond}
use Rattle.lb_tree.specs.declared.query.Expr.{Expr}
use Rattle.lb_tree.specs.declared.query.Item.{Item}
use Rattle.lb_tree.specs.declared.query.Join.{Join}
use Rattle.lb_tree.specs.declared.query.Arm.{Arm}
use Rattle.lb_tree.specs.declared.query.Chain.{Chain}
use Rattle.lb_tree.specs.declared.query.Choice.{Choice}
use Rattle.lb_tree.specs.declared.query.Query.{Query}
use Rattle.lb_tree.specs.declared.query.Signed.{Signed}
use Rattle.lb_tree.specs.declared.query.Column.{Column}
use Rattle.lb_tree.specs.declared.query.Cond.TheOpen as layers
use Rattle.lb_tree.specs.declared.query.Cond.TheViews.{roll-Cond, roll-Expr, roll-Item, roll-Join, roll-Arm, roll-Chain, roll-Choice, roll-Query, roll-Signed}
use Rattle.lb_tree.specs.declared.query.Cond.TheFolds.{map-Cond, map-Expr, map-Item, map-Join, map-Arm, map-Chain, map-Choice, map-Query, map-Signed, ind-Cond, ind-Expr, ind-Chain, ind-Query}
use Rattle.lb_tree.specs.Folds.{Written, cond_of, expr_of, item_of, join_of, arm_of, chain_of, choice_of, query_of, signed_of}
use Rattle.lb_tree.proofs.Opens.{cond_roll, expr_roll, item_roll, join_roll, arm_roll, chain_roll, choice_roll, query_roll, signed_roll}
use Rattle.lb_names.specs.Sights.{calls_of, items_in, Sight, inside}
use Rattle.lb_names.specs.Marks.{enter, column, Marks, Marked, marked, marking, mark_steps, of_each, tables_of, chains_marks, atom_marks}
use Rattle.lb_names.specs.Scopes.{Catalogue}
use Rattle.lb_names.specs.Carriers.{Means, Says, Shows, Joins, Arms, Chains, Choices, Answers, typing, typing_marks, chain_marked}
use Rattle.lb_names.specs.Typing.{steps}
use Rattle.lb_names.proofs.Mentioned.{m_cond, m_expr, m_item, m_join, m_arm, m_chain, m_choice, m_query, m_signed}

module _ (C : Catalogue) where
  abbrev t_cond : Cond → Says
  t_cond = cond_of typing (steps C)

  abbrev t_expr : Expr → Means
  t_expr = expr_of typing (steps C)

  abbrev t_item : Item → Shows
  t_item = item_of typing (steps C)

  abbrev t_join : Join → Joins
  t_join = join_of typing (steps C)

  abbrev t_arm : Arm → Arms
  t_arm = arm_of typing (steps C)

  abbrev t_chain : Chain → Chains
  t_chain = chain_of typing (steps C)

  abbrev t_choice : Choice → Choices
  t_choice = choice_of typing (steps C)

  abbrev t_query : Query → Answers
  t_query = query_of typing (steps C)

  abbrev t_signed : Signed → Means
  t_signed = signed_of typing (steps C)

  each : {X Y : Type 0} (marks : Y → Sight → Marks) (F : X → Y) (G : X → Marked) (xs : List ((x : X) × ((v : Sight) → marks (F x) v ≡ (G x).marks v))) (v : Sight) → of_each marks (map F (map (λ z. z.0) xs)) v ≡ of_each (λ m. m.marks) (map G (map (λ z. z.0) xs)) v
  each marks F G [] v = refl
  each marks F G (x ∷ xs) v = λ i. x.1 v i ++ each marks F G xs v i

  abbrev GoodCond : Cond → Type 0
  GoodCond x = (v : Sight) → (t_cond x).marks v ≡ (m_cond x).marks v

  abbrev WithCond : Type 0
  WithCond = (x : Cond) × GoodCond x

  abbrev GoodExpr : Expr → Type 0
  GoodExpr x = (v : Sight) → (t_expr x).marks v ≡ (m_expr x).marks v

  abbrev WithExpr : Type 0
  WithExpr = (x : Expr) × GoodExpr x

  abbrev GoodItem : Item → Type 0
  GoodItem x = (v : Sight) → (t_item x).marks v ≡ (m_item x).marks v

  abbrev WithItem : Type 0
  WithItem = (x : Item) × GoodItem x

  abbrev GoodJoin : Join → Type 0
  GoodJoin x = (t_join x).marked ≡ m_join x

  abbrev WithJoin : Type 0
  WithJoin = (x : Join) × GoodJoin x

  abbrev GoodArm : Arm → Type 0
  GoodArm x = (v : Sight) → (t_arm x).marks v ≡ (m_arm x).marks v

  abbrev WithArm : Type 0
  WithArm = (x : Arm) × GoodArm x

  abbrev GoodChain : Chain → Type 0
  GoodChain x = chain_marked (t_chain x) ≡ m_chain x

  abbrev WithChain : Type 0
  WithChain = (x : Chain) × GoodChain x

  abbrev GoodChoice : Choice → Type 0
  GoodChoice x = (v : Sight) → (t_choice x).marks v ≡ (m_choice x).marks v

  abbrev WithChoice : Type 0
  WithChoice = (x : Choice) × GoodChoice x

  abbrev GoodQuery : Query → Type 0
  GoodQuery x = (v : Sight) → (t_query x).marks v ≡ (m_query x).marks v

  abbrev WithQuery : Type 0
  WithQuery = (x : Query) × GoodQuery x

  abbrev GoodSigned : Signed → Type 0
  GoodSigned x = (v : Sight) → (t_signed x).marks v ≡ (m_signed x).marks v

  abbrev WithSigned : Type 0
  WithSigned = (x : Signed) × GoodSigned x

  -- a layer whose parts have their facts
  abbrev Goods : (Type 0 → Type 0 → Type 0 → Type 0 → Type 0 → Type 0 → Type 0 → Type 0 → Type 0 → Type 0) → Type 0
  Goods F = F WithCond WithExpr WithItem WithJoin WithArm WithChain WithChoice WithQuery WithSigned

  abbrev down_cond : Goods layers.Cond-F → Written layers.Cond-F
  down_cond = map-Cond WithCond WithExpr WithItem WithJoin WithArm WithChain WithChoice WithQuery WithSigned Cond Expr Item Join Arm Chain Choice Query Signed (λ z. z.0) (λ z. z.0) (λ z. z.0) (λ z. z.0) (λ z. z.0) (λ z. z.0) (λ z. z.0) (λ z. z.0) (λ z. z.0)

  abbrev down_expr : Goods layers.Expr-F → Written layers.Expr-F
  down_expr = map-Expr WithCond WithExpr WithItem WithJoin WithArm WithChain WithChoice WithQuery WithSigned Cond Expr Item Join Arm Chain Choice Query Signed (λ z. z.0) (λ z. z.0) (λ z. z.0) (λ z. z.0) (λ z. z.0) (λ z. z.0) (λ z. z.0) (λ z. z.0) (λ z. z.0)

  abbrev down_item : Goods layers.Item-F → Written layers.Item-F
  down_item = map-Item WithCond WithExpr WithItem WithJoin WithArm WithChain WithChoice WithQuery WithSigned Cond Expr Item Join Arm Chain Choice Query Signed (λ z. z.0) (λ z. z.0) (λ z. z.0) (λ z. z.0) (λ z. z.0) (λ z. z.0) (λ z. z.0) (λ z. z.0) (λ z. z.0)

  abbrev down_join : Goods layers.Join-F → Written layers.Join-F
  down_join = map-Join WithCond WithExpr WithItem WithJoin WithArm WithChain WithChoice WithQuery WithSigned Cond Expr Item Join Arm Chain Choice Query Signed (λ z. z.0) (λ z. z.0) (λ z. z.0) (λ z. z.0) (λ z. z.0) (λ z. z.0) (λ z. z.0) (λ z. z.0) (λ z. z.0)

  abbrev down_arm : Goods layers.Arm-F → Written layers.Arm-F
  down_arm = map-Arm WithCond WithExpr WithItem WithJoin WithArm WithChain WithChoice WithQuery WithSigned Cond Expr Item Join Arm Chain Choice Query Signed (λ z. z.0) (λ z. z.0) (λ z. z.0) (λ z. z.0) (λ z. z.0) (λ z. z.0) (λ z. z.0) (λ z. z.0) (λ z. z.0)

  abbrev down_chain : Goods layers.Chain-F → Written layers.Chain-F
  down_chain = map-Chain WithCond WithExpr WithItem WithJoin WithArm WithChain WithChoice WithQuery WithSigned Cond Expr Item Join Arm Chain Choice Query Signed (λ z. z.0) (λ z. z.0) (λ z. z.0) (λ z. z.0) (λ z. z.0) (λ z. z.0) (λ z. z.0) (λ z. z.0) (λ z. z.0)

  abbrev down_choice : Goods layers.Choice-F → Written layers.Choice-F
  down_choice = map-Choice WithCond WithExpr WithItem WithJoin WithArm WithChain WithChoice WithQuery WithSigned Cond Expr Item Join Arm Chain Choice Query Signed (λ z. z.0) (λ z. z.0) (λ z. z.0) (λ z. z.0) (λ z. z.0) (λ z. z.0) (λ z. z.0) (λ z. z.0) (λ z. z.0)

  abbrev down_query : Goods layers.Query-F → Written layers.Query-F
  down_query = map-Query WithCond WithExpr WithItem WithJoin WithArm WithChain WithChoice WithQuery WithSigned Cond Expr Item Join Arm Chain Choice Query Signed (λ z. z.0) (λ z. z.0) (λ z. z.0) (λ z. z.0) (λ z. z.0) (λ z. z.0) (λ z. z.0) (λ z. z.0) (λ z. z.0)

  abbrev down_signed : Goods layers.Signed-F → Written layers.Signed-F
  down_signed = map-Signed WithCond WithExpr WithItem WithJoin WithArm WithChain WithChoice WithQuery WithSigned Cond Expr Item Join Arm Chain Choice Query Signed (λ z. z.0) (λ z. z.0) (λ z. z.0) (λ z. z.0) (λ z. z.0) (λ z. z.0) (λ z. z.0) (λ z. z.0) (λ z. z.0)

  joins_path : (js : List WithJoin) → map (λ j. j.marked) (map t_join (map (λ z. z.0) js)) ≡ map marking.join (map m_join (map (λ z. z.0) js))
  joins_path [] = refl
  joins_path (j ∷ js) = λ i. j.1 i ∷ joins_path js i

  chains_path : (cs : List WithChain) → map chain_marked (map t_chain (map (λ z. z.0) cs)) ≡ map marking.chain (map m_chain (map (λ z. z.0) cs))
  chains_path [] = refl
  chains_path (c ∷ cs) = λ i. c.1 i ∷ chains_path cs i

  cond_good : (y : Goods layers.Cond-F) → GoodCond (roll-Cond (down_cond y))
  cond_good (layers.Cond-F.Or a) = λ v. ap (λ m. m.marks v) (cond_roll typing (steps C) (layers.Cond-F.Or (map (λ z. z.0) a))) ∙ (λ i. each typing_marks.cond t_cond m_cond a v i) ∙ sym (ap (λ m. m.marks v) (cond_roll marked mark_steps (layers.Cond-F.Or (map (λ z. z.0) a))))
  cond_good (layers.Cond-F.And a) = λ v. ap (λ m. m.marks v) (cond_roll typing (steps C) (layers.Cond-F.And (map (λ z. z.0) a))) ∙ (λ i. each typing_marks.cond t_cond m_cond a v i) ∙ sym (ap (λ m. m.marks v) (cond_roll marked mark_steps (layers.Cond-F.And (map (λ z. z.0) a))))
  cond_good (layers.Cond-F.Not a) = λ v. ap (λ m. m.marks v) (cond_roll typing (steps C) (layers.Cond-F.Not a.0)) ∙ (λ i. a.1 v i) ∙ sym (ap (λ m. m.marks v) (cond_roll marked mark_steps (layers.Cond-F.Not a.0)))
  cond_good (layers.Cond-F.Exists a) = λ v. ap (λ m. m.marks v) (cond_roll typing (steps C) (layers.Cond-F.Exists a.0)) ∙ (λ i. a.1 v i) ∙ sym (ap (λ m. m.marks v) (cond_roll marked mark_steps (layers.Cond-F.Exists a.0)))
  cond_good (layers.Cond-F.Compare a b c) = λ v. ap (λ m. m.marks v) (cond_roll typing (steps C) (layers.Cond-F.Compare a b.0 c.0)) ∙ (λ i. b.1 v i ++ (c.1 v i)) ∙ sym (ap (λ m. m.marks v) (cond_roll marked mark_steps (layers.Cond-F.Compare a b.0 c.0)))
  cond_good (layers.Cond-F.CompareQuery a b c) = λ v. ap (λ m. m.marks v) (cond_roll typing (steps C) (layers.Cond-F.CompareQuery a b.0 c.0)) ∙ (λ i. b.1 v i ++ (c.1 v i)) ∙ sym (ap (λ m. m.marks v) (cond_roll marked mark_steps (layers.Cond-F.CompareQuery a b.0 c.0)))
  cond_good (layers.Cond-F.IsNull a) = λ v. ap (λ m. m.marks v) (cond_roll typing (steps C) (layers.Cond-F.IsNull a.0)) ∙ (λ i. a.1 v i) ∙ sym (ap (λ m. m.marks v) (cond_roll marked mark_steps (layers.Cond-F.IsNull a.0)))
  cond_good (layers.Cond-F.InQuery a b) = λ v. ap (λ m. m.marks v) (cond_roll typing (steps C) (layers.Cond-F.InQuery a.0 b.0)) ∙ (λ i. a.1 v i ++ (b.1 v i)) ∙ sym (ap (λ m. m.marks v) (cond_roll marked mark_steps (layers.Cond-F.InQuery a.0 b.0)))
  cond_good (layers.Cond-F.InList a b) = λ v. ap (λ m. m.marks v) (cond_roll typing (steps C) (layers.Cond-F.InList a.0 (map (λ z. z.0) b))) ∙ (λ i. a.1 v i ++ (each typing_marks.expr t_expr m_expr b v i)) ∙ sym (ap (λ m. m.marks v) (cond_roll marked mark_steps (layers.Cond-F.InList a.0 (map (λ z. z.0) b))))
  cond_good (layers.Cond-F.Between a b c) = λ v. ap (λ m. m.marks v) (cond_roll typing (steps C) (layers.Cond-F.Between a.0 b.0 c.0)) ∙ (λ i. a.1 v i ++ (b.1 v i ++ (c.1 v i))) ∙ sym (ap (λ m. m.marks v) (cond_roll marked mark_steps (layers.Cond-F.Between a.0 b.0 c.0)))

  expr_good : (y : Goods layers.Expr-F) → GoodExpr (roll-Expr (down_expr y))
  expr_good (layers.Expr-F.Atom a) = λ v. ap (λ m. m.marks v) (expr_roll typing (steps C) (layers.Expr-F.Atom a)) ∙ (λ i. atom_marks a v) ∙ sym (ap (λ m. m.marks v) (expr_roll marked mark_steps (layers.Expr-F.Atom a)))
  expr_good (layers.Expr-F.Sum a) = λ v. ap (λ m. m.marks v) (expr_roll typing (steps C) (layers.Expr-F.Sum (map (λ z. z.0) a))) ∙ (λ i. each typing_marks.signed t_signed m_signed a v i) ∙ sym (ap (λ m. m.marks v) (expr_roll marked mark_steps (layers.Expr-F.Sum (map (λ z. z.0) a))))
  expr_good (layers.Expr-F.Concat a) = λ v. ap (λ m. m.marks v) (expr_roll typing (steps C) (layers.Expr-F.Concat (map (λ z. z.0) a))) ∙ (λ i. each typing_marks.expr t_expr m_expr a v i) ∙ sym (ap (λ m. m.marks v) (expr_roll marked mark_steps (layers.Expr-F.Concat (map (λ z. z.0) a))))
  expr_good (layers.Expr-F.Product a) = λ v. ap (λ m. m.marks v) (expr_roll typing (steps C) (layers.Expr-F.Product (map (λ z. z.0) a))) ∙ (λ i. each typing_marks.expr t_expr m_expr a v i) ∙ sym (ap (λ m. m.marks v) (expr_roll marked mark_steps (layers.Expr-F.Product (map (λ z. z.0) a))))
  expr_good (layers.Expr-F.Case a None) = λ v. ap (λ m. m.marks v) (expr_roll typing (steps C) (layers.Expr-F.Case (map (λ z. z.0) a) None)) ∙ (λ i. each typing_marks.arm t_arm m_arm a v i ++ ([])) ∙ sym (ap (λ m. m.marks v) (expr_roll marked mark_steps (layers.Expr-F.Case (map (λ z. z.0) a) None)))
  expr_good (layers.Expr-F.Case a (Some b)) = λ v. ap (λ m. m.marks v) (expr_roll typing (steps C) (layers.Expr-F.Case (map (λ z. z.0) a) (Some b.0))) ∙ (λ i. each typing_marks.arm t_arm m_arm a v i ++ (b.1 v i)) ∙ sym (ap (λ m. m.marks v) (expr_roll marked mark_steps (layers.Expr-F.Case (map (λ z. z.0) a) (Some b.0))))
  expr_good (layers.Expr-F.Match a b None) = λ v. ap (λ m. m.marks v) (expr_roll typing (steps C) (layers.Expr-F.Match a.0 (map (λ z. z.0) b) None)) ∙ (λ i. a.1 v i ++ (each typing_marks.choice t_choice m_choice b v i ++ ([]))) ∙ sym (ap (λ m. m.marks v) (expr_roll marked mark_steps (layers.Expr-F.Match a.0 (map (λ z. z.0) b) None)))
  expr_good (layers.Expr-F.Match a b (Some c)) = λ v. ap (λ m. m.marks v) (expr_roll typing (steps C) (layers.Expr-F.Match a.0 (map (λ z. z.0) b) (Some c.0))) ∙ (λ i. a.1 v i ++ (each typing_marks.choice t_choice m_choice b v i ++ (c.1 v i))) ∙ sym (ap (λ m. m.marks v) (expr_roll marked mark_steps (layers.Expr-F.Match a.0 (map (λ z. z.0) b) (Some c.0))))
  expr_good (layers.Expr-F.Aggregate a b) = λ v. ap (λ m. m.marks v) (expr_roll typing (steps C) (layers.Expr-F.Aggregate a b.0)) ∙ (λ i. b.1 v i) ∙ sym (ap (λ m. m.marks v) (expr_roll marked mark_steps (layers.Expr-F.Aggregate a b.0)))
  expr_good (layers.Expr-F.Substr a b None) = λ v. ap (λ m. m.marks v) (expr_roll typing (steps C) (layers.Expr-F.Substr a.0 b.0 None)) ∙ (λ i. a.1 v i ++ (b.1 v i ++ ([]))) ∙ sym (ap (λ m. m.marks v) (expr_roll marked mark_steps (layers.Expr-F.Substr a.0 b.0 None)))
  expr_good (layers.Expr-F.Substr a b (Some c)) = λ v. ap (λ m. m.marks v) (expr_roll typing (steps C) (layers.Expr-F.Substr a.0 b.0 (Some c.0))) ∙ (λ i. a.1 v i ++ (b.1 v i ++ (c.1 v i))) ∙ sym (ap (λ m. m.marks v) (expr_roll marked mark_steps (layers.Expr-F.Substr a.0 b.0 (Some c.0))))
  expr_good (layers.Expr-F.Apply a b) = λ v. ap (λ m. m.marks v) (expr_roll typing (steps C) (layers.Expr-F.Apply a b.0)) ∙ (λ i. b.1 v i) ∙ sym (ap (λ m. m.marks v) (expr_roll marked mark_steps (layers.Expr-F.Apply a b.0)))
  expr_good (layers.Expr-F.Coalesce a) = λ v. ap (λ m. m.marks v) (expr_roll typing (steps C) (layers.Expr-F.Coalesce (map (λ z. z.0) a))) ∙ (λ i. each typing_marks.expr t_expr m_expr a v i) ∙ sym (ap (λ m. m.marks v) (expr_roll marked mark_steps (layers.Expr-F.Coalesce (map (λ z. z.0) a))))

  item_good : (y : Goods layers.Item-F) → GoodItem (roll-Item (down_item y))
  item_good layers.Item-F.Everything = λ v. ap (λ m. m.marks v) (item_roll typing (steps C) layers.Item-F.Everything) ∙ refl ∙ sym (ap (λ m. m.marks v) (item_roll marked mark_steps layers.Item-F.Everything))
  item_good (layers.Item-F.AllOf a) = λ v. ap (λ m. m.marks v) (item_roll typing (steps C) (layers.Item-F.AllOf a)) ∙ refl ∙ sym (ap (λ m. m.marks v) (item_roll marked mark_steps (layers.Item-F.AllOf a)))
  item_good (layers.Item-F.Value a b) = λ v. ap (λ m. m.marks v) (item_roll typing (steps C) (layers.Item-F.Value a.0 b)) ∙ (λ i. a.1 v i) ∙ sym (ap (λ m. m.marks v) (item_roll marked mark_steps (layers.Item-F.Value a.0 b)))

  join_good : (y : Goods layers.Join-F) → GoodJoin (roll-Join (down_join y))
  join_good (layers.Join-F.Inner a b) = ap (λ j. j.marked) (join_roll typing (steps C) (layers.Join-F.Inner a b.0)) ∙ (λ i. record { tab = a; on = λ v. b.1 v i }) ∙ sym (join_roll marked mark_steps (layers.Join-F.Inner a b.0))
  join_good (layers.Join-F.Left a b) = ap (λ j. j.marked) (join_roll typing (steps C) (layers.Join-F.Left a b.0)) ∙ (λ i. record { tab = a; on = λ v. b.1 v i }) ∙ sym (join_roll marked mark_steps (layers.Join-F.Left a b.0))
  join_good (layers.Join-F.Cross a) = ap (λ j. j.marked) (join_roll typing (steps C) (layers.Join-F.Cross a)) ∙ (refl) ∙ sym (join_roll marked mark_steps (layers.Join-F.Cross a))

  arm_good : (y : Goods layers.Arm-F) → GoodArm (roll-Arm (down_arm y))
  arm_good y = λ v. ap (λ m. m.marks v) (arm_roll typing (steps C) (record { when = y.when.0; result = y.result.0 })) ∙ (λ i. y.when.1 v i ++ (y.result.1 v i)) ∙ sym (ap (λ m. m.marks v) (arm_roll marked mark_steps (record { when = y.when.0; result = y.result.0 })))

  chain_good : (y : Goods layers.Chain-F) → GoodChain (roll-Chain (down_chain y))
  chain_good y = ap chain_marked (chain_roll typing (steps C) (record { first = y.first; joins = (map (λ z. z.0) y.joins) })) ∙ (λ i. record { first = y.first; joins = joins_path y.joins i }) ∙ sym (chain_roll marked mark_steps (record { first = y.first; joins = (map (λ z. z.0) y.joins) }))

  choice_good : (y : Goods layers.Choice-F) → GoodChoice (roll-Choice (down_choice y))
  choice_good y = λ v. ap (λ m. m.marks v) (choice_roll typing (steps C) (record { when = y.when.0; result = y.result.0 })) ∙ (λ i. y.when.1 v i ++ (y.result.1 v i)) ∙ sym (ap (λ m. m.marks v) (choice_roll marked mark_steps (record { when = y.when.0; result = y.result.0 })))

  query_good : (distinct : Bool) (items : List WithItem) (from : List WithChain) (filter : Option WithCond) (group : List Column) (having : Option WithCond)
      → GoodQuery (roll-Query (down_query (record { distinct = distinct; items = items; from = from; filter = filter; group = group; having = having })))
  query_good distinct items from None group None = λ v. ap (λ m. m.marks v) (query_roll typing (steps C) (record { distinct = distinct; items = (map (λ z. z.0) items); from = (map (λ z. z.0) from); filter = None; group = group; having = None })) ∙ (λ i. enter (items_in v.seen (tables_of (chains_path from i))) ∷ (each typing_marks.item t_item m_item items (inside v (tables_of (chains_path from i))) i ++ (chains_marks v (calls_of (tables_of (chains_path from i))) [] (chains_path from i) ++ ([] ++ (map (column (inside v (tables_of (chains_path from i))).seen) group ++ ([])))))) ∙ sym (ap (λ m. m.marks v) (query_roll marked mark_steps (record { distinct = distinct; items = (map (λ z. z.0) items); from = (map (λ z. z.0) from); filter = None; group = group; having = None })))
  query_good distinct items from None group (Some having) = λ v. ap (λ m. m.marks v) (query_roll typing (steps C) (record { distinct = distinct; items = (map (λ z. z.0) items); from = (map (λ z. z.0) from); filter = None; group = group; having = (Some having.0) })) ∙ (λ i. enter (items_in v.seen (tables_of (chains_path from i))) ∷ (each typing_marks.item t_item m_item items (inside v (tables_of (chains_path from i))) i ++ (chains_marks v (calls_of (tables_of (chains_path from i))) [] (chains_path from i) ++ ([] ++ (map (column (inside v (tables_of (chains_path from i))).seen) group ++ (having.1 (inside v (tables_of (chains_path from i))) i)))))) ∙ sym (ap (λ m. m.marks v) (query_roll marked mark_steps (record { distinct = distinct; items = (map (λ z. z.0) items); from = (map (λ z. z.0) from); filter = None; group = group; having = (Some having.0) })))
  query_good distinct items from (Some filter) group None = λ v. ap (λ m. m.marks v) (query_roll typing (steps C) (record { distinct = distinct; items = (map (λ z. z.0) items); from = (map (λ z. z.0) from); filter = (Some filter.0); group = group; having = None })) ∙ (λ i. enter (items_in v.seen (tables_of (chains_path from i))) ∷ (each typing_marks.item t_item m_item items (inside v (tables_of (chains_path from i))) i ++ (chains_marks v (calls_of (tables_of (chains_path from i))) [] (chains_path from i) ++ (filter.1 (inside v (tables_of (chains_path from i))) i ++ (map (column (inside v (tables_of (chains_path from i))).seen) group ++ ([])))))) ∙ sym (ap (λ m. m.marks v) (query_roll marked mark_steps (record { distinct = distinct; items = (map (λ z. z.0) items); from = (map (λ z. z.0) from); filter = (Some filter.0); group = group; having = None })))
  query_good distinct items from (Some filter) group (Some having) = λ v. ap (λ m. m.marks v) (query_roll typing (steps C) (record { distinct = distinct; items = (map (λ z. z.0) items); from = (map (λ z. z.0) from); filter = (Some filter.0); group = group; having = (Some having.0) })) ∙ (λ i. enter (items_in v.seen (tables_of (chains_path from i))) ∷ (each typing_marks.item t_item m_item items (inside v (tables_of (chains_path from i))) i ++ (chains_marks v (calls_of (tables_of (chains_path from i))) [] (chains_path from i) ++ (filter.1 (inside v (tables_of (chains_path from i))) i ++ (map (column (inside v (tables_of (chains_path from i))).seen) group ++ (having.1 (inside v (tables_of (chains_path from i))) i)))))) ∙ sym (ap (λ m. m.marks v) (query_roll marked mark_steps (record { distinct = distinct; items = (map (λ z. z.0) items); from = (map (λ z. z.0) from); filter = (Some filter.0); group = group; having = (Some having.0) })))

  signed_good : (y : Goods layers.Signed-F) → GoodSigned (roll-Signed (down_signed y))
  signed_good y = λ v. ap (λ m. m.marks v) (signed_roll typing (steps C) (record { minus = y.minus; part = y.part.0 })) ∙ (λ i. y.part.1 v i) ∙ sym (ap (λ m. m.marks v) (signed_roll marked mark_steps (record { minus = y.minus; part = y.part.0 })))

  pub carried_cond : (x : Cond) → GoodCond x
  carried_cond = ind-Cond GoodCond GoodExpr GoodItem GoodJoin GoodArm GoodChain GoodChoice GoodQuery GoodSigned (λ x y is. subst (λ z. GoodCond (roll-Cond z)) is (cond_good y)) (λ x y is. subst (λ z. GoodExpr (roll-Expr z)) is (expr_good y)) (λ x y is. subst (λ z. GoodItem (roll-Item z)) is (item_good y)) (λ x y is. subst (λ z. GoodJoin (roll-Join z)) is (join_good y)) (λ x y is. subst (λ z. GoodArm (roll-Arm z)) is (arm_good y)) (λ x y is. subst (λ z. GoodChain (roll-Chain z)) is (chain_good y)) (λ x y is. subst (λ z. GoodChoice (roll-Choice z)) is (choice_good y)) (λ x y is. subst (λ z. GoodQuery (roll-Query z)) is (query_good y.distinct y.items y.from y.filter y.group y.having)) (λ x y is. subst (λ z. GoodSigned (roll-Signed z)) is (signed_good y))

  pub carried_expr : (x : Expr) → GoodExpr x
  carried_expr = ind-Expr GoodCond GoodExpr GoodItem GoodJoin GoodArm GoodChain GoodChoice GoodQuery GoodSigned (λ x y is. subst (λ z. GoodCond (roll-Cond z)) is (cond_good y)) (λ x y is. subst (λ z. GoodExpr (roll-Expr z)) is (expr_good y)) (λ x y is. subst (λ z. GoodItem (roll-Item z)) is (item_good y)) (λ x y is. subst (λ z. GoodJoin (roll-Join z)) is (join_good y)) (λ x y is. subst (λ z. GoodArm (roll-Arm z)) is (arm_good y)) (λ x y is. subst (λ z. GoodChain (roll-Chain z)) is (chain_good y)) (λ x y is. subst (λ z. GoodChoice (roll-Choice z)) is (choice_good y)) (λ x y is. subst (λ z. GoodQuery (roll-Query z)) is (query_good y.distinct y.items y.from y.filter y.group y.having)) (λ x y is. subst (λ z. GoodSigned (roll-Signed z)) is (signed_good y))

  pub carried_chain : (x : Chain) → GoodChain x
  carried_chain = ind-Chain GoodCond GoodExpr GoodItem GoodJoin GoodArm GoodChain GoodChoice GoodQuery GoodSigned (λ x y is. subst (λ z. GoodCond (roll-Cond z)) is (cond_good y)) (λ x y is. subst (λ z. GoodExpr (roll-Expr z)) is (expr_good y)) (λ x y is. subst (λ z. GoodItem (roll-Item z)) is (item_good y)) (λ x y is. subst (λ z. GoodJoin (roll-Join z)) is (join_good y)) (λ x y is. subst (λ z. GoodArm (roll-Arm z)) is (arm_good y)) (λ x y is. subst (λ z. GoodChain (roll-Chain z)) is (chain_good y)) (λ x y is. subst (λ z. GoodChoice (roll-Choice z)) is (choice_good y)) (λ x y is. subst (λ z. GoodQuery (roll-Query z)) is (query_good y.distinct y.items y.from y.filter y.group y.having)) (λ x y is. subst (λ z. GoodSigned (roll-Signed z)) is (signed_good y))

  pub carried_query : (x : Query) → GoodQuery x
  carried_query = ind-Query GoodCond GoodExpr GoodItem GoodJoin GoodArm GoodChain GoodChoice GoodQuery GoodSigned (λ x y is. subst (λ z. GoodCond (roll-Cond z)) is (cond_good y)) (λ x y is. subst (λ z. GoodExpr (roll-Expr z)) is (expr_good y)) (λ x y is. subst (λ z. GoodItem (roll-Item z)) is (item_good y)) (λ x y is. subst (λ z. GoodJoin (roll-Join z)) is (join_good y)) (λ x y is. subst (λ z. GoodArm (roll-Arm z)) is (arm_good y)) (λ x y is. subst (λ z. GoodChain (roll-Chain z)) is (chain_good y)) (λ x y is. subst (λ z. GoodChoice (roll-Choice z)) is (choice_good y)) (λ x y is. subst (λ z. GoodQuery (roll-Query z)) is (query_good y.distinct y.items y.from y.filter y.group y.having)) (λ x y is. subst (λ z. GoodSigned (roll-Signed z)) is (signed_good y))

-- A qualified tree keeps its types when tables get more columns. tools/names-inductions writes this file.
use Rattle.std.proofs.Common.{◌≡◌, refl, ap, sym, subst, ◌∙◌, List, [], ◌∷◌, Bool, true, ◌&&◌, Option, Some, None, map}
use Rattle.std.specs.List.{list_all}
use Rattle.lb_tree.specs.declared.query.Cond.{Cond}
use Rattle.lb_tree.specs.declared.query.Expr.{Expr}
use Rattle.lb_tree.specs.declared.query.Item.{Item}
use Rattle.lb_tree.specs.declared.query.Join.{Join}
use Rattle.lb_tree.specs.declared.query.Arm.{Arm}
use Rattle.lb_tree.specs.declared.query.Chain.{Chain}
use Rattle.lb_tree.specs.declared.query.Choice.{Choice}
use Rattle.lb_tree.specs.declared.query.Query.{Query}
use Rattle.lb_tree.specs.declared.query.Signed.{Signed}
use Rattle.lb_tree.specs.declared.query.Column.{Column}
use Rattle.lb_tree.specs.declared.query.Cond.TheOpen as layers
use Rattle.lb_tree.specs.declared.query.Cond.TheViews.{roll-Cond, roll-Expr, roll-Item, roll-Join, roll-Arm, roll-Chain, roll-Choice, roll-Query, roll-Signed}
use Rattle.lb_tree.specs.declared.query.Cond.TheFolds.{map-Cond, map-Expr, map-Item, map-Join, map-Arm, map-Chain, map-Choice, map-Query, map-Signed, ind-Cond, ind-Expr}
use Rattle.lb_tree.specs.Folds.{Written, cond_of, expr_of, item_of, join_of, arm_of, chain_of, choice_of, query_of, signed_of}
use Rattle.lb_tree.proofs.Opens.{cond_roll, expr_roll, item_roll, join_roll, arm_roll, chain_roll, choice_roll, query_roll, signed_roll}
use Rattle.lb_names.specs.Marks.{tables_of}
use Rattle.lb_names.specs.Scopes.{Catalogue}
use Rattle.lb_names.specs.Passes.{all_own}
use Rattle.lb_names.specs.Places.{Place}
use Rattle.lb_names.specs.Carriers.{Means, Says, Shows, Joins, Arms, Chains, Choices, Answers, typing, chain_marked}
use Rattle.lb_names.specs.Expressions.{expr_step, arm_step, choice_step, signed_step}
use Rattle.lb_names.specs.Conditions.{cond_step}
use Rattle.lb_names.specs.SelectLists.{item_step, join_step, chain_step}
use Rattle.lb_names.specs.Typing.{steps, query_step}
use Rattle.lb_names.specs.Qualified.{has_correlation, is_qualified_atom, all_of_them, testing, qualified_steps}
use Rattle.lb_names.specs.Growing.{IsGrown}
use Rattle.lb_names.proofs.Carried.{carried_expr, carried_chain}
use Rattle.lb_names.proofs.GrownLists as l
use Rattle.lb_names.proofs.GrownSteps as node
use Rattle.lb_names.proofs.Mentioned.{m_expr, m_chain}
use Rattle.lb_names.proofs.QualifiedMarks.{split, written_expr, u_cond, u_expr, u_item, u_join, u_arm, u_chain, u_choice, u_query, u_signed}

module _ (C D : Catalogue) (g : IsGrown C D) where
  abbrev c_cond : Cond → Says
  c_cond = cond_of typing (steps C)

  abbrev d_cond : Cond → Says
  d_cond = cond_of typing (steps D)

  abbrev c_expr : Expr → Means
  c_expr = expr_of typing (steps C)

  abbrev d_expr : Expr → Means
  d_expr = expr_of typing (steps D)

  abbrev c_item : Item → Shows
  c_item = item_of typing (steps C)

  abbrev d_item : Item → Shows
  d_item = item_of typing (steps D)

  abbrev c_join : Join → Joins
  c_join = join_of typing (steps C)

  abbrev d_join : Join → Joins
  d_join = join_of typing (steps D)

  abbrev c_arm : Arm → Arms
  c_arm = arm_of typing (steps C)

  abbrev d_arm : Arm → Arms
  d_arm = arm_of typing (steps D)

  abbrev c_chain : Chain → Chains
  c_chain = chain_of typing (steps C)

  abbrev d_chain : Chain → Chains
  d_chain = chain_of typing (steps D)

  abbrev c_choice : Choice → Choices
  c_choice = choice_of typing (steps C)

  abbrev d_choice : Choice → Choices
  d_choice = choice_of typing (steps D)

  abbrev c_query : Query → Answers
  c_query = query_of typing (steps C)

  abbrev d_query : Query → Answers
  d_query = query_of typing (steps D)

  abbrev c_signed : Signed → Means
  c_signed = signed_of typing (steps C)

  abbrev d_signed : Signed → Means
  d_signed = signed_of typing (steps D)

  along : {A B : Type 0} (R : A → B → Type 0) (a c : A) (b d : B) → a ≡ c → b ≡ d → R c d → R a b
  along R a c b d p q h = subst (λ z. R z b) (sym p) (subst (λ z. R c z) (sym q) h)

  each : {X A B : Type 0} (R : A → B → Type 0) (F : X → A) (G : X → B) (test : X → Bool) (xs : List ((x : X) × (test x ≡ true → R (F x) (G x)))) → all_of_them (map test (map (λ z. z.0) xs)) ≡ true → l.Alls R (map F (map (λ z. z.0) xs)) (map G (map (λ z. z.0) xs))
  each R F G test [] h = tt
  each R F G test (x ∷ xs) h = let k : (test x.0 ≡ true) × (all_of_them (map test (map (λ z. z.0) xs)) ≡ true) = split (test x.0) (all_of_them (map test (map (λ z. z.0) xs))) h in (x.1 k.0, each R F G test xs k.1)

  -- the tables of FROM are those of the marks
  marks_path : (E : Catalogue) (cs : List Chain) → map chain_marked (map (chain_of typing (steps E)) cs) ≡ map m_chain cs
  marks_path E [] = refl
  marks_path E (c ∷ cs) = λ i. carried_chain E c i ∷ marks_path E cs i

  tables_path : (cs : List Chain) → tables_of (map chain_marked (map c_chain cs)) ≡ tables_of (map chain_marked (map d_chain cs))
  tables_path cs = ap (λ chains. tables_of chains) (marks_path C cs ∙ sym (marks_path D cs))

  -- an aggregate's argument names columns of its own query still
  own_path : (e : Expr) → u_expr e ≡ true → (P : Place) → all_own C P.sight.level ((c_expr e).marks P.sight) ≡ true → all_own D P.sight.level ((d_expr e).marks P.sight) ≡ true
  own_path e k P o = ap (all_own D P.sight.level) (carried_expr D e P.sight) ∙ node.own_keep C D g P.sight.level ((m_expr e).marks P.sight) (written_expr e k P.sight) (sym (ap (all_own C P.sight.level) (carried_expr C e P.sight)) ∙ o)

  abbrev GoodCond : Cond → Type 0
  GoodCond x = u_cond x ≡ true → l.KeepSays (c_cond x) (d_cond x)

  abbrev WithCond : Type 0
  WithCond = (x : Cond) × GoodCond x

  abbrev GoodExpr : Expr → Type 0
  GoodExpr x = u_expr x ≡ true → l.KeepMeans (c_expr x) (d_expr x)

  abbrev WithExpr : Type 0
  WithExpr = (x : Expr) × GoodExpr x

  abbrev GoodItem : Item → Type 0
  GoodItem x = u_item x ≡ true → l.KeepShows (c_item x) (d_item x)

  abbrev WithItem : Type 0
  WithItem = (x : Item) × GoodItem x

  abbrev GoodJoin : Join → Type 0
  GoodJoin x = u_join x ≡ true → l.KeepJoins (c_join x) (d_join x)

  abbrev WithJoin : Type 0
  WithJoin = (x : Join) × GoodJoin x

  abbrev GoodArm : Arm → Type 0
  GoodArm x = u_arm x ≡ true → l.KeepArms (c_arm x) (d_arm x)

  abbrev WithArm : Type 0
  WithArm = (x : Arm) × GoodArm x

  abbrev GoodChain : Chain → Type 0
  GoodChain x = u_chain x ≡ true → l.KeepChains (c_chain x) (d_chain x)

  abbrev WithChain : Type 0
  WithChain = (x : Chain) × GoodChain x

  abbrev GoodChoice : Choice → Type 0
  GoodChoice x = u_choice x ≡ true → l.KeepChoices (c_choice x) (d_choice x)

  abbrev WithChoice : Type 0
  WithChoice = (x : Choice) × GoodChoice x

  abbrev GoodQuery : Query → Type 0
  GoodQuery x = u_query x ≡ true → l.KeepAnswers (c_query x) (d_query x)

  abbrev WithQuery : Type 0
  WithQuery = (x : Query) × GoodQuery x

  abbrev GoodSigned : Signed → Type 0
  GoodSigned x = u_signed x ≡ true → l.KeepMeans (c_signed x) (d_signed x)

  abbrev WithSigned : Type 0
  WithSigned = (x : Signed) × GoodSigned x

  -- a layer whose parts have their facts
  abbrev Goods : (Type 0 → Type 0 → Type 0 → Type 0 → Type 0 → Type 0 → Type 0 → Type 0 → Type 0 → Type 0) → Type 0
  Goods F = F WithCond WithExpr WithItem WithJoin WithArm WithChain WithChoice WithQuery WithSigned

  abbrev down_cond : Goods layers.Cond-F → Written layers.Cond-F
  down_cond = map-Cond WithCond WithExpr WithItem WithJoin WithArm WithChain WithChoice WithQuery WithSigned Cond Expr Item Join Arm Chain Choice Query Signed (λ z. z.0) (λ z. z.0) (λ z. z.0) (λ z. z.0) (λ z. z.0) (λ z. z.0) (λ z. z.0) (λ z. z.0) (λ z. z.0)

  abbrev down_expr : Goods layers.Expr-F → Written layers.Expr-F
  down_expr = map-Expr WithCond WithExpr WithItem WithJoin WithArm WithChain WithChoice WithQuery WithSigned Cond Expr Item Join Arm Chain Choice Query Signed (λ z. z.0) (λ z. z.0) (λ z. z.0) (λ z. z.0) (λ z. z.0) (λ z. z.0) (λ z. z.0) (λ z. z.0) (λ z. z.0)

  abbrev down_item : Goods layers.Item-F → Written layers.Item-F
  down_item = map-Item WithCond WithExpr WithItem WithJoin WithArm WithChain WithChoice WithQuery WithSigned Cond Expr Item Join Arm Chain Choice Query Signed (λ z. z.0) (λ z. z.0) (λ z. z.0) (λ z. z.0) (λ z. z.0) (λ z. z.0) (λ z. z.0) (λ z. z.0) (λ z. z.0)

  abbrev down_join : Goods layers.Join-F → Written layers.Join-F
  down_join = map-Join WithCond WithExpr WithItem WithJoin WithArm WithChain WithChoice WithQuery WithSigned Cond Expr Item Join Arm Chain Choice Query Signed (λ z. z.0) (λ z. z.0) (λ z. z.0) (λ z. z.0) (λ z. z.0) (λ z. z.0) (λ z. z.0) (λ z. z.0) (λ z. z.0)

  abbrev down_arm : Goods layers.Arm-F → Written layers.Arm-F
  down_arm = map-Arm WithCond WithExpr WithItem WithJoin WithArm WithChain WithChoice WithQuery WithSigned Cond Expr Item Join Arm Chain Choice Query Signed (λ z. z.0) (λ z. z.0) (λ z. z.0) (λ z. z.0) (λ z. z.0) (λ z. z.0) (λ z. z.0) (λ z. z.0) (λ z. z.0)

  abbrev down_chain : Goods layers.Chain-F → Written layers.Chain-F
  down_chain = map-Chain WithCond WithExpr WithItem WithJoin WithArm WithChain WithChoice WithQuery WithSigned Cond Expr Item Join Arm Chain Choice Query Signed (λ z. z.0) (λ z. z.0) (λ z. z.0) (λ z. z.0) (λ z. z.0) (λ z. z.0) (λ z. z.0) (λ z. z.0) (λ z. z.0)

  abbrev down_choice : Goods layers.Choice-F → Written layers.Choice-F
  down_choice = map-Choice WithCond WithExpr WithItem WithJoin WithArm WithChain WithChoice WithQuery WithSigned Cond Expr Item Join Arm Chain Choice Query Signed (λ z. z.0) (λ z. z.0) (λ z. z.0) (λ z. z.0) (λ z. z.0) (λ z. z.0) (λ z. z.0) (λ z. z.0) (λ z. z.0)

  abbrev down_query : Goods layers.Query-F → Written layers.Query-F
  down_query = map-Query WithCond WithExpr WithItem WithJoin WithArm WithChain WithChoice WithQuery WithSigned Cond Expr Item Join Arm Chain Choice Query Signed (λ z. z.0) (λ z. z.0) (λ z. z.0) (λ z. z.0) (λ z. z.0) (λ z. z.0) (λ z. z.0) (λ z. z.0) (λ z. z.0)

  abbrev down_signed : Goods layers.Signed-F → Written layers.Signed-F
  down_signed = map-Signed WithCond WithExpr WithItem WithJoin WithArm WithChain WithChoice WithQuery WithSigned Cond Expr Item Join Arm Chain Choice Query Signed (λ z. z.0) (λ z. z.0) (λ z. z.0) (λ z. z.0) (λ z. z.0) (λ z. z.0) (λ z. z.0) (λ z. z.0) (λ z. z.0)

  cond_good : (y : Goods layers.Cond-F) → GoodCond (roll-Cond (down_cond y))
  cond_good (layers.Cond-F.Or a) = λ h. let k : (all_of_them (map u_cond (map (λ z. z.0) a))) ≡ true = sym (cond_roll testing qualified_steps (layers.Cond-F.Or (map (λ z. z.0) a))) ∙ h in along l.KeepSays (c_cond (roll-Cond (layers.Cond-F.Or (map (λ z. z.0) a)))) (cond_step (layers.Cond-F.Or (map c_cond (map (λ z. z.0) a)))) (d_cond (roll-Cond (layers.Cond-F.Or (map (λ z. z.0) a)))) (cond_step (layers.Cond-F.Or (map d_cond (map (λ z. z.0) a)))) (cond_roll typing (steps C) (layers.Cond-F.Or (map (λ z. z.0) a))) (cond_roll typing (steps D) (layers.Cond-F.Or (map (λ z. z.0) a))) (node.cond_or C D g (map c_cond (map (λ z. z.0) a)) (map d_cond (map (λ z. z.0) a)) (each l.KeepSays c_cond d_cond u_cond a k))
  cond_good (layers.Cond-F.And a) = λ h. let k : (all_of_them (map u_cond (map (λ z. z.0) a))) ≡ true = sym (cond_roll testing qualified_steps (layers.Cond-F.And (map (λ z. z.0) a))) ∙ h in along l.KeepSays (c_cond (roll-Cond (layers.Cond-F.And (map (λ z. z.0) a)))) (cond_step (layers.Cond-F.And (map c_cond (map (λ z. z.0) a)))) (d_cond (roll-Cond (layers.Cond-F.And (map (λ z. z.0) a)))) (cond_step (layers.Cond-F.And (map d_cond (map (λ z. z.0) a)))) (cond_roll typing (steps C) (layers.Cond-F.And (map (λ z. z.0) a))) (cond_roll typing (steps D) (layers.Cond-F.And (map (λ z. z.0) a))) (node.cond_and C D g (map c_cond (map (λ z. z.0) a)) (map d_cond (map (λ z. z.0) a)) (each l.KeepSays c_cond d_cond u_cond a k))
  cond_good (layers.Cond-F.Not a) = λ h. let k : (u_cond a.0) ≡ true = sym (cond_roll testing qualified_steps (layers.Cond-F.Not a.0)) ∙ h in along l.KeepSays (c_cond (roll-Cond (layers.Cond-F.Not a.0))) (cond_step (layers.Cond-F.Not (c_cond a.0))) (d_cond (roll-Cond (layers.Cond-F.Not a.0))) (cond_step (layers.Cond-F.Not (d_cond a.0))) (cond_roll typing (steps C) (layers.Cond-F.Not a.0)) (cond_roll typing (steps D) (layers.Cond-F.Not a.0)) (node.cond_not C D g (c_cond a.0) (d_cond a.0) (a.1 k))
  cond_good (layers.Cond-F.Exists a) = λ h. let k : (u_query a.0) ≡ true = sym (cond_roll testing qualified_steps (layers.Cond-F.Exists a.0)) ∙ h in along l.KeepSays (c_cond (roll-Cond (layers.Cond-F.Exists a.0))) (cond_step (layers.Cond-F.Exists (c_query a.0))) (d_cond (roll-Cond (layers.Cond-F.Exists a.0))) (cond_step (layers.Cond-F.Exists (d_query a.0))) (cond_roll typing (steps C) (layers.Cond-F.Exists a.0)) (cond_roll typing (steps D) (layers.Cond-F.Exists a.0)) (node.cond_exists C D g (c_query a.0) (d_query a.0) (a.1 k))
  cond_good (layers.Cond-F.Compare a b c) = λ h. let k : (u_expr b.0 && (u_expr c.0)) ≡ true = sym (cond_roll testing qualified_steps (layers.Cond-F.Compare a b.0 c.0)) ∙ h in along l.KeepSays (c_cond (roll-Cond (layers.Cond-F.Compare a b.0 c.0))) (cond_step (layers.Cond-F.Compare a (c_expr b.0) (c_expr c.0))) (d_cond (roll-Cond (layers.Cond-F.Compare a b.0 c.0))) (cond_step (layers.Cond-F.Compare a (d_expr b.0) (d_expr c.0))) (cond_roll typing (steps C) (layers.Cond-F.Compare a b.0 c.0)) (cond_roll typing (steps D) (layers.Cond-F.Compare a b.0 c.0)) (node.cond_compare C D g a (c_expr b.0) (d_expr b.0) (b.1 (split (u_expr b.0) (u_expr c.0) k).0) (c_expr c.0) (d_expr c.0) (c.1 (split (u_expr b.0) (u_expr c.0) k).1))
  cond_good (layers.Cond-F.CompareQuery a b c) = λ h. let k : (u_expr b.0 && (u_query c.0)) ≡ true = sym (cond_roll testing qualified_steps (layers.Cond-F.CompareQuery a b.0 c.0)) ∙ h in along l.KeepSays (c_cond (roll-Cond (layers.Cond-F.CompareQuery a b.0 c.0))) (cond_step (layers.Cond-F.CompareQuery a (c_expr b.0) (c_query c.0))) (d_cond (roll-Cond (layers.Cond-F.CompareQuery a b.0 c.0))) (cond_step (layers.Cond-F.CompareQuery a (d_expr b.0) (d_query c.0))) (cond_roll typing (steps C) (layers.Cond-F.CompareQuery a b.0 c.0)) (cond_roll typing (steps D) (layers.Cond-F.CompareQuery a b.0 c.0)) (node.cond_comparequery C D g a (c_expr b.0) (d_expr b.0) (b.1 (split (u_expr b.0) (u_query c.0) k).0) (c_query c.0) (d_query c.0) (c.1 (split (u_expr b.0) (u_query c.0) k).1))
  cond_good (layers.Cond-F.IsNull a) = λ h. let k : (u_expr a.0) ≡ true = sym (cond_roll testing qualified_steps (layers.Cond-F.IsNull a.0)) ∙ h in along l.KeepSays (c_cond (roll-Cond (layers.Cond-F.IsNull a.0))) (cond_step (layers.Cond-F.IsNull (c_expr a.0))) (d_cond (roll-Cond (layers.Cond-F.IsNull a.0))) (cond_step (layers.Cond-F.IsNull (d_expr a.0))) (cond_roll typing (steps C) (layers.Cond-F.IsNull a.0)) (cond_roll typing (steps D) (layers.Cond-F.IsNull a.0)) (node.cond_isnull C D g (c_expr a.0) (d_expr a.0) (a.1 k))
  cond_good (layers.Cond-F.InQuery a b) = λ h. let k : (u_expr a.0 && (u_query b.0)) ≡ true = sym (cond_roll testing qualified_steps (layers.Cond-F.InQuery a.0 b.0)) ∙ h in along l.KeepSays (c_cond (roll-Cond (layers.Cond-F.InQuery a.0 b.0))) (cond_step (layers.Cond-F.InQuery (c_expr a.0) (c_query b.0))) (d_cond (roll-Cond (layers.Cond-F.InQuery a.0 b.0))) (cond_step (layers.Cond-F.InQuery (d_expr a.0) (d_query b.0))) (cond_roll typing (steps C) (layers.Cond-F.InQuery a.0 b.0)) (cond_roll typing (steps D) (layers.Cond-F.InQuery a.0 b.0)) (node.cond_inquery C D g (c_expr a.0) (d_expr a.0) (a.1 (split (u_expr a.0) (u_query b.0) k).0) (c_query b.0) (d_query b.0) (b.1 (split (u_expr a.0) (u_query b.0) k).1))
  cond_good (layers.Cond-F.InList a b) = λ h. let k : (u_expr a.0 && (all_of_them (map u_expr (map (λ z. z.0) b)))) ≡ true = sym (cond_roll testing qualified_steps (layers.Cond-F.InList a.0 (map (λ z. z.0) b))) ∙ h in along l.KeepSays (c_cond (roll-Cond (layers.Cond-F.InList a.0 (map (λ z. z.0) b)))) (cond_step (layers.Cond-F.InList (c_expr a.0) (map c_expr (map (λ z. z.0) b)))) (d_cond (roll-Cond (layers.Cond-F.InList a.0 (map (λ z. z.0) b)))) (cond_step (layers.Cond-F.InList (d_expr a.0) (map d_expr (map (λ z. z.0) b)))) (cond_roll typing (steps C) (layers.Cond-F.InList a.0 (map (λ z. z.0) b))) (cond_roll typing (steps D) (layers.Cond-F.InList a.0 (map (λ z. z.0) b))) (node.cond_inlist C D g (c_expr a.0) (d_expr a.0) (a.1 (split (u_expr a.0) (all_of_them (map u_expr (map (λ z. z.0) b))) k).0) (map c_expr (map (λ z. z.0) b)) (map d_expr (map (λ z. z.0) b)) (each l.KeepMeans c_expr d_expr u_expr b (split (u_expr a.0) (all_of_them (map u_expr (map (λ z. z.0) b))) k).1))
  cond_good (layers.Cond-F.Between a b c) = λ h. let k : (u_expr a.0 && (u_expr b.0 && (u_expr c.0))) ≡ true = sym (cond_roll testing qualified_steps (layers.Cond-F.Between a.0 b.0 c.0)) ∙ h in along l.KeepSays (c_cond (roll-Cond (layers.Cond-F.Between a.0 b.0 c.0))) (cond_step (layers.Cond-F.Between (c_expr a.0) (c_expr b.0) (c_expr c.0))) (d_cond (roll-Cond (layers.Cond-F.Between a.0 b.0 c.0))) (cond_step (layers.Cond-F.Between (d_expr a.0) (d_expr b.0) (d_expr c.0))) (cond_roll typing (steps C) (layers.Cond-F.Between a.0 b.0 c.0)) (cond_roll typing (steps D) (layers.Cond-F.Between a.0 b.0 c.0)) (node.cond_between C D g (c_expr a.0) (d_expr a.0) (a.1 (split (u_expr a.0) (u_expr b.0 && (u_expr c.0)) k).0) (c_expr b.0) (d_expr b.0) (b.1 (split (u_expr b.0) (u_expr c.0) (split (u_expr a.0) (u_expr b.0 && (u_expr c.0)) k).1).0) (c_expr c.0) (d_expr c.0) (c.1 (split (u_expr b.0) (u_expr c.0) (split (u_expr a.0) (u_expr b.0 && (u_expr c.0)) k).1).1))

  expr_good : (y : Goods layers.Expr-F) → GoodExpr (roll-Expr (down_expr y))
  expr_good (layers.Expr-F.Atom a) = λ h. let k : (is_qualified_atom a) ≡ true = sym (expr_roll testing qualified_steps (layers.Expr-F.Atom a)) ∙ h in along l.KeepMeans (c_expr (roll-Expr (layers.Expr-F.Atom a))) (expr_step C (layers.Expr-F.Atom a)) (d_expr (roll-Expr (layers.Expr-F.Atom a))) (expr_step D (layers.Expr-F.Atom a)) (expr_roll typing (steps C) (layers.Expr-F.Atom a)) (expr_roll typing (steps D) (layers.Expr-F.Atom a)) (node.expr_atom C D g a k)
  expr_good (layers.Expr-F.Sum a) = λ h. let k : (all_of_them (map u_signed (map (λ z. z.0) a))) ≡ true = sym (expr_roll testing qualified_steps (layers.Expr-F.Sum (map (λ z. z.0) a))) ∙ h in along l.KeepMeans (c_expr (roll-Expr (layers.Expr-F.Sum (map (λ z. z.0) a)))) (expr_step C (layers.Expr-F.Sum (map c_signed (map (λ z. z.0) a)))) (d_expr (roll-Expr (layers.Expr-F.Sum (map (λ z. z.0) a)))) (expr_step D (layers.Expr-F.Sum (map d_signed (map (λ z. z.0) a)))) (expr_roll typing (steps C) (layers.Expr-F.Sum (map (λ z. z.0) a))) (expr_roll typing (steps D) (layers.Expr-F.Sum (map (λ z. z.0) a))) (node.expr_sum C D g (map c_signed (map (λ z. z.0) a)) (map d_signed (map (λ z. z.0) a)) (each l.KeepMeans c_signed d_signed u_signed a k))
  expr_good (layers.Expr-F.Concat a) = λ h. let k : (all_of_them (map u_expr (map (λ z. z.0) a))) ≡ true = sym (expr_roll testing qualified_steps (layers.Expr-F.Concat (map (λ z. z.0) a))) ∙ h in along l.KeepMeans (c_expr (roll-Expr (layers.Expr-F.Concat (map (λ z. z.0) a)))) (expr_step C (layers.Expr-F.Concat (map c_expr (map (λ z. z.0) a)))) (d_expr (roll-Expr (layers.Expr-F.Concat (map (λ z. z.0) a)))) (expr_step D (layers.Expr-F.Concat (map d_expr (map (λ z. z.0) a)))) (expr_roll typing (steps C) (layers.Expr-F.Concat (map (λ z. z.0) a))) (expr_roll typing (steps D) (layers.Expr-F.Concat (map (λ z. z.0) a))) (node.expr_concat C D g (map c_expr (map (λ z. z.0) a)) (map d_expr (map (λ z. z.0) a)) (each l.KeepMeans c_expr d_expr u_expr a k))
  expr_good (layers.Expr-F.Product a) = λ h. let k : (all_of_them (map u_expr (map (λ z. z.0) a))) ≡ true = sym (expr_roll testing qualified_steps (layers.Expr-F.Product (map (λ z. z.0) a))) ∙ h in along l.KeepMeans (c_expr (roll-Expr (layers.Expr-F.Product (map (λ z. z.0) a)))) (expr_step C (layers.Expr-F.Product (map c_expr (map (λ z. z.0) a)))) (d_expr (roll-Expr (layers.Expr-F.Product (map (λ z. z.0) a)))) (expr_step D (layers.Expr-F.Product (map d_expr (map (λ z. z.0) a)))) (expr_roll typing (steps C) (layers.Expr-F.Product (map (λ z. z.0) a))) (expr_roll typing (steps D) (layers.Expr-F.Product (map (λ z. z.0) a))) (node.expr_product C D g (map c_expr (map (λ z. z.0) a)) (map d_expr (map (λ z. z.0) a)) (each l.KeepMeans c_expr d_expr u_expr a k))
  expr_good (layers.Expr-F.Case a None) = λ h. let k : (all_of_them (map u_arm (map (λ z. z.0) a)) && (true)) ≡ true = sym (expr_roll testing qualified_steps (layers.Expr-F.Case (map (λ z. z.0) a) None)) ∙ h in along l.KeepMeans (c_expr (roll-Expr (layers.Expr-F.Case (map (λ z. z.0) a) None))) (expr_step C (layers.Expr-F.Case (map c_arm (map (λ z. z.0) a)) None)) (d_expr (roll-Expr (layers.Expr-F.Case (map (λ z. z.0) a) None))) (expr_step D (layers.Expr-F.Case (map d_arm (map (λ z. z.0) a)) None)) (expr_roll typing (steps C) (layers.Expr-F.Case (map (λ z. z.0) a) None)) (expr_roll typing (steps D) (layers.Expr-F.Case (map (λ z. z.0) a) None)) (node.expr_case C D g (map c_arm (map (λ z. z.0) a)) (map d_arm (map (λ z. z.0) a)) (each l.KeepArms c_arm d_arm u_arm a (split (all_of_them (map u_arm (map (λ z. z.0) a))) (true) k).0) None None tt)
  expr_good (layers.Expr-F.Case a (Some b)) = λ h. let k : (all_of_them (map u_arm (map (λ z. z.0) a)) && (u_expr b.0)) ≡ true = sym (expr_roll testing qualified_steps (layers.Expr-F.Case (map (λ z. z.0) a) (Some b.0))) ∙ h in along l.KeepMeans (c_expr (roll-Expr (layers.Expr-F.Case (map (λ z. z.0) a) (Some b.0)))) (expr_step C (layers.Expr-F.Case (map c_arm (map (λ z. z.0) a)) (Some (c_expr b.0)))) (d_expr (roll-Expr (layers.Expr-F.Case (map (λ z. z.0) a) (Some b.0)))) (expr_step D (layers.Expr-F.Case (map d_arm (map (λ z. z.0) a)) (Some (d_expr b.0)))) (expr_roll typing (steps C) (layers.Expr-F.Case (map (λ z. z.0) a) (Some b.0))) (expr_roll typing (steps D) (layers.Expr-F.Case (map (λ z. z.0) a) (Some b.0))) (node.expr_case C D g (map c_arm (map (λ z. z.0) a)) (map d_arm (map (λ z. z.0) a)) (each l.KeepArms c_arm d_arm u_arm a (split (all_of_them (map u_arm (map (λ z. z.0) a))) (u_expr b.0) k).0) (Some (c_expr b.0)) (Some (d_expr b.0)) (b.1 (split (all_of_them (map u_arm (map (λ z. z.0) a))) (u_expr b.0) k).1))
  expr_good (layers.Expr-F.Match a b None) = λ h. let k : (u_expr a.0 && (all_of_them (map u_choice (map (λ z. z.0) b)) && (true))) ≡ true = sym (expr_roll testing qualified_steps (layers.Expr-F.Match a.0 (map (λ z. z.0) b) None)) ∙ h in along l.KeepMeans (c_expr (roll-Expr (layers.Expr-F.Match a.0 (map (λ z. z.0) b) None))) (expr_step C (layers.Expr-F.Match (c_expr a.0) (map c_choice (map (λ z. z.0) b)) None)) (d_expr (roll-Expr (layers.Expr-F.Match a.0 (map (λ z. z.0) b) None))) (expr_step D (layers.Expr-F.Match (d_expr a.0) (map d_choice (map (λ z. z.0) b)) None)) (expr_roll typing (steps C) (layers.Expr-F.Match a.0 (map (λ z. z.0) b) None)) (expr_roll typing (steps D) (layers.Expr-F.Match a.0 (map (λ z. z.0) b) None)) (node.expr_match C D g (c_expr a.0) (d_expr a.0) (a.1 (split (u_expr a.0) (all_of_them (map u_choice (map (λ z. z.0) b)) && (true)) k).0) (map c_choice (map (λ z. z.0) b)) (map d_choice (map (λ z. z.0) b)) (each l.KeepChoices c_choice d_choice u_choice b (split (all_of_them (map u_choice (map (λ z. z.0) b))) (true) (split (u_expr a.0) (all_of_them (map u_choice (map (λ z. z.0) b)) && (true)) k).1).0) None None tt)
  expr_good (layers.Expr-F.Match a b (Some c)) = λ h. let k : (u_expr a.0 && (all_of_them (map u_choice (map (λ z. z.0) b)) && (u_expr c.0))) ≡ true = sym (expr_roll testing qualified_steps (layers.Expr-F.Match a.0 (map (λ z. z.0) b) (Some c.0))) ∙ h in along l.KeepMeans (c_expr (roll-Expr (layers.Expr-F.Match a.0 (map (λ z. z.0) b) (Some c.0)))) (expr_step C (layers.Expr-F.Match (c_expr a.0) (map c_choice (map (λ z. z.0) b)) (Some (c_expr c.0)))) (d_expr (roll-Expr (layers.Expr-F.Match a.0 (map (λ z. z.0) b) (Some c.0)))) (expr_step D (layers.Expr-F.Match (d_expr a.0) (map d_choice (map (λ z. z.0) b)) (Some (d_expr c.0)))) (expr_roll typing (steps C) (layers.Expr-F.Match a.0 (map (λ z. z.0) b) (Some c.0))) (expr_roll typing (steps D) (layers.Expr-F.Match a.0 (map (λ z. z.0) b) (Some c.0))) (node.expr_match C D g (c_expr a.0) (d_expr a.0) (a.1 (split (u_expr a.0) (all_of_them (map u_choice (map (λ z. z.0) b)) && (u_expr c.0)) k).0) (map c_choice (map (λ z. z.0) b)) (map d_choice (map (λ z. z.0) b)) (each l.KeepChoices c_choice d_choice u_choice b (split (all_of_them (map u_choice (map (λ z. z.0) b))) (u_expr c.0) (split (u_expr a.0) (all_of_them (map u_choice (map (λ z. z.0) b)) && (u_expr c.0)) k).1).0) (Some (c_expr c.0)) (Some (d_expr c.0)) (c.1 (split (all_of_them (map u_choice (map (λ z. z.0) b))) (u_expr c.0) (split (u_expr a.0) (all_of_them (map u_choice (map (λ z. z.0) b)) && (u_expr c.0)) k).1).1))
  expr_good (layers.Expr-F.Aggregate a b) = λ h. let k : (u_expr b.0) ≡ true = sym (expr_roll testing qualified_steps (layers.Expr-F.Aggregate a b.0)) ∙ h in along l.KeepMeans (c_expr (roll-Expr (layers.Expr-F.Aggregate a b.0))) (expr_step C (layers.Expr-F.Aggregate a (c_expr b.0))) (d_expr (roll-Expr (layers.Expr-F.Aggregate a b.0))) (expr_step D (layers.Expr-F.Aggregate a (d_expr b.0))) (expr_roll typing (steps C) (layers.Expr-F.Aggregate a b.0)) (expr_roll typing (steps D) (layers.Expr-F.Aggregate a b.0)) (node.expr_aggregate C D g a (c_expr b.0) (d_expr b.0) (b.1 k) (own_path b.0 k))
  expr_good (layers.Expr-F.Substr a b None) = λ h. let k : (u_expr a.0 && (u_expr b.0 && (true))) ≡ true = sym (expr_roll testing qualified_steps (layers.Expr-F.Substr a.0 b.0 None)) ∙ h in along l.KeepMeans (c_expr (roll-Expr (layers.Expr-F.Substr a.0 b.0 None))) (expr_step C (layers.Expr-F.Substr (c_expr a.0) (c_expr b.0) None)) (d_expr (roll-Expr (layers.Expr-F.Substr a.0 b.0 None))) (expr_step D (layers.Expr-F.Substr (d_expr a.0) (d_expr b.0) None)) (expr_roll typing (steps C) (layers.Expr-F.Substr a.0 b.0 None)) (expr_roll typing (steps D) (layers.Expr-F.Substr a.0 b.0 None)) (node.expr_substr C D g (c_expr a.0) (d_expr a.0) (a.1 (split (u_expr a.0) (u_expr b.0 && (true)) k).0) (c_expr b.0) (d_expr b.0) (b.1 (split (u_expr b.0) (true) (split (u_expr a.0) (u_expr b.0 && (true)) k).1).0) None None tt)
  expr_good (layers.Expr-F.Substr a b (Some c)) = λ h. let k : (u_expr a.0 && (u_expr b.0 && (u_expr c.0))) ≡ true = sym (expr_roll testing qualified_steps (layers.Expr-F.Substr a.0 b.0 (Some c.0))) ∙ h in along l.KeepMeans (c_expr (roll-Expr (layers.Expr-F.Substr a.0 b.0 (Some c.0)))) (expr_step C (layers.Expr-F.Substr (c_expr a.0) (c_expr b.0) (Some (c_expr c.0)))) (d_expr (roll-Expr (layers.Expr-F.Substr a.0 b.0 (Some c.0)))) (expr_step D (layers.Expr-F.Substr (d_expr a.0) (d_expr b.0) (Some (d_expr c.0)))) (expr_roll typing (steps C) (layers.Expr-F.Substr a.0 b.0 (Some c.0))) (expr_roll typing (steps D) (layers.Expr-F.Substr a.0 b.0 (Some c.0))) (node.expr_substr C D g (c_expr a.0) (d_expr a.0) (a.1 (split (u_expr a.0) (u_expr b.0 && (u_expr c.0)) k).0) (c_expr b.0) (d_expr b.0) (b.1 (split (u_expr b.0) (u_expr c.0) (split (u_expr a.0) (u_expr b.0 && (u_expr c.0)) k).1).0) (Some (c_expr c.0)) (Some (d_expr c.0)) (c.1 (split (u_expr b.0) (u_expr c.0) (split (u_expr a.0) (u_expr b.0 && (u_expr c.0)) k).1).1))
  expr_good (layers.Expr-F.Apply a b) = λ h. let k : (u_expr b.0) ≡ true = sym (expr_roll testing qualified_steps (layers.Expr-F.Apply a b.0)) ∙ h in along l.KeepMeans (c_expr (roll-Expr (layers.Expr-F.Apply a b.0))) (expr_step C (layers.Expr-F.Apply a (c_expr b.0))) (d_expr (roll-Expr (layers.Expr-F.Apply a b.0))) (expr_step D (layers.Expr-F.Apply a (d_expr b.0))) (expr_roll typing (steps C) (layers.Expr-F.Apply a b.0)) (expr_roll typing (steps D) (layers.Expr-F.Apply a b.0)) (node.expr_apply C D g a (c_expr b.0) (d_expr b.0) (b.1 k))
  expr_good (layers.Expr-F.Coalesce a) = λ h. let k : (all_of_them (map u_expr (map (λ z. z.0) a))) ≡ true = sym (expr_roll testing qualified_steps (layers.Expr-F.Coalesce (map (λ z. z.0) a))) ∙ h in along l.KeepMeans (c_expr (roll-Expr (layers.Expr-F.Coalesce (map (λ z. z.0) a)))) (expr_step C (layers.Expr-F.Coalesce (map c_expr (map (λ z. z.0) a)))) (d_expr (roll-Expr (layers.Expr-F.Coalesce (map (λ z. z.0) a)))) (expr_step D (layers.Expr-F.Coalesce (map d_expr (map (λ z. z.0) a)))) (expr_roll typing (steps C) (layers.Expr-F.Coalesce (map (λ z. z.0) a))) (expr_roll typing (steps D) (layers.Expr-F.Coalesce (map (λ z. z.0) a))) (node.expr_coalesce C D g (map c_expr (map (λ z. z.0) a)) (map d_expr (map (λ z. z.0) a)) (each l.KeepMeans c_expr d_expr u_expr a k))

  item_good : (y : Goods layers.Item-F) → GoodItem (roll-Item (down_item y))
  item_good layers.Item-F.Everything = λ h. along l.KeepShows (c_item (roll-Item layers.Item-F.Everything)) (item_step C layers.Item-F.Everything) (d_item (roll-Item layers.Item-F.Everything)) (item_step D layers.Item-F.Everything) (item_roll typing (steps C) layers.Item-F.Everything) (item_roll typing (steps D) layers.Item-F.Everything) (node.item_everything C D g)
  item_good (layers.Item-F.AllOf a) = λ h. along l.KeepShows (c_item (roll-Item (layers.Item-F.AllOf a))) (item_step C (layers.Item-F.AllOf a)) (d_item (roll-Item (layers.Item-F.AllOf a))) (item_step D (layers.Item-F.AllOf a)) (item_roll typing (steps C) (layers.Item-F.AllOf a)) (item_roll typing (steps D) (layers.Item-F.AllOf a)) (node.item_allof C D g a)
  item_good (layers.Item-F.Value a b) = λ h. let k : (u_expr a.0) ≡ true = sym (item_roll testing qualified_steps (layers.Item-F.Value a.0 b)) ∙ h in along l.KeepShows (c_item (roll-Item (layers.Item-F.Value a.0 b))) (item_step C (layers.Item-F.Value (c_expr a.0) b)) (d_item (roll-Item (layers.Item-F.Value a.0 b))) (item_step D (layers.Item-F.Value (d_expr a.0) b)) (item_roll typing (steps C) (layers.Item-F.Value a.0 b)) (item_roll typing (steps D) (layers.Item-F.Value a.0 b)) (node.item_value C D g (c_expr a.0) (d_expr a.0) (a.1 k) b)

  join_good : (y : Goods layers.Join-F) → GoodJoin (roll-Join (down_join y))
  join_good (layers.Join-F.Inner a b) = λ h. let k : (u_cond b.0) ≡ true = sym (join_roll testing qualified_steps (layers.Join-F.Inner a b.0)) ∙ h in along l.KeepJoins (c_join (roll-Join (layers.Join-F.Inner a b.0))) (join_step (layers.Join-F.Inner a (c_cond b.0))) (d_join (roll-Join (layers.Join-F.Inner a b.0))) (join_step (layers.Join-F.Inner a (d_cond b.0))) (join_roll typing (steps C) (layers.Join-F.Inner a b.0)) (join_roll typing (steps D) (layers.Join-F.Inner a b.0)) (node.join_inner C D g a (c_cond b.0) (d_cond b.0) (b.1 k))
  join_good (layers.Join-F.Left a b) = λ h. let k : (u_cond b.0) ≡ true = sym (join_roll testing qualified_steps (layers.Join-F.Left a b.0)) ∙ h in along l.KeepJoins (c_join (roll-Join (layers.Join-F.Left a b.0))) (join_step (layers.Join-F.Left a (c_cond b.0))) (d_join (roll-Join (layers.Join-F.Left a b.0))) (join_step (layers.Join-F.Left a (d_cond b.0))) (join_roll typing (steps C) (layers.Join-F.Left a b.0)) (join_roll typing (steps D) (layers.Join-F.Left a b.0)) (node.join_left C D g a (c_cond b.0) (d_cond b.0) (b.1 k))
  join_good (layers.Join-F.Cross a) = λ h. along l.KeepJoins (c_join (roll-Join (layers.Join-F.Cross a))) (join_step (layers.Join-F.Cross a)) (d_join (roll-Join (layers.Join-F.Cross a))) (join_step (layers.Join-F.Cross a)) (join_roll typing (steps C) (layers.Join-F.Cross a)) (join_roll typing (steps D) (layers.Join-F.Cross a)) (node.join_cross C D g a)

  arm_good : (y : Goods layers.Arm-F) → GoodArm (roll-Arm (down_arm y))
  arm_good y = λ h. let k : (u_cond y.when.0 && (u_expr y.result.0)) ≡ true = sym (arm_roll testing qualified_steps (record { when = y.when.0; result = y.result.0 })) ∙ h in along l.KeepArms (c_arm (roll-Arm (record { when = y.when.0; result = y.result.0 }))) (arm_step (record { when = (c_cond y.when.0); result = (c_expr y.result.0) })) (d_arm (roll-Arm (record { when = y.when.0; result = y.result.0 }))) (arm_step (record { when = (d_cond y.when.0); result = (d_expr y.result.0) })) (arm_roll typing (steps C) (record { when = y.when.0; result = y.result.0 })) (arm_roll typing (steps D) (record { when = y.when.0; result = y.result.0 })) (((y.when.1 (split (u_cond y.when.0) (u_expr y.result.0) k).0), (y.result.1 (split (u_cond y.when.0) (u_expr y.result.0) k).1)))

  chain_good : (y : Goods layers.Chain-F) → GoodChain (roll-Chain (down_chain y))
  chain_good y = λ h. let k : (all_of_them (map u_join (map (λ z. z.0) y.joins))) ≡ true = sym (chain_roll testing qualified_steps (record { first = y.first; joins = (map (λ z. z.0) y.joins) })) ∙ h in along l.KeepChains (c_chain (roll-Chain (record { first = y.first; joins = (map (λ z. z.0) y.joins) }))) (chain_step (record { first = y.first; joins = (map c_join (map (λ z. z.0) y.joins)) })) (d_chain (roll-Chain (record { first = y.first; joins = (map (λ z. z.0) y.joins) }))) (chain_step (record { first = y.first; joins = (map d_join (map (λ z. z.0) y.joins)) })) (chain_roll typing (steps C) (record { first = y.first; joins = (map (λ z. z.0) y.joins) })) (chain_roll typing (steps D) (record { first = y.first; joins = (map (λ z. z.0) y.joins) })) (λ P hs p j all n. l.joins_all (map c_join (map (λ z. z.0) y.joins)) (map d_join (map (λ z. z.0) y.joins)) (each l.KeepJoins c_join d_join u_join y.joins k) P hs p j all (y.first ∷ []) n)

  choice_good : (y : Goods layers.Choice-F) → GoodChoice (roll-Choice (down_choice y))
  choice_good y = λ h. let k : (u_expr y.when.0 && (u_expr y.result.0)) ≡ true = sym (choice_roll testing qualified_steps (record { when = y.when.0; result = y.result.0 })) ∙ h in along l.KeepChoices (c_choice (roll-Choice (record { when = y.when.0; result = y.result.0 }))) (choice_step (record { when = (c_expr y.when.0); result = (c_expr y.result.0) })) (d_choice (roll-Choice (record { when = y.when.0; result = y.result.0 }))) (choice_step (record { when = (d_expr y.when.0); result = (d_expr y.result.0) })) (choice_roll typing (steps C) (record { when = y.when.0; result = y.result.0 })) (choice_roll typing (steps D) (record { when = y.when.0; result = y.result.0 })) (((y.when.1 (split (u_expr y.when.0) (u_expr y.result.0) k).0), (y.result.1 (split (u_expr y.when.0) (u_expr y.result.0) k).1)))

  query_good : (distinct : Bool) (items : List WithItem) (from : List WithChain) (filter : Option WithCond) (group : List Column) (having : Option WithCond)
      → GoodQuery (roll-Query (down_query (record { distinct = distinct; items = items; from = from; filter = filter; group = group; having = having })))
  query_good distinct items from None group None = λ h. let k : (all_of_them (map u_item (map (λ z. z.0) items)) && (all_of_them (map u_chain (map (λ z. z.0) from)) && (true && (list_all has_correlation group && (true))))) ≡ true = sym (query_roll testing qualified_steps (record { distinct = distinct; items = (map (λ z. z.0) items); from = (map (λ z. z.0) from); filter = None; group = group; having = None })) ∙ h in along l.KeepAnswers (c_query (roll-Query (record { distinct = distinct; items = (map (λ z. z.0) items); from = (map (λ z. z.0) from); filter = None; group = group; having = None }))) (query_step C (record { distinct = distinct; items = (map c_item (map (λ z. z.0) items)); from = (map c_chain (map (λ z. z.0) from)); filter = None; group = group; having = None })) (d_query (roll-Query (record { distinct = distinct; items = (map (λ z. z.0) items); from = (map (λ z. z.0) from); filter = None; group = group; having = None }))) (query_step D (record { distinct = distinct; items = (map d_item (map (λ z. z.0) items)); from = (map d_chain (map (λ z. z.0) from)); filter = None; group = group; having = None })) (query_roll typing (steps C) (record { distinct = distinct; items = (map (λ z. z.0) items); from = (map (λ z. z.0) from); filter = None; group = group; having = None })) (query_roll typing (steps D) (record { distinct = distinct; items = (map (λ z. z.0) items); from = (map (λ z. z.0) from); filter = None; group = group; having = None })) (node.query_keep C D g distinct group (split (list_all has_correlation group) (true) (split (true) (list_all has_correlation group && (true)) (split (all_of_them (map u_chain (map (λ z. z.0) from))) (true && (list_all has_correlation group && (true))) (split (all_of_them (map u_item (map (λ z. z.0) items))) (all_of_them (map u_chain (map (λ z. z.0) from)) && (true && (list_all has_correlation group && (true)))) k).1).1).1).0 (map c_item (map (λ z. z.0) items)) (map d_item (map (λ z. z.0) items)) (each l.KeepShows c_item d_item u_item items (split (all_of_them (map u_item (map (λ z. z.0) items))) (all_of_them (map u_chain (map (λ z. z.0) from)) && (true && (list_all has_correlation group && (true)))) k).0) (map c_chain (map (λ z. z.0) from)) (map d_chain (map (λ z. z.0) from)) (each l.KeepChains c_chain d_chain u_chain from (split (all_of_them (map u_chain (map (λ z. z.0) from))) (true && (list_all has_correlation group && (true))) (split (all_of_them (map u_item (map (λ z. z.0) items))) (all_of_them (map u_chain (map (λ z. z.0) from)) && (true && (list_all has_correlation group && (true)))) k).1).0) None None tt None None tt (tables_path (map (λ z. z.0) from)))
  query_good distinct items from None group (Some having) = λ h. let k : (all_of_them (map u_item (map (λ z. z.0) items)) && (all_of_them (map u_chain (map (λ z. z.0) from)) && (true && (list_all has_correlation group && (u_cond having.0))))) ≡ true = sym (query_roll testing qualified_steps (record { distinct = distinct; items = (map (λ z. z.0) items); from = (map (λ z. z.0) from); filter = None; group = group; having = (Some having.0) })) ∙ h in along l.KeepAnswers (c_query (roll-Query (record { distinct = distinct; items = (map (λ z. z.0) items); from = (map (λ z. z.0) from); filter = None; group = group; having = (Some having.0) }))) (query_step C (record { distinct = distinct; items = (map c_item (map (λ z. z.0) items)); from = (map c_chain (map (λ z. z.0) from)); filter = None; group = group; having = (Some (c_cond having.0)) })) (d_query (roll-Query (record { distinct = distinct; items = (map (λ z. z.0) items); from = (map (λ z. z.0) from); filter = None; group = group; having = (Some having.0) }))) (query_step D (record { distinct = distinct; items = (map d_item (map (λ z. z.0) items)); from = (map d_chain (map (λ z. z.0) from)); filter = None; group = group; having = (Some (d_cond having.0)) })) (query_roll typing (steps C) (record { distinct = distinct; items = (map (λ z. z.0) items); from = (map (λ z. z.0) from); filter = None; group = group; having = (Some having.0) })) (query_roll typing (steps D) (record { distinct = distinct; items = (map (λ z. z.0) items); from = (map (λ z. z.0) from); filter = None; group = group; having = (Some having.0) })) (node.query_keep C D g distinct group (split (list_all has_correlation group) (u_cond having.0) (split (true) (list_all has_correlation group && (u_cond having.0)) (split (all_of_them (map u_chain (map (λ z. z.0) from))) (true && (list_all has_correlation group && (u_cond having.0))) (split (all_of_them (map u_item (map (λ z. z.0) items))) (all_of_them (map u_chain (map (λ z. z.0) from)) && (true && (list_all has_correlation group && (u_cond having.0)))) k).1).1).1).0 (map c_item (map (λ z. z.0) items)) (map d_item (map (λ z. z.0) items)) (each l.KeepShows c_item d_item u_item items (split (all_of_them (map u_item (map (λ z. z.0) items))) (all_of_them (map u_chain (map (λ z. z.0) from)) && (true && (list_all has_correlation group && (u_cond having.0)))) k).0) (map c_chain (map (λ z. z.0) from)) (map d_chain (map (λ z. z.0) from)) (each l.KeepChains c_chain d_chain u_chain from (split (all_of_them (map u_chain (map (λ z. z.0) from))) (true && (list_all has_correlation group && (u_cond having.0))) (split (all_of_them (map u_item (map (λ z. z.0) items))) (all_of_them (map u_chain (map (λ z. z.0) from)) && (true && (list_all has_correlation group && (u_cond having.0)))) k).1).0) None None tt (Some (c_cond having.0)) (Some (d_cond having.0)) (having.1 (split (list_all has_correlation group) (u_cond having.0) (split (true) (list_all has_correlation group && (u_cond having.0)) (split (all_of_them (map u_chain (map (λ z. z.0) from))) (true && (list_all has_correlation group && (u_cond having.0))) (split (all_of_them (map u_item (map (λ z. z.0) items))) (all_of_them (map u_chain (map (λ z. z.0) from)) && (true && (list_all has_correlation group && (u_cond having.0)))) k).1).1).1).1) (tables_path (map (λ z. z.0) from)))
  query_good distinct items from (Some filter) group None = λ h. let k : (all_of_them (map u_item (map (λ z. z.0) items)) && (all_of_them (map u_chain (map (λ z. z.0) from)) && (u_cond filter.0 && (list_all has_correlation group && (true))))) ≡ true = sym (query_roll testing qualified_steps (record { distinct = distinct; items = (map (λ z. z.0) items); from = (map (λ z. z.0) from); filter = (Some filter.0); group = group; having = None })) ∙ h in along l.KeepAnswers (c_query (roll-Query (record { distinct = distinct; items = (map (λ z. z.0) items); from = (map (λ z. z.0) from); filter = (Some filter.0); group = group; having = None }))) (query_step C (record { distinct = distinct; items = (map c_item (map (λ z. z.0) items)); from = (map c_chain (map (λ z. z.0) from)); filter = (Some (c_cond filter.0)); group = group; having = None })) (d_query (roll-Query (record { distinct = distinct; items = (map (λ z. z.0) items); from = (map (λ z. z.0) from); filter = (Some filter.0); group = group; having = None }))) (query_step D (record { distinct = distinct; items = (map d_item (map (λ z. z.0) items)); from = (map d_chain (map (λ z. z.0) from)); filter = (Some (d_cond filter.0)); group = group; having = None })) (query_roll typing (steps C) (record { distinct = distinct; items = (map (λ z. z.0) items); from = (map (λ z. z.0) from); filter = (Some filter.0); group = group; having = None })) (query_roll typing (steps D) (record { distinct = distinct; items = (map (λ z. z.0) items); from = (map (λ z. z.0) from); filter = (Some filter.0); group = group; having = None })) (node.query_keep C D g distinct group (split (list_all has_correlation group) (true) (split (u_cond filter.0) (list_all has_correlation group && (true)) (split (all_of_them (map u_chain (map (λ z. z.0) from))) (u_cond filter.0 && (list_all has_correlation group && (true))) (split (all_of_them (map u_item (map (λ z. z.0) items))) (all_of_them (map u_chain (map (λ z. z.0) from)) && (u_cond filter.0 && (list_all has_correlation group && (true)))) k).1).1).1).0 (map c_item (map (λ z. z.0) items)) (map d_item (map (λ z. z.0) items)) (each l.KeepShows c_item d_item u_item items (split (all_of_them (map u_item (map (λ z. z.0) items))) (all_of_them (map u_chain (map (λ z. z.0) from)) && (u_cond filter.0 && (list_all has_correlation group && (true)))) k).0) (map c_chain (map (λ z. z.0) from)) (map d_chain (map (λ z. z.0) from)) (each l.KeepChains c_chain d_chain u_chain from (split (all_of_them (map u_chain (map (λ z. z.0) from))) (u_cond filter.0 && (list_all has_correlation group && (true))) (split (all_of_them (map u_item (map (λ z. z.0) items))) (all_of_them (map u_chain (map (λ z. z.0) from)) && (u_cond filter.0 && (list_all has_correlation group && (true)))) k).1).0) (Some (c_cond filter.0)) (Some (d_cond filter.0)) (filter.1 (split (u_cond filter.0) (list_all has_correlation group && (true)) (split (all_of_them (map u_chain (map (λ z. z.0) from))) (u_cond filter.0 && (list_all has_correlation group && (true))) (split (all_of_them (map u_item (map (λ z. z.0) items))) (all_of_them (map u_chain (map (λ z. z.0) from)) && (u_cond filter.0 && (list_all has_correlation group && (true)))) k).1).1).0) None None tt (tables_path (map (λ z. z.0) from)))
  query_good distinct items from (Some filter) group (Some having) = λ h. let k : (all_of_them (map u_item (map (λ z. z.0) items)) && (all_of_them (map u_chain (map (λ z. z.0) from)) && (u_cond filter.0 && (list_all has_correlation group && (u_cond having.0))))) ≡ true = sym (query_roll testing qualified_steps (record { distinct = distinct; items = (map (λ z. z.0) items); from = (map (λ z. z.0) from); filter = (Some filter.0); group = group; having = (Some having.0) })) ∙ h in along l.KeepAnswers (c_query (roll-Query (record { distinct = distinct; items = (map (λ z. z.0) items); from = (map (λ z. z.0) from); filter = (Some filter.0); group = group; having = (Some having.0) }))) (query_step C (record { distinct = distinct; items = (map c_item (map (λ z. z.0) items)); from = (map c_chain (map (λ z. z.0) from)); filter = (Some (c_cond filter.0)); group = group; having = (Some (c_cond having.0)) })) (d_query (roll-Query (record { distinct = distinct; items = (map (λ z. z.0) items); from = (map (λ z. z.0) from); filter = (Some filter.0); group = group; having = (Some having.0) }))) (query_step D (record { distinct = distinct; items = (map d_item (map (λ z. z.0) items)); from = (map d_chain (map (λ z. z.0) from)); filter = (Some (d_cond filter.0)); group = group; having = (Some (d_cond having.0)) })) (query_roll typing (steps C) (record { distinct = distinct; items = (map (λ z. z.0) items); from = (map (λ z. z.0) from); filter = (Some filter.0); group = group; having = (Some having.0) })) (query_roll typing (steps D) (record { distinct = distinct; items = (map (λ z. z.0) items); from = (map (λ z. z.0) from); filter = (Some filter.0); group = group; having = (Some having.0) })) (node.query_keep C D g distinct group (split (list_all has_correlation group) (u_cond having.0) (split (u_cond filter.0) (list_all has_correlation group && (u_cond having.0)) (split (all_of_them (map u_chain (map (λ z. z.0) from))) (u_cond filter.0 && (list_all has_correlation group && (u_cond having.0))) (split (all_of_them (map u_item (map (λ z. z.0) items))) (all_of_them (map u_chain (map (λ z. z.0) from)) && (u_cond filter.0 && (list_all has_correlation group && (u_cond having.0)))) k).1).1).1).0 (map c_item (map (λ z. z.0) items)) (map d_item (map (λ z. z.0) items)) (each l.KeepShows c_item d_item u_item items (split (all_of_them (map u_item (map (λ z. z.0) items))) (all_of_them (map u_chain (map (λ z. z.0) from)) && (u_cond filter.0 && (list_all has_correlation group && (u_cond having.0)))) k).0) (map c_chain (map (λ z. z.0) from)) (map d_chain (map (λ z. z.0) from)) (each l.KeepChains c_chain d_chain u_chain from (split (all_of_them (map u_chain (map (λ z. z.0) from))) (u_cond filter.0 && (list_all has_correlation group && (u_cond having.0))) (split (all_of_them (map u_item (map (λ z. z.0) items))) (all_of_them (map u_chain (map (λ z. z.0) from)) && (u_cond filter.0 && (list_all has_correlation group && (u_cond having.0)))) k).1).0) (Some (c_cond filter.0)) (Some (d_cond filter.0)) (filter.1 (split (u_cond filter.0) (list_all has_correlation group && (u_cond having.0)) (split (all_of_them (map u_chain (map (λ z. z.0) from))) (u_cond filter.0 && (list_all has_correlation group && (u_cond having.0))) (split (all_of_them (map u_item (map (λ z. z.0) items))) (all_of_them (map u_chain (map (λ z. z.0) from)) && (u_cond filter.0 && (list_all has_correlation group && (u_cond having.0)))) k).1).1).0) (Some (c_cond having.0)) (Some (d_cond having.0)) (having.1 (split (list_all has_correlation group) (u_cond having.0) (split (u_cond filter.0) (list_all has_correlation group && (u_cond having.0)) (split (all_of_them (map u_chain (map (λ z. z.0) from))) (u_cond filter.0 && (list_all has_correlation group && (u_cond having.0))) (split (all_of_them (map u_item (map (λ z. z.0) items))) (all_of_them (map u_chain (map (λ z. z.0) from)) && (u_cond filter.0 && (list_all has_correlation group && (u_cond having.0)))) k).1).1).1).1) (tables_path (map (λ z. z.0) from)))

  signed_good : (y : Goods layers.Signed-F) → GoodSigned (roll-Signed (down_signed y))
  signed_good y = λ h. let k : (u_expr y.part.0) ≡ true = sym (signed_roll testing qualified_steps (record { minus = y.minus; part = y.part.0 })) ∙ h in along l.KeepMeans (c_signed (roll-Signed (record { minus = y.minus; part = y.part.0 }))) (signed_step (record { minus = y.minus; part = (c_expr y.part.0) })) (d_signed (roll-Signed (record { minus = y.minus; part = y.part.0 }))) (signed_step (record { minus = y.minus; part = (d_expr y.part.0) })) (signed_roll typing (steps C) (record { minus = y.minus; part = y.part.0 })) (signed_roll typing (steps D) (record { minus = y.minus; part = y.part.0 })) ((y.part.1 k))

  pub grown_cond : (x : Cond) → GoodCond x
  grown_cond = ind-Cond GoodCond GoodExpr GoodItem GoodJoin GoodArm GoodChain GoodChoice GoodQuery GoodSigned (λ x y is. subst (λ z. GoodCond (roll-Cond z)) is (cond_good y)) (λ x y is. subst (λ z. GoodExpr (roll-Expr z)) is (expr_good y)) (λ x y is. subst (λ z. GoodItem (roll-Item z)) is (item_good y)) (λ x y is. subst (λ z. GoodJoin (roll-Join z)) is (join_good y)) (λ x y is. subst (λ z. GoodArm (roll-Arm z)) is (arm_good y)) (λ x y is. subst (λ z. GoodChain (roll-Chain z)) is (chain_good y)) (λ x y is. subst (λ z. GoodChoice (roll-Choice z)) is (choice_good y)) (λ x y is. subst (λ z. GoodQuery (roll-Query z)) is (query_good y.distinct y.items y.from y.filter y.group y.having)) (λ x y is. subst (λ z. GoodSigned (roll-Signed z)) is (signed_good y))

  pub grown_expr : (x : Expr) → GoodExpr x
  grown_expr = ind-Expr GoodCond GoodExpr GoodItem GoodJoin GoodArm GoodChain GoodChoice GoodQuery GoodSigned (λ x y is. subst (λ z. GoodCond (roll-Cond z)) is (cond_good y)) (λ x y is. subst (λ z. GoodExpr (roll-Expr z)) is (expr_good y)) (λ x y is. subst (λ z. GoodItem (roll-Item z)) is (item_good y)) (λ x y is. subst (λ z. GoodJoin (roll-Join z)) is (join_good y)) (λ x y is. subst (λ z. GoodArm (roll-Arm z)) is (arm_good y)) (λ x y is. subst (λ z. GoodChain (roll-Chain z)) is (chain_good y)) (λ x y is. subst (λ z. GoodChoice (roll-Choice z)) is (choice_good y)) (λ x y is. subst (λ z. GoodQuery (roll-Query z)) is (query_good y.distinct y.items y.from y.filter y.group y.having)) (λ x y is. subst (λ z. GoodSigned (roll-Signed z)) is (signed_good y))

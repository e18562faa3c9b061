-- A tree's qualified form has the DATE literals of the tree. tools/names-inductions writes this file.
use Rattle.std.proofs.Common.{◌≡◌, refl, ap, sym, subst, ◌∙◌, List, [], ◌∷◌, ◌++◌, Bool, Option, Some, None, map}
use Rattle.lb_tree.specs.declared.query.Cond.{Cond}
use Rattle.lb_tree.specs.declared.query.Expr.{Expr}
use Rattle.lb_tree.specs.declared.query.Item.{Item}
use Rattle.lb_tree.specs.declared.query.Join.{Join}
use Rattle.lb_tree.specs.declared.query.Arm.{Arm}
use Rattle.lb_tree.specs.declared.query.Chain.{Chain}
use Rattle.lb_tree.specs.declared.query.Choice.{Choice}
use Rattle.lb_tree.specs.declared.query.Query.{Query}
use Rattle.lb_tree.specs.declared.query.Signed.{Signed}
use Rattle.lb_tree.specs.declared.query.Atom.{Atom}
use Rattle.lb_tree.specs.declared.query.Atom.TheVariants as atoms
use Rattle.lb_tree.specs.declared.query.Column.{Column}
use Rattle.lb_tree.specs.declared.query.Tab.{Tab}
use Rattle.lb_tree.specs.declared.query.Cond.TheOpen as layers
use Rattle.lb_tree.specs.declared.query.Cond.TheViews.{roll-Cond, roll-Expr, roll-Item, roll-Join, roll-Arm, roll-Chain, roll-Choice, roll-Query, roll-Signed}
use Rattle.lb_tree.specs.declared.query.Cond.TheFolds.{map-Cond, map-Expr, map-Item, map-Join, map-Arm, map-Chain, map-Choice, map-Query, map-Signed, ind-Cond, ind-Expr}
use Rattle.lb_tree.specs.Folds.{Written, cond_of, expr_of, item_of, join_of, arm_of, chain_of, choice_of, query_of, signed_of}
use Rattle.lb_tree.proofs.Opens.{cond_roll, expr_roll, item_roll, join_roll, arm_roll, chain_roll, choice_roll, query_roll, signed_roll}
use Rattle.lb_names.specs.declared.place.Seen.{Seen}
use Rattle.lb_names.specs.Sights.{items_in}
use Rattle.lb_names.specs.Scopes.{Catalogue}
use Rattle.lb_names.specs.Qualify.{with_item, atom_in, In, JoinIn, ChainIn, qualifying, qualify_steps, all_at, joins_in, seen_in}
use Rattle.lb_kinds.specs.Days.{Days, all_of, in_atom, writing, day_steps}

abbrev pub d_cond : Cond → Days
d_cond = cond_of writing day_steps

abbrev pub d_expr : Expr → Days
d_expr = expr_of writing day_steps

abbrev pub d_item : Item → Days
d_item = item_of writing day_steps

abbrev pub d_join : Join → Days
d_join = join_of writing day_steps

abbrev pub d_arm : Arm → Days
d_arm = arm_of writing day_steps

abbrev pub d_chain : Chain → Days
d_chain = chain_of writing day_steps

abbrev pub d_choice : Choice → Days
d_choice = choice_of writing day_steps

abbrev pub d_query : Query → Days
d_query = query_of writing day_steps

abbrev pub d_signed : Signed → Days
d_signed = signed_of writing day_steps

module _ (C : Catalogue) where
  abbrev c_cond : Cond → In Cond
  c_cond = cond_of qualifying (qualify_steps C)

  abbrev c_expr : Expr → In Expr
  c_expr = expr_of qualifying (qualify_steps C)

  abbrev c_item : Item → In Item
  c_item = item_of qualifying (qualify_steps C)

  abbrev c_join : Join → JoinIn
  c_join = join_of qualifying (qualify_steps C)

  abbrev c_arm : Arm → In Arm
  c_arm = arm_of qualifying (qualify_steps C)

  abbrev c_chain : Chain → ChainIn
  c_chain = chain_of qualifying (qualify_steps C)

  abbrev c_choice : Choice → In Choice
  c_choice = choice_of qualifying (qualify_steps C)

  abbrev c_query : Query → In Query
  c_query = query_of qualifying (qualify_steps C)

  abbrev c_signed : Signed → In Signed
  c_signed = signed_of qualifying (qualify_steps C)

  each : {X : Type 0} (F : X → In X) (g : X → Days) (xs : List ((x : X) × ((seen : List Seen) → g ((F x).at seen) ≡ g x))) (seen : List Seen) → map g (all_at seen (map F (map (λ z. z.0) xs))) ≡ map g (map (λ z. z.0) xs)
  each F g [] seen = refl
  each F g (x ∷ xs) seen = λ i. x.1 seen i ∷ each F g xs seen i

  atom_kept : (a : Atom) (seen : List Seen) → in_atom (atom_in C seen a) ≡ in_atom a
  atom_kept atoms.Null seen = refl
  atom_kept (atoms.Int p) seen = refl
  atom_kept (atoms.Text p) seen = refl
  atom_kept (atoms.Date p) seen = refl
  atom_kept atoms.CurrentDate seen = refl
  atom_kept atoms.SessionUser seen = refl
  atom_kept (atoms.Column p) seen = refl
  atom_kept atoms.CountRows seen = refl
  atom_kept (atoms.VerifyRole p) seen = refl
  atom_kept (atoms.VerifyGroup p) seen = refl
  atom_kept (atoms.SecLabel p q) seen = refl
  atom_kept (atoms.SecLabelByName p q) seen = refl
  atom_kept (atoms.SecLabelToChar p q) seen = refl

  abbrev GoodCond : Cond → Type 0
  GoodCond x = (seen : List Seen) → d_cond ((c_cond x).at seen) ≡ d_cond x

  abbrev WithCond : Type 0
  WithCond = (x : Cond) × GoodCond x

  abbrev GoodExpr : Expr → Type 0
  GoodExpr x = (seen : List Seen) → d_expr ((c_expr x).at seen) ≡ d_expr x

  abbrev WithExpr : Type 0
  WithExpr = (x : Expr) × GoodExpr x

  abbrev GoodItem : Item → Type 0
  GoodItem x = (seen : List Seen) → d_item ((c_item x).at seen) ≡ d_item x

  abbrev WithItem : Type 0
  WithItem = (x : Item) × GoodItem x

  abbrev GoodJoin : Join → Type 0
  GoodJoin x = (seen : List Seen) → d_join ((c_join x).join seen) ≡ d_join x

  abbrev WithJoin : Type 0
  WithJoin = (x : Join) × GoodJoin x

  abbrev GoodArm : Arm → Type 0
  GoodArm x = (seen : List Seen) → d_arm ((c_arm x).at seen) ≡ d_arm x

  abbrev WithArm : Type 0
  WithArm = (x : Arm) × GoodArm x

  abbrev GoodChain : Chain → Type 0
  GoodChain x = (seen : List Seen) → d_chain ((c_chain x).chain seen) ≡ d_chain x

  abbrev WithChain : Type 0
  WithChain = (x : Chain) × GoodChain x

  abbrev GoodChoice : Choice → Type 0
  GoodChoice x = (seen : List Seen) → d_choice ((c_choice x).at seen) ≡ d_choice x

  abbrev WithChoice : Type 0
  WithChoice = (x : Choice) × GoodChoice x

  abbrev GoodQuery : Query → Type 0
  GoodQuery x = (seen : List Seen) → d_query ((c_query x).at seen) ≡ d_query x

  abbrev WithQuery : Type 0
  WithQuery = (x : Query) × GoodQuery x

  abbrev GoodSigned : Signed → Type 0
  GoodSigned x = (seen : List Seen) → d_signed ((c_signed x).at seen) ≡ d_signed x

  abbrev WithSigned : Type 0
  WithSigned = (x : Signed) × GoodSigned x

  -- a layer whose parts have their facts
  abbrev Goods : (Type 0 → Type 0 → Type 0 → Type 0 → Type 0 → Type 0 → Type 0 → Type 0 → Type 0 → Type 0) → Type 0
  Goods F = F WithCond WithExpr WithItem WithJoin WithArm WithChain WithChoice WithQuery WithSigned

  abbrev down_cond : Goods layers.Cond-F → Written layers.Cond-F
  down_cond = map-Cond WithCond WithExpr WithItem WithJoin WithArm WithChain WithChoice WithQuery WithSigned Cond Expr Item Join Arm Chain Choice Query Signed (λ z. z.0) (λ z. z.0) (λ z. z.0) (λ z. z.0) (λ z. z.0) (λ z. z.0) (λ z. z.0) (λ z. z.0) (λ z. z.0)

  abbrev down_expr : Goods layers.Expr-F → Written layers.Expr-F
  down_expr = map-Expr WithCond WithExpr WithItem WithJoin WithArm WithChain WithChoice WithQuery WithSigned Cond Expr Item Join Arm Chain Choice Query Signed (λ z. z.0) (λ z. z.0) (λ z. z.0) (λ z. z.0) (λ z. z.0) (λ z. z.0) (λ z. z.0) (λ z. z.0) (λ z. z.0)

  abbrev down_item : Goods layers.Item-F → Written layers.Item-F
  down_item = map-Item WithCond WithExpr WithItem WithJoin WithArm WithChain WithChoice WithQuery WithSigned Cond Expr Item Join Arm Chain Choice Query Signed (λ z. z.0) (λ z. z.0) (λ z. z.0) (λ z. z.0) (λ z. z.0) (λ z. z.0) (λ z. z.0) (λ z. z.0) (λ z. z.0)

  abbrev down_join : Goods layers.Join-F → Written layers.Join-F
  down_join = map-Join WithCond WithExpr WithItem WithJoin WithArm WithChain WithChoice WithQuery WithSigned Cond Expr Item Join Arm Chain Choice Query Signed (λ z. z.0) (λ z. z.0) (λ z. z.0) (λ z. z.0) (λ z. z.0) (λ z. z.0) (λ z. z.0) (λ z. z.0) (λ z. z.0)

  abbrev down_arm : Goods layers.Arm-F → Written layers.Arm-F
  down_arm = map-Arm WithCond WithExpr WithItem WithJoin WithArm WithChain WithChoice WithQuery WithSigned Cond Expr Item Join Arm Chain Choice Query Signed (λ z. z.0) (λ z. z.0) (λ z. z.0) (λ z. z.0) (λ z. z.0) (λ z. z.0) (λ z. z.0) (λ z. z.0) (λ z. z.0)

  abbrev down_chain : Goods layers.Chain-F → Written layers.Chain-F
  down_chain = map-Chain WithCond WithExpr WithItem WithJoin WithArm WithChain WithChoice WithQuery WithSigned Cond Expr Item Join Arm Chain Choice Query Signed (λ z. z.0) (λ z. z.0) (λ z. z.0) (λ z. z.0) (λ z. z.0) (λ z. z.0) (λ z. z.0) (λ z. z.0) (λ z. z.0)

  abbrev down_choice : Goods layers.Choice-F → Written layers.Choice-F
  down_choice = map-Choice WithCond WithExpr WithItem WithJoin WithArm WithChain WithChoice WithQuery WithSigned Cond Expr Item Join Arm Chain Choice Query Signed (λ z. z.0) (λ z. z.0) (λ z. z.0) (λ z. z.0) (λ z. z.0) (λ z. z.0) (λ z. z.0) (λ z. z.0) (λ z. z.0)

  abbrev down_query : Goods layers.Query-F → Written layers.Query-F
  down_query = map-Query WithCond WithExpr WithItem WithJoin WithArm WithChain WithChoice WithQuery WithSigned Cond Expr Item Join Arm Chain Choice Query Signed (λ z. z.0) (λ z. z.0) (λ z. z.0) (λ z. z.0) (λ z. z.0) (λ z. z.0) (λ z. z.0) (λ z. z.0) (λ z. z.0)

  abbrev down_signed : Goods layers.Signed-F → Written layers.Signed-F
  down_signed = map-Signed WithCond WithExpr WithItem WithJoin WithArm WithChain WithChoice WithQuery WithSigned Cond Expr Item Join Arm Chain Choice Query Signed (λ z. z.0) (λ z. z.0) (λ z. z.0) (λ z. z.0) (λ z. z.0) (λ z. z.0) (λ z. z.0) (λ z. z.0) (λ z. z.0)

  joins_kept : (js : List WithJoin) (tabs : List Tab) (seen : List Seen) → map d_join (joins_in tabs (map c_join (map (λ z. z.0) js)) seen) ≡ map d_join (map (λ z. z.0) js)
  joins_kept [] tabs seen = refl
  joins_kept (j ∷ js) tabs seen = λ i. j.1 (items_in seen (tabs ++ (c_join j.0).tab ∷ []) ++ seen) i ∷ joins_kept js (tabs ++ (c_join j.0).tab ∷ []) seen i

  chains_kept : (cs : List WithChain) (seen : List Seen) → map d_chain (map (λ c. c.chain seen) (map c_chain (map (λ z. z.0) cs))) ≡ map d_chain (map (λ z. z.0) cs)
  chains_kept [] seen = refl
  chains_kept (c ∷ cs) seen = λ i. c.1 seen i ∷ chains_kept cs seen i

  cond_good : (y : Goods layers.Cond-F) → GoodCond (roll-Cond (down_cond y))
  cond_good (layers.Cond-F.Or a) = λ seen. ap (λ z. d_cond (z.at seen)) (cond_roll qualifying (qualify_steps C) (layers.Cond-F.Or (map (λ z. z.0) a))) ∙ cond_roll writing day_steps (layers.Cond-F.Or (all_at seen (map c_cond (map (λ z. z.0) a)))) ∙ (λ i. day_steps.cond (layers.Cond-F.Or (each c_cond d_cond a seen i))) ∙ sym (cond_roll writing day_steps (layers.Cond-F.Or (map (λ z. z.0) a)))
  cond_good (layers.Cond-F.And a) = λ seen. ap (λ z. d_cond (z.at seen)) (cond_roll qualifying (qualify_steps C) (layers.Cond-F.And (map (λ z. z.0) a))) ∙ cond_roll writing day_steps (layers.Cond-F.And (all_at seen (map c_cond (map (λ z. z.0) a)))) ∙ (λ i. day_steps.cond (layers.Cond-F.And (each c_cond d_cond a seen i))) ∙ sym (cond_roll writing day_steps (layers.Cond-F.And (map (λ z. z.0) a)))
  cond_good (layers.Cond-F.Not a) = λ seen. ap (λ z. d_cond (z.at seen)) (cond_roll qualifying (qualify_steps C) (layers.Cond-F.Not a.0)) ∙ cond_roll writing day_steps (layers.Cond-F.Not ((c_cond a.0).at seen)) ∙ (λ i. day_steps.cond (layers.Cond-F.Not (a.1 seen i))) ∙ sym (cond_roll writing day_steps (layers.Cond-F.Not a.0))
  cond_good (layers.Cond-F.Exists a) = λ seen. ap (λ z. d_cond (z.at seen)) (cond_roll qualifying (qualify_steps C) (layers.Cond-F.Exists a.0)) ∙ cond_roll writing day_steps (layers.Cond-F.Exists ((c_query a.0).at seen)) ∙ (λ i. day_steps.cond (layers.Cond-F.Exists (a.1 seen i))) ∙ sym (cond_roll writing day_steps (layers.Cond-F.Exists a.0))
  cond_good (layers.Cond-F.Compare a b c) = λ seen. ap (λ z. d_cond (z.at seen)) (cond_roll qualifying (qualify_steps C) (layers.Cond-F.Compare a b.0 c.0)) ∙ cond_roll writing day_steps (layers.Cond-F.Compare a ((c_expr b.0).at seen) ((c_expr c.0).at seen)) ∙ (λ i. day_steps.cond (layers.Cond-F.Compare a (b.1 seen i) (c.1 seen i))) ∙ sym (cond_roll writing day_steps (layers.Cond-F.Compare a b.0 c.0))
  cond_good (layers.Cond-F.CompareQuery a b c) = λ seen. ap (λ z. d_cond (z.at seen)) (cond_roll qualifying (qualify_steps C) (layers.Cond-F.CompareQuery a b.0 c.0)) ∙ cond_roll writing day_steps (layers.Cond-F.CompareQuery a ((c_expr b.0).at seen) ((c_query c.0).at seen)) ∙ (λ i. day_steps.cond (layers.Cond-F.CompareQuery a (b.1 seen i) (c.1 seen i))) ∙ sym (cond_roll writing day_steps (layers.Cond-F.CompareQuery a b.0 c.0))
  cond_good (layers.Cond-F.IsNull a) = λ seen. ap (λ z. d_cond (z.at seen)) (cond_roll qualifying (qualify_steps C) (layers.Cond-F.IsNull a.0)) ∙ cond_roll writing day_steps (layers.Cond-F.IsNull ((c_expr a.0).at seen)) ∙ (λ i. day_steps.cond (layers.Cond-F.IsNull (a.1 seen i))) ∙ sym (cond_roll writing day_steps (layers.Cond-F.IsNull a.0))
  cond_good (layers.Cond-F.InQuery a b) = λ seen. ap (λ z. d_cond (z.at seen)) (cond_roll qualifying (qualify_steps C) (layers.Cond-F.InQuery a.0 b.0)) ∙ cond_roll writing day_steps (layers.Cond-F.InQuery ((c_expr a.0).at seen) ((c_query b.0).at seen)) ∙ (λ i. day_steps.cond (layers.Cond-F.InQuery (a.1 seen i) (b.1 seen i))) ∙ sym (cond_roll writing day_steps (layers.Cond-F.InQuery a.0 b.0))
  cond_good (layers.Cond-F.InList a b) = λ seen. ap (λ z. d_cond (z.at seen)) (cond_roll qualifying (qualify_steps C) (layers.Cond-F.InList a.0 (map (λ z. z.0) b))) ∙ cond_roll writing day_steps (layers.Cond-F.InList ((c_expr a.0).at seen) (all_at seen (map c_expr (map (λ z. z.0) b)))) ∙ (λ i. day_steps.cond (layers.Cond-F.InList (a.1 seen i) (each c_expr d_expr b seen i))) ∙ sym (cond_roll writing day_steps (layers.Cond-F.InList a.0 (map (λ z. z.0) b)))
  cond_good (layers.Cond-F.Between a b c) = λ seen. ap (λ z. d_cond (z.at seen)) (cond_roll qualifying (qualify_steps C) (layers.Cond-F.Between a.0 b.0 c.0)) ∙ cond_roll writing day_steps (layers.Cond-F.Between ((c_expr a.0).at seen) ((c_expr b.0).at seen) ((c_expr c.0).at seen)) ∙ (λ i. day_steps.cond (layers.Cond-F.Between (a.1 seen i) (b.1 seen i) (c.1 seen i))) ∙ sym (cond_roll writing day_steps (layers.Cond-F.Between a.0 b.0 c.0))

  expr_good : (y : Goods layers.Expr-F) → GoodExpr (roll-Expr (down_expr y))
  expr_good (layers.Expr-F.Atom a) = λ seen. ap (λ z. d_expr (z.at seen)) (expr_roll qualifying (qualify_steps C) (layers.Expr-F.Atom a)) ∙ expr_roll writing day_steps (layers.Expr-F.Atom (atom_in C seen a)) ∙ atom_kept a seen ∙ sym (expr_roll writing day_steps (layers.Expr-F.Atom a))
  expr_good (layers.Expr-F.Sum a) = λ seen. ap (λ z. d_expr (z.at seen)) (expr_roll qualifying (qualify_steps C) (layers.Expr-F.Sum (map (λ z. z.0) a))) ∙ expr_roll writing day_steps (layers.Expr-F.Sum (all_at seen (map c_signed (map (λ z. z.0) a)))) ∙ (λ i. day_steps.expr (layers.Expr-F.Sum (each c_signed d_signed a seen i))) ∙ sym (expr_roll writing day_steps (layers.Expr-F.Sum (map (λ z. z.0) a)))
  expr_good (layers.Expr-F.Concat a) = λ seen. ap (λ z. d_expr (z.at seen)) (expr_roll qualifying (qualify_steps C) (layers.Expr-F.Concat (map (λ z. z.0) a))) ∙ expr_roll writing day_steps (layers.Expr-F.Concat (all_at seen (map c_expr (map (λ z. z.0) a)))) ∙ (λ i. day_steps.expr (layers.Expr-F.Concat (each c_expr d_expr a seen i))) ∙ sym (expr_roll writing day_steps (layers.Expr-F.Concat (map (λ z. z.0) a)))
  expr_good (layers.Expr-F.Product a) = λ seen. ap (λ z. d_expr (z.at seen)) (expr_roll qualifying (qualify_steps C) (layers.Expr-F.Product (map (λ z. z.0) a))) ∙ expr_roll writing day_steps (layers.Expr-F.Product (all_at seen (map c_expr (map (λ z. z.0) a)))) ∙ (λ i. day_steps.expr (layers.Expr-F.Product (each c_expr d_expr a seen i))) ∙ sym (expr_roll writing day_steps (layers.Expr-F.Product (map (λ z. z.0) a)))
  expr_good (layers.Expr-F.Case a None) = λ seen. ap (λ z. d_expr (z.at seen)) (expr_roll qualifying (qualify_steps C) (layers.Expr-F.Case (map (λ z. z.0) a) None)) ∙ expr_roll writing day_steps (layers.Expr-F.Case (all_at seen (map c_arm (map (λ z. z.0) a))) None) ∙ (λ i. day_steps.expr (layers.Expr-F.Case (each c_arm d_arm a seen i) None)) ∙ sym (expr_roll writing day_steps (layers.Expr-F.Case (map (λ z. z.0) a) None))
  expr_good (layers.Expr-F.Case a (Some b)) = λ seen. ap (λ z. d_expr (z.at seen)) (expr_roll qualifying (qualify_steps C) (layers.Expr-F.Case (map (λ z. z.0) a) (Some b.0))) ∙ expr_roll writing day_steps (layers.Expr-F.Case (all_at seen (map c_arm (map (λ z. z.0) a))) (Some ((c_expr b.0).at seen))) ∙ (λ i. day_steps.expr (layers.Expr-F.Case (each c_arm d_arm a seen i) (Some (b.1 seen i)))) ∙ sym (expr_roll writing day_steps (layers.Expr-F.Case (map (λ z. z.0) a) (Some b.0)))
  expr_good (layers.Expr-F.Match a b None) = λ seen. ap (λ z. d_expr (z.at seen)) (expr_roll qualifying (qualify_steps C) (layers.Expr-F.Match a.0 (map (λ z. z.0) b) None)) ∙ expr_roll writing day_steps (layers.Expr-F.Match ((c_expr a.0).at seen) (all_at seen (map c_choice (map (λ z. z.0) b))) None) ∙ (λ i. day_steps.expr (layers.Expr-F.Match (a.1 seen i) (each c_choice d_choice b seen i) None)) ∙ sym (expr_roll writing day_steps (layers.Expr-F.Match a.0 (map (λ z. z.0) b) None))
  expr_good (layers.Expr-F.Match a b (Some c)) = λ seen. ap (λ z. d_expr (z.at seen)) (expr_roll qualifying (qualify_steps C) (layers.Expr-F.Match a.0 (map (λ z. z.0) b) (Some c.0))) ∙ expr_roll writing day_steps (layers.Expr-F.Match ((c_expr a.0).at seen) (all_at seen (map c_choice (map (λ z. z.0) b))) (Some ((c_expr c.0).at seen))) ∙ (λ i. day_steps.expr (layers.Expr-F.Match (a.1 seen i) (each c_choice d_choice b seen i) (Some (c.1 seen i)))) ∙ sym (expr_roll writing day_steps (layers.Expr-F.Match a.0 (map (λ z. z.0) b) (Some c.0)))
  expr_good (layers.Expr-F.Aggregate a b) = λ seen. ap (λ z. d_expr (z.at seen)) (expr_roll qualifying (qualify_steps C) (layers.Expr-F.Aggregate a b.0)) ∙ expr_roll writing day_steps (layers.Expr-F.Aggregate a ((c_expr b.0).at seen)) ∙ (λ i. day_steps.expr (layers.Expr-F.Aggregate a (b.1 seen i))) ∙ sym (expr_roll writing day_steps (layers.Expr-F.Aggregate a b.0))
  expr_good (layers.Expr-F.Substr a b None) = λ seen. ap (λ z. d_expr (z.at seen)) (expr_roll qualifying (qualify_steps C) (layers.Expr-F.Substr a.0 b.0 None)) ∙ expr_roll writing day_steps (layers.Expr-F.Substr ((c_expr a.0).at seen) ((c_expr b.0).at seen) None) ∙ (λ i. day_steps.expr (layers.Expr-F.Substr (a.1 seen i) (b.1 seen i) None)) ∙ sym (expr_roll writing day_steps (layers.Expr-F.Substr a.0 b.0 None))
  expr_good (layers.Expr-F.Substr a b (Some c)) = λ seen. ap (λ z. d_expr (z.at seen)) (expr_roll qualifying (qualify_steps C) (layers.Expr-F.Substr a.0 b.0 (Some c.0))) ∙ expr_roll writing day_steps (layers.Expr-F.Substr ((c_expr a.0).at seen) ((c_expr b.0).at seen) (Some ((c_expr c.0).at seen))) ∙ (λ i. day_steps.expr (layers.Expr-F.Substr (a.1 seen i) (b.1 seen i) (Some (c.1 seen i)))) ∙ sym (expr_roll writing day_steps (layers.Expr-F.Substr a.0 b.0 (Some c.0)))
  expr_good (layers.Expr-F.Apply a b) = λ seen. ap (λ z. d_expr (z.at seen)) (expr_roll qualifying (qualify_steps C) (layers.Expr-F.Apply a b.0)) ∙ expr_roll writing day_steps (layers.Expr-F.Apply a ((c_expr b.0).at seen)) ∙ (λ i. day_steps.expr (layers.Expr-F.Apply a (b.1 seen i))) ∙ sym (expr_roll writing day_steps (layers.Expr-F.Apply a b.0))
  expr_good (layers.Expr-F.Coalesce a) = λ seen. ap (λ z. d_expr (z.at seen)) (expr_roll qualifying (qualify_steps C) (layers.Expr-F.Coalesce (map (λ z. z.0) a))) ∙ expr_roll writing day_steps (layers.Expr-F.Coalesce (all_at seen (map c_expr (map (λ z. z.0) a)))) ∙ (λ i. day_steps.expr (layers.Expr-F.Coalesce (each c_expr d_expr a seen i))) ∙ sym (expr_roll writing day_steps (layers.Expr-F.Coalesce (map (λ z. z.0) a)))

  item_good : (y : Goods layers.Item-F) → GoodItem (roll-Item (down_item y))
  item_good layers.Item-F.Everything = λ seen. ap (λ z. d_item (z.at seen)) (item_roll qualifying (qualify_steps C) layers.Item-F.Everything) ∙ item_roll writing day_steps layers.Item-F.Everything ∙ (λ i. day_steps.item layers.Item-F.Everything) ∙ sym (item_roll writing day_steps layers.Item-F.Everything)
  item_good (layers.Item-F.AllOf a) = λ seen. ap (λ z. d_item (z.at seen)) (item_roll qualifying (qualify_steps C) (layers.Item-F.AllOf a)) ∙ item_roll writing day_steps (layers.Item-F.AllOf a) ∙ (λ i. day_steps.item (layers.Item-F.AllOf a)) ∙ sym (item_roll writing day_steps (layers.Item-F.AllOf a))
  item_good (layers.Item-F.Value a b) = λ seen. ap (λ z. d_item (z.at seen)) (item_roll qualifying (qualify_steps C) (layers.Item-F.Value a.0 b)) ∙ item_roll writing day_steps (layers.Item-F.Value ((c_expr a.0).at seen) b) ∙ (λ i. day_steps.item (layers.Item-F.Value (a.1 seen i) b)) ∙ sym (item_roll writing day_steps (layers.Item-F.Value a.0 b))

  join_good : (y : Goods layers.Join-F) → GoodJoin (roll-Join (down_join y))
  join_good (layers.Join-F.Inner a b) = λ seen. ap (λ z. d_join (z.join seen)) (join_roll qualifying (qualify_steps C) (layers.Join-F.Inner a b.0)) ∙ join_roll writing day_steps (layers.Join-F.Inner a ((c_cond b.0).at seen)) ∙ (λ i. b.1 seen i) ∙ sym (join_roll writing day_steps (layers.Join-F.Inner a b.0))
  join_good (layers.Join-F.Left a b) = λ seen. ap (λ z. d_join (z.join seen)) (join_roll qualifying (qualify_steps C) (layers.Join-F.Left a b.0)) ∙ join_roll writing day_steps (layers.Join-F.Left a ((c_cond b.0).at seen)) ∙ (λ i. b.1 seen i) ∙ sym (join_roll writing day_steps (layers.Join-F.Left a b.0))
  join_good (layers.Join-F.Cross a) = λ seen. ap (λ z. d_join (z.join seen)) (join_roll qualifying (qualify_steps C) (layers.Join-F.Cross a)) ∙ join_roll writing day_steps (layers.Join-F.Cross a) ∙ refl ∙ sym (join_roll writing day_steps (layers.Join-F.Cross a))

  arm_good : (y : Goods layers.Arm-F) → GoodArm (roll-Arm (down_arm y))
  arm_good y = λ seen. ap (λ z. d_arm (z.at seen)) (arm_roll qualifying (qualify_steps C) (record { when = y.when.0; result = y.result.0 })) ∙ arm_roll writing day_steps (record { when = ((c_cond y.when.0).at seen); result = ((c_expr y.result.0).at seen) }) ∙ (λ i. day_steps.arm (record { when = (y.when.1 seen i); result = (y.result.1 seen i) })) ∙ sym (arm_roll writing day_steps (record { when = y.when.0; result = y.result.0 }))

  chain_good : (y : Goods layers.Chain-F) → GoodChain (roll-Chain (down_chain y))
  chain_good y = λ seen. ap (λ z. d_chain (z.chain seen)) (chain_roll qualifying (qualify_steps C) (record { first = y.first; joins = (map (λ z. z.0) y.joins) })) ∙ chain_roll writing day_steps (record { first = y.first; joins = joins_in (y.first ∷ []) (map c_join (map (λ z. z.0) y.joins)) seen }) ∙ (λ i. all_of (joins_kept y.joins (y.first ∷ []) seen i)) ∙ sym (chain_roll writing day_steps (record { first = y.first; joins = (map (λ z. z.0) y.joins) }))

  choice_good : (y : Goods layers.Choice-F) → GoodChoice (roll-Choice (down_choice y))
  choice_good y = λ seen. ap (λ z. d_choice (z.at seen)) (choice_roll qualifying (qualify_steps C) (record { when = y.when.0; result = y.result.0 })) ∙ choice_roll writing day_steps (record { when = ((c_expr y.when.0).at seen); result = ((c_expr y.result.0).at seen) }) ∙ (λ i. day_steps.choice (record { when = (y.when.1 seen i); result = (y.result.1 seen i) })) ∙ sym (choice_roll writing day_steps (record { when = y.when.0; result = y.result.0 }))

  query_good : (distinct : Bool) (items : List WithItem) (from : List WithChain) (filter : Option WithCond) (group : List Column) (having : Option WithCond)
      → GoodQuery (roll-Query (down_query (record { distinct = distinct; items = items; from = from; filter = filter; group = group; having = having })))
  query_good distinct items from None group None = λ seen. ap (λ z. d_query (z.at seen)) (query_roll qualifying (qualify_steps C) (record { distinct = distinct; items = (map (λ z. z.0) items); from = (map (λ z. z.0) from); filter = None; group = group; having = None })) ∙ query_roll writing day_steps (record { distinct = distinct; items = (all_at (seen_in seen (map c_chain (map (λ z. z.0) from))) (map c_item (map (λ z. z.0) items))); from = map (λ c. c.chain seen) (map c_chain (map (λ z. z.0) from)); filter = None; group = map (with_item C (seen_in seen (map c_chain (map (λ z. z.0) from)))) group; having = None }) ∙ (λ i. day_steps.query (record { distinct = distinct; items = (each c_item d_item items (seen_in seen (map c_chain (map (λ z. z.0) from))) i); from = chains_kept from seen i; filter = None; group = group; having = None })) ∙ sym (query_roll writing day_steps (record { distinct = distinct; items = (map (λ z. z.0) items); from = (map (λ z. z.0) from); filter = None; group = group; having = None }))
  query_good distinct items from None group (Some having) = λ seen. ap (λ z. d_query (z.at seen)) (query_roll qualifying (qualify_steps C) (record { distinct = distinct; items = (map (λ z. z.0) items); from = (map (λ z. z.0) from); filter = None; group = group; having = (Some having.0) })) ∙ query_roll writing day_steps (record { distinct = distinct; items = (all_at (seen_in seen (map c_chain (map (λ z. z.0) from))) (map c_item (map (λ z. z.0) items))); from = map (λ c. c.chain seen) (map c_chain (map (λ z. z.0) from)); filter = None; group = map (with_item C (seen_in seen (map c_chain (map (λ z. z.0) from)))) group; having = (Some ((c_cond having.0).at (seen_in seen (map c_chain (map (λ z. z.0) from))))) }) ∙ (λ i. day_steps.query (record { distinct = distinct; items = (each c_item d_item items (seen_in seen (map c_chain (map (λ z. z.0) from))) i); from = chains_kept from seen i; filter = None; group = group; having = (Some (having.1 (seen_in seen (map c_chain (map (λ z. z.0) from))) i)) })) ∙ sym (query_roll writing day_steps (record { distinct = distinct; items = (map (λ z. z.0) items); from = (map (λ z. z.0) from); filter = None; group = group; having = (Some having.0) }))
  query_good distinct items from (Some filter) group None = λ seen. ap (λ z. d_query (z.at seen)) (query_roll qualifying (qualify_steps C) (record { distinct = distinct; items = (map (λ z. z.0) items); from = (map (λ z. z.0) from); filter = (Some filter.0); group = group; having = None })) ∙ query_roll writing day_steps (record { distinct = distinct; items = (all_at (seen_in seen (map c_chain (map (λ z. z.0) from))) (map c_item (map (λ z. z.0) items))); from = map (λ c. c.chain seen) (map c_chain (map (λ z. z.0) from)); filter = (Some ((c_cond filter.0).at (seen_in seen (map c_chain (map (λ z. z.0) from))))); group = map (with_item C (seen_in seen (map c_chain (map (λ z. z.0) from)))) group; having = None }) ∙ (λ i. day_steps.query (record { distinct = distinct; items = (each c_item d_item items (seen_in seen (map c_chain (map (λ z. z.0) from))) i); from = chains_kept from seen i; filter = (Some (filter.1 (seen_in seen (map c_chain (map (λ z. z.0) from))) i)); group = group; having = None })) ∙ sym (query_roll writing day_steps (record { distinct = distinct; items = (map (λ z. z.0) items); from = (map (λ z. z.0) from); filter = (Some filter.0); group = group; having = None }))
  query_good distinct items from (Some filter) group (Some having) = λ seen. ap (λ z. d_query (z.at seen)) (query_roll qualifying (qualify_steps C) (record { distinct = distinct; items = (map (λ z. z.0) items); from = (map (λ z. z.0) from); filter = (Some filter.0); group = group; having = (Some having.0) })) ∙ query_roll writing day_steps (record { distinct = distinct; items = (all_at (seen_in seen (map c_chain (map (λ z. z.0) from))) (map c_item (map (λ z. z.0) items))); from = map (λ c. c.chain seen) (map c_chain (map (λ z. z.0) from)); filter = (Some ((c_cond filter.0).at (seen_in seen (map c_chain (map (λ z. z.0) from))))); group = map (with_item C (seen_in seen (map c_chain (map (λ z. z.0) from)))) group; having = (Some ((c_cond having.0).at (seen_in seen (map c_chain (map (λ z. z.0) from))))) }) ∙ (λ i. day_steps.query (record { distinct = distinct; items = (each c_item d_item items (seen_in seen (map c_chain (map (λ z. z.0) from))) i); from = chains_kept from seen i; filter = (Some (filter.1 (seen_in seen (map c_chain (map (λ z. z.0) from))) i)); group = group; having = (Some (having.1 (seen_in seen (map c_chain (map (λ z. z.0) from))) i)) })) ∙ sym (query_roll writing day_steps (record { distinct = distinct; items = (map (λ z. z.0) items); from = (map (λ z. z.0) from); filter = (Some filter.0); group = group; having = (Some having.0) }))

  signed_good : (y : Goods layers.Signed-F) → GoodSigned (roll-Signed (down_signed y))
  signed_good y = λ seen. ap (λ z. d_signed (z.at seen)) (signed_roll qualifying (qualify_steps C) (record { minus = y.minus; part = y.part.0 })) ∙ signed_roll writing day_steps (record { minus = y.minus; part = ((c_expr y.part.0).at seen) }) ∙ (λ i. day_steps.signed (record { minus = y.minus; part = (y.part.1 seen i) })) ∙ sym (signed_roll writing day_steps (record { minus = y.minus; part = y.part.0 }))

  pub days_kept_cond : (x : Cond) → GoodCond x
  days_kept_cond = ind-Cond GoodCond GoodExpr GoodItem GoodJoin GoodArm GoodChain GoodChoice GoodQuery GoodSigned (λ x y is. subst (λ z. GoodCond (roll-Cond z)) is (cond_good y)) (λ x y is. subst (λ z. GoodExpr (roll-Expr z)) is (expr_good y)) (λ x y is. subst (λ z. GoodItem (roll-Item z)) is (item_good y)) (λ x y is. subst (λ z. GoodJoin (roll-Join z)) is (join_good y)) (λ x y is. subst (λ z. GoodArm (roll-Arm z)) is (arm_good y)) (λ x y is. subst (λ z. GoodChain (roll-Chain z)) is (chain_good y)) (λ x y is. subst (λ z. GoodChoice (roll-Choice z)) is (choice_good y)) (λ x y is. subst (λ z. GoodQuery (roll-Query z)) is (query_good y.distinct y.items y.from y.filter y.group y.having)) (λ x y is. subst (λ z. GoodSigned (roll-Signed z)) is (signed_good y))

  pub days_kept_expr : (x : Expr) → GoodExpr x
  days_kept_expr = ind-Expr GoodCond GoodExpr GoodItem GoodJoin GoodArm GoodChain GoodChoice GoodQuery GoodSigned (λ x y is. subst (λ z. GoodCond (roll-Cond z)) is (cond_good y)) (λ x y is. subst (λ z. GoodExpr (roll-Expr z)) is (expr_good y)) (λ x y is. subst (λ z. GoodItem (roll-Item z)) is (item_good y)) (λ x y is. subst (λ z. GoodJoin (roll-Join z)) is (join_good y)) (λ x y is. subst (λ z. GoodArm (roll-Arm z)) is (arm_good y)) (λ x y is. subst (λ z. GoodChain (roll-Chain z)) is (chain_good y)) (λ x y is. subst (λ z. GoodChoice (roll-Choice z)) is (choice_good y)) (λ x y is. subst (λ z. GoodQuery (roll-Query z)) is (query_good y.distinct y.items y.from y.filter y.group y.having)) (λ x y is. subst (λ z. GoodSigned (roll-Signed z)) is (signed_good y))

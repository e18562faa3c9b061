-- Where no FROM item is refused, each column's items in sight have different correlation names. tools/names-inductions writes this file.
use Rattle.std.proofs.Common.{ap, sym, subst, List, [], ◌∷◌, ◌++◌, Bool, Option, Some, None, map}
use Rattle.lb_tree.specs.declared.query.Cond.{Cond}
use Rattle.lb_tree.specs.declared.query.Expr.{Expr}
use Rattle.lb_tree.specs.declared.query.Item.{Item}
use Rattle.lb_tree.specs.declared.query.Join.{Join}
use Rattle.lb_tree.specs.declared.query.Arm.{Arm}
use Rattle.lb_tree.specs.declared.query.Chain.{Chain}
use Rattle.lb_tree.specs.declared.query.Choice.{Choice}
use Rattle.lb_tree.specs.declared.query.Query.{Query}
use Rattle.lb_tree.specs.declared.query.Signed.{Signed}
use Rattle.lb_tree.specs.declared.query.Atom.{Atom}
use Rattle.lb_tree.specs.declared.query.Atom.TheVariants as atoms
use Rattle.lb_tree.specs.declared.query.Column.{Column}
use Rattle.lb_tree.specs.declared.query.Cond.TheOpen as layers
use Rattle.lb_tree.specs.declared.query.Cond.TheViews.{roll-Cond, roll-Expr, roll-Item, roll-Join, roll-Arm, roll-Chain, roll-Choice, roll-Query, roll-Signed}
use Rattle.lb_tree.specs.declared.query.Cond.TheFolds.{map-Cond, map-Expr, map-Item, map-Join, map-Arm, map-Chain, map-Choice, map-Query, map-Signed, ind-Cond, ind-Expr}
use Rattle.lb_tree.specs.Folds.{Written}
use Rattle.lb_tree.proofs.Opens.{cond_roll, expr_roll, item_roll, join_roll, arm_roll, chain_roll, choice_roll, query_roll, signed_roll}
use Rattle.lb_names.specs.Sights.{calls_of, items_in, Sight, inside}
use Rattle.lb_names.specs.Marks.{enter, column, Marked, marked, marking, mark_steps, of_each, tables_of, chains_marks, atom_marks}
use Rattle.lb_names.specs.Scopes.{Catalogue}
use Rattle.lb_names.proofs.Apart as apart
use Rattle.lb_names.proofs.Mentioned.{m_cond, m_expr, m_item, m_join, m_arm, m_chain, m_choice, m_query, m_signed}

module _ (C : Catalogue) where
  each : {X : Type 0} (F : X → Marked) (xs : List ((x : X) × ((v : Sight) → apart.Good v → (apart.Taken C) ((F x).marks v) → apart.AllApart ((F x).marks v)))) (v : Sight) → apart.Good v → (apart.Taken C) (of_each (λ m. m.marks) (map F (map (λ z. z.0) xs)) v) → apart.AllApart (of_each (λ m. m.marks) (map F (map (λ z. z.0) xs)) v)
  each F [] v good h = tt
  each F (x ∷ xs) v good h = apart.both ((F x.0).marks v) (of_each (λ m. m.marks) (map F (map (λ z. z.0) xs)) v) (x.1 v good (apart.before C ((F x.0).marks v) (of_each (λ m. m.marks) (map F (map (λ z. z.0) xs)) v) h)) (each F xs v good (apart.after C ((F x.0).marks v) (of_each (λ m. m.marks) (map F (map (λ z. z.0) xs)) v) h))

  atom_apart : (a : Atom) (v : Sight) → apart.Good v → apart.AllApart (atom_marks a v)
  atom_apart atoms.Null v good = tt
  atom_apart (atoms.Int p) v good = tt
  atom_apart (atoms.Text p) v good = tt
  atom_apart (atoms.Date p) v good = tt
  atom_apart atoms.CurrentDate v good = tt
  atom_apart atoms.SessionUser v good = tt
  atom_apart (atoms.Column p) v good = (good.0, tt)
  atom_apart atoms.CountRows v good = tt
  atom_apart (atoms.VerifyRole p) v good = tt
  atom_apart (atoms.VerifyGroup p) v good = tt
  atom_apart (atoms.SecLabel p q) v good = (tt, tt)
  atom_apart (atoms.SecLabelByName p q) v good = (tt, tt)
  atom_apart (atoms.SecLabelToChar p q) v good = (tt, (good.0, tt))

  abbrev GoodCond : Cond → Type 0
  GoodCond x = (v : Sight) → apart.Good v → (apart.Taken C) ((m_cond x).marks v) → apart.AllApart ((m_cond x).marks v)

  abbrev WithCond : Type 0
  WithCond = (x : Cond) × GoodCond x

  abbrev GoodExpr : Expr → Type 0
  GoodExpr x = (v : Sight) → apart.Good v → (apart.Taken C) ((m_expr x).marks v) → apart.AllApart ((m_expr x).marks v)

  abbrev WithExpr : Type 0
  WithExpr = (x : Expr) × GoodExpr x

  abbrev GoodItem : Item → Type 0
  GoodItem x = (v : Sight) → apart.Good v → (apart.Taken C) ((m_item x).marks v) → apart.AllApart ((m_item x).marks v)

  abbrev WithItem : Type 0
  WithItem = (x : Item) × GoodItem x

  abbrev GoodJoin : Join → Type 0
  GoodJoin x = (apart.JoinApart C) (m_join x)

  abbrev WithJoin : Type 0
  WithJoin = (x : Join) × GoodJoin x

  abbrev GoodArm : Arm → Type 0
  GoodArm x = (v : Sight) → apart.Good v → (apart.Taken C) ((m_arm x).marks v) → apart.AllApart ((m_arm x).marks v)

  abbrev WithArm : Type 0
  WithArm = (x : Arm) × GoodArm x

  abbrev GoodChain : Chain → Type 0
  GoodChain x = (apart.ChainApart C) (m_chain x)

  abbrev WithChain : Type 0
  WithChain = (x : Chain) × GoodChain x

  abbrev GoodChoice : Choice → Type 0
  GoodChoice x = (v : Sight) → apart.Good v → (apart.Taken C) ((m_choice x).marks v) → apart.AllApart ((m_choice x).marks v)

  abbrev WithChoice : Type 0
  WithChoice = (x : Choice) × GoodChoice x

  abbrev GoodQuery : Query → Type 0
  GoodQuery x = (v : Sight) → apart.Good v → (apart.Taken C) ((m_query x).marks v) → apart.AllApart ((m_query x).marks v)

  abbrev WithQuery : Type 0
  WithQuery = (x : Query) × GoodQuery x

  abbrev GoodSigned : Signed → Type 0
  GoodSigned x = (v : Sight) → apart.Good v → (apart.Taken C) ((m_signed x).marks v) → apart.AllApart ((m_signed x).marks v)

  abbrev WithSigned : Type 0
  WithSigned = (x : Signed) × GoodSigned x

  -- a layer whose parts have their facts
  abbrev Goods : (Type 0 → Type 0 → Type 0 → Type 0 → Type 0 → Type 0 → Type 0 → Type 0 → Type 0 → Type 0) → Type 0
  Goods F = F WithCond WithExpr WithItem WithJoin WithArm WithChain WithChoice WithQuery WithSigned

  abbrev down_cond : Goods layers.Cond-F → Written layers.Cond-F
  down_cond = map-Cond WithCond WithExpr WithItem WithJoin WithArm WithChain WithChoice WithQuery WithSigned Cond Expr Item Join Arm Chain Choice Query Signed (λ z. z.0) (λ z. z.0) (λ z. z.0) (λ z. z.0) (λ z. z.0) (λ z. z.0) (λ z. z.0) (λ z. z.0) (λ z. z.0)

  abbrev down_expr : Goods layers.Expr-F → Written layers.Expr-F
  down_expr = map-Expr WithCond WithExpr WithItem WithJoin WithArm WithChain WithChoice WithQuery WithSigned Cond Expr Item Join Arm Chain Choice Query Signed (λ z. z.0) (λ z. z.0) (λ z. z.0) (λ z. z.0) (λ z. z.0) (λ z. z.0) (λ z. z.0) (λ z. z.0) (λ z. z.0)

  abbrev down_item : Goods layers.Item-F → Written layers.Item-F
  down_item = map-Item WithCond WithExpr WithItem WithJoin WithArm WithChain WithChoice WithQuery WithSigned Cond Expr Item Join Arm Chain Choice Query Signed (λ z. z.0) (λ z. z.0) (λ z. z.0) (λ z. z.0) (λ z. z.0) (λ z. z.0) (λ z. z.0) (λ z. z.0) (λ z. z.0)

  abbrev down_join : Goods layers.Join-F → Written layers.Join-F
  down_join = map-Join WithCond WithExpr WithItem WithJoin WithArm WithChain WithChoice WithQuery WithSigned Cond Expr Item Join Arm Chain Choice Query Signed (λ z. z.0) (λ z. z.0) (λ z. z.0) (λ z. z.0) (λ z. z.0) (λ z. z.0) (λ z. z.0) (λ z. z.0) (λ z. z.0)

  abbrev down_arm : Goods layers.Arm-F → Written layers.Arm-F
  down_arm = map-Arm WithCond WithExpr WithItem WithJoin WithArm WithChain WithChoice WithQuery WithSigned Cond Expr Item Join Arm Chain Choice Query Signed (λ z. z.0) (λ z. z.0) (λ z. z.0) (λ z. z.0) (λ z. z.0) (λ z. z.0) (λ z. z.0) (λ z. z.0) (λ z. z.0)

  abbrev down_chain : Goods layers.Chain-F → Written layers.Chain-F
  down_chain = map-Chain WithCond WithExpr WithItem WithJoin WithArm WithChain WithChoice WithQuery WithSigned Cond Expr Item Join Arm Chain Choice Query Signed (λ z. z.0) (λ z. z.0) (λ z. z.0) (λ z. z.0) (λ z. z.0) (λ z. z.0) (λ z. z.0) (λ z. z.0) (λ z. z.0)

  abbrev down_choice : Goods layers.Choice-F → Written layers.Choice-F
  down_choice = map-Choice WithCond WithExpr WithItem WithJoin WithArm WithChain WithChoice WithQuery WithSigned Cond Expr Item Join Arm Chain Choice Query Signed (λ z. z.0) (λ z. z.0) (λ z. z.0) (λ z. z.0) (λ z. z.0) (λ z. z.0) (λ z. z.0) (λ z. z.0) (λ z. z.0)

  abbrev down_query : Goods layers.Query-F → Written layers.Query-F
  down_query = map-Query WithCond WithExpr WithItem WithJoin WithArm WithChain WithChoice WithQuery WithSigned Cond Expr Item Join Arm Chain Choice Query Signed (λ z. z.0) (λ z. z.0) (λ z. z.0) (λ z. z.0) (λ z. z.0) (λ z. z.0) (λ z. z.0) (λ z. z.0) (λ z. z.0)

  abbrev down_signed : Goods layers.Signed-F → Written layers.Signed-F
  down_signed = map-Signed WithCond WithExpr WithItem WithJoin WithArm WithChain WithChoice WithQuery WithSigned Cond Expr Item Join Arm Chain Choice Query Signed (λ z. z.0) (λ z. z.0) (λ z. z.0) (λ z. z.0) (λ z. z.0) (λ z. z.0) (λ z. z.0) (λ z. z.0) (λ z. z.0)

  joins_apart : (js : List WithJoin) → (apart.JoinsApart C) (map marking.join (map m_join (map (λ z. z.0) js)))
  joins_apart [] = tt
  joins_apart (j ∷ js) = (j.1, joins_apart js)

  chains_apart : (cs : List WithChain) → (apart.ChainsApart C) (map marking.chain (map m_chain (map (λ z. z.0) cs)))
  chains_apart [] = tt
  chains_apart (c ∷ cs) = (c.1, chains_apart cs)

  cond_good : (y : Goods layers.Cond-F) → GoodCond (roll-Cond (down_cond y))
  cond_good (layers.Cond-F.Or a) = λ v good h. let k : (apart.Taken C) (of_each marking.cond (map m_cond (map (λ z. z.0) a)) v) = subst (apart.Taken C) (ap (λ m. m.marks v) (cond_roll marked mark_steps (layers.Cond-F.Or (map (λ z. z.0) a)))) h in subst apart.AllApart (ap (λ m. m.marks v) (sym (cond_roll marked mark_steps (layers.Cond-F.Or (map (λ z. z.0) a))))) (each m_cond a v good k)
  cond_good (layers.Cond-F.And a) = λ v good h. let k : (apart.Taken C) (of_each marking.cond (map m_cond (map (λ z. z.0) a)) v) = subst (apart.Taken C) (ap (λ m. m.marks v) (cond_roll marked mark_steps (layers.Cond-F.And (map (λ z. z.0) a)))) h in subst apart.AllApart (ap (λ m. m.marks v) (sym (cond_roll marked mark_steps (layers.Cond-F.And (map (λ z. z.0) a))))) (each m_cond a v good k)
  cond_good (layers.Cond-F.Not a) = λ v good h. let k : (apart.Taken C) ((m_cond a.0).marks v) = subst (apart.Taken C) (ap (λ m. m.marks v) (cond_roll marked mark_steps (layers.Cond-F.Not a.0))) h in subst apart.AllApart (ap (λ m. m.marks v) (sym (cond_roll marked mark_steps (layers.Cond-F.Not a.0)))) (a.1 v good k)
  cond_good (layers.Cond-F.Exists a) = λ v good h. let k : (apart.Taken C) ((m_query a.0).marks v) = subst (apart.Taken C) (ap (λ m. m.marks v) (cond_roll marked mark_steps (layers.Cond-F.Exists a.0))) h in subst apart.AllApart (ap (λ m. m.marks v) (sym (cond_roll marked mark_steps (layers.Cond-F.Exists a.0)))) (a.1 v good k)
  cond_good (layers.Cond-F.Compare a b c) = λ v good h. let k : (apart.Taken C) ((m_expr b.0).marks v ++ ((m_expr c.0).marks v)) = subst (apart.Taken C) (ap (λ m. m.marks v) (cond_roll marked mark_steps (layers.Cond-F.Compare a b.0 c.0))) h in subst apart.AllApart (ap (λ m. m.marks v) (sym (cond_roll marked mark_steps (layers.Cond-F.Compare a b.0 c.0)))) (apart.both ((m_expr b.0).marks v) ((m_expr c.0).marks v) (b.1 v good (apart.before C ((m_expr b.0).marks v) ((m_expr c.0).marks v) k)) (c.1 v good (apart.after C ((m_expr b.0).marks v) ((m_expr c.0).marks v) k)))
  cond_good (layers.Cond-F.CompareQuery a b c) = λ v good h. let k : (apart.Taken C) ((m_expr b.0).marks v ++ ((m_query c.0).marks v)) = subst (apart.Taken C) (ap (λ m. m.marks v) (cond_roll marked mark_steps (layers.Cond-F.CompareQuery a b.0 c.0))) h in subst apart.AllApart (ap (λ m. m.marks v) (sym (cond_roll marked mark_steps (layers.Cond-F.CompareQuery a b.0 c.0)))) (apart.both ((m_expr b.0).marks v) ((m_query c.0).marks v) (b.1 v good (apart.before C ((m_expr b.0).marks v) ((m_query c.0).marks v) k)) (c.1 v good (apart.after C ((m_expr b.0).marks v) ((m_query c.0).marks v) k)))
  cond_good (layers.Cond-F.IsNull a) = λ v good h. let k : (apart.Taken C) ((m_expr a.0).marks v) = subst (apart.Taken C) (ap (λ m. m.marks v) (cond_roll marked mark_steps (layers.Cond-F.IsNull a.0))) h in subst apart.AllApart (ap (λ m. m.marks v) (sym (cond_roll marked mark_steps (layers.Cond-F.IsNull a.0)))) (a.1 v good k)
  cond_good (layers.Cond-F.InQuery a b) = λ v good h. let k : (apart.Taken C) ((m_expr a.0).marks v ++ ((m_query b.0).marks v)) = subst (apart.Taken C) (ap (λ m. m.marks v) (cond_roll marked mark_steps (layers.Cond-F.InQuery a.0 b.0))) h in subst apart.AllApart (ap (λ m. m.marks v) (sym (cond_roll marked mark_steps (layers.Cond-F.InQuery a.0 b.0)))) (apart.both ((m_expr a.0).marks v) ((m_query b.0).marks v) (a.1 v good (apart.before C ((m_expr a.0).marks v) ((m_query b.0).marks v) k)) (b.1 v good (apart.after C ((m_expr a.0).marks v) ((m_query b.0).marks v) k)))
  cond_good (layers.Cond-F.InList a b) = λ v good h. let k : (apart.Taken C) ((m_expr a.0).marks v ++ (of_each marking.expr (map m_expr (map (λ z. z.0) b)) v)) = subst (apart.Taken C) (ap (λ m. m.marks v) (cond_roll marked mark_steps (layers.Cond-F.InList a.0 (map (λ z. z.0) b)))) h in subst apart.AllApart (ap (λ m. m.marks v) (sym (cond_roll marked mark_steps (layers.Cond-F.InList a.0 (map (λ z. z.0) b))))) (apart.both ((m_expr a.0).marks v) (of_each marking.expr (map m_expr (map (λ z. z.0) b)) v) (a.1 v good (apart.before C ((m_expr a.0).marks v) (of_each marking.expr (map m_expr (map (λ z. z.0) b)) v) k)) (each m_expr b v good (apart.after C ((m_expr a.0).marks v) (of_each marking.expr (map m_expr (map (λ z. z.0) b)) v) k)))
  cond_good (layers.Cond-F.Between a b c) = λ v good h. let k : (apart.Taken C) ((m_expr a.0).marks v ++ ((m_expr b.0).marks v ++ ((m_expr c.0).marks v))) = subst (apart.Taken C) (ap (λ m. m.marks v) (cond_roll marked mark_steps (layers.Cond-F.Between a.0 b.0 c.0))) h in subst apart.AllApart (ap (λ m. m.marks v) (sym (cond_roll marked mark_steps (layers.Cond-F.Between a.0 b.0 c.0)))) (apart.both ((m_expr a.0).marks v) ((m_expr b.0).marks v ++ ((m_expr c.0).marks v)) (a.1 v good (apart.before C ((m_expr a.0).marks v) ((m_expr b.0).marks v ++ ((m_expr c.0).marks v)) k)) (apart.both ((m_expr b.0).marks v) ((m_expr c.0).marks v) (b.1 v good (apart.before C ((m_expr b.0).marks v) ((m_expr c.0).marks v) (apart.after C ((m_expr a.0).marks v) ((m_expr b.0).marks v ++ ((m_expr c.0).marks v)) k))) (c.1 v good (apart.after C ((m_expr b.0).marks v) ((m_expr c.0).marks v) (apart.after C ((m_expr a.0).marks v) ((m_expr b.0).marks v ++ ((m_expr c.0).marks v)) k)))))

  expr_good : (y : Goods layers.Expr-F) → GoodExpr (roll-Expr (down_expr y))
  expr_good (layers.Expr-F.Atom a) = λ v good h. subst apart.AllApart (ap (λ m. m.marks v) (sym (expr_roll marked mark_steps (layers.Expr-F.Atom a)))) (atom_apart a v good)
  expr_good (layers.Expr-F.Sum a) = λ v good h. let k : (apart.Taken C) (of_each marking.signed (map m_signed (map (λ z. z.0) a)) v) = subst (apart.Taken C) (ap (λ m. m.marks v) (expr_roll marked mark_steps (layers.Expr-F.Sum (map (λ z. z.0) a)))) h in subst apart.AllApart (ap (λ m. m.marks v) (sym (expr_roll marked mark_steps (layers.Expr-F.Sum (map (λ z. z.0) a))))) (each m_signed a v good k)
  expr_good (layers.Expr-F.Concat a) = λ v good h. let k : (apart.Taken C) (of_each marking.expr (map m_expr (map (λ z. z.0) a)) v) = subst (apart.Taken C) (ap (λ m. m.marks v) (expr_roll marked mark_steps (layers.Expr-F.Concat (map (λ z. z.0) a)))) h in subst apart.AllApart (ap (λ m. m.marks v) (sym (expr_roll marked mark_steps (layers.Expr-F.Concat (map (λ z. z.0) a))))) (each m_expr a v good k)
  expr_good (layers.Expr-F.Product a) = λ v good h. let k : (apart.Taken C) (of_each marking.expr (map m_expr (map (λ z. z.0) a)) v) = subst (apart.Taken C) (ap (λ m. m.marks v) (expr_roll marked mark_steps (layers.Expr-F.Product (map (λ z. z.0) a)))) h in subst apart.AllApart (ap (λ m. m.marks v) (sym (expr_roll marked mark_steps (layers.Expr-F.Product (map (λ z. z.0) a))))) (each m_expr a v good k)
  expr_good (layers.Expr-F.Case a None) = λ v good h. let k : (apart.Taken C) (of_each marking.arm (map m_arm (map (λ z. z.0) a)) v ++ ([])) = subst (apart.Taken C) (ap (λ m. m.marks v) (expr_roll marked mark_steps (layers.Expr-F.Case (map (λ z. z.0) a) None))) h in subst apart.AllApart (ap (λ m. m.marks v) (sym (expr_roll marked mark_steps (layers.Expr-F.Case (map (λ z. z.0) a) None)))) (apart.both (of_each marking.arm (map m_arm (map (λ z. z.0) a)) v) ([]) (each m_arm a v good (apart.before C (of_each marking.arm (map m_arm (map (λ z. z.0) a)) v) ([]) k)) (tt))
  expr_good (layers.Expr-F.Case a (Some b)) = λ v good h. let k : (apart.Taken C) (of_each marking.arm (map m_arm (map (λ z. z.0) a)) v ++ ((m_expr b.0).marks v)) = subst (apart.Taken C) (ap (λ m. m.marks v) (expr_roll marked mark_steps (layers.Expr-F.Case (map (λ z. z.0) a) (Some b.0)))) h in subst apart.AllApart (ap (λ m. m.marks v) (sym (expr_roll marked mark_steps (layers.Expr-F.Case (map (λ z. z.0) a) (Some b.0))))) (apart.both (of_each marking.arm (map m_arm (map (λ z. z.0) a)) v) ((m_expr b.0).marks v) (each m_arm a v good (apart.before C (of_each marking.arm (map m_arm (map (λ z. z.0) a)) v) ((m_expr b.0).marks v) k)) (b.1 v good (apart.after C (of_each marking.arm (map m_arm (map (λ z. z.0) a)) v) ((m_expr b.0).marks v) k)))
  expr_good (layers.Expr-F.Match a b None) = λ v good h. let k : (apart.Taken C) ((m_expr a.0).marks v ++ (of_each marking.choice (map m_choice (map (λ z. z.0) b)) v ++ ([]))) = subst (apart.Taken C) (ap (λ m. m.marks v) (expr_roll marked mark_steps (layers.Expr-F.Match a.0 (map (λ z. z.0) b) None))) h in subst apart.AllApart (ap (λ m. m.marks v) (sym (expr_roll marked mark_steps (layers.Expr-F.Match a.0 (map (λ z. z.0) b) None)))) (apart.both ((m_expr a.0).marks v) (of_each marking.choice (map m_choice (map (λ z. z.0) b)) v ++ ([])) (a.1 v good (apart.before C ((m_expr a.0).marks v) (of_each marking.choice (map m_choice (map (λ z. z.0) b)) v ++ ([])) k)) (apart.both (of_each marking.choice (map m_choice (map (λ z. z.0) b)) v) ([]) (each m_choice b v good (apart.before C (of_each marking.choice (map m_choice (map (λ z. z.0) b)) v) ([]) (apart.after C ((m_expr a.0).marks v) (of_each marking.choice (map m_choice (map (λ z. z.0) b)) v ++ ([])) k))) (tt)))
  expr_good (layers.Expr-F.Match a b (Some c)) = λ v good h. let k : (apart.Taken C) ((m_expr a.0).marks v ++ (of_each marking.choice (map m_choice (map (λ z. z.0) b)) v ++ ((m_expr c.0).marks v))) = subst (apart.Taken C) (ap (λ m. m.marks v) (expr_roll marked mark_steps (layers.Expr-F.Match a.0 (map (λ z. z.0) b) (Some c.0)))) h in subst apart.AllApart (ap (λ m. m.marks v) (sym (expr_roll marked mark_steps (layers.Expr-F.Match a.0 (map (λ z. z.0) b) (Some c.0))))) (apart.both ((m_expr a.0).marks v) (of_each marking.choice (map m_choice (map (λ z. z.0) b)) v ++ ((m_expr c.0).marks v)) (a.1 v good (apart.before C ((m_expr a.0).marks v) (of_each marking.choice (map m_choice (map (λ z. z.0) b)) v ++ ((m_expr c.0).marks v)) k)) (apart.both (of_each marking.choice (map m_choice (map (λ z. z.0) b)) v) ((m_expr c.0).marks v) (each m_choice b v good (apart.before C (of_each marking.choice (map m_choice (map (λ z. z.0) b)) v) ((m_expr c.0).marks v) (apart.after C ((m_expr a.0).marks v) (of_each marking.choice (map m_choice (map (λ z. z.0) b)) v ++ ((m_expr c.0).marks v)) k))) (c.1 v good (apart.after C (of_each marking.choice (map m_choice (map (λ z. z.0) b)) v) ((m_expr c.0).marks v) (apart.after C ((m_expr a.0).marks v) (of_each marking.choice (map m_choice (map (λ z. z.0) b)) v ++ ((m_expr c.0).marks v)) k)))))
  expr_good (layers.Expr-F.Aggregate a b) = λ v good h. let k : (apart.Taken C) ((m_expr b.0).marks v) = subst (apart.Taken C) (ap (λ m. m.marks v) (expr_roll marked mark_steps (layers.Expr-F.Aggregate a b.0))) h in subst apart.AllApart (ap (λ m. m.marks v) (sym (expr_roll marked mark_steps (layers.Expr-F.Aggregate a b.0)))) (b.1 v good k)
  expr_good (layers.Expr-F.Substr a b None) = λ v good h. let k : (apart.Taken C) ((m_expr a.0).marks v ++ ((m_expr b.0).marks v ++ ([]))) = subst (apart.Taken C) (ap (λ m. m.marks v) (expr_roll marked mark_steps (layers.Expr-F.Substr a.0 b.0 None))) h in subst apart.AllApart (ap (λ m. m.marks v) (sym (expr_roll marked mark_steps (layers.Expr-F.Substr a.0 b.0 None)))) (apart.both ((m_expr a.0).marks v) ((m_expr b.0).marks v ++ ([])) (a.1 v good (apart.before C ((m_expr a.0).marks v) ((m_expr b.0).marks v ++ ([])) k)) (apart.both ((m_expr b.0).marks v) ([]) (b.1 v good (apart.before C ((m_expr b.0).marks v) ([]) (apart.after C ((m_expr a.0).marks v) ((m_expr b.0).marks v ++ ([])) k))) (tt)))
  expr_good (layers.Expr-F.Substr a b (Some c)) = λ v good h. let k : (apart.Taken C) ((m_expr a.0).marks v ++ ((m_expr b.0).marks v ++ ((m_expr c.0).marks v))) = subst (apart.Taken C) (ap (λ m. m.marks v) (expr_roll marked mark_steps (layers.Expr-F.Substr a.0 b.0 (Some c.0)))) h in subst apart.AllApart (ap (λ m. m.marks v) (sym (expr_roll marked mark_steps (layers.Expr-F.Substr a.0 b.0 (Some c.0))))) (apart.both ((m_expr a.0).marks v) ((m_expr b.0).marks v ++ ((m_expr c.0).marks v)) (a.1 v good (apart.before C ((m_expr a.0).marks v) ((m_expr b.0).marks v ++ ((m_expr c.0).marks v)) k)) (apart.both ((m_expr b.0).marks v) ((m_expr c.0).marks v) (b.1 v good (apart.before C ((m_expr b.0).marks v) ((m_expr c.0).marks v) (apart.after C ((m_expr a.0).marks v) ((m_expr b.0).marks v ++ ((m_expr c.0).marks v)) k))) (c.1 v good (apart.after C ((m_expr b.0).marks v) ((m_expr c.0).marks v) (apart.after C ((m_expr a.0).marks v) ((m_expr b.0).marks v ++ ((m_expr c.0).marks v)) k)))))
  expr_good (layers.Expr-F.Apply a b) = λ v good h. let k : (apart.Taken C) ((m_expr b.0).marks v) = subst (apart.Taken C) (ap (λ m. m.marks v) (expr_roll marked mark_steps (layers.Expr-F.Apply a b.0))) h in subst apart.AllApart (ap (λ m. m.marks v) (sym (expr_roll marked mark_steps (layers.Expr-F.Apply a b.0)))) (b.1 v good k)
  expr_good (layers.Expr-F.Coalesce a) = λ v good h. let k : (apart.Taken C) (of_each marking.expr (map m_expr (map (λ z. z.0) a)) v) = subst (apart.Taken C) (ap (λ m. m.marks v) (expr_roll marked mark_steps (layers.Expr-F.Coalesce (map (λ z. z.0) a)))) h in subst apart.AllApart (ap (λ m. m.marks v) (sym (expr_roll marked mark_steps (layers.Expr-F.Coalesce (map (λ z. z.0) a))))) (each m_expr a v good k)

  item_good : (y : Goods layers.Item-F) → GoodItem (roll-Item (down_item y))
  item_good layers.Item-F.Everything = λ v good h. subst apart.AllApart (ap (λ m. m.marks v) (sym (item_roll marked mark_steps layers.Item-F.Everything))) ((tt, tt))
  item_good (layers.Item-F.AllOf a) = λ v good h. subst apart.AllApart (ap (λ m. m.marks v) (sym (item_roll marked mark_steps (layers.Item-F.AllOf a)))) ((tt, tt))
  item_good (layers.Item-F.Value a b) = λ v good h. let k : (apart.Taken C) ((m_expr a.0).marks v) = subst (apart.Taken C) (ap (λ m. m.marks v) (item_roll marked mark_steps (layers.Item-F.Value a.0 b))) h in subst apart.AllApart (ap (λ m. m.marks v) (sym (item_roll marked mark_steps (layers.Item-F.Value a.0 b)))) (a.1 v good k)

  join_good : (y : Goods layers.Join-F) → GoodJoin (roll-Join (down_join y))
  join_good (layers.Join-F.Inner a b) = subst (apart.JoinApart C) (sym (join_roll marked mark_steps (layers.Join-F.Inner a b.0))) (b.1)
  join_good (layers.Join-F.Left a b) = subst (apart.JoinApart C) (sym (join_roll marked mark_steps (layers.Join-F.Left a b.0))) (b.1)
  join_good (layers.Join-F.Cross a) = subst (apart.JoinApart C) (sym (join_roll marked mark_steps (layers.Join-F.Cross a))) (λ v good h. tt)

  arm_good : (y : Goods layers.Arm-F) → GoodArm (roll-Arm (down_arm y))
  arm_good y = λ v good h. let k : (apart.Taken C) ((m_cond y.when.0).marks v ++ ((m_expr y.result.0).marks v)) = subst (apart.Taken C) (ap (λ m. m.marks v) (arm_roll marked mark_steps (record { when = y.when.0; result = y.result.0 }))) h in subst apart.AllApart (ap (λ m. m.marks v) (sym (arm_roll marked mark_steps (record { when = y.when.0; result = y.result.0 })))) (apart.both ((m_cond y.when.0).marks v) ((m_expr y.result.0).marks v) (y.when.1 v good (apart.before C ((m_cond y.when.0).marks v) ((m_expr y.result.0).marks v) k)) (y.result.1 v good (apart.after C ((m_cond y.when.0).marks v) ((m_expr y.result.0).marks v) k)))

  chain_good : (y : Goods layers.Chain-F) → GoodChain (roll-Chain (down_chain y))
  chain_good y = subst (apart.ChainApart C) (sym (chain_roll marked mark_steps (record { first = y.first; joins = (map (λ z. z.0) y.joins) }))) (joins_apart y.joins)

  choice_good : (y : Goods layers.Choice-F) → GoodChoice (roll-Choice (down_choice y))
  choice_good y = λ v good h. let k : (apart.Taken C) ((m_expr y.when.0).marks v ++ ((m_expr y.result.0).marks v)) = subst (apart.Taken C) (ap (λ m. m.marks v) (choice_roll marked mark_steps (record { when = y.when.0; result = y.result.0 }))) h in subst apart.AllApart (ap (λ m. m.marks v) (sym (choice_roll marked mark_steps (record { when = y.when.0; result = y.result.0 })))) (apart.both ((m_expr y.when.0).marks v) ((m_expr y.result.0).marks v) (y.when.1 v good (apart.before C ((m_expr y.when.0).marks v) ((m_expr y.result.0).marks v) k)) (y.result.1 v good (apart.after C ((m_expr y.when.0).marks v) ((m_expr y.result.0).marks v) k)))

  query_good : (distinct : Bool) (items : List WithItem) (from : List WithChain) (filter : Option WithCond) (group : List Column) (having : Option WithCond)
      → GoodQuery (roll-Query (down_query (record { distinct = distinct; items = items; from = from; filter = filter; group = group; having = having })))
  query_good distinct items from None group None = λ v good h. let k : (apart.Taken C) (enter (items_in v.seen (tables_of (map marking.chain (map m_chain (map (λ z. z.0) from))))) ∷ (of_each marking.item (map m_item (map (λ z. z.0) items)) (inside v (tables_of (map marking.chain (map m_chain (map (λ z. z.0) from))))) ++ (chains_marks v (calls_of (tables_of (map marking.chain (map m_chain (map (λ z. z.0) from))))) [] (map marking.chain (map m_chain (map (λ z. z.0) from))) ++ ([] ++ (map (column (inside v (tables_of (map marking.chain (map m_chain (map (λ z. z.0) from))))).seen) group ++ ([])))))) = subst (apart.Taken C) (ap (λ m. m.marks v) (query_roll marked mark_steps (record { distinct = distinct; items = (map (λ z. z.0) items); from = (map (λ z. z.0) from); filter = None; group = group; having = None }))) h in let inner : apart.Good (inside v (tables_of (map marking.chain (map m_chain (map (λ z. z.0) from))))) = apart.good_inside C v (tables_of (map marking.chain (map m_chain (map (λ z. z.0) from)))) [] good (apart.chains_fresh C (map marking.chain (map m_chain (map (λ z. z.0) from))) v (calls_of (tables_of (map marking.chain (map m_chain (map (λ z. z.0) from))))) [] (apart.before C (chains_marks v (calls_of (tables_of (map marking.chain (map m_chain (map (λ z. z.0) from))))) [] (map marking.chain (map m_chain (map (λ z. z.0) from)))) ([] ++ (map (column (inside v (tables_of (map marking.chain (map m_chain (map (λ z. z.0) from))))).seen) group ++ ([]))) (apart.after C (of_each marking.item (map m_item (map (λ z. z.0) items)) (inside v (tables_of (map marking.chain (map m_chain (map (λ z. z.0) from)))))) (chains_marks v (calls_of (tables_of (map marking.chain (map m_chain (map (λ z. z.0) from))))) [] (map marking.chain (map m_chain (map (λ z. z.0) from))) ++ ([] ++ (map (column (inside v (tables_of (map marking.chain (map m_chain (map (λ z. z.0) from))))).seen) group ++ ([])))) k.1))) in subst apart.AllApart (ap (λ m. m.marks v) (sym (query_roll marked mark_steps (record { distinct = distinct; items = (map (λ z. z.0) items); from = (map (λ z. z.0) from); filter = None; group = group; having = None })))) (tt, apart.both (of_each marking.item (map m_item (map (λ z. z.0) items)) (inside v (tables_of (map marking.chain (map m_chain (map (λ z. z.0) from)))))) (chains_marks v (calls_of (tables_of (map marking.chain (map m_chain (map (λ z. z.0) from))))) [] (map marking.chain (map m_chain (map (λ z. z.0) from))) ++ ([] ++ (map (column (inside v (tables_of (map marking.chain (map m_chain (map (λ z. z.0) from))))).seen) group ++ ([])))) (each m_item items (inside v (tables_of (map marking.chain (map m_chain (map (λ z. z.0) from))))) inner (apart.before C (of_each marking.item (map m_item (map (λ z. z.0) items)) (inside v (tables_of (map marking.chain (map m_chain (map (λ z. z.0) from)))))) (chains_marks v (calls_of (tables_of (map marking.chain (map m_chain (map (λ z. z.0) from))))) [] (map marking.chain (map m_chain (map (λ z. z.0) from))) ++ ([] ++ (map (column (inside v (tables_of (map marking.chain (map m_chain (map (λ z. z.0) from))))).seen) group ++ ([])))) k.1)) (apart.both (chains_marks v (calls_of (tables_of (map marking.chain (map m_chain (map (λ z. z.0) from))))) [] (map marking.chain (map m_chain (map (λ z. z.0) from)))) ([] ++ (map (column (inside v (tables_of (map marking.chain (map m_chain (map (λ z. z.0) from))))).seen) group ++ ([]))) (apart.chains_marked C (map marking.chain (map m_chain (map (λ z. z.0) from))) (chains_apart from) v good (calls_of (tables_of (map marking.chain (map m_chain (map (λ z. z.0) from))))) [] (apart.within_calls (tables_of (map marking.chain (map m_chain (map (λ z. z.0) from))))) (apart.before C (chains_marks v (calls_of (tables_of (map marking.chain (map m_chain (map (λ z. z.0) from))))) [] (map marking.chain (map m_chain (map (λ z. z.0) from)))) ([] ++ (map (column (inside v (tables_of (map marking.chain (map m_chain (map (λ z. z.0) from))))).seen) group ++ ([]))) (apart.after C (of_each marking.item (map m_item (map (λ z. z.0) items)) (inside v (tables_of (map marking.chain (map m_chain (map (λ z. z.0) from)))))) (chains_marks v (calls_of (tables_of (map marking.chain (map m_chain (map (λ z. z.0) from))))) [] (map marking.chain (map m_chain (map (λ z. z.0) from))) ++ ([] ++ (map (column (inside v (tables_of (map marking.chain (map m_chain (map (λ z. z.0) from))))).seen) group ++ ([])))) k.1))) (apart.both ([]) (map (column (inside v (tables_of (map marking.chain (map m_chain (map (λ z. z.0) from))))).seen) group ++ ([])) (tt) (apart.both (map (column (inside v (tables_of (map marking.chain (map m_chain (map (λ z. z.0) from))))).seen) group) ([]) (apart.columns_apart (inside v (tables_of (map marking.chain (map m_chain (map (λ z. z.0) from))))).seen inner.0 group) (tt)))))
  query_good distinct items from None group (Some having) = λ v good h. let k : (apart.Taken C) (enter (items_in v.seen (tables_of (map marking.chain (map m_chain (map (λ z. z.0) from))))) ∷ (of_each marking.item (map m_item (map (λ z. z.0) items)) (inside v (tables_of (map marking.chain (map m_chain (map (λ z. z.0) from))))) ++ (chains_marks v (calls_of (tables_of (map marking.chain (map m_chain (map (λ z. z.0) from))))) [] (map marking.chain (map m_chain (map (λ z. z.0) from))) ++ ([] ++ (map (column (inside v (tables_of (map marking.chain (map m_chain (map (λ z. z.0) from))))).seen) group ++ ((m_cond having.0).marks (inside v (tables_of (map marking.chain (map m_chain (map (λ z. z.0) from))))))))))) = subst (apart.Taken C) (ap (λ m. m.marks v) (query_roll marked mark_steps (record { distinct = distinct; items = (map (λ z. z.0) items); from = (map (λ z. z.0) from); filter = None; group = group; having = (Some having.0) }))) h in let inner : apart.Good (inside v (tables_of (map marking.chain (map m_chain (map (λ z. z.0) from))))) = apart.good_inside C v (tables_of (map marking.chain (map m_chain (map (λ z. z.0) from)))) [] good (apart.chains_fresh C (map marking.chain (map m_chain (map (λ z. z.0) from))) v (calls_of (tables_of (map marking.chain (map m_chain (map (λ z. z.0) from))))) [] (apart.before C (chains_marks v (calls_of (tables_of (map marking.chain (map m_chain (map (λ z. z.0) from))))) [] (map marking.chain (map m_chain (map (λ z. z.0) from)))) ([] ++ (map (column (inside v (tables_of (map marking.chain (map m_chain (map (λ z. z.0) from))))).seen) group ++ ((m_cond having.0).marks (inside v (tables_of (map marking.chain (map m_chain (map (λ z. z.0) from)))))))) (apart.after C (of_each marking.item (map m_item (map (λ z. z.0) items)) (inside v (tables_of (map marking.chain (map m_chain (map (λ z. z.0) from)))))) (chains_marks v (calls_of (tables_of (map marking.chain (map m_chain (map (λ z. z.0) from))))) [] (map marking.chain (map m_chain (map (λ z. z.0) from))) ++ ([] ++ (map (column (inside v (tables_of (map marking.chain (map m_chain (map (λ z. z.0) from))))).seen) group ++ ((m_cond having.0).marks (inside v (tables_of (map marking.chain (map m_chain (map (λ z. z.0) from))))))))) k.1))) in subst apart.AllApart (ap (λ m. m.marks v) (sym (query_roll marked mark_steps (record { distinct = distinct; items = (map (λ z. z.0) items); from = (map (λ z. z.0) from); filter = None; group = group; having = (Some having.0) })))) (tt, apart.both (of_each marking.item (map m_item (map (λ z. z.0) items)) (inside v (tables_of (map marking.chain (map m_chain (map (λ z. z.0) from)))))) (chains_marks v (calls_of (tables_of (map marking.chain (map m_chain (map (λ z. z.0) from))))) [] (map marking.chain (map m_chain (map (λ z. z.0) from))) ++ ([] ++ (map (column (inside v (tables_of (map marking.chain (map m_chain (map (λ z. z.0) from))))).seen) group ++ ((m_cond having.0).marks (inside v (tables_of (map marking.chain (map m_chain (map (λ z. z.0) from))))))))) (each m_item items (inside v (tables_of (map marking.chain (map m_chain (map (λ z. z.0) from))))) inner (apart.before C (of_each marking.item (map m_item (map (λ z. z.0) items)) (inside v (tables_of (map marking.chain (map m_chain (map (λ z. z.0) from)))))) (chains_marks v (calls_of (tables_of (map marking.chain (map m_chain (map (λ z. z.0) from))))) [] (map marking.chain (map m_chain (map (λ z. z.0) from))) ++ ([] ++ (map (column (inside v (tables_of (map marking.chain (map m_chain (map (λ z. z.0) from))))).seen) group ++ ((m_cond having.0).marks (inside v (tables_of (map marking.chain (map m_chain (map (λ z. z.0) from))))))))) k.1)) (apart.both (chains_marks v (calls_of (tables_of (map marking.chain (map m_chain (map (λ z. z.0) from))))) [] (map marking.chain (map m_chain (map (λ z. z.0) from)))) ([] ++ (map (column (inside v (tables_of (map marking.chain (map m_chain (map (λ z. z.0) from))))).seen) group ++ ((m_cond having.0).marks (inside v (tables_of (map marking.chain (map m_chain (map (λ z. z.0) from)))))))) (apart.chains_marked C (map marking.chain (map m_chain (map (λ z. z.0) from))) (chains_apart from) v good (calls_of (tables_of (map marking.chain (map m_chain (map (λ z. z.0) from))))) [] (apart.within_calls (tables_of (map marking.chain (map m_chain (map (λ z. z.0) from))))) (apart.before C (chains_marks v (calls_of (tables_of (map marking.chain (map m_chain (map (λ z. z.0) from))))) [] (map marking.chain (map m_chain (map (λ z. z.0) from)))) ([] ++ (map (column (inside v (tables_of (map marking.chain (map m_chain (map (λ z. z.0) from))))).seen) group ++ ((m_cond having.0).marks (inside v (tables_of (map marking.chain (map m_chain (map (λ z. z.0) from)))))))) (apart.after C (of_each marking.item (map m_item (map (λ z. z.0) items)) (inside v (tables_of (map marking.chain (map m_chain (map (λ z. z.0) from)))))) (chains_marks v (calls_of (tables_of (map marking.chain (map m_chain (map (λ z. z.0) from))))) [] (map marking.chain (map m_chain (map (λ z. z.0) from))) ++ ([] ++ (map (column (inside v (tables_of (map marking.chain (map m_chain (map (λ z. z.0) from))))).seen) group ++ ((m_cond having.0).marks (inside v (tables_of (map marking.chain (map m_chain (map (λ z. z.0) from))))))))) k.1))) (apart.both ([]) (map (column (inside v (tables_of (map marking.chain (map m_chain (map (λ z. z.0) from))))).seen) group ++ ((m_cond having.0).marks (inside v (tables_of (map marking.chain (map m_chain (map (λ z. z.0) from))))))) (tt) (apart.both (map (column (inside v (tables_of (map marking.chain (map m_chain (map (λ z. z.0) from))))).seen) group) ((m_cond having.0).marks (inside v (tables_of (map marking.chain (map m_chain (map (λ z. z.0) from)))))) (apart.columns_apart (inside v (tables_of (map marking.chain (map m_chain (map (λ z. z.0) from))))).seen inner.0 group) (having.1 (inside v (tables_of (map marking.chain (map m_chain (map (λ z. z.0) from))))) inner (apart.after C (map (column (inside v (tables_of (map marking.chain (map m_chain (map (λ z. z.0) from))))).seen) group) ((m_cond having.0).marks (inside v (tables_of (map marking.chain (map m_chain (map (λ z. z.0) from)))))) (apart.after C ([]) (map (column (inside v (tables_of (map marking.chain (map m_chain (map (λ z. z.0) from))))).seen) group ++ ((m_cond having.0).marks (inside v (tables_of (map marking.chain (map m_chain (map (λ z. z.0) from))))))) (apart.after C (chains_marks v (calls_of (tables_of (map marking.chain (map m_chain (map (λ z. z.0) from))))) [] (map marking.chain (map m_chain (map (λ z. z.0) from)))) ([] ++ (map (column (inside v (tables_of (map marking.chain (map m_chain (map (λ z. z.0) from))))).seen) group ++ ((m_cond having.0).marks (inside v (tables_of (map marking.chain (map m_chain (map (λ z. z.0) from)))))))) (apart.after C (of_each marking.item (map m_item (map (λ z. z.0) items)) (inside v (tables_of (map marking.chain (map m_chain (map (λ z. z.0) from)))))) (chains_marks v (calls_of (tables_of (map marking.chain (map m_chain (map (λ z. z.0) from))))) [] (map marking.chain (map m_chain (map (λ z. z.0) from))) ++ ([] ++ (map (column (inside v (tables_of (map marking.chain (map m_chain (map (λ z. z.0) from))))).seen) group ++ ((m_cond having.0).marks (inside v (tables_of (map marking.chain (map m_chain (map (λ z. z.0) from))))))))) k.1)))))))))
  query_good distinct items from (Some filter) group None = λ v good h. let k : (apart.Taken C) (enter (items_in v.seen (tables_of (map marking.chain (map m_chain (map (λ z. z.0) from))))) ∷ (of_each marking.item (map m_item (map (λ z. z.0) items)) (inside v (tables_of (map marking.chain (map m_chain (map (λ z. z.0) from))))) ++ (chains_marks v (calls_of (tables_of (map marking.chain (map m_chain (map (λ z. z.0) from))))) [] (map marking.chain (map m_chain (map (λ z. z.0) from))) ++ ((m_cond filter.0).marks (inside v (tables_of (map marking.chain (map m_chain (map (λ z. z.0) from))))) ++ (map (column (inside v (tables_of (map marking.chain (map m_chain (map (λ z. z.0) from))))).seen) group ++ ([])))))) = subst (apart.Taken C) (ap (λ m. m.marks v) (query_roll marked mark_steps (record { distinct = distinct; items = (map (λ z. z.0) items); from = (map (λ z. z.0) from); filter = (Some filter.0); group = group; having = None }))) h in let inner : apart.Good (inside v (tables_of (map marking.chain (map m_chain (map (λ z. z.0) from))))) = apart.good_inside C v (tables_of (map marking.chain (map m_chain (map (λ z. z.0) from)))) [] good (apart.chains_fresh C (map marking.chain (map m_chain (map (λ z. z.0) from))) v (calls_of (tables_of (map marking.chain (map m_chain (map (λ z. z.0) from))))) [] (apart.before C (chains_marks v (calls_of (tables_of (map marking.chain (map m_chain (map (λ z. z.0) from))))) [] (map marking.chain (map m_chain (map (λ z. z.0) from)))) ((m_cond filter.0).marks (inside v (tables_of (map marking.chain (map m_chain (map (λ z. z.0) from))))) ++ (map (column (inside v (tables_of (map marking.chain (map m_chain (map (λ z. z.0) from))))).seen) group ++ ([]))) (apart.after C (of_each marking.item (map m_item (map (λ z. z.0) items)) (inside v (tables_of (map marking.chain (map m_chain (map (λ z. z.0) from)))))) (chains_marks v (calls_of (tables_of (map marking.chain (map m_chain (map (λ z. z.0) from))))) [] (map marking.chain (map m_chain (map (λ z. z.0) from))) ++ ((m_cond filter.0).marks (inside v (tables_of (map marking.chain (map m_chain (map (λ z. z.0) from))))) ++ (map (column (inside v (tables_of (map marking.chain (map m_chain (map (λ z. z.0) from))))).seen) group ++ ([])))) k.1))) in subst apart.AllApart (ap (λ m. m.marks v) (sym (query_roll marked mark_steps (record { distinct = distinct; items = (map (λ z. z.0) items); from = (map (λ z. z.0) from); filter = (Some filter.0); group = group; having = None })))) (tt, apart.both (of_each marking.item (map m_item (map (λ z. z.0) items)) (inside v (tables_of (map marking.chain (map m_chain (map (λ z. z.0) from)))))) (chains_marks v (calls_of (tables_of (map marking.chain (map m_chain (map (λ z. z.0) from))))) [] (map marking.chain (map m_chain (map (λ z. z.0) from))) ++ ((m_cond filter.0).marks (inside v (tables_of (map marking.chain (map m_chain (map (λ z. z.0) from))))) ++ (map (column (inside v (tables_of (map marking.chain (map m_chain (map (λ z. z.0) from))))).seen) group ++ ([])))) (each m_item items (inside v (tables_of (map marking.chain (map m_chain (map (λ z. z.0) from))))) inner (apart.before C (of_each marking.item (map m_item (map (λ z. z.0) items)) (inside v (tables_of (map marking.chain (map m_chain (map (λ z. z.0) from)))))) (chains_marks v (calls_of (tables_of (map marking.chain (map m_chain (map (λ z. z.0) from))))) [] (map marking.chain (map m_chain (map (λ z. z.0) from))) ++ ((m_cond filter.0).marks (inside v (tables_of (map marking.chain (map m_chain (map (λ z. z.0) from))))) ++ (map (column (inside v (tables_of (map marking.chain (map m_chain (map (λ z. z.0) from))))).seen) group ++ ([])))) k.1)) (apart.both (chains_marks v (calls_of (tables_of (map marking.chain (map m_chain (map (λ z. z.0) from))))) [] (map marking.chain (map m_chain (map (λ z. z.0) from)))) ((m_cond filter.0).marks (inside v (tables_of (map marking.chain (map m_chain (map (λ z. z.0) from))))) ++ (map (column (inside v (tables_of (map marking.chain (map m_chain (map (λ z. z.0) from))))).seen) group ++ ([]))) (apart.chains_marked C (map marking.chain (map m_chain (map (λ z. z.0) from))) (chains_apart from) v good (calls_of (tables_of (map marking.chain (map m_chain (map (λ z. z.0) from))))) [] (apart.within_calls (tables_of (map marking.chain (map m_chain (map (λ z. z.0) from))))) (apart.before C (chains_marks v (calls_of (tables_of (map marking.chain (map m_chain (map (λ z. z.0) from))))) [] (map marking.chain (map m_chain (map (λ z. z.0) from)))) ((m_cond filter.0).marks (inside v (tables_of (map marking.chain (map m_chain (map (λ z. z.0) from))))) ++ (map (column (inside v (tables_of (map marking.chain (map m_chain (map (λ z. z.0) from))))).seen) group ++ ([]))) (apart.after C (of_each marking.item (map m_item (map (λ z. z.0) items)) (inside v (tables_of (map marking.chain (map m_chain (map (λ z. z.0) from)))))) (chains_marks v (calls_of (tables_of (map marking.chain (map m_chain (map (λ z. z.0) from))))) [] (map marking.chain (map m_chain (map (λ z. z.0) from))) ++ ((m_cond filter.0).marks (inside v (tables_of (map marking.chain (map m_chain (map (λ z. z.0) from))))) ++ (map (column (inside v (tables_of (map marking.chain (map m_chain (map (λ z. z.0) from))))).seen) group ++ ([])))) k.1))) (apart.both ((m_cond filter.0).marks (inside v (tables_of (map marking.chain (map m_chain (map (λ z. z.0) from)))))) (map (column (inside v (tables_of (map marking.chain (map m_chain (map (λ z. z.0) from))))).seen) group ++ ([])) (filter.1 (inside v (tables_of (map marking.chain (map m_chain (map (λ z. z.0) from))))) inner (apart.before C ((m_cond filter.0).marks (inside v (tables_of (map marking.chain (map m_chain (map (λ z. z.0) from)))))) (map (column (inside v (tables_of (map marking.chain (map m_chain (map (λ z. z.0) from))))).seen) group ++ ([])) (apart.after C (chains_marks v (calls_of (tables_of (map marking.chain (map m_chain (map (λ z. z.0) from))))) [] (map marking.chain (map m_chain (map (λ z. z.0) from)))) ((m_cond filter.0).marks (inside v (tables_of (map marking.chain (map m_chain (map (λ z. z.0) from))))) ++ (map (column (inside v (tables_of (map marking.chain (map m_chain (map (λ z. z.0) from))))).seen) group ++ ([]))) (apart.after C (of_each marking.item (map m_item (map (λ z. z.0) items)) (inside v (tables_of (map marking.chain (map m_chain (map (λ z. z.0) from)))))) (chains_marks v (calls_of (tables_of (map marking.chain (map m_chain (map (λ z. z.0) from))))) [] (map marking.chain (map m_chain (map (λ z. z.0) from))) ++ ((m_cond filter.0).marks (inside v (tables_of (map marking.chain (map m_chain (map (λ z. z.0) from))))) ++ (map (column (inside v (tables_of (map marking.chain (map m_chain (map (λ z. z.0) from))))).seen) group ++ ([])))) k.1)))) (apart.both (map (column (inside v (tables_of (map marking.chain (map m_chain (map (λ z. z.0) from))))).seen) group) ([]) (apart.columns_apart (inside v (tables_of (map marking.chain (map m_chain (map (λ z. z.0) from))))).seen inner.0 group) (tt)))))
  query_good distinct items from (Some filter) group (Some having) = λ v good h. let k : (apart.Taken C) (enter (items_in v.seen (tables_of (map marking.chain (map m_chain (map (λ z. z.0) from))))) ∷ (of_each marking.item (map m_item (map (λ z. z.0) items)) (inside v (tables_of (map marking.chain (map m_chain (map (λ z. z.0) from))))) ++ (chains_marks v (calls_of (tables_of (map marking.chain (map m_chain (map (λ z. z.0) from))))) [] (map marking.chain (map m_chain (map (λ z. z.0) from))) ++ ((m_cond filter.0).marks (inside v (tables_of (map marking.chain (map m_chain (map (λ z. z.0) from))))) ++ (map (column (inside v (tables_of (map marking.chain (map m_chain (map (λ z. z.0) from))))).seen) group ++ ((m_cond having.0).marks (inside v (tables_of (map marking.chain (map m_chain (map (λ z. z.0) from))))))))))) = subst (apart.Taken C) (ap (λ m. m.marks v) (query_roll marked mark_steps (record { distinct = distinct; items = (map (λ z. z.0) items); from = (map (λ z. z.0) from); filter = (Some filter.0); group = group; having = (Some having.0) }))) h in let inner : apart.Good (inside v (tables_of (map marking.chain (map m_chain (map (λ z. z.0) from))))) = apart.good_inside C v (tables_of (map marking.chain (map m_chain (map (λ z. z.0) from)))) [] good (apart.chains_fresh C (map marking.chain (map m_chain (map (λ z. z.0) from))) v (calls_of (tables_of (map marking.chain (map m_chain (map (λ z. z.0) from))))) [] (apart.before C (chains_marks v (calls_of (tables_of (map marking.chain (map m_chain (map (λ z. z.0) from))))) [] (map marking.chain (map m_chain (map (λ z. z.0) from)))) ((m_cond filter.0).marks (inside v (tables_of (map marking.chain (map m_chain (map (λ z. z.0) from))))) ++ (map (column (inside v (tables_of (map marking.chain (map m_chain (map (λ z. z.0) from))))).seen) group ++ ((m_cond having.0).marks (inside v (tables_of (map marking.chain (map m_chain (map (λ z. z.0) from)))))))) (apart.after C (of_each marking.item (map m_item (map (λ z. z.0) items)) (inside v (tables_of (map marking.chain (map m_chain (map (λ z. z.0) from)))))) (chains_marks v (calls_of (tables_of (map marking.chain (map m_chain (map (λ z. z.0) from))))) [] (map marking.chain (map m_chain (map (λ z. z.0) from))) ++ ((m_cond filter.0).marks (inside v (tables_of (map marking.chain (map m_chain (map (λ z. z.0) from))))) ++ (map (column (inside v (tables_of (map marking.chain (map m_chain (map (λ z. z.0) from))))).seen) group ++ ((m_cond having.0).marks (inside v (tables_of (map marking.chain (map m_chain (map (λ z. z.0) from))))))))) k.1))) in subst apart.AllApart (ap (λ m. m.marks v) (sym (query_roll marked mark_steps (record { distinct = distinct; items = (map (λ z. z.0) items); from = (map (λ z. z.0) from); filter = (Some filter.0); group = group; having = (Some having.0) })))) (tt, apart.both (of_each marking.item (map m_item (map (λ z. z.0) items)) (inside v (tables_of (map marking.chain (map m_chain (map (λ z. z.0) from)))))) (chains_marks v (calls_of (tables_of (map marking.chain (map m_chain (map (λ z. z.0) from))))) [] (map marking.chain (map m_chain (map (λ z. z.0) from))) ++ ((m_cond filter.0).marks (inside v (tables_of (map marking.chain (map m_chain (map (λ z. z.0) from))))) ++ (map (column (inside v (tables_of (map marking.chain (map m_chain (map (λ z. z.0) from))))).seen) group ++ ((m_cond having.0).marks (inside v (tables_of (map marking.chain (map m_chain (map (λ z. z.0) from))))))))) (each m_item items (inside v (tables_of (map marking.chain (map m_chain (map (λ z. z.0) from))))) inner (apart.before C (of_each marking.item (map m_item (map (λ z. z.0) items)) (inside v (tables_of (map marking.chain (map m_chain (map (λ z. z.0) from)))))) (chains_marks v (calls_of (tables_of (map marking.chain (map m_chain (map (λ z. z.0) from))))) [] (map marking.chain (map m_chain (map (λ z. z.0) from))) ++ ((m_cond filter.0).marks (inside v (tables_of (map marking.chain (map m_chain (map (λ z. z.0) from))))) ++ (map (column (inside v (tables_of (map marking.chain (map m_chain (map (λ z. z.0) from))))).seen) group ++ ((m_cond having.0).marks (inside v (tables_of (map marking.chain (map m_chain (map (λ z. z.0) from))))))))) k.1)) (apart.both (chains_marks v (calls_of (tables_of (map marking.chain (map m_chain (map (λ z. z.0) from))))) [] (map marking.chain (map m_chain (map (λ z. z.0) from)))) ((m_cond filter.0).marks (inside v (tables_of (map marking.chain (map m_chain (map (λ z. z.0) from))))) ++ (map (column (inside v (tables_of (map marking.chain (map m_chain (map (λ z. z.0) from))))).seen) group ++ ((m_cond having.0).marks (inside v (tables_of (map marking.chain (map m_chain (map (λ z. z.0) from)))))))) (apart.chains_marked C (map marking.chain (map m_chain (map (λ z. z.0) from))) (chains_apart from) v good (calls_of (tables_of (map marking.chain (map m_chain (map (λ z. z.0) from))))) [] (apart.within_calls (tables_of (map marking.chain (map m_chain (map (λ z. z.0) from))))) (apart.before C (chains_marks v (calls_of (tables_of (map marking.chain (map m_chain (map (λ z. z.0) from))))) [] (map marking.chain (map m_chain (map (λ z. z.0) from)))) ((m_cond filter.0).marks (inside v (tables_of (map marking.chain (map m_chain (map (λ z. z.0) from))))) ++ (map (column (inside v (tables_of (map marking.chain (map m_chain (map (λ z. z.0) from))))).seen) group ++ ((m_cond having.0).marks (inside v (tables_of (map marking.chain (map m_chain (map (λ z. z.0) from)))))))) (apart.after C (of_each marking.item (map m_item (map (λ z. z.0) items)) (inside v (tables_of (map marking.chain (map m_chain (map (λ z. z.0) from)))))) (chains_marks v (calls_of (tables_of (map marking.chain (map m_chain (map (λ z. z.0) from))))) [] (map marking.chain (map m_chain (map (λ z. z.0) from))) ++ ((m_cond filter.0).marks (inside v (tables_of (map marking.chain (map m_chain (map (λ z. z.0) from))))) ++ (map (column (inside v (tables_of (map marking.chain (map m_chain (map (λ z. z.0) from))))).seen) group ++ ((m_cond having.0).marks (inside v (tables_of (map marking.chain (map m_chain (map (λ z. z.0) from))))))))) k.1))) (apart.both ((m_cond filter.0).marks (inside v (tables_of (map marking.chain (map m_chain (map (λ z. z.0) from)))))) (map (column (inside v (tables_of (map marking.chain (map m_chain (map (λ z. z.0) from))))).seen) group ++ ((m_cond having.0).marks (inside v (tables_of (map marking.chain (map m_chain (map (λ z. z.0) from))))))) (filter.1 (inside v (tables_of (map marking.chain (map m_chain (map (λ z. z.0) from))))) inner (apart.before C ((m_cond filter.0).marks (inside v (tables_of (map marking.chain (map m_chain (map (λ z. z.0) from)))))) (map (column (inside v (tables_of (map marking.chain (map m_chain (map (λ z. z.0) from))))).seen) group ++ ((m_cond having.0).marks (inside v (tables_of (map marking.chain (map m_chain (map (λ z. z.0) from))))))) (apart.after C (chains_marks v (calls_of (tables_of (map marking.chain (map m_chain (map (λ z. z.0) from))))) [] (map marking.chain (map m_chain (map (λ z. z.0) from)))) ((m_cond filter.0).marks (inside v (tables_of (map marking.chain (map m_chain (map (λ z. z.0) from))))) ++ (map (column (inside v (tables_of (map marking.chain (map m_chain (map (λ z. z.0) from))))).seen) group ++ ((m_cond having.0).marks (inside v (tables_of (map marking.chain (map m_chain (map (λ z. z.0) from)))))))) (apart.after C (of_each marking.item (map m_item (map (λ z. z.0) items)) (inside v (tables_of (map marking.chain (map m_chain (map (λ z. z.0) from)))))) (chains_marks v (calls_of (tables_of (map marking.chain (map m_chain (map (λ z. z.0) from))))) [] (map marking.chain (map m_chain (map (λ z. z.0) from))) ++ ((m_cond filter.0).marks (inside v (tables_of (map marking.chain (map m_chain (map (λ z. z.0) from))))) ++ (map (column (inside v (tables_of (map marking.chain (map m_chain (map (λ z. z.0) from))))).seen) group ++ ((m_cond having.0).marks (inside v (tables_of (map marking.chain (map m_chain (map (λ z. z.0) from))))))))) k.1)))) (apart.both (map (column (inside v (tables_of (map marking.chain (map m_chain (map (λ z. z.0) from))))).seen) group) ((m_cond having.0).marks (inside v (tables_of (map marking.chain (map m_chain (map (λ z. z.0) from)))))) (apart.columns_apart (inside v (tables_of (map marking.chain (map m_chain (map (λ z. z.0) from))))).seen inner.0 group) (having.1 (inside v (tables_of (map marking.chain (map m_chain (map (λ z. z.0) from))))) inner (apart.after C (map (column (inside v (tables_of (map marking.chain (map m_chain (map (λ z. z.0) from))))).seen) group) ((m_cond having.0).marks (inside v (tables_of (map marking.chain (map m_chain (map (λ z. z.0) from)))))) (apart.after C ((m_cond filter.0).marks (inside v (tables_of (map marking.chain (map m_chain (map (λ z. z.0) from)))))) (map (column (inside v (tables_of (map marking.chain (map m_chain (map (λ z. z.0) from))))).seen) group ++ ((m_cond having.0).marks (inside v (tables_of (map marking.chain (map m_chain (map (λ z. z.0) from))))))) (apart.after C (chains_marks v (calls_of (tables_of (map marking.chain (map m_chain (map (λ z. z.0) from))))) [] (map marking.chain (map m_chain (map (λ z. z.0) from)))) ((m_cond filter.0).marks (inside v (tables_of (map marking.chain (map m_chain (map (λ z. z.0) from))))) ++ (map (column (inside v (tables_of (map marking.chain (map m_chain (map (λ z. z.0) from))))).seen) group ++ ((m_cond having.0).marks (inside v (tables_of (map marking.chain (map m_chain (map (λ z. z.0) from)))))))) (apart.after C (of_each marking.item (map m_item (map (λ z. z.0) items)) (inside v (tables_of (map marking.chain (map m_chain (map (λ z. z.0) from)))))) (chains_marks v (calls_of (tables_of (map marking.chain (map m_chain (map (λ z. z.0) from))))) [] (map marking.chain (map m_chain (map (λ z. z.0) from))) ++ ((m_cond filter.0).marks (inside v (tables_of (map marking.chain (map m_chain (map (λ z. z.0) from))))) ++ (map (column (inside v (tables_of (map marking.chain (map m_chain (map (λ z. z.0) from))))).seen) group ++ ((m_cond having.0).marks (inside v (tables_of (map marking.chain (map m_chain (map (λ z. z.0) from))))))))) k.1)))))))))

  signed_good : (y : Goods layers.Signed-F) → GoodSigned (roll-Signed (down_signed y))
  signed_good y = λ v good h. let k : (apart.Taken C) ((m_expr y.part.0).marks v) = subst (apart.Taken C) (ap (λ m. m.marks v) (signed_roll marked mark_steps (record { minus = y.minus; part = y.part.0 }))) h in subst apart.AllApart (ap (λ m. m.marks v) (sym (signed_roll marked mark_steps (record { minus = y.minus; part = y.part.0 })))) (y.part.1 v good k)

  pub apart_cond : (x : Cond) → GoodCond x
  apart_cond = ind-Cond GoodCond GoodExpr GoodItem GoodJoin GoodArm GoodChain GoodChoice GoodQuery GoodSigned (λ x y is. subst (λ z. GoodCond (roll-Cond z)) is (cond_good y)) (λ x y is. subst (λ z. GoodExpr (roll-Expr z)) is (expr_good y)) (λ x y is. subst (λ z. GoodItem (roll-Item z)) is (item_good y)) (λ x y is. subst (λ z. GoodJoin (roll-Join z)) is (join_good y)) (λ x y is. subst (λ z. GoodArm (roll-Arm z)) is (arm_good y)) (λ x y is. subst (λ z. GoodChain (roll-Chain z)) is (chain_good y)) (λ x y is. subst (λ z. GoodChoice (roll-Choice z)) is (choice_good y)) (λ x y is. subst (λ z. GoodQuery (roll-Query z)) is (query_good y.distinct y.items y.from y.filter y.group y.having)) (λ x y is. subst (λ z. GoodSigned (roll-Signed z)) is (signed_good y))

  pub apart_expr : (x : Expr) → GoodExpr x
  apart_expr = ind-Expr GoodCond GoodExpr GoodItem GoodJoin GoodArm GoodChain GoodChoice GoodQuery GoodSigned (λ x y is. subst (λ z. GoodCond (roll-Cond z)) is (cond_good y)) (λ x y is. subst (λ z. GoodExpr (roll-Expr z)) is (expr_good y)) (λ x y is. subst (λ z. GoodItem (roll-Item z)) is (item_good y)) (λ x y is. subst (λ z. GoodJoin (roll-Join z)) is (join_good y)) (λ x y is. subst (λ z. GoodArm (roll-Arm z)) is (arm_good y)) (λ x y is. subst (λ z. GoodChain (roll-Chain z)) is (chain_good y)) (λ x y is. subst (λ z. GoodChoice (roll-Choice z)) is (choice_good y)) (λ x y is. subst (λ z. GoodQuery (roll-Query z)) is (query_good y.distinct y.items y.from y.filter y.group y.having)) (λ x y is. subst (λ z. GoodSigned (roll-Signed z)) is (signed_good y))

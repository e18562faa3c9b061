-- Catalogues that agree on what is in sight tell the same expressions from others. tools/names-inductions writes this file.
use Rattle.std.proofs.Common.{◌≡◌, refl, ap, sym, subst, ◌∙◌, List, [], ◌∷◌, Bool, Option, Some, None, map, ◌&&◌}
use Rattle.std.specs.Str.{bytes_eq}
use Rattle.lb_tree.specs.declared.query.Cond.{Cond}
use Rattle.lb_tree.specs.declared.query.Expr.{Expr}
use Rattle.lb_tree.specs.declared.query.Item.{Item}
use Rattle.lb_tree.specs.declared.query.Join.{Join}
use Rattle.lb_tree.specs.declared.query.Arm.{Arm}
use Rattle.lb_tree.specs.declared.query.Chain.{Chain}
use Rattle.lb_tree.specs.declared.query.Choice.{Choice}
use Rattle.lb_tree.specs.declared.query.Query.{Query}
use Rattle.lb_tree.specs.declared.query.Signed.{Signed}
use Rattle.lb_tree.specs.declared.query.Atom.{Atom}
use Rattle.lb_tree.specs.declared.query.Atom.TheVariants as atoms
use Rattle.lb_tree.specs.declared.query.Column.{Column}
use Rattle.lb_tree.specs.declared.query.Cond.TheOpen as layers
use Rattle.lb_tree.specs.declared.query.Cond.TheViews.{roll-Cond, roll-Expr, roll-Item, roll-Join, roll-Arm, roll-Chain, roll-Choice, roll-Query, roll-Signed}
use Rattle.lb_tree.specs.declared.query.Cond.TheFolds.{map-Cond, map-Expr, map-Item, map-Join, map-Arm, map-Chain, map-Choice, map-Query, map-Signed, ind-Expr}
use Rattle.lb_tree.specs.Folds.{Written, cond_of, expr_of, item_of, join_of, arm_of, chain_of, choice_of, query_of, signed_of}
use Rattle.lb_tree.proofs.Opens.{cond_roll, expr_roll, arm_roll, choice_roll, signed_roll}
use Rattle.lb_tree.specs.declared.query.Cond.TheViews.{out-Expr}
use Rattle.lb_tree.specs.Folds.{Layer}
use Rattle.lb_names.specs.declared.place.Seen.{Seen}
use Rattle.lb_names.specs.Scopes.{Catalogue, spots, same_spots, same_column}
use Rattle.lb_names.specs.Same.{Like, same, same_atom, liking, expr_like, like_steps}
use Rattle.lb_names.proofs.NamesFrame.{resolve_same}
use Rattle.lb_names.proofs.Sighted as s

module _ (C D : Catalogue) (seen : List Seen) (agree : s.SeenAgree C D seen) where
  abbrev c_cond : Cond → Like Cond
  c_cond = cond_of liking (like_steps C seen)

  abbrev d_cond : Cond → Like Cond
  d_cond = cond_of liking (like_steps D seen)

  abbrev c_expr : Expr → Like Expr
  c_expr = expr_of liking (like_steps C seen)

  abbrev d_expr : Expr → Like Expr
  d_expr = expr_of liking (like_steps D seen)

  abbrev c_item : Item → Unit {0}
  c_item = item_of liking (like_steps C seen)

  abbrev d_item : Item → Unit {0}
  d_item = item_of liking (like_steps D seen)

  abbrev c_join : Join → Unit {0}
  c_join = join_of liking (like_steps C seen)

  abbrev d_join : Join → Unit {0}
  d_join = join_of liking (like_steps D seen)

  abbrev c_arm : Arm → Like Arm
  c_arm = arm_of liking (like_steps C seen)

  abbrev d_arm : Arm → Like Arm
  d_arm = arm_of liking (like_steps D seen)

  abbrev c_chain : Chain → Unit {0}
  c_chain = chain_of liking (like_steps C seen)

  abbrev d_chain : Chain → Unit {0}
  d_chain = chain_of liking (like_steps D seen)

  abbrev c_choice : Choice → Like Choice
  c_choice = choice_of liking (like_steps C seen)

  abbrev d_choice : Choice → Like Choice
  d_choice = choice_of liking (like_steps D seen)

  abbrev c_query : Query → Unit {0}
  c_query = query_of liking (like_steps C seen)

  abbrev d_query : Query → Unit {0}
  d_query = query_of liking (like_steps D seen)

  abbrev c_signed : Signed → Like Signed
  c_signed = signed_of liking (like_steps C seen)

  abbrev d_signed : Signed → Like Signed
  d_signed = signed_of liking (like_steps D seen)

  column_alike : (p q : Column) → same_column C seen p q ≡ same_column D seen p q
  column_alike p q = λ i. same_spots (spots (resolve_same C D seen agree p i)) (spots (resolve_same C D seen agree q i))

  atom_alike : (a b : Atom) → same_atom C seen a b ≡ same_atom D seen a b
  atom_alike atoms.Null b = refl
  atom_alike (atoms.Int p) b = refl
  atom_alike (atoms.Text p) b = refl
  atom_alike (atoms.Date p) b = refl
  atom_alike atoms.CurrentDate b = refl
  atom_alike atoms.SessionUser b = refl
  atom_alike (atoms.Column p) atoms.Null = refl
  atom_alike (atoms.Column p) (atoms.Int x) = refl
  atom_alike (atoms.Column p) (atoms.Text x) = refl
  atom_alike (atoms.Column p) (atoms.Date x) = refl
  atom_alike (atoms.Column p) atoms.CurrentDate = refl
  atom_alike (atoms.Column p) atoms.SessionUser = refl
  atom_alike (atoms.Column p) (atoms.Column x) = column_alike p x
  atom_alike (atoms.Column p) atoms.CountRows = refl
  atom_alike (atoms.Column p) (atoms.VerifyRole x) = refl
  atom_alike (atoms.Column p) (atoms.VerifyGroup x) = refl
  atom_alike (atoms.Column p) (atoms.SecLabel x y) = refl
  atom_alike (atoms.Column p) (atoms.SecLabelByName x y) = refl
  atom_alike (atoms.Column p) (atoms.SecLabelToChar x y) = refl
  atom_alike atoms.CountRows b = refl
  atom_alike (atoms.VerifyRole p) b = refl
  atom_alike (atoms.VerifyGroup p) b = refl
  atom_alike (atoms.SecLabel p q) b = refl
  atom_alike (atoms.SecLabelByName p q) b = refl
  atom_alike (atoms.SecLabelToChar p q) atoms.Null = refl
  atom_alike (atoms.SecLabelToChar p q) (atoms.Int x) = refl
  atom_alike (atoms.SecLabelToChar p q) (atoms.Text x) = refl
  atom_alike (atoms.SecLabelToChar p q) (atoms.Date x) = refl
  atom_alike (atoms.SecLabelToChar p q) atoms.CurrentDate = refl
  atom_alike (atoms.SecLabelToChar p q) atoms.SessionUser = refl
  atom_alike (atoms.SecLabelToChar p q) (atoms.Column x) = refl
  atom_alike (atoms.SecLabelToChar p q) atoms.CountRows = refl
  atom_alike (atoms.SecLabelToChar p q) (atoms.VerifyRole x) = refl
  atom_alike (atoms.SecLabelToChar p q) (atoms.VerifyGroup x) = refl
  atom_alike (atoms.SecLabelToChar p q) (atoms.SecLabel x y) = refl
  atom_alike (atoms.SecLabelToChar p q) (atoms.SecLabelByName x y) = refl
  atom_alike (atoms.SecLabelToChar p q) (atoms.SecLabelToChar x y) = ap (λ z. bytes_eq p x && z) (column_alike q y)

  like_alike : (f : Layer liking layers.Expr-F) (z : Written layers.Expr-F) → expr_like C seen f z ≡ expr_like D seen f z
  like_alike (layers.Expr-F.Atom f) (layers.Expr-F.Atom x) = atom_alike f x
  like_alike (layers.Expr-F.Atom f) (layers.Expr-F.Sum x) = refl
  like_alike (layers.Expr-F.Atom f) (layers.Expr-F.Concat x) = refl
  like_alike (layers.Expr-F.Atom f) (layers.Expr-F.Product x) = refl
  like_alike (layers.Expr-F.Atom f) (layers.Expr-F.Case x y) = refl
  like_alike (layers.Expr-F.Atom f) (layers.Expr-F.Match x y w) = refl
  like_alike (layers.Expr-F.Atom f) (layers.Expr-F.Aggregate x y) = refl
  like_alike (layers.Expr-F.Atom f) (layers.Expr-F.Substr x y w) = refl
  like_alike (layers.Expr-F.Atom f) (layers.Expr-F.Apply x y) = refl
  like_alike (layers.Expr-F.Atom f) (layers.Expr-F.Coalesce x) = refl
  like_alike (layers.Expr-F.Sum f) z = refl
  like_alike (layers.Expr-F.Concat f) z = refl
  like_alike (layers.Expr-F.Product f) z = refl
  like_alike (layers.Expr-F.Case f g) z = refl
  like_alike (layers.Expr-F.Match f g h) z = refl
  like_alike (layers.Expr-F.Aggregate f g) z = refl
  like_alike (layers.Expr-F.Substr f g h) z = refl
  like_alike (layers.Expr-F.Apply f g) z = refl
  like_alike (layers.Expr-F.Coalesce f) z = refl

  expr_step : (f : Layer liking layers.Expr-F) → (like_steps C seen).expr f ≡ (like_steps D seen).expr f
  expr_step f = λ i. record { to = λ e. like_alike f (out-Expr e) i }

  each : {X : Type 0} (F G : X → Like X) (xs : List ((x : X) × (F x ≡ G x))) → map F (map (λ z. z.0) xs) ≡ map G (map (λ z. z.0) xs)
  each F G [] = refl
  each F G (x ∷ xs) = λ i. x.1 i ∷ each F G xs i

  abbrev GoodCond : Cond → Type 0
  GoodCond x = c_cond x ≡ d_cond x

  abbrev WithCond : Type 0
  WithCond = (x : Cond) × GoodCond x

  abbrev GoodExpr : Expr → Type 0
  GoodExpr x = c_expr x ≡ d_expr x

  abbrev WithExpr : Type 0
  WithExpr = (x : Expr) × GoodExpr x

  abbrev GoodItem : Item → Type 0
  GoodItem x = Unit {0}

  abbrev WithItem : Type 0
  WithItem = (x : Item) × GoodItem x

  abbrev GoodJoin : Join → Type 0
  GoodJoin x = Unit {0}

  abbrev WithJoin : Type 0
  WithJoin = (x : Join) × GoodJoin x

  abbrev GoodArm : Arm → Type 0
  GoodArm x = c_arm x ≡ d_arm x

  abbrev WithArm : Type 0
  WithArm = (x : Arm) × GoodArm x

  abbrev GoodChain : Chain → Type 0
  GoodChain x = Unit {0}

  abbrev WithChain : Type 0
  WithChain = (x : Chain) × GoodChain x

  abbrev GoodChoice : Choice → Type 0
  GoodChoice x = c_choice x ≡ d_choice x

  abbrev WithChoice : Type 0
  WithChoice = (x : Choice) × GoodChoice x

  abbrev GoodQuery : Query → Type 0
  GoodQuery x = Unit {0}

  abbrev WithQuery : Type 0
  WithQuery = (x : Query) × GoodQuery x

  abbrev GoodSigned : Signed → Type 0
  GoodSigned x = c_signed x ≡ d_signed x

  abbrev WithSigned : Type 0
  WithSigned = (x : Signed) × GoodSigned x

  -- a layer whose parts have their facts
  abbrev Goods : (Type 0 → Type 0 → Type 0 → Type 0 → Type 0 → Type 0 → Type 0 → Type 0 → Type 0 → Type 0) → Type 0
  Goods F = F WithCond WithExpr WithItem WithJoin WithArm WithChain WithChoice WithQuery WithSigned

  abbrev down_cond : Goods layers.Cond-F → Written layers.Cond-F
  down_cond = map-Cond WithCond WithExpr WithItem WithJoin WithArm WithChain WithChoice WithQuery WithSigned Cond Expr Item Join Arm Chain Choice Query Signed (λ z. z.0) (λ z. z.0) (λ z. z.0) (λ z. z.0) (λ z. z.0) (λ z. z.0) (λ z. z.0) (λ z. z.0) (λ z. z.0)

  abbrev down_expr : Goods layers.Expr-F → Written layers.Expr-F
  down_expr = map-Expr WithCond WithExpr WithItem WithJoin WithArm WithChain WithChoice WithQuery WithSigned Cond Expr Item Join Arm Chain Choice Query Signed (λ z. z.0) (λ z. z.0) (λ z. z.0) (λ z. z.0) (λ z. z.0) (λ z. z.0) (λ z. z.0) (λ z. z.0) (λ z. z.0)

  abbrev down_item : Goods layers.Item-F → Written layers.Item-F
  down_item = map-Item WithCond WithExpr WithItem WithJoin WithArm WithChain WithChoice WithQuery WithSigned Cond Expr Item Join Arm Chain Choice Query Signed (λ z. z.0) (λ z. z.0) (λ z. z.0) (λ z. z.0) (λ z. z.0) (λ z. z.0) (λ z. z.0) (λ z. z.0) (λ z. z.0)

  abbrev down_join : Goods layers.Join-F → Written layers.Join-F
  down_join = map-Join WithCond WithExpr WithItem WithJoin WithArm WithChain WithChoice WithQuery WithSigned Cond Expr Item Join Arm Chain Choice Query Signed (λ z. z.0) (λ z. z.0) (λ z. z.0) (λ z. z.0) (λ z. z.0) (λ z. z.0) (λ z. z.0) (λ z. z.0) (λ z. z.0)

  abbrev down_arm : Goods layers.Arm-F → Written layers.Arm-F
  down_arm = map-Arm WithCond WithExpr WithItem WithJoin WithArm WithChain WithChoice WithQuery WithSigned Cond Expr Item Join Arm Chain Choice Query Signed (λ z. z.0) (λ z. z.0) (λ z. z.0) (λ z. z.0) (λ z. z.0) (λ z. z.0) (λ z. z.0) (λ z. z.0) (λ z. z.0)

  abbrev down_chain : Goods layers.Chain-F → Written layers.Chain-F
  down_chain = map-Chain WithCond WithExpr WithItem WithJoin WithArm WithChain WithChoice WithQuery WithSigned Cond Expr Item Join Arm Chain Choice Query Signed (λ z. z.0) (λ z. z.0) (λ z. z.0) (λ z. z.0) (λ z. z.0) (λ z. z.0) (λ z. z.0) (λ z. z.0) (λ z. z.0)

  abbrev down_choice : Goods layers.Choice-F → Written layers.Choice-F
  down_choice = map-Choice WithCond WithExpr WithItem WithJoin WithArm WithChain WithChoice WithQuery WithSigned Cond Expr Item Join Arm Chain Choice Query Signed (λ z. z.0) (λ z. z.0) (λ z. z.0) (λ z. z.0) (λ z. z.0) (λ z. z.0) (λ z. z.0) (λ z. z.0) (λ z. z.0)

  abbrev down_query : Goods layers.Query-F → Written layers.Query-F
  down_query = map-Query WithCond WithExpr WithItem WithJoin WithArm WithChain WithChoice WithQuery WithSigned Cond Expr Item Join Arm Chain Choice Query Signed (λ z. z.0) (λ z. z.0) (λ z. z.0) (λ z. z.0) (λ z. z.0) (λ z. z.0) (λ z. z.0) (λ z. z.0) (λ z. z.0)

  abbrev down_signed : Goods layers.Signed-F → Written layers.Signed-F
  down_signed = map-Signed WithCond WithExpr WithItem WithJoin WithArm WithChain WithChoice WithQuery WithSigned Cond Expr Item Join Arm Chain Choice Query Signed (λ z. z.0) (λ z. z.0) (λ z. z.0) (λ z. z.0) (λ z. z.0) (λ z. z.0) (λ z. z.0) (λ z. z.0) (λ z. z.0)

  cond_good : (y : Goods layers.Cond-F) → GoodCond (roll-Cond (down_cond y))
  cond_good (layers.Cond-F.Or a) = cond_roll liking (like_steps C seen) (layers.Cond-F.Or (map (λ z. z.0) a)) ∙ (λ i. (like_steps C seen).cond (layers.Cond-F.Or (each c_cond d_cond a i))) ∙ refl ∙ sym (cond_roll liking (like_steps D seen) (layers.Cond-F.Or (map (λ z. z.0) a)))
  cond_good (layers.Cond-F.And a) = cond_roll liking (like_steps C seen) (layers.Cond-F.And (map (λ z. z.0) a)) ∙ (λ i. (like_steps C seen).cond (layers.Cond-F.And (each c_cond d_cond a i))) ∙ refl ∙ sym (cond_roll liking (like_steps D seen) (layers.Cond-F.And (map (λ z. z.0) a)))
  cond_good (layers.Cond-F.Not a) = cond_roll liking (like_steps C seen) (layers.Cond-F.Not a.0) ∙ (λ i. (like_steps C seen).cond (layers.Cond-F.Not (a.1 i))) ∙ refl ∙ sym (cond_roll liking (like_steps D seen) (layers.Cond-F.Not a.0))
  cond_good (layers.Cond-F.Exists a) = cond_roll liking (like_steps C seen) (layers.Cond-F.Exists a.0) ∙ (λ i. (like_steps C seen).cond (layers.Cond-F.Exists tt)) ∙ refl ∙ sym (cond_roll liking (like_steps D seen) (layers.Cond-F.Exists a.0))
  cond_good (layers.Cond-F.Compare a b c) = cond_roll liking (like_steps C seen) (layers.Cond-F.Compare a b.0 c.0) ∙ (λ i. (like_steps C seen).cond (layers.Cond-F.Compare a (b.1 i) (c.1 i))) ∙ refl ∙ sym (cond_roll liking (like_steps D seen) (layers.Cond-F.Compare a b.0 c.0))
  cond_good (layers.Cond-F.CompareQuery a b c) = cond_roll liking (like_steps C seen) (layers.Cond-F.CompareQuery a b.0 c.0) ∙ (λ i. (like_steps C seen).cond (layers.Cond-F.CompareQuery a (b.1 i) tt)) ∙ refl ∙ sym (cond_roll liking (like_steps D seen) (layers.Cond-F.CompareQuery a b.0 c.0))
  cond_good (layers.Cond-F.IsNull a) = cond_roll liking (like_steps C seen) (layers.Cond-F.IsNull a.0) ∙ (λ i. (like_steps C seen).cond (layers.Cond-F.IsNull (a.1 i))) ∙ refl ∙ sym (cond_roll liking (like_steps D seen) (layers.Cond-F.IsNull a.0))
  cond_good (layers.Cond-F.InQuery a b) = cond_roll liking (like_steps C seen) (layers.Cond-F.InQuery a.0 b.0) ∙ (λ i. (like_steps C seen).cond (layers.Cond-F.InQuery (a.1 i) tt)) ∙ refl ∙ sym (cond_roll liking (like_steps D seen) (layers.Cond-F.InQuery a.0 b.0))
  cond_good (layers.Cond-F.InList a b) = cond_roll liking (like_steps C seen) (layers.Cond-F.InList a.0 (map (λ z. z.0) b)) ∙ (λ i. (like_steps C seen).cond (layers.Cond-F.InList (a.1 i) (each c_expr d_expr b i))) ∙ refl ∙ sym (cond_roll liking (like_steps D seen) (layers.Cond-F.InList a.0 (map (λ z. z.0) b)))
  cond_good (layers.Cond-F.Between a b c) = cond_roll liking (like_steps C seen) (layers.Cond-F.Between a.0 b.0 c.0) ∙ (λ i. (like_steps C seen).cond (layers.Cond-F.Between (a.1 i) (b.1 i) (c.1 i))) ∙ refl ∙ sym (cond_roll liking (like_steps D seen) (layers.Cond-F.Between a.0 b.0 c.0))

  expr_good : (y : Goods layers.Expr-F) → GoodExpr (roll-Expr (down_expr y))
  expr_good (layers.Expr-F.Atom a) = expr_roll liking (like_steps C seen) (layers.Expr-F.Atom a) ∙ (λ i. (like_steps C seen).expr (layers.Expr-F.Atom a)) ∙ expr_step (layers.Expr-F.Atom a) ∙ sym (expr_roll liking (like_steps D seen) (layers.Expr-F.Atom a))
  expr_good (layers.Expr-F.Sum a) = expr_roll liking (like_steps C seen) (layers.Expr-F.Sum (map (λ z. z.0) a)) ∙ (λ i. (like_steps C seen).expr (layers.Expr-F.Sum (each c_signed d_signed a i))) ∙ expr_step (layers.Expr-F.Sum (map d_signed (map (λ z. z.0) a))) ∙ sym (expr_roll liking (like_steps D seen) (layers.Expr-F.Sum (map (λ z. z.0) a)))
  expr_good (layers.Expr-F.Concat a) = expr_roll liking (like_steps C seen) (layers.Expr-F.Concat (map (λ z. z.0) a)) ∙ (λ i. (like_steps C seen).expr (layers.Expr-F.Concat (each c_expr d_expr a i))) ∙ expr_step (layers.Expr-F.Concat (map d_expr (map (λ z. z.0) a))) ∙ sym (expr_roll liking (like_steps D seen) (layers.Expr-F.Concat (map (λ z. z.0) a)))
  expr_good (layers.Expr-F.Product a) = expr_roll liking (like_steps C seen) (layers.Expr-F.Product (map (λ z. z.0) a)) ∙ (λ i. (like_steps C seen).expr (layers.Expr-F.Product (each c_expr d_expr a i))) ∙ expr_step (layers.Expr-F.Product (map d_expr (map (λ z. z.0) a))) ∙ sym (expr_roll liking (like_steps D seen) (layers.Expr-F.Product (map (λ z. z.0) a)))
  expr_good (layers.Expr-F.Case a None) = expr_roll liking (like_steps C seen) (layers.Expr-F.Case (map (λ z. z.0) a) None) ∙ (λ i. (like_steps C seen).expr (layers.Expr-F.Case (each c_arm d_arm a i) None)) ∙ expr_step (layers.Expr-F.Case (map d_arm (map (λ z. z.0) a)) None) ∙ sym (expr_roll liking (like_steps D seen) (layers.Expr-F.Case (map (λ z. z.0) a) None))
  expr_good (layers.Expr-F.Case a (Some b)) = expr_roll liking (like_steps C seen) (layers.Expr-F.Case (map (λ z. z.0) a) (Some b.0)) ∙ (λ i. (like_steps C seen).expr (layers.Expr-F.Case (each c_arm d_arm a i) (Some (b.1 i)))) ∙ expr_step (layers.Expr-F.Case (map d_arm (map (λ z. z.0) a)) (Some (d_expr b.0))) ∙ sym (expr_roll liking (like_steps D seen) (layers.Expr-F.Case (map (λ z. z.0) a) (Some b.0)))
  expr_good (layers.Expr-F.Match a b None) = expr_roll liking (like_steps C seen) (layers.Expr-F.Match a.0 (map (λ z. z.0) b) None) ∙ (λ i. (like_steps C seen).expr (layers.Expr-F.Match (a.1 i) (each c_choice d_choice b i) None)) ∙ expr_step (layers.Expr-F.Match (d_expr a.0) (map d_choice (map (λ z. z.0) b)) None) ∙ sym (expr_roll liking (like_steps D seen) (layers.Expr-F.Match a.0 (map (λ z. z.0) b) None))
  expr_good (layers.Expr-F.Match a b (Some c)) = expr_roll liking (like_steps C seen) (layers.Expr-F.Match a.0 (map (λ z. z.0) b) (Some c.0)) ∙ (λ i. (like_steps C seen).expr (layers.Expr-F.Match (a.1 i) (each c_choice d_choice b i) (Some (c.1 i)))) ∙ expr_step (layers.Expr-F.Match (d_expr a.0) (map d_choice (map (λ z. z.0) b)) (Some (d_expr c.0))) ∙ sym (expr_roll liking (like_steps D seen) (layers.Expr-F.Match a.0 (map (λ z. z.0) b) (Some c.0)))
  expr_good (layers.Expr-F.Aggregate a b) = expr_roll liking (like_steps C seen) (layers.Expr-F.Aggregate a b.0) ∙ (λ i. (like_steps C seen).expr (layers.Expr-F.Aggregate a (b.1 i))) ∙ expr_step (layers.Expr-F.Aggregate a (d_expr b.0)) ∙ sym (expr_roll liking (like_steps D seen) (layers.Expr-F.Aggregate a b.0))
  expr_good (layers.Expr-F.Substr a b None) = expr_roll liking (like_steps C seen) (layers.Expr-F.Substr a.0 b.0 None) ∙ (λ i. (like_steps C seen).expr (layers.Expr-F.Substr (a.1 i) (b.1 i) None)) ∙ expr_step (layers.Expr-F.Substr (d_expr a.0) (d_expr b.0) None) ∙ sym (expr_roll liking (like_steps D seen) (layers.Expr-F.Substr a.0 b.0 None))
  expr_good (layers.Expr-F.Substr a b (Some c)) = expr_roll liking (like_steps C seen) (layers.Expr-F.Substr a.0 b.0 (Some c.0)) ∙ (λ i. (like_steps C seen).expr (layers.Expr-F.Substr (a.1 i) (b.1 i) (Some (c.1 i)))) ∙ expr_step (layers.Expr-F.Substr (d_expr a.0) (d_expr b.0) (Some (d_expr c.0))) ∙ sym (expr_roll liking (like_steps D seen) (layers.Expr-F.Substr a.0 b.0 (Some c.0)))
  expr_good (layers.Expr-F.Apply a b) = expr_roll liking (like_steps C seen) (layers.Expr-F.Apply a b.0) ∙ (λ i. (like_steps C seen).expr (layers.Expr-F.Apply a (b.1 i))) ∙ expr_step (layers.Expr-F.Apply a (d_expr b.0)) ∙ sym (expr_roll liking (like_steps D seen) (layers.Expr-F.Apply a b.0))
  expr_good (layers.Expr-F.Coalesce a) = expr_roll liking (like_steps C seen) (layers.Expr-F.Coalesce (map (λ z. z.0) a)) ∙ (λ i. (like_steps C seen).expr (layers.Expr-F.Coalesce (each c_expr d_expr a i))) ∙ expr_step (layers.Expr-F.Coalesce (map d_expr (map (λ z. z.0) a))) ∙ sym (expr_roll liking (like_steps D seen) (layers.Expr-F.Coalesce (map (λ z. z.0) a)))

  item_good : (y : Goods layers.Item-F) → GoodItem (roll-Item (down_item y))
  item_good layers.Item-F.Everything = tt
  item_good (layers.Item-F.AllOf a) = tt
  item_good (layers.Item-F.Value a b) = tt

  join_good : (y : Goods layers.Join-F) → GoodJoin (roll-Join (down_join y))
  join_good (layers.Join-F.Inner a b) = tt
  join_good (layers.Join-F.Left a b) = tt
  join_good (layers.Join-F.Cross a) = tt

  arm_good : (y : Goods layers.Arm-F) → GoodArm (roll-Arm (down_arm y))
  arm_good y = arm_roll liking (like_steps C seen) (record { when = y.when.0; result = y.result.0 }) ∙ (λ i. (like_steps C seen).arm (record { when = (y.when.1 i); result = (y.result.1 i) })) ∙ refl ∙ sym (arm_roll liking (like_steps D seen) (record { when = y.when.0; result = y.result.0 }))

  chain_good : (y : Goods layers.Chain-F) → GoodChain (roll-Chain (down_chain y))
  chain_good y = tt

  choice_good : (y : Goods layers.Choice-F) → GoodChoice (roll-Choice (down_choice y))
  choice_good y = choice_roll liking (like_steps C seen) (record { when = y.when.0; result = y.result.0 }) ∙ (λ i. (like_steps C seen).choice (record { when = (y.when.1 i); result = (y.result.1 i) })) ∙ refl ∙ sym (choice_roll liking (like_steps D seen) (record { when = y.when.0; result = y.result.0 }))

  query_good : (distinct : Bool) (items : List WithItem) (from : List WithChain) (filter : Option WithCond) (group : List Column) (having : Option WithCond)
      → GoodQuery (roll-Query (down_query (record { distinct = distinct; items = items; from = from; filter = filter; group = group; having = having })))
  query_good distinct items from None group None = tt
  query_good distinct items from None group (Some having) = tt
  query_good distinct items from (Some filter) group None = tt
  query_good distinct items from (Some filter) group (Some having) = tt

  signed_good : (y : Goods layers.Signed-F) → GoodSigned (roll-Signed (down_signed y))
  signed_good y = signed_roll liking (like_steps C seen) (record { minus = y.minus; part = y.part.0 }) ∙ (λ i. (like_steps C seen).signed (record { minus = y.minus; part = (y.part.1 i) })) ∙ refl ∙ sym (signed_roll liking (like_steps D seen) (record { minus = y.minus; part = y.part.0 }))

  pub alike_expr : (x : Expr) → GoodExpr x
  alike_expr = ind-Expr GoodCond GoodExpr GoodItem GoodJoin GoodArm GoodChain GoodChoice GoodQuery GoodSigned (λ x y is. subst (λ z. GoodCond (roll-Cond z)) is (cond_good y)) (λ x y is. subst (λ z. GoodExpr (roll-Expr z)) is (expr_good y)) (λ x y is. subst (λ z. GoodItem (roll-Item z)) is (item_good y)) (λ x y is. subst (λ z. GoodJoin (roll-Join z)) is (join_good y)) (λ x y is. subst (λ z. GoodArm (roll-Arm z)) is (arm_good y)) (λ x y is. subst (λ z. GoodChain (roll-Chain z)) is (chain_good y)) (λ x y is. subst (λ z. GoodChoice (roll-Choice z)) is (choice_good y)) (λ x y is. subst (λ z. GoodQuery (roll-Query z)) is (query_good y.distinct y.items y.from y.filter y.group y.having)) (λ x y is. subst (λ z. GoodSigned (roll-Signed z)) is (signed_good y))

  pub same_alike : (e f : Expr) → same C seen e f ≡ same D seen e f
  unfolding same
  same_alike e f = ap (λ l. l.to f) (alike_expr e)

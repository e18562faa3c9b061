-- Where every column is found, each column of the qualified form has a correlation name. tools/names-inductions writes this file.
use Rattle.std.proofs.Common.{◌≡◌, refl, ap, sym, subst, ◌∙◌, List, [], ◌∷◌, ◌++◌, Bool, true, ◌&&◌, Option, Some, None, map, Ok, Err}
use Rattle.std.specs.List.{flat_map, list_all}
use Rattle.lb_tree.specs.declared.query.Cond.{Cond}
use Rattle.lb_tree.specs.declared.query.Expr.{Expr}
use Rattle.lb_tree.specs.declared.query.Item.{Item}
use Rattle.lb_tree.specs.declared.query.Join.{Join}
use Rattle.lb_tree.specs.declared.query.Arm.{Arm}
use Rattle.lb_tree.specs.declared.query.Chain.{Chain}
use Rattle.lb_tree.specs.declared.query.Choice.{Choice}
use Rattle.lb_tree.specs.declared.query.Query.{Query}
use Rattle.lb_tree.specs.declared.query.Signed.{Signed}
use Rattle.lb_tree.specs.declared.query.Atom.{Atom}
use Rattle.lb_tree.specs.declared.query.Atom.TheVariants as atoms
use Rattle.lb_tree.specs.declared.query.Column.{Column}
use Rattle.lb_tree.specs.declared.query.Tab.{Tab}
use Rattle.lb_tree.specs.declared.query.Cond.TheOpen as layers
use Rattle.lb_tree.specs.declared.query.Cond.TheViews.{roll-Cond, roll-Expr, roll-Item, roll-Join, roll-Arm, roll-Chain, roll-Choice, roll-Query, roll-Signed}
use Rattle.lb_tree.specs.declared.query.Cond.TheFolds.{map-Cond, map-Expr, map-Item, map-Join, map-Arm, map-Chain, map-Choice, map-Query, map-Signed, ind-Cond, ind-Expr}
use Rattle.lb_tree.specs.Folds.{Written, cond_of, expr_of, item_of, join_of, arm_of, chain_of, choice_of, query_of, signed_of}
use Rattle.lb_tree.proofs.Opens.{cond_roll, expr_roll, item_roll, join_roll, arm_roll, chain_roll, choice_roll, query_roll, signed_roll}
use Rattle.lb_names.specs.declared.place.Seen.{Seen}
use Rattle.lb_names.specs.Sights.{Name, correlation, calls_of, items_in, Sight, inside, inside_on}
use Rattle.lb_names.specs.Marks.{enter, column, Marks, Marked, ChainMarks, marked, marking, mark_steps, of_each, tables_of, tables_of_chain, joins_marks, chains_marks, atom_marks}
use Rattle.lb_names.specs.Scopes.{Catalogue, Resolved, resolve}
use Rattle.lb_names.specs.Passes.{unresolved, column_refusal}
use Rattle.lb_names.specs.Qualify.{by_item, with_item, atom_in, In, JoinIn, ChainIn, qualifying, qualify_steps, all_at, joins_in, query_in}
use Rattle.lb_names.specs.Qualified.{has_correlation, is_qualified_atom, all_of_them, testing, qualified_steps}
use Rattle.lb_names.proofs.Mentioned.{m_cond, m_expr, m_item, m_join, m_arm, m_chain, m_choice, m_query, m_signed}

module _ (C : Catalogue) where
  abbrev c_cond : Cond → In Cond
  c_cond = cond_of qualifying (qualify_steps C)

  abbrev u_cond : Cond → Bool
  u_cond = cond_of testing qualified_steps

  abbrev c_expr : Expr → In Expr
  c_expr = expr_of qualifying (qualify_steps C)

  abbrev u_expr : Expr → Bool
  u_expr = expr_of testing qualified_steps

  abbrev c_item : Item → In Item
  c_item = item_of qualifying (qualify_steps C)

  abbrev u_item : Item → Bool
  u_item = item_of testing qualified_steps

  abbrev c_join : Join → JoinIn
  c_join = join_of qualifying (qualify_steps C)

  abbrev u_join : Join → Bool
  u_join = join_of testing qualified_steps

  abbrev c_arm : Arm → In Arm
  c_arm = arm_of qualifying (qualify_steps C)

  abbrev u_arm : Arm → Bool
  u_arm = arm_of testing qualified_steps

  abbrev c_chain : Chain → ChainIn
  c_chain = chain_of qualifying (qualify_steps C)

  abbrev u_chain : Chain → Bool
  u_chain = chain_of testing qualified_steps

  abbrev c_choice : Choice → In Choice
  c_choice = choice_of qualifying (qualify_steps C)

  abbrev u_choice : Choice → Bool
  u_choice = choice_of testing qualified_steps

  abbrev c_query : Query → In Query
  c_query = query_of qualifying (qualify_steps C)

  abbrev u_query : Query → Bool
  u_query = query_of testing qualified_steps

  abbrev c_signed : Signed → In Signed
  c_signed = signed_of qualifying (qualify_steps C)

  abbrev u_signed : Signed → Bool
  u_signed = signed_of testing qualified_steps

  -- every column's name means something
  abbrev pub Found : Marks → Type 0
  Found [] = Unit {0}
  Found (m ∷ ms) = (column_refusal C m ≡ None) × Found ms

  before : (xs ys : Marks) → Found (xs ++ ys) → Found xs
  before [] ys h = tt
  before (x ∷ xs) ys h = (h.0, before xs ys h.1)

  after : (xs ys : Marks) → Found (xs ++ ys) → Found ys
  after [] ys h = h
  after (x ∷ xs) ys h = after xs ys h.1

  resolved : (c : Column) (r : Resolved) → unresolved r ≡ None → has_correlation (by_item c r) ≡ true
  resolved c (Ok x) h = refl
  resolved c (Err n) h = absurd cc

  column_found : (seen : List Seen) (c : Column) → column_refusal C (column seen c) ≡ None → has_correlation (with_item C seen c) ≡ true
  column_found seen c h = resolved c (resolve C seen c) h

  columns_found : (seen : List Seen) (cs : List Column) → Found (map (column seen) cs) → list_all has_correlation (map (with_item C seen) cs) ≡ true
  columns_found seen [] h = refl
  columns_found seen (c ∷ cs) h = λ i. column_found seen c h.0 i && columns_found seen cs h.1 i

  each : {X : Type 0} (F : X → In X) (G : X → Marked) (test : X → Bool) (xs : List ((x : X) × ((v : Sight) → Found ((G x).marks v) → test ((F x).at v.seen) ≡ true))) (v : Sight) → Found (of_each (λ m. m.marks) (map G (map (λ z. z.0) xs)) v) → all_of_them (map test (all_at v.seen (map F (map (λ z. z.0) xs)))) ≡ true
  each F G test [] v h = refl
  each F G test (x ∷ xs) v h = λ i. x.1 v (before ((G x.0).marks v) (of_each (λ m. m.marks) (map G (map (λ z. z.0) xs)) v) h) i && each F G test xs v (after ((G x.0).marks v) (of_each (λ m. m.marks) (map G (map (λ z. z.0) xs)) v) h) i

  atom_found : (a : Atom) (v : Sight) → Found (atom_marks a v) → is_qualified_atom (atom_in C v.seen a) ≡ true
  atom_found atoms.Null v h = refl
  atom_found (atoms.Int p) v h = refl
  atom_found (atoms.Text p) v h = refl
  atom_found (atoms.Date p) v h = refl
  atom_found atoms.CurrentDate v h = refl
  atom_found atoms.SessionUser v h = refl
  atom_found (atoms.Column p) v h = column_found v.seen p h.0
  atom_found atoms.CountRows v h = refl
  atom_found (atoms.VerifyRole p) v h = refl
  atom_found (atoms.VerifyGroup p) v h = refl
  atom_found (atoms.SecLabel p q) v h = refl
  atom_found (atoms.SecLabelByName p q) v h = refl
  atom_found (atoms.SecLabelToChar p q) v h = column_found v.seen q h.1.0

  abbrev GoodCond : Cond → Type 0
  GoodCond x = (v : Sight) → Found ((m_cond x).marks v) → u_cond ((c_cond x).at v.seen) ≡ true

  abbrev WithCond : Type 0
  WithCond = (x : Cond) × GoodCond x

  abbrev GoodExpr : Expr → Type 0
  GoodExpr x = (v : Sight) → Found ((m_expr x).marks v) → u_expr ((c_expr x).at v.seen) ≡ true

  abbrev WithExpr : Type 0
  WithExpr = (x : Expr) × GoodExpr x

  abbrev GoodItem : Item → Type 0
  GoodItem x = (v : Sight) → Found ((m_item x).marks v) → u_item ((c_item x).at v.seen) ≡ true

  abbrev WithItem : Type 0
  WithItem = (x : Item) × GoodItem x

  abbrev GoodJoin : Join → Type 0
  GoodJoin x = ((c_join x).tab ≡ (m_join x).tab) × ((v : Sight) → Found ((m_join x).on v) → u_join ((c_join x).join v.seen) ≡ true)

  abbrev WithJoin : Type 0
  WithJoin = (x : Join) × GoodJoin x

  abbrev GoodArm : Arm → Type 0
  GoodArm x = (v : Sight) → Found ((m_arm x).marks v) → u_arm ((c_arm x).at v.seen) ≡ true

  abbrev WithArm : Type 0
  WithArm = (x : Arm) × GoodArm x

  abbrev GoodChain : Chain → Type 0
  GoodChain x = ((c_chain x).tabs ≡ tables_of_chain (m_chain x)) × ((v : Sight) (all before : List Name) → Found (joins_marks v all before ((m_chain x).first ∷ []) (m_chain x).joins) → u_chain ((c_chain x).chain v.seen) ≡ true)

  abbrev WithChain : Type 0
  WithChain = (x : Chain) × GoodChain x

  abbrev GoodChoice : Choice → Type 0
  GoodChoice x = (v : Sight) → Found ((m_choice x).marks v) → u_choice ((c_choice x).at v.seen) ≡ true

  abbrev WithChoice : Type 0
  WithChoice = (x : Choice) × GoodChoice x

  abbrev GoodQuery : Query → Type 0
  GoodQuery x = (v : Sight) → Found ((m_query x).marks v) → u_query ((c_query x).at v.seen) ≡ true

  abbrev WithQuery : Type 0
  WithQuery = (x : Query) × GoodQuery x

  abbrev GoodSigned : Signed → Type 0
  GoodSigned x = (v : Sight) → Found ((m_signed x).marks v) → u_signed ((c_signed x).at v.seen) ≡ true

  abbrev WithSigned : Type 0
  WithSigned = (x : Signed) × GoodSigned x

  -- a layer whose parts have their facts
  abbrev Goods : (Type 0 → Type 0 → Type 0 → Type 0 → Type 0 → Type 0 → Type 0 → Type 0 → Type 0 → Type 0) → Type 0
  Goods F = F WithCond WithExpr WithItem WithJoin WithArm WithChain WithChoice WithQuery WithSigned

  abbrev down_cond : Goods layers.Cond-F → Written layers.Cond-F
  down_cond = map-Cond WithCond WithExpr WithItem WithJoin WithArm WithChain WithChoice WithQuery WithSigned Cond Expr Item Join Arm Chain Choice Query Signed (λ z. z.0) (λ z. z.0) (λ z. z.0) (λ z. z.0) (λ z. z.0) (λ z. z.0) (λ z. z.0) (λ z. z.0) (λ z. z.0)

  abbrev down_expr : Goods layers.Expr-F → Written layers.Expr-F
  down_expr = map-Expr WithCond WithExpr WithItem WithJoin WithArm WithChain WithChoice WithQuery WithSigned Cond Expr Item Join Arm Chain Choice Query Signed (λ z. z.0) (λ z. z.0) (λ z. z.0) (λ z. z.0) (λ z. z.0) (λ z. z.0) (λ z. z.0) (λ z. z.0) (λ z. z.0)

  abbrev down_item : Goods layers.Item-F → Written layers.Item-F
  down_item = map-Item WithCond WithExpr WithItem WithJoin WithArm WithChain WithChoice WithQuery WithSigned Cond Expr Item Join Arm Chain Choice Query Signed (λ z. z.0) (λ z. z.0) (λ z. z.0) (λ z. z.0) (λ z. z.0) (λ z. z.0) (λ z. z.0) (λ z. z.0) (λ z. z.0)

  abbrev down_join : Goods layers.Join-F → Written layers.Join-F
  down_join = map-Join WithCond WithExpr WithItem WithJoin WithArm WithChain WithChoice WithQuery WithSigned Cond Expr Item Join Arm Chain Choice Query Signed (λ z. z.0) (λ z. z.0) (λ z. z.0) (λ z. z.0) (λ z. z.0) (λ z. z.0) (λ z. z.0) (λ z. z.0) (λ z. z.0)

  abbrev down_arm : Goods layers.Arm-F → Written layers.Arm-F
  down_arm = map-Arm WithCond WithExpr WithItem WithJoin WithArm WithChain WithChoice WithQuery WithSigned Cond Expr Item Join Arm Chain Choice Query Signed (λ z. z.0) (λ z. z.0) (λ z. z.0) (λ z. z.0) (λ z. z.0) (λ z. z.0) (λ z. z.0) (λ z. z.0) (λ z. z.0)

  abbrev down_chain : Goods layers.Chain-F → Written layers.Chain-F
  down_chain = map-Chain WithCond WithExpr WithItem WithJoin WithArm WithChain WithChoice WithQuery WithSigned Cond Expr Item Join Arm Chain Choice Query Signed (λ z. z.0) (λ z. z.0) (λ z. z.0) (λ z. z.0) (λ z. z.0) (λ z. z.0) (λ z. z.0) (λ z. z.0) (λ z. z.0)

  abbrev down_choice : Goods layers.Choice-F → Written layers.Choice-F
  down_choice = map-Choice WithCond WithExpr WithItem WithJoin WithArm WithChain WithChoice WithQuery WithSigned Cond Expr Item Join Arm Chain Choice Query Signed (λ z. z.0) (λ z. z.0) (λ z. z.0) (λ z. z.0) (λ z. z.0) (λ z. z.0) (λ z. z.0) (λ z. z.0) (λ z. z.0)

  abbrev down_query : Goods layers.Query-F → Written layers.Query-F
  down_query = map-Query WithCond WithExpr WithItem WithJoin WithArm WithChain WithChoice WithQuery WithSigned Cond Expr Item Join Arm Chain Choice Query Signed (λ z. z.0) (λ z. z.0) (λ z. z.0) (λ z. z.0) (λ z. z.0) (λ z. z.0) (λ z. z.0) (λ z. z.0) (λ z. z.0)

  abbrev down_signed : Goods layers.Signed-F → Written layers.Signed-F
  down_signed = map-Signed WithCond WithExpr WithItem WithJoin WithArm WithChain WithChoice WithQuery WithSigned Cond Expr Item Join Arm Chain Choice Query Signed (λ z. z.0) (λ z. z.0) (λ z. z.0) (λ z. z.0) (λ z. z.0) (λ z. z.0) (λ z. z.0) (λ z. z.0) (λ z. z.0)

  joins_tabs : (js : List WithJoin) → map (λ j. j.tab) (map c_join (map (λ z. z.0) js)) ≡ map (λ j. j.tab) (map marking.join (map m_join (map (λ z. z.0) js)))
  joins_tabs [] = refl
  joins_tabs (j ∷ js) = λ i. j.1.0 i ∷ joins_tabs js i

  joins_found : (js : List WithJoin) (v : Sight) (all before_ : List Name) (tabs : List Tab) → Found (joins_marks v all before_ tabs (map marking.join (map m_join (map (λ z. z.0) js)))) → all_of_them (map u_join (joins_in tabs (map c_join (map (λ z. z.0) js)) v.seen)) ≡ true
  joins_found [] v all before_ tabs h = refl
  joins_found (j ∷ js) v all before_ tabs h =
      let tab : Tab = (m_join j.0).tab in
      let on : Marks = (m_join j.0).on (inside_on v all (tabs ++ tab ∷ [])) in
      let rest : Marks = joins_marks v all (before_ ++ correlation tab ∷ []) (tabs ++ tab ∷ []) (map marking.join (map m_join (map (λ z. z.0) js))) in
      (λ i. u_join ((c_join j.0).join (items_in v.seen (tabs ++ j.1.0 i ∷ []) ++ v.seen)) && all_of_them (map u_join (joins_in (tabs ++ j.1.0 i ∷ []) (map c_join (map (λ z. z.0) js)) v.seen)))
      ∙ (λ i. j.1.1 (inside_on v all (tabs ++ tab ∷ [])) (before on rest h.1) i && joins_found js v all (before_ ++ correlation tab ∷ []) (tabs ++ tab ∷ []) (after on rest h.1) i)

  chains_tabs : (cs : List WithChain) → flat_map (λ c. c.tabs) (map c_chain (map (λ z. z.0) cs)) ≡ tables_of (map marking.chain (map m_chain (map (λ z. z.0) cs)))
  chains_tabs [] = refl
  chains_tabs (c ∷ cs) = λ i. c.1.0 i ++ chains_tabs cs i

  chains_found : (cs : List WithChain) (v : Sight) (all before_ : List Name) → Found (chains_marks v all before_ (map marking.chain (map m_chain (map (λ z. z.0) cs)))) → all_of_them (map u_chain (map (λ c. c.chain v.seen) (map c_chain (map (λ z. z.0) cs)))) ≡ true
  chains_found [] v all before_ h = refl
  chains_found (c ∷ cs) v all before_ h =
      let ch : ChainMarks = m_chain c.0 in
      let joins : Marks = joins_marks v all (before_ ++ correlation ch.first ∷ []) (ch.first ∷ []) ch.joins in
      let rest : Marks = chains_marks v all (before_ ++ calls_of (tables_of_chain ch)) (map marking.chain (map m_chain (map (λ z. z.0) cs))) in
      λ i. c.1.1 v all (before_ ++ correlation ch.first ∷ []) (before joins rest h.1) i && chains_found cs v all (before_ ++ calls_of (tables_of_chain ch)) (after joins rest h.1) i

  cond_good : (y : Goods layers.Cond-F) → GoodCond (roll-Cond (down_cond y))
  cond_good (layers.Cond-F.Or a) = λ v h. let k : Found (of_each marking.cond (map m_cond (map (λ z. z.0) a)) v) = subst Found (ap (λ m. m.marks v) (cond_roll marked mark_steps (layers.Cond-F.Or (map (λ z. z.0) a)))) h in ap (λ z. u_cond (z.at v.seen)) (cond_roll qualifying (qualify_steps C) (layers.Cond-F.Or (map (λ z. z.0) a))) ∙ cond_roll testing qualified_steps (layers.Cond-F.Or (all_at v.seen (map c_cond (map (λ z. z.0) a)))) ∙ (λ i. each c_cond m_cond u_cond a v k i)
  cond_good (layers.Cond-F.And a) = λ v h. let k : Found (of_each marking.cond (map m_cond (map (λ z. z.0) a)) v) = subst Found (ap (λ m. m.marks v) (cond_roll marked mark_steps (layers.Cond-F.And (map (λ z. z.0) a)))) h in ap (λ z. u_cond (z.at v.seen)) (cond_roll qualifying (qualify_steps C) (layers.Cond-F.And (map (λ z. z.0) a))) ∙ cond_roll testing qualified_steps (layers.Cond-F.And (all_at v.seen (map c_cond (map (λ z. z.0) a)))) ∙ (λ i. each c_cond m_cond u_cond a v k i)
  cond_good (layers.Cond-F.Not a) = λ v h. let k : Found ((m_cond a.0).marks v) = subst Found (ap (λ m. m.marks v) (cond_roll marked mark_steps (layers.Cond-F.Not a.0))) h in ap (λ z. u_cond (z.at v.seen)) (cond_roll qualifying (qualify_steps C) (layers.Cond-F.Not a.0)) ∙ cond_roll testing qualified_steps (layers.Cond-F.Not ((c_cond a.0).at v.seen)) ∙ (λ i. a.1 v k i)
  cond_good (layers.Cond-F.Exists a) = λ v h. let k : Found ((m_query a.0).marks v) = subst Found (ap (λ m. m.marks v) (cond_roll marked mark_steps (layers.Cond-F.Exists a.0))) h in ap (λ z. u_cond (z.at v.seen)) (cond_roll qualifying (qualify_steps C) (layers.Cond-F.Exists a.0)) ∙ cond_roll testing qualified_steps (layers.Cond-F.Exists ((c_query a.0).at v.seen)) ∙ (λ i. a.1 v k i)
  cond_good (layers.Cond-F.Compare a b c) = λ v h. let k : Found ((m_expr b.0).marks v ++ ((m_expr c.0).marks v)) = subst Found (ap (λ m. m.marks v) (cond_roll marked mark_steps (layers.Cond-F.Compare a b.0 c.0))) h in ap (λ z. u_cond (z.at v.seen)) (cond_roll qualifying (qualify_steps C) (layers.Cond-F.Compare a b.0 c.0)) ∙ cond_roll testing qualified_steps (layers.Cond-F.Compare a ((c_expr b.0).at v.seen) ((c_expr c.0).at v.seen)) ∙ (λ i. b.1 v (before ((m_expr b.0).marks v) ((m_expr c.0).marks v) k) i && (c.1 v (after ((m_expr b.0).marks v) ((m_expr c.0).marks v) k) i))
  cond_good (layers.Cond-F.CompareQuery a b c) = λ v h. let k : Found ((m_expr b.0).marks v ++ ((m_query c.0).marks v)) = subst Found (ap (λ m. m.marks v) (cond_roll marked mark_steps (layers.Cond-F.CompareQuery a b.0 c.0))) h in ap (λ z. u_cond (z.at v.seen)) (cond_roll qualifying (qualify_steps C) (layers.Cond-F.CompareQuery a b.0 c.0)) ∙ cond_roll testing qualified_steps (layers.Cond-F.CompareQuery a ((c_expr b.0).at v.seen) ((c_query c.0).at v.seen)) ∙ (λ i. b.1 v (before ((m_expr b.0).marks v) ((m_query c.0).marks v) k) i && (c.1 v (after ((m_expr b.0).marks v) ((m_query c.0).marks v) k) i))
  cond_good (layers.Cond-F.IsNull a) = λ v h. let k : Found ((m_expr a.0).marks v) = subst Found (ap (λ m. m.marks v) (cond_roll marked mark_steps (layers.Cond-F.IsNull a.0))) h in ap (λ z. u_cond (z.at v.seen)) (cond_roll qualifying (qualify_steps C) (layers.Cond-F.IsNull a.0)) ∙ cond_roll testing qualified_steps (layers.Cond-F.IsNull ((c_expr a.0).at v.seen)) ∙ (λ i. a.1 v k i)
  cond_good (layers.Cond-F.InQuery a b) = λ v h. let k : Found ((m_expr a.0).marks v ++ ((m_query b.0).marks v)) = subst Found (ap (λ m. m.marks v) (cond_roll marked mark_steps (layers.Cond-F.InQuery a.0 b.0))) h in ap (λ z. u_cond (z.at v.seen)) (cond_roll qualifying (qualify_steps C) (layers.Cond-F.InQuery a.0 b.0)) ∙ cond_roll testing qualified_steps (layers.Cond-F.InQuery ((c_expr a.0).at v.seen) ((c_query b.0).at v.seen)) ∙ (λ i. a.1 v (before ((m_expr a.0).marks v) ((m_query b.0).marks v) k) i && (b.1 v (after ((m_expr a.0).marks v) ((m_query b.0).marks v) k) i))
  cond_good (layers.Cond-F.InList a b) = λ v h. let k : Found ((m_expr a.0).marks v ++ (of_each marking.expr (map m_expr (map (λ z. z.0) b)) v)) = subst Found (ap (λ m. m.marks v) (cond_roll marked mark_steps (layers.Cond-F.InList a.0 (map (λ z. z.0) b)))) h in ap (λ z. u_cond (z.at v.seen)) (cond_roll qualifying (qualify_steps C) (layers.Cond-F.InList a.0 (map (λ z. z.0) b))) ∙ cond_roll testing qualified_steps (layers.Cond-F.InList ((c_expr a.0).at v.seen) (all_at v.seen (map c_expr (map (λ z. z.0) b)))) ∙ (λ i. a.1 v (before ((m_expr a.0).marks v) (of_each marking.expr (map m_expr (map (λ z. z.0) b)) v) k) i && (each c_expr m_expr u_expr b v (after ((m_expr a.0).marks v) (of_each marking.expr (map m_expr (map (λ z. z.0) b)) v) k) i))
  cond_good (layers.Cond-F.Between a b c) = λ v h. let k : Found ((m_expr a.0).marks v ++ ((m_expr b.0).marks v ++ ((m_expr c.0).marks v))) = subst Found (ap (λ m. m.marks v) (cond_roll marked mark_steps (layers.Cond-F.Between a.0 b.0 c.0))) h in ap (λ z. u_cond (z.at v.seen)) (cond_roll qualifying (qualify_steps C) (layers.Cond-F.Between a.0 b.0 c.0)) ∙ cond_roll testing qualified_steps (layers.Cond-F.Between ((c_expr a.0).at v.seen) ((c_expr b.0).at v.seen) ((c_expr c.0).at v.seen)) ∙ (λ i. a.1 v (before ((m_expr a.0).marks v) ((m_expr b.0).marks v ++ ((m_expr c.0).marks v)) k) i && (b.1 v (before ((m_expr b.0).marks v) ((m_expr c.0).marks v) (after ((m_expr a.0).marks v) ((m_expr b.0).marks v ++ ((m_expr c.0).marks v)) k)) i && (c.1 v (after ((m_expr b.0).marks v) ((m_expr c.0).marks v) (after ((m_expr a.0).marks v) ((m_expr b.0).marks v ++ ((m_expr c.0).marks v)) k)) i)))

  expr_good : (y : Goods layers.Expr-F) → GoodExpr (roll-Expr (down_expr y))
  expr_good (layers.Expr-F.Atom a) = λ v h. ap (λ z. u_expr (z.at v.seen)) (expr_roll qualifying (qualify_steps C) (layers.Expr-F.Atom a)) ∙ expr_roll testing qualified_steps (layers.Expr-F.Atom (atom_in C v.seen a)) ∙ atom_found a v (subst Found (ap (λ m. m.marks v) (expr_roll marked mark_steps (layers.Expr-F.Atom a))) h)
  expr_good (layers.Expr-F.Sum a) = λ v h. let k : Found (of_each marking.signed (map m_signed (map (λ z. z.0) a)) v) = subst Found (ap (λ m. m.marks v) (expr_roll marked mark_steps (layers.Expr-F.Sum (map (λ z. z.0) a)))) h in ap (λ z. u_expr (z.at v.seen)) (expr_roll qualifying (qualify_steps C) (layers.Expr-F.Sum (map (λ z. z.0) a))) ∙ expr_roll testing qualified_steps (layers.Expr-F.Sum (all_at v.seen (map c_signed (map (λ z. z.0) a)))) ∙ (λ i. each c_signed m_signed u_signed a v k i)
  expr_good (layers.Expr-F.Concat a) = λ v h. let k : Found (of_each marking.expr (map m_expr (map (λ z. z.0) a)) v) = subst Found (ap (λ m. m.marks v) (expr_roll marked mark_steps (layers.Expr-F.Concat (map (λ z. z.0) a)))) h in ap (λ z. u_expr (z.at v.seen)) (expr_roll qualifying (qualify_steps C) (layers.Expr-F.Concat (map (λ z. z.0) a))) ∙ expr_roll testing qualified_steps (layers.Expr-F.Concat (all_at v.seen (map c_expr (map (λ z. z.0) a)))) ∙ (λ i. each c_expr m_expr u_expr a v k i)
  expr_good (layers.Expr-F.Product a) = λ v h. let k : Found (of_each marking.expr (map m_expr (map (λ z. z.0) a)) v) = subst Found (ap (λ m. m.marks v) (expr_roll marked mark_steps (layers.Expr-F.Product (map (λ z. z.0) a)))) h in ap (λ z. u_expr (z.at v.seen)) (expr_roll qualifying (qualify_steps C) (layers.Expr-F.Product (map (λ z. z.0) a))) ∙ expr_roll testing qualified_steps (layers.Expr-F.Product (all_at v.seen (map c_expr (map (λ z. z.0) a)))) ∙ (λ i. each c_expr m_expr u_expr a v k i)
  expr_good (layers.Expr-F.Case a None) = λ v h. let k : Found (of_each marking.arm (map m_arm (map (λ z. z.0) a)) v ++ ([])) = subst Found (ap (λ m. m.marks v) (expr_roll marked mark_steps (layers.Expr-F.Case (map (λ z. z.0) a) None))) h in ap (λ z. u_expr (z.at v.seen)) (expr_roll qualifying (qualify_steps C) (layers.Expr-F.Case (map (λ z. z.0) a) None)) ∙ expr_roll testing qualified_steps (layers.Expr-F.Case (all_at v.seen (map c_arm (map (λ z. z.0) a))) None) ∙ (λ i. each c_arm m_arm u_arm a v (before (of_each marking.arm (map m_arm (map (λ z. z.0) a)) v) ([]) k) i && (true))
  expr_good (layers.Expr-F.Case a (Some b)) = λ v h. let k : Found (of_each marking.arm (map m_arm (map (λ z. z.0) a)) v ++ ((m_expr b.0).marks v)) = subst Found (ap (λ m. m.marks v) (expr_roll marked mark_steps (layers.Expr-F.Case (map (λ z. z.0) a) (Some b.0)))) h in ap (λ z. u_expr (z.at v.seen)) (expr_roll qualifying (qualify_steps C) (layers.Expr-F.Case (map (λ z. z.0) a) (Some b.0))) ∙ expr_roll testing qualified_steps (layers.Expr-F.Case (all_at v.seen (map c_arm (map (λ z. z.0) a))) (Some ((c_expr b.0).at v.seen))) ∙ (λ i. each c_arm m_arm u_arm a v (before (of_each marking.arm (map m_arm (map (λ z. z.0) a)) v) ((m_expr b.0).marks v) k) i && (b.1 v (after (of_each marking.arm (map m_arm (map (λ z. z.0) a)) v) ((m_expr b.0).marks v) k) i))
  expr_good (layers.Expr-F.Match a b None) = λ v h. let k : Found ((m_expr a.0).marks v ++ (of_each marking.choice (map m_choice (map (λ z. z.0) b)) v ++ ([]))) = subst Found (ap (λ m. m.marks v) (expr_roll marked mark_steps (layers.Expr-F.Match a.0 (map (λ z. z.0) b) None))) h in ap (λ z. u_expr (z.at v.seen)) (expr_roll qualifying (qualify_steps C) (layers.Expr-F.Match a.0 (map (λ z. z.0) b) None)) ∙ expr_roll testing qualified_steps (layers.Expr-F.Match ((c_expr a.0).at v.seen) (all_at v.seen (map c_choice (map (λ z. z.0) b))) None) ∙ (λ i. a.1 v (before ((m_expr a.0).marks v) (of_each marking.choice (map m_choice (map (λ z. z.0) b)) v ++ ([])) k) i && (each c_choice m_choice u_choice b v (before (of_each marking.choice (map m_choice (map (λ z. z.0) b)) v) ([]) (after ((m_expr a.0).marks v) (of_each marking.choice (map m_choice (map (λ z. z.0) b)) v ++ ([])) k)) i && (true)))
  expr_good (layers.Expr-F.Match a b (Some c)) = λ v h. let k : Found ((m_expr a.0).marks v ++ (of_each marking.choice (map m_choice (map (λ z. z.0) b)) v ++ ((m_expr c.0).marks v))) = subst Found (ap (λ m. m.marks v) (expr_roll marked mark_steps (layers.Expr-F.Match a.0 (map (λ z. z.0) b) (Some c.0)))) h in ap (λ z. u_expr (z.at v.seen)) (expr_roll qualifying (qualify_steps C) (layers.Expr-F.Match a.0 (map (λ z. z.0) b) (Some c.0))) ∙ expr_roll testing qualified_steps (layers.Expr-F.Match ((c_expr a.0).at v.seen) (all_at v.seen (map c_choice (map (λ z. z.0) b))) (Some ((c_expr c.0).at v.seen))) ∙ (λ i. a.1 v (before ((m_expr a.0).marks v) (of_each marking.choice (map m_choice (map (λ z. z.0) b)) v ++ ((m_expr c.0).marks v)) k) i && (each c_choice m_choice u_choice b v (before (of_each marking.choice (map m_choice (map (λ z. z.0) b)) v) ((m_expr c.0).marks v) (after ((m_expr a.0).marks v) (of_each marking.choice (map m_choice (map (λ z. z.0) b)) v ++ ((m_expr c.0).marks v)) k)) i && (c.1 v (after (of_each marking.choice (map m_choice (map (λ z. z.0) b)) v) ((m_expr c.0).marks v) (after ((m_expr a.0).marks v) (of_each marking.choice (map m_choice (map (λ z. z.0) b)) v ++ ((m_expr c.0).marks v)) k)) i)))
  expr_good (layers.Expr-F.Aggregate a b) = λ v h. let k : Found ((m_expr b.0).marks v) = subst Found (ap (λ m. m.marks v) (expr_roll marked mark_steps (layers.Expr-F.Aggregate a b.0))) h in ap (λ z. u_expr (z.at v.seen)) (expr_roll qualifying (qualify_steps C) (layers.Expr-F.Aggregate a b.0)) ∙ expr_roll testing qualified_steps (layers.Expr-F.Aggregate a ((c_expr b.0).at v.seen)) ∙ (λ i. b.1 v k i)
  expr_good (layers.Expr-F.Substr a b None) = λ v h. let k : Found ((m_expr a.0).marks v ++ ((m_expr b.0).marks v ++ ([]))) = subst Found (ap (λ m. m.marks v) (expr_roll marked mark_steps (layers.Expr-F.Substr a.0 b.0 None))) h in ap (λ z. u_expr (z.at v.seen)) (expr_roll qualifying (qualify_steps C) (layers.Expr-F.Substr a.0 b.0 None)) ∙ expr_roll testing qualified_steps (layers.Expr-F.Substr ((c_expr a.0).at v.seen) ((c_expr b.0).at v.seen) None) ∙ (λ i. a.1 v (before ((m_expr a.0).marks v) ((m_expr b.0).marks v ++ ([])) k) i && (b.1 v (before ((m_expr b.0).marks v) ([]) (after ((m_expr a.0).marks v) ((m_expr b.0).marks v ++ ([])) k)) i && (true)))
  expr_good (layers.Expr-F.Substr a b (Some c)) = λ v h. let k : Found ((m_expr a.0).marks v ++ ((m_expr b.0).marks v ++ ((m_expr c.0).marks v))) = subst Found (ap (λ m. m.marks v) (expr_roll marked mark_steps (layers.Expr-F.Substr a.0 b.0 (Some c.0)))) h in ap (λ z. u_expr (z.at v.seen)) (expr_roll qualifying (qualify_steps C) (layers.Expr-F.Substr a.0 b.0 (Some c.0))) ∙ expr_roll testing qualified_steps (layers.Expr-F.Substr ((c_expr a.0).at v.seen) ((c_expr b.0).at v.seen) (Some ((c_expr c.0).at v.seen))) ∙ (λ i. a.1 v (before ((m_expr a.0).marks v) ((m_expr b.0).marks v ++ ((m_expr c.0).marks v)) k) i && (b.1 v (before ((m_expr b.0).marks v) ((m_expr c.0).marks v) (after ((m_expr a.0).marks v) ((m_expr b.0).marks v ++ ((m_expr c.0).marks v)) k)) i && (c.1 v (after ((m_expr b.0).marks v) ((m_expr c.0).marks v) (after ((m_expr a.0).marks v) ((m_expr b.0).marks v ++ ((m_expr c.0).marks v)) k)) i)))
  expr_good (layers.Expr-F.Apply a b) = λ v h. let k : Found ((m_expr b.0).marks v) = subst Found (ap (λ m. m.marks v) (expr_roll marked mark_steps (layers.Expr-F.Apply a b.0))) h in ap (λ z. u_expr (z.at v.seen)) (expr_roll qualifying (qualify_steps C) (layers.Expr-F.Apply a b.0)) ∙ expr_roll testing qualified_steps (layers.Expr-F.Apply a ((c_expr b.0).at v.seen)) ∙ (λ i. b.1 v k i)
  expr_good (layers.Expr-F.Coalesce a) = λ v h. let k : Found (of_each marking.expr (map m_expr (map (λ z. z.0) a)) v) = subst Found (ap (λ m. m.marks v) (expr_roll marked mark_steps (layers.Expr-F.Coalesce (map (λ z. z.0) a)))) h in ap (λ z. u_expr (z.at v.seen)) (expr_roll qualifying (qualify_steps C) (layers.Expr-F.Coalesce (map (λ z. z.0) a))) ∙ expr_roll testing qualified_steps (layers.Expr-F.Coalesce (all_at v.seen (map c_expr (map (λ z. z.0) a)))) ∙ (λ i. each c_expr m_expr u_expr a v k i)

  item_good : (y : Goods layers.Item-F) → GoodItem (roll-Item (down_item y))
  item_good layers.Item-F.Everything = λ v h. ap (λ z. u_item (z.at v.seen)) (item_roll qualifying (qualify_steps C) layers.Item-F.Everything) ∙ item_roll testing qualified_steps layers.Item-F.Everything
  item_good (layers.Item-F.AllOf a) = λ v h. ap (λ z. u_item (z.at v.seen)) (item_roll qualifying (qualify_steps C) (layers.Item-F.AllOf a)) ∙ item_roll testing qualified_steps (layers.Item-F.AllOf a)
  item_good (layers.Item-F.Value a b) = λ v h. let k : Found ((m_expr a.0).marks v) = subst Found (ap (λ m. m.marks v) (item_roll marked mark_steps (layers.Item-F.Value a.0 b))) h in ap (λ z. u_item (z.at v.seen)) (item_roll qualifying (qualify_steps C) (layers.Item-F.Value a.0 b)) ∙ item_roll testing qualified_steps (layers.Item-F.Value ((c_expr a.0).at v.seen) b) ∙ (λ i. a.1 v k i)

  join_good : (y : Goods layers.Join-F) → GoodJoin (roll-Join (down_join y))
  join_good (layers.Join-F.Inner a b) = (ap (λ z. z.tab) (join_roll qualifying (qualify_steps C) (layers.Join-F.Inner a b.0)) ∙ sym (ap (λ z. z.tab) (join_roll marked mark_steps (layers.Join-F.Inner a b.0))), λ v h. ap (λ z. u_join (z.join v.seen)) (join_roll qualifying (qualify_steps C) (layers.Join-F.Inner a b.0)) ∙ join_roll testing qualified_steps (layers.Join-F.Inner a ((c_cond b.0).at v.seen)) ∙ b.1 v (subst (λ j. Found (j.on v)) (join_roll marked mark_steps (layers.Join-F.Inner a b.0)) h))
  join_good (layers.Join-F.Left a b) = (ap (λ z. z.tab) (join_roll qualifying (qualify_steps C) (layers.Join-F.Left a b.0)) ∙ sym (ap (λ z. z.tab) (join_roll marked mark_steps (layers.Join-F.Left a b.0))), λ v h. ap (λ z. u_join (z.join v.seen)) (join_roll qualifying (qualify_steps C) (layers.Join-F.Left a b.0)) ∙ join_roll testing qualified_steps (layers.Join-F.Left a ((c_cond b.0).at v.seen)) ∙ b.1 v (subst (λ j. Found (j.on v)) (join_roll marked mark_steps (layers.Join-F.Left a b.0)) h))
  join_good (layers.Join-F.Cross a) = (ap (λ z. z.tab) (join_roll qualifying (qualify_steps C) (layers.Join-F.Cross a)) ∙ sym (ap (λ z. z.tab) (join_roll marked mark_steps (layers.Join-F.Cross a))), λ v h. ap (λ z. u_join (z.join v.seen)) (join_roll qualifying (qualify_steps C) (layers.Join-F.Cross a)) ∙ join_roll testing qualified_steps (layers.Join-F.Cross a) ∙ refl)

  arm_good : (y : Goods layers.Arm-F) → GoodArm (roll-Arm (down_arm y))
  arm_good y = λ v h. let k : Found ((m_cond y.when.0).marks v ++ ((m_expr y.result.0).marks v)) = subst Found (ap (λ m. m.marks v) (arm_roll marked mark_steps (record { when = y.when.0; result = y.result.0 }))) h in ap (λ z. u_arm (z.at v.seen)) (arm_roll qualifying (qualify_steps C) (record { when = y.when.0; result = y.result.0 })) ∙ arm_roll testing qualified_steps (record { when = ((c_cond y.when.0).at v.seen); result = ((c_expr y.result.0).at v.seen) }) ∙ (λ i. y.when.1 v (before ((m_cond y.when.0).marks v) ((m_expr y.result.0).marks v) k) i && (y.result.1 v (after ((m_cond y.when.0).marks v) ((m_expr y.result.0).marks v) k) i))

  chain_good : (y : Goods layers.Chain-F) → GoodChain (roll-Chain (down_chain y))
  chain_good y = (ap (λ z. z.tabs) (chain_roll qualifying (qualify_steps C) (record { first = y.first; joins = (map (λ z. z.0) y.joins) })) ∙ (λ i. y.first ∷ joins_tabs y.joins i) ∙ sym (ap (λ z. tables_of_chain z) (chain_roll marked mark_steps (record { first = y.first; joins = (map (λ z. z.0) y.joins) }))), λ v all before_ h. ap (λ z. u_chain (z.chain v.seen)) (chain_roll qualifying (qualify_steps C) (record { first = y.first; joins = (map (λ z. z.0) y.joins) })) ∙ chain_roll testing qualified_steps (record { first = y.first; joins = joins_in (y.first ∷ []) (map c_join (map (λ z. z.0) y.joins)) v.seen }) ∙ joins_found y.joins v all before_ (y.first ∷ []) (subst (λ c. Found (joins_marks v all before_ (c.first ∷ []) c.joins)) (chain_roll marked mark_steps (record { first = y.first; joins = (map (λ z. z.0) y.joins) })) h))

  choice_good : (y : Goods layers.Choice-F) → GoodChoice (roll-Choice (down_choice y))
  choice_good y = λ v h. let k : Found ((m_expr y.when.0).marks v ++ ((m_expr y.result.0).marks v)) = subst Found (ap (λ m. m.marks v) (choice_roll marked mark_steps (record { when = y.when.0; result = y.result.0 }))) h in ap (λ z. u_choice (z.at v.seen)) (choice_roll qualifying (qualify_steps C) (record { when = y.when.0; result = y.result.0 })) ∙ choice_roll testing qualified_steps (record { when = ((c_expr y.when.0).at v.seen); result = ((c_expr y.result.0).at v.seen) }) ∙ (λ i. y.when.1 v (before ((m_expr y.when.0).marks v) ((m_expr y.result.0).marks v) k) i && (y.result.1 v (after ((m_expr y.when.0).marks v) ((m_expr y.result.0).marks v) k) i))

  query_good : (distinct : Bool) (items : List WithItem) (from : List WithChain) (filter : Option WithCond) (group : List Column) (having : Option WithCond)
      → GoodQuery (roll-Query (down_query (record { distinct = distinct; items = items; from = from; filter = filter; group = group; having = having })))
  query_good distinct items from None group None = λ v h. let g : Found (enter (items_in v.seen (tables_of (map marking.chain (map m_chain (map (λ z. z.0) from))))) ∷ (of_each marking.item (map m_item (map (λ z. z.0) items)) (inside v (tables_of (map marking.chain (map m_chain (map (λ z. z.0) from))))) ++ (chains_marks v (calls_of (tables_of (map marking.chain (map m_chain (map (λ z. z.0) from))))) [] (map marking.chain (map m_chain (map (λ z. z.0) from))) ++ ([] ++ (map (column (inside v (tables_of (map marking.chain (map m_chain (map (λ z. z.0) from))))).seen) group ++ ([])))))) = subst Found (ap (λ m. m.marks v) (query_roll marked mark_steps (record { distinct = distinct; items = (map (λ z. z.0) items); from = (map (λ z. z.0) from); filter = None; group = group; having = None }))) h in let k : Found (of_each marking.item (map m_item (map (λ z. z.0) items)) (inside v (tables_of (map marking.chain (map m_chain (map (λ z. z.0) from))))) ++ (chains_marks v (calls_of (tables_of (map marking.chain (map m_chain (map (λ z. z.0) from))))) [] (map marking.chain (map m_chain (map (λ z. z.0) from))) ++ ([] ++ (map (column (inside v (tables_of (map marking.chain (map m_chain (map (λ z. z.0) from))))).seen) group ++ ([]))))) = g.1 in ap (λ z. u_query (z.at v.seen)) (query_roll qualifying (qualify_steps C) (record { distinct = distinct; items = (map (λ z. z.0) items); from = (map (λ z. z.0) from); filter = None; group = group; having = None })) ∙ (λ i. u_query (query_in C v.seen (items_in v.seen (chains_tabs from i) ++ v.seen) (record { distinct = distinct; items = map c_item (map (λ z. z.0) items); from = map c_chain (map (λ z. z.0) from); filter = None; group = group; having = None }))) ∙ query_roll testing qualified_steps (record { distinct = distinct; items = (all_at (inside v (tables_of (map marking.chain (map m_chain (map (λ z. z.0) from))))).seen (map c_item (map (λ z. z.0) items))); from = map (λ c. c.chain v.seen) (map c_chain (map (λ z. z.0) from)); filter = None; group = map (with_item C (inside v (tables_of (map marking.chain (map m_chain (map (λ z. z.0) from))))).seen) group; having = None }) ∙ (λ i. each c_item m_item u_item items (inside v (tables_of (map marking.chain (map m_chain (map (λ z. z.0) from))))) (before (of_each marking.item (map m_item (map (λ z. z.0) items)) (inside v (tables_of (map marking.chain (map m_chain (map (λ z. z.0) from)))))) (chains_marks v (calls_of (tables_of (map marking.chain (map m_chain (map (λ z. z.0) from))))) [] (map marking.chain (map m_chain (map (λ z. z.0) from))) ++ ([] ++ (map (column (inside v (tables_of (map marking.chain (map m_chain (map (λ z. z.0) from))))).seen) group ++ ([])))) k) i && (chains_found from v (calls_of (tables_of (map marking.chain (map m_chain (map (λ z. z.0) from))))) [] (before (chains_marks v (calls_of (tables_of (map marking.chain (map m_chain (map (λ z. z.0) from))))) [] (map marking.chain (map m_chain (map (λ z. z.0) from)))) ([] ++ (map (column (inside v (tables_of (map marking.chain (map m_chain (map (λ z. z.0) from))))).seen) group ++ ([]))) (after (of_each marking.item (map m_item (map (λ z. z.0) items)) (inside v (tables_of (map marking.chain (map m_chain (map (λ z. z.0) from)))))) (chains_marks v (calls_of (tables_of (map marking.chain (map m_chain (map (λ z. z.0) from))))) [] (map marking.chain (map m_chain (map (λ z. z.0) from))) ++ ([] ++ (map (column (inside v (tables_of (map marking.chain (map m_chain (map (λ z. z.0) from))))).seen) group ++ ([])))) k)) i && (true && (columns_found (inside v (tables_of (map marking.chain (map m_chain (map (λ z. z.0) from))))).seen group (before (map (column (inside v (tables_of (map marking.chain (map m_chain (map (λ z. z.0) from))))).seen) group) ([]) (after ([]) (map (column (inside v (tables_of (map marking.chain (map m_chain (map (λ z. z.0) from))))).seen) group ++ ([])) (after (chains_marks v (calls_of (tables_of (map marking.chain (map m_chain (map (λ z. z.0) from))))) [] (map marking.chain (map m_chain (map (λ z. z.0) from)))) ([] ++ (map (column (inside v (tables_of (map marking.chain (map m_chain (map (λ z. z.0) from))))).seen) group ++ ([]))) (after (of_each marking.item (map m_item (map (λ z. z.0) items)) (inside v (tables_of (map marking.chain (map m_chain (map (λ z. z.0) from)))))) (chains_marks v (calls_of (tables_of (map marking.chain (map m_chain (map (λ z. z.0) from))))) [] (map marking.chain (map m_chain (map (λ z. z.0) from))) ++ ([] ++ (map (column (inside v (tables_of (map marking.chain (map m_chain (map (λ z. z.0) from))))).seen) group ++ ([])))) k)))) i && (true)))))
  query_good distinct items from None group (Some having) = λ v h. let g : Found (enter (items_in v.seen (tables_of (map marking.chain (map m_chain (map (λ z. z.0) from))))) ∷ (of_each marking.item (map m_item (map (λ z. z.0) items)) (inside v (tables_of (map marking.chain (map m_chain (map (λ z. z.0) from))))) ++ (chains_marks v (calls_of (tables_of (map marking.chain (map m_chain (map (λ z. z.0) from))))) [] (map marking.chain (map m_chain (map (λ z. z.0) from))) ++ ([] ++ (map (column (inside v (tables_of (map marking.chain (map m_chain (map (λ z. z.0) from))))).seen) group ++ ((m_cond having.0).marks (inside v (tables_of (map marking.chain (map m_chain (map (λ z. z.0) from))))))))))) = subst Found (ap (λ m. m.marks v) (query_roll marked mark_steps (record { distinct = distinct; items = (map (λ z. z.0) items); from = (map (λ z. z.0) from); filter = None; group = group; having = (Some having.0) }))) h in let k : Found (of_each marking.item (map m_item (map (λ z. z.0) items)) (inside v (tables_of (map marking.chain (map m_chain (map (λ z. z.0) from))))) ++ (chains_marks v (calls_of (tables_of (map marking.chain (map m_chain (map (λ z. z.0) from))))) [] (map marking.chain (map m_chain (map (λ z. z.0) from))) ++ ([] ++ (map (column (inside v (tables_of (map marking.chain (map m_chain (map (λ z. z.0) from))))).seen) group ++ ((m_cond having.0).marks (inside v (tables_of (map marking.chain (map m_chain (map (λ z. z.0) from)))))))))) = g.1 in ap (λ z. u_query (z.at v.seen)) (query_roll qualifying (qualify_steps C) (record { distinct = distinct; items = (map (λ z. z.0) items); from = (map (λ z. z.0) from); filter = None; group = group; having = (Some having.0) })) ∙ (λ i. u_query (query_in C v.seen (items_in v.seen (chains_tabs from i) ++ v.seen) (record { distinct = distinct; items = map c_item (map (λ z. z.0) items); from = map c_chain (map (λ z. z.0) from); filter = None; group = group; having = Some (c_cond having.0) }))) ∙ query_roll testing qualified_steps (record { distinct = distinct; items = (all_at (inside v (tables_of (map marking.chain (map m_chain (map (λ z. z.0) from))))).seen (map c_item (map (λ z. z.0) items))); from = map (λ c. c.chain v.seen) (map c_chain (map (λ z. z.0) from)); filter = None; group = map (with_item C (inside v (tables_of (map marking.chain (map m_chain (map (λ z. z.0) from))))).seen) group; having = (Some ((c_cond having.0).at (inside v (tables_of (map marking.chain (map m_chain (map (λ z. z.0) from))))).seen)) }) ∙ (λ i. each c_item m_item u_item items (inside v (tables_of (map marking.chain (map m_chain (map (λ z. z.0) from))))) (before (of_each marking.item (map m_item (map (λ z. z.0) items)) (inside v (tables_of (map marking.chain (map m_chain (map (λ z. z.0) from)))))) (chains_marks v (calls_of (tables_of (map marking.chain (map m_chain (map (λ z. z.0) from))))) [] (map marking.chain (map m_chain (map (λ z. z.0) from))) ++ ([] ++ (map (column (inside v (tables_of (map marking.chain (map m_chain (map (λ z. z.0) from))))).seen) group ++ ((m_cond having.0).marks (inside v (tables_of (map marking.chain (map m_chain (map (λ z. z.0) from))))))))) k) i && (chains_found from v (calls_of (tables_of (map marking.chain (map m_chain (map (λ z. z.0) from))))) [] (before (chains_marks v (calls_of (tables_of (map marking.chain (map m_chain (map (λ z. z.0) from))))) [] (map marking.chain (map m_chain (map (λ z. z.0) from)))) ([] ++ (map (column (inside v (tables_of (map marking.chain (map m_chain (map (λ z. z.0) from))))).seen) group ++ ((m_cond having.0).marks (inside v (tables_of (map marking.chain (map m_chain (map (λ z. z.0) from)))))))) (after (of_each marking.item (map m_item (map (λ z. z.0) items)) (inside v (tables_of (map marking.chain (map m_chain (map (λ z. z.0) from)))))) (chains_marks v (calls_of (tables_of (map marking.chain (map m_chain (map (λ z. z.0) from))))) [] (map marking.chain (map m_chain (map (λ z. z.0) from))) ++ ([] ++ (map (column (inside v (tables_of (map marking.chain (map m_chain (map (λ z. z.0) from))))).seen) group ++ ((m_cond having.0).marks (inside v (tables_of (map marking.chain (map m_chain (map (λ z. z.0) from))))))))) k)) i && (true && (columns_found (inside v (tables_of (map marking.chain (map m_chain (map (λ z. z.0) from))))).seen group (before (map (column (inside v (tables_of (map marking.chain (map m_chain (map (λ z. z.0) from))))).seen) group) ((m_cond having.0).marks (inside v (tables_of (map marking.chain (map m_chain (map (λ z. z.0) from)))))) (after ([]) (map (column (inside v (tables_of (map marking.chain (map m_chain (map (λ z. z.0) from))))).seen) group ++ ((m_cond having.0).marks (inside v (tables_of (map marking.chain (map m_chain (map (λ z. z.0) from))))))) (after (chains_marks v (calls_of (tables_of (map marking.chain (map m_chain (map (λ z. z.0) from))))) [] (map marking.chain (map m_chain (map (λ z. z.0) from)))) ([] ++ (map (column (inside v (tables_of (map marking.chain (map m_chain (map (λ z. z.0) from))))).seen) group ++ ((m_cond having.0).marks (inside v (tables_of (map marking.chain (map m_chain (map (λ z. z.0) from)))))))) (after (of_each marking.item (map m_item (map (λ z. z.0) items)) (inside v (tables_of (map marking.chain (map m_chain (map (λ z. z.0) from)))))) (chains_marks v (calls_of (tables_of (map marking.chain (map m_chain (map (λ z. z.0) from))))) [] (map marking.chain (map m_chain (map (λ z. z.0) from))) ++ ([] ++ (map (column (inside v (tables_of (map marking.chain (map m_chain (map (λ z. z.0) from))))).seen) group ++ ((m_cond having.0).marks (inside v (tables_of (map marking.chain (map m_chain (map (λ z. z.0) from))))))))) k)))) i && (having.1 (inside v (tables_of (map marking.chain (map m_chain (map (λ z. z.0) from))))) (after (map (column (inside v (tables_of (map marking.chain (map m_chain (map (λ z. z.0) from))))).seen) group) ((m_cond having.0).marks (inside v (tables_of (map marking.chain (map m_chain (map (λ z. z.0) from)))))) (after ([]) (map (column (inside v (tables_of (map marking.chain (map m_chain (map (λ z. z.0) from))))).seen) group ++ ((m_cond having.0).marks (inside v (tables_of (map marking.chain (map m_chain (map (λ z. z.0) from))))))) (after (chains_marks v (calls_of (tables_of (map marking.chain (map m_chain (map (λ z. z.0) from))))) [] (map marking.chain (map m_chain (map (λ z. z.0) from)))) ([] ++ (map (column (inside v (tables_of (map marking.chain (map m_chain (map (λ z. z.0) from))))).seen) group ++ ((m_cond having.0).marks (inside v (tables_of (map marking.chain (map m_chain (map (λ z. z.0) from)))))))) (after (of_each marking.item (map m_item (map (λ z. z.0) items)) (inside v (tables_of (map marking.chain (map m_chain (map (λ z. z.0) from)))))) (chains_marks v (calls_of (tables_of (map marking.chain (map m_chain (map (λ z. z.0) from))))) [] (map marking.chain (map m_chain (map (λ z. z.0) from))) ++ ([] ++ (map (column (inside v (tables_of (map marking.chain (map m_chain (map (λ z. z.0) from))))).seen) group ++ ((m_cond having.0).marks (inside v (tables_of (map marking.chain (map m_chain (map (λ z. z.0) from))))))))) k)))) i)))))
  query_good distinct items from (Some filter) group None = λ v h. let g : Found (enter (items_in v.seen (tables_of (map marking.chain (map m_chain (map (λ z. z.0) from))))) ∷ (of_each marking.item (map m_item (map (λ z. z.0) items)) (inside v (tables_of (map marking.chain (map m_chain (map (λ z. z.0) from))))) ++ (chains_marks v (calls_of (tables_of (map marking.chain (map m_chain (map (λ z. z.0) from))))) [] (map marking.chain (map m_chain (map (λ z. z.0) from))) ++ ((m_cond filter.0).marks (inside v (tables_of (map marking.chain (map m_chain (map (λ z. z.0) from))))) ++ (map (column (inside v (tables_of (map marking.chain (map m_chain (map (λ z. z.0) from))))).seen) group ++ ([])))))) = subst Found (ap (λ m. m.marks v) (query_roll marked mark_steps (record { distinct = distinct; items = (map (λ z. z.0) items); from = (map (λ z. z.0) from); filter = (Some filter.0); group = group; having = None }))) h in let k : Found (of_each marking.item (map m_item (map (λ z. z.0) items)) (inside v (tables_of (map marking.chain (map m_chain (map (λ z. z.0) from))))) ++ (chains_marks v (calls_of (tables_of (map marking.chain (map m_chain (map (λ z. z.0) from))))) [] (map marking.chain (map m_chain (map (λ z. z.0) from))) ++ ((m_cond filter.0).marks (inside v (tables_of (map marking.chain (map m_chain (map (λ z. z.0) from))))) ++ (map (column (inside v (tables_of (map marking.chain (map m_chain (map (λ z. z.0) from))))).seen) group ++ ([]))))) = g.1 in ap (λ z. u_query (z.at v.seen)) (query_roll qualifying (qualify_steps C) (record { distinct = distinct; items = (map (λ z. z.0) items); from = (map (λ z. z.0) from); filter = (Some filter.0); group = group; having = None })) ∙ (λ i. u_query (query_in C v.seen (items_in v.seen (chains_tabs from i) ++ v.seen) (record { distinct = distinct; items = map c_item (map (λ z. z.0) items); from = map c_chain (map (λ z. z.0) from); filter = Some (c_cond filter.0); group = group; having = None }))) ∙ query_roll testing qualified_steps (record { distinct = distinct; items = (all_at (inside v (tables_of (map marking.chain (map m_chain (map (λ z. z.0) from))))).seen (map c_item (map (λ z. z.0) items))); from = map (λ c. c.chain v.seen) (map c_chain (map (λ z. z.0) from)); filter = (Some ((c_cond filter.0).at (inside v (tables_of (map marking.chain (map m_chain (map (λ z. z.0) from))))).seen)); group = map (with_item C (inside v (tables_of (map marking.chain (map m_chain (map (λ z. z.0) from))))).seen) group; having = None }) ∙ (λ i. each c_item m_item u_item items (inside v (tables_of (map marking.chain (map m_chain (map (λ z. z.0) from))))) (before (of_each marking.item (map m_item (map (λ z. z.0) items)) (inside v (tables_of (map marking.chain (map m_chain (map (λ z. z.0) from)))))) (chains_marks v (calls_of (tables_of (map marking.chain (map m_chain (map (λ z. z.0) from))))) [] (map marking.chain (map m_chain (map (λ z. z.0) from))) ++ ((m_cond filter.0).marks (inside v (tables_of (map marking.chain (map m_chain (map (λ z. z.0) from))))) ++ (map (column (inside v (tables_of (map marking.chain (map m_chain (map (λ z. z.0) from))))).seen) group ++ ([])))) k) i && (chains_found from v (calls_of (tables_of (map marking.chain (map m_chain (map (λ z. z.0) from))))) [] (before (chains_marks v (calls_of (tables_of (map marking.chain (map m_chain (map (λ z. z.0) from))))) [] (map marking.chain (map m_chain (map (λ z. z.0) from)))) ((m_cond filter.0).marks (inside v (tables_of (map marking.chain (map m_chain (map (λ z. z.0) from))))) ++ (map (column (inside v (tables_of (map marking.chain (map m_chain (map (λ z. z.0) from))))).seen) group ++ ([]))) (after (of_each marking.item (map m_item (map (λ z. z.0) items)) (inside v (tables_of (map marking.chain (map m_chain (map (λ z. z.0) from)))))) (chains_marks v (calls_of (tables_of (map marking.chain (map m_chain (map (λ z. z.0) from))))) [] (map marking.chain (map m_chain (map (λ z. z.0) from))) ++ ((m_cond filter.0).marks (inside v (tables_of (map marking.chain (map m_chain (map (λ z. z.0) from))))) ++ (map (column (inside v (tables_of (map marking.chain (map m_chain (map (λ z. z.0) from))))).seen) group ++ ([])))) k)) i && (filter.1 (inside v (tables_of (map marking.chain (map m_chain (map (λ z. z.0) from))))) (before ((m_cond filter.0).marks (inside v (tables_of (map marking.chain (map m_chain (map (λ z. z.0) from)))))) (map (column (inside v (tables_of (map marking.chain (map m_chain (map (λ z. z.0) from))))).seen) group ++ ([])) (after (chains_marks v (calls_of (tables_of (map marking.chain (map m_chain (map (λ z. z.0) from))))) [] (map marking.chain (map m_chain (map (λ z. z.0) from)))) ((m_cond filter.0).marks (inside v (tables_of (map marking.chain (map m_chain (map (λ z. z.0) from))))) ++ (map (column (inside v (tables_of (map marking.chain (map m_chain (map (λ z. z.0) from))))).seen) group ++ ([]))) (after (of_each marking.item (map m_item (map (λ z. z.0) items)) (inside v (tables_of (map marking.chain (map m_chain (map (λ z. z.0) from)))))) (chains_marks v (calls_of (tables_of (map marking.chain (map m_chain (map (λ z. z.0) from))))) [] (map marking.chain (map m_chain (map (λ z. z.0) from))) ++ ((m_cond filter.0).marks (inside v (tables_of (map marking.chain (map m_chain (map (λ z. z.0) from))))) ++ (map (column (inside v (tables_of (map marking.chain (map m_chain (map (λ z. z.0) from))))).seen) group ++ ([])))) k))) i && (columns_found (inside v (tables_of (map marking.chain (map m_chain (map (λ z. z.0) from))))).seen group (before (map (column (inside v (tables_of (map marking.chain (map m_chain (map (λ z. z.0) from))))).seen) group) ([]) (after ((m_cond filter.0).marks (inside v (tables_of (map marking.chain (map m_chain (map (λ z. z.0) from)))))) (map (column (inside v (tables_of (map marking.chain (map m_chain (map (λ z. z.0) from))))).seen) group ++ ([])) (after (chains_marks v (calls_of (tables_of (map marking.chain (map m_chain (map (λ z. z.0) from))))) [] (map marking.chain (map m_chain (map (λ z. z.0) from)))) ((m_cond filter.0).marks (inside v (tables_of (map marking.chain (map m_chain (map (λ z. z.0) from))))) ++ (map (column (inside v (tables_of (map marking.chain (map m_chain (map (λ z. z.0) from))))).seen) group ++ ([]))) (after (of_each marking.item (map m_item (map (λ z. z.0) items)) (inside v (tables_of (map marking.chain (map m_chain (map (λ z. z.0) from)))))) (chains_marks v (calls_of (tables_of (map marking.chain (map m_chain (map (λ z. z.0) from))))) [] (map marking.chain (map m_chain (map (λ z. z.0) from))) ++ ((m_cond filter.0).marks (inside v (tables_of (map marking.chain (map m_chain (map (λ z. z.0) from))))) ++ (map (column (inside v (tables_of (map marking.chain (map m_chain (map (λ z. z.0) from))))).seen) group ++ ([])))) k)))) i && (true)))))
  query_good distinct items from (Some filter) group (Some having) = λ v h. let g : Found (enter (items_in v.seen (tables_of (map marking.chain (map m_chain (map (λ z. z.0) from))))) ∷ (of_each marking.item (map m_item (map (λ z. z.0) items)) (inside v (tables_of (map marking.chain (map m_chain (map (λ z. z.0) from))))) ++ (chains_marks v (calls_of (tables_of (map marking.chain (map m_chain (map (λ z. z.0) from))))) [] (map marking.chain (map m_chain (map (λ z. z.0) from))) ++ ((m_cond filter.0).marks (inside v (tables_of (map marking.chain (map m_chain (map (λ z. z.0) from))))) ++ (map (column (inside v (tables_of (map marking.chain (map m_chain (map (λ z. z.0) from))))).seen) group ++ ((m_cond having.0).marks (inside v (tables_of (map marking.chain (map m_chain (map (λ z. z.0) from))))))))))) = subst Found (ap (λ m. m.marks v) (query_roll marked mark_steps (record { distinct = distinct; items = (map (λ z. z.0) items); from = (map (λ z. z.0) from); filter = (Some filter.0); group = group; having = (Some having.0) }))) h in let k : Found (of_each marking.item (map m_item (map (λ z. z.0) items)) (inside v (tables_of (map marking.chain (map m_chain (map (λ z. z.0) from))))) ++ (chains_marks v (calls_of (tables_of (map marking.chain (map m_chain (map (λ z. z.0) from))))) [] (map marking.chain (map m_chain (map (λ z. z.0) from))) ++ ((m_cond filter.0).marks (inside v (tables_of (map marking.chain (map m_chain (map (λ z. z.0) from))))) ++ (map (column (inside v (tables_of (map marking.chain (map m_chain (map (λ z. z.0) from))))).seen) group ++ ((m_cond having.0).marks (inside v (tables_of (map marking.chain (map m_chain (map (λ z. z.0) from)))))))))) = g.1 in ap (λ z. u_query (z.at v.seen)) (query_roll qualifying (qualify_steps C) (record { distinct = distinct; items = (map (λ z. z.0) items); from = (map (λ z. z.0) from); filter = (Some filter.0); group = group; having = (Some having.0) })) ∙ (λ i. u_query (query_in C v.seen (items_in v.seen (chains_tabs from i) ++ v.seen) (record { distinct = distinct; items = map c_item (map (λ z. z.0) items); from = map c_chain (map (λ z. z.0) from); filter = Some (c_cond filter.0); group = group; having = Some (c_cond having.0) }))) ∙ query_roll testing qualified_steps (record { distinct = distinct; items = (all_at (inside v (tables_of (map marking.chain (map m_chain (map (λ z. z.0) from))))).seen (map c_item (map (λ z. z.0) items))); from = map (λ c. c.chain v.seen) (map c_chain (map (λ z. z.0) from)); filter = (Some ((c_cond filter.0).at (inside v (tables_of (map marking.chain (map m_chain (map (λ z. z.0) from))))).seen)); group = map (with_item C (inside v (tables_of (map marking.chain (map m_chain (map (λ z. z.0) from))))).seen) group; having = (Some ((c_cond having.0).at (inside v (tables_of (map marking.chain (map m_chain (map (λ z. z.0) from))))).seen)) }) ∙ (λ i. each c_item m_item u_item items (inside v (tables_of (map marking.chain (map m_chain (map (λ z. z.0) from))))) (before (of_each marking.item (map m_item (map (λ z. z.0) items)) (inside v (tables_of (map marking.chain (map m_chain (map (λ z. z.0) from)))))) (chains_marks v (calls_of (tables_of (map marking.chain (map m_chain (map (λ z. z.0) from))))) [] (map marking.chain (map m_chain (map (λ z. z.0) from))) ++ ((m_cond filter.0).marks (inside v (tables_of (map marking.chain (map m_chain (map (λ z. z.0) from))))) ++ (map (column (inside v (tables_of (map marking.chain (map m_chain (map (λ z. z.0) from))))).seen) group ++ ((m_cond having.0).marks (inside v (tables_of (map marking.chain (map m_chain (map (λ z. z.0) from))))))))) k) i && (chains_found from v (calls_of (tables_of (map marking.chain (map m_chain (map (λ z. z.0) from))))) [] (before (chains_marks v (calls_of (tables_of (map marking.chain (map m_chain (map (λ z. z.0) from))))) [] (map marking.chain (map m_chain (map (λ z. z.0) from)))) ((m_cond filter.0).marks (inside v (tables_of (map marking.chain (map m_chain (map (λ z. z.0) from))))) ++ (map (column (inside v (tables_of (map marking.chain (map m_chain (map (λ z. z.0) from))))).seen) group ++ ((m_cond having.0).marks (inside v (tables_of (map marking.chain (map m_chain (map (λ z. z.0) from)))))))) (after (of_each marking.item (map m_item (map (λ z. z.0) items)) (inside v (tables_of (map marking.chain (map m_chain (map (λ z. z.0) from)))))) (chains_marks v (calls_of (tables_of (map marking.chain (map m_chain (map (λ z. z.0) from))))) [] (map marking.chain (map m_chain (map (λ z. z.0) from))) ++ ((m_cond filter.0).marks (inside v (tables_of (map marking.chain (map m_chain (map (λ z. z.0) from))))) ++ (map (column (inside v (tables_of (map marking.chain (map m_chain (map (λ z. z.0) from))))).seen) group ++ ((m_cond having.0).marks (inside v (tables_of (map marking.chain (map m_chain (map (λ z. z.0) from))))))))) k)) i && (filter.1 (inside v (tables_of (map marking.chain (map m_chain (map (λ z. z.0) from))))) (before ((m_cond filter.0).marks (inside v (tables_of (map marking.chain (map m_chain (map (λ z. z.0) from)))))) (map (column (inside v (tables_of (map marking.chain (map m_chain (map (λ z. z.0) from))))).seen) group ++ ((m_cond having.0).marks (inside v (tables_of (map marking.chain (map m_chain (map (λ z. z.0) from))))))) (after (chains_marks v (calls_of (tables_of (map marking.chain (map m_chain (map (λ z. z.0) from))))) [] (map marking.chain (map m_chain (map (λ z. z.0) from)))) ((m_cond filter.0).marks (inside v (tables_of (map marking.chain (map m_chain (map (λ z. z.0) from))))) ++ (map (column (inside v (tables_of (map marking.chain (map m_chain (map (λ z. z.0) from))))).seen) group ++ ((m_cond having.0).marks (inside v (tables_of (map marking.chain (map m_chain (map (λ z. z.0) from)))))))) (after (of_each marking.item (map m_item (map (λ z. z.0) items)) (inside v (tables_of (map marking.chain (map m_chain (map (λ z. z.0) from)))))) (chains_marks v (calls_of (tables_of (map marking.chain (map m_chain (map (λ z. z.0) from))))) [] (map marking.chain (map m_chain (map (λ z. z.0) from))) ++ ((m_cond filter.0).marks (inside v (tables_of (map marking.chain (map m_chain (map (λ z. z.0) from))))) ++ (map (column (inside v (tables_of (map marking.chain (map m_chain (map (λ z. z.0) from))))).seen) group ++ ((m_cond having.0).marks (inside v (tables_of (map marking.chain (map m_chain (map (λ z. z.0) from))))))))) k))) i && (columns_found (inside v (tables_of (map marking.chain (map m_chain (map (λ z. z.0) from))))).seen group (before (map (column (inside v (tables_of (map marking.chain (map m_chain (map (λ z. z.0) from))))).seen) group) ((m_cond having.0).marks (inside v (tables_of (map marking.chain (map m_chain (map (λ z. z.0) from)))))) (after ((m_cond filter.0).marks (inside v (tables_of (map marking.chain (map m_chain (map (λ z. z.0) from)))))) (map (column (inside v (tables_of (map marking.chain (map m_chain (map (λ z. z.0) from))))).seen) group ++ ((m_cond having.0).marks (inside v (tables_of (map marking.chain (map m_chain (map (λ z. z.0) from))))))) (after (chains_marks v (calls_of (tables_of (map marking.chain (map m_chain (map (λ z. z.0) from))))) [] (map marking.chain (map m_chain (map (λ z. z.0) from)))) ((m_cond filter.0).marks (inside v (tables_of (map marking.chain (map m_chain (map (λ z. z.0) from))))) ++ (map (column (inside v (tables_of (map marking.chain (map m_chain (map (λ z. z.0) from))))).seen) group ++ ((m_cond having.0).marks (inside v (tables_of (map marking.chain (map m_chain (map (λ z. z.0) from)))))))) (after (of_each marking.item (map m_item (map (λ z. z.0) items)) (inside v (tables_of (map marking.chain (map m_chain (map (λ z. z.0) from)))))) (chains_marks v (calls_of (tables_of (map marking.chain (map m_chain (map (λ z. z.0) from))))) [] (map marking.chain (map m_chain (map (λ z. z.0) from))) ++ ((m_cond filter.0).marks (inside v (tables_of (map marking.chain (map m_chain (map (λ z. z.0) from))))) ++ (map (column (inside v (tables_of (map marking.chain (map m_chain (map (λ z. z.0) from))))).seen) group ++ ((m_cond having.0).marks (inside v (tables_of (map marking.chain (map m_chain (map (λ z. z.0) from))))))))) k)))) i && (having.1 (inside v (tables_of (map marking.chain (map m_chain (map (λ z. z.0) from))))) (after (map (column (inside v (tables_of (map marking.chain (map m_chain (map (λ z. z.0) from))))).seen) group) ((m_cond having.0).marks (inside v (tables_of (map marking.chain (map m_chain (map (λ z. z.0) from)))))) (after ((m_cond filter.0).marks (inside v (tables_of (map marking.chain (map m_chain (map (λ z. z.0) from)))))) (map (column (inside v (tables_of (map marking.chain (map m_chain (map (λ z. z.0) from))))).seen) group ++ ((m_cond having.0).marks (inside v (tables_of (map marking.chain (map m_chain (map (λ z. z.0) from))))))) (after (chains_marks v (calls_of (tables_of (map marking.chain (map m_chain (map (λ z. z.0) from))))) [] (map marking.chain (map m_chain (map (λ z. z.0) from)))) ((m_cond filter.0).marks (inside v (tables_of (map marking.chain (map m_chain (map (λ z. z.0) from))))) ++ (map (column (inside v (tables_of (map marking.chain (map m_chain (map (λ z. z.0) from))))).seen) group ++ ((m_cond having.0).marks (inside v (tables_of (map marking.chain (map m_chain (map (λ z. z.0) from)))))))) (after (of_each marking.item (map m_item (map (λ z. z.0) items)) (inside v (tables_of (map marking.chain (map m_chain (map (λ z. z.0) from)))))) (chains_marks v (calls_of (tables_of (map marking.chain (map m_chain (map (λ z. z.0) from))))) [] (map marking.chain (map m_chain (map (λ z. z.0) from))) ++ ((m_cond filter.0).marks (inside v (tables_of (map marking.chain (map m_chain (map (λ z. z.0) from))))) ++ (map (column (inside v (tables_of (map marking.chain (map m_chain (map (λ z. z.0) from))))).seen) group ++ ((m_cond having.0).marks (inside v (tables_of (map marking.chain (map m_chain (map (λ z. z.0) from))))))))) k)))) i)))))

  signed_good : (y : Goods layers.Signed-F) → GoodSigned (roll-Signed (down_signed y))
  signed_good y = λ v h. let k : Found ((m_expr y.part.0).marks v) = subst Found (ap (λ m. m.marks v) (signed_roll marked mark_steps (record { minus = y.minus; part = y.part.0 }))) h in ap (λ z. u_signed (z.at v.seen)) (signed_roll qualifying (qualify_steps C) (record { minus = y.minus; part = y.part.0 })) ∙ signed_roll testing qualified_steps (record { minus = y.minus; part = ((c_expr y.part.0).at v.seen) }) ∙ (λ i. y.part.1 v k i)

  pub found_cond : (x : Cond) → GoodCond x
  found_cond = ind-Cond GoodCond GoodExpr GoodItem GoodJoin GoodArm GoodChain GoodChoice GoodQuery GoodSigned (λ x y is. subst (λ z. GoodCond (roll-Cond z)) is (cond_good y)) (λ x y is. subst (λ z. GoodExpr (roll-Expr z)) is (expr_good y)) (λ x y is. subst (λ z. GoodItem (roll-Item z)) is (item_good y)) (λ x y is. subst (λ z. GoodJoin (roll-Join z)) is (join_good y)) (λ x y is. subst (λ z. GoodArm (roll-Arm z)) is (arm_good y)) (λ x y is. subst (λ z. GoodChain (roll-Chain z)) is (chain_good y)) (λ x y is. subst (λ z. GoodChoice (roll-Choice z)) is (choice_good y)) (λ x y is. subst (λ z. GoodQuery (roll-Query z)) is (query_good y.distinct y.items y.from y.filter y.group y.having)) (λ x y is. subst (λ z. GoodSigned (roll-Signed z)) is (signed_good y))

  pub found_expr : (x : Expr) → GoodExpr x
  found_expr = ind-Expr GoodCond GoodExpr GoodItem GoodJoin GoodArm GoodChain GoodChoice GoodQuery GoodSigned (λ x y is. subst (λ z. GoodCond (roll-Cond z)) is (cond_good y)) (λ x y is. subst (λ z. GoodExpr (roll-Expr z)) is (expr_good y)) (λ x y is. subst (λ z. GoodItem (roll-Item z)) is (item_good y)) (λ x y is. subst (λ z. GoodJoin (roll-Join z)) is (join_good y)) (λ x y is. subst (λ z. GoodArm (roll-Arm z)) is (arm_good y)) (λ x y is. subst (λ z. GoodChain (roll-Chain z)) is (chain_good y)) (λ x y is. subst (λ z. GoodChoice (roll-Choice z)) is (choice_good y)) (λ x y is. subst (λ z. GoodQuery (roll-Query z)) is (query_good y.distinct y.items y.from y.filter y.group y.having)) (λ x y is. subst (λ z. GoodSigned (roll-Signed z)) is (signed_good y))

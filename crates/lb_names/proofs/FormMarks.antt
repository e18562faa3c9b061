-- The marks of a tree's qualified form are those of the tree with each column qualified. tools/names-inductions writes this file.
use Rattle.std.proofs.Common.{◌≡◌, refl, ap, sym, subst, ◌∙◌, List, [], ◌∷◌, ◌++◌, Bool, Option, Some, None, map}
use Rattle.std.specs.List.{flat_map}
use Rattle.lb_tree.specs.declared.query.Cond.{Cond}
use Rattle.lb_tree.specs.declared.query.Expr.{Expr}
use Rattle.lb_tree.specs.declared.query.Item.{Item}
use Rattle.lb_tree.specs.declared.query.Join.{Join}
use Rattle.lb_tree.specs.declared.query.Arm.{Arm}
use Rattle.lb_tree.specs.declared.query.Chain.{Chain}
use Rattle.lb_tree.specs.declared.query.Choice.{Choice}
use Rattle.lb_tree.specs.declared.query.Query.{Query}
use Rattle.lb_tree.specs.declared.query.Signed.{Signed}
use Rattle.lb_tree.specs.declared.query.Atom.{Atom}
use Rattle.lb_tree.specs.declared.query.Atom.TheVariants as atoms
use Rattle.lb_tree.specs.declared.query.Column.{Column}
use Rattle.lb_tree.specs.declared.query.Tab.{Tab}
use Rattle.lb_tree.specs.declared.query.Cond.TheOpen as layers
use Rattle.lb_tree.specs.declared.query.Cond.TheViews.{roll-Cond, roll-Expr, roll-Item, roll-Join, roll-Arm, roll-Chain, roll-Choice, roll-Query, roll-Signed}
use Rattle.lb_tree.specs.declared.query.Cond.TheFolds.{map-Cond, map-Expr, map-Item, map-Join, map-Arm, map-Chain, map-Choice, map-Query, map-Signed, ind-Cond, ind-Expr, ind-Chain}
use Rattle.lb_tree.specs.Folds.{Written, cond_of, expr_of, item_of, join_of, arm_of, chain_of, choice_of, query_of, signed_of}
use Rattle.lb_tree.proofs.Opens.{cond_roll, expr_roll, item_roll, join_roll, arm_roll, chain_roll, choice_roll, query_roll, signed_roll}
use Rattle.lb_names.specs.declared.place.Seen.{Seen}
use Rattle.lb_names.specs.Sights.{Name, correlation, calls_of, items_in, Sight, inside, inside_on}
use Rattle.lb_names.specs.Marks.{Mark, enter, item, column, star, call, Marks, Marked, JoinMarks, ChainMarks, marked, marking, mark_steps, of_each, tables_of, tables_of_chain, joins_marks, chains_marks, atom_marks}
use Rattle.lb_names.specs.Scopes.{Catalogue}
use Rattle.lb_names.specs.Passes.{call_refusal_of, text_refusal_of}
use Rattle.lb_names.specs.Qualify.{with_item, atom_in, In, JoinIn, ChainIn, qualifying, qualify_steps, all_at, joins_in, query_in}
use Rattle.lb_names.proofs.LikeSights.{SeenLikes, SightLike, inside_like, inside_on_like}
use Rattle.lb_names.proofs.Mentioned.{m_cond, m_expr, m_item, m_join, m_arm, m_chain, m_choice, m_query, m_signed}

module _ (C : Catalogue) where
  abbrev c_cond : Cond → In Cond
  c_cond = cond_of qualifying (qualify_steps C)

  abbrev c_expr : Expr → In Expr
  c_expr = expr_of qualifying (qualify_steps C)

  abbrev c_item : Item → In Item
  c_item = item_of qualifying (qualify_steps C)

  abbrev c_join : Join → JoinIn
  c_join = join_of qualifying (qualify_steps C)

  abbrev c_arm : Arm → In Arm
  c_arm = arm_of qualifying (qualify_steps C)

  abbrev c_chain : Chain → ChainIn
  c_chain = chain_of qualifying (qualify_steps C)

  abbrev c_choice : Choice → In Choice
  c_choice = choice_of qualifying (qualify_steps C)

  abbrev c_query : Query → In Query
  c_query = query_of qualifying (qualify_steps C)

  abbrev c_signed : Signed → In Signed
  c_signed = signed_of qualifying (qualify_steps C)

  -- the same mark, a column being qualified
  abbrev pub MarkLike : Mark → Mark → Type 0
  MarkLike (enter items) (enter others) = Unit {0}
  MarkLike (item before around tab) (item names outer other) = (before ≡ names) × ((around ≡ outer) × (tab ≡ other))
  MarkLike (column seen c) (column others d) = SeenLikes seen others × (d ≡ with_item C seen c)
  MarkLike (star items x) (star others y) = SeenLikes items others × (x ≡ y)
  MarkLike (call a) (call b) = (call_refusal_of C a ≡ call_refusal_of C b) × (text_refusal_of C a ≡ text_refusal_of C b)
  MarkLike _ _ = ⊥

  abbrev pub MarksLike : Marks → Marks → Type 0
  MarksLike [] [] = Unit {0}
  MarksLike (m ∷ ms) (n ∷ ns) = MarkLike m n × MarksLike ms ns
  MarksLike _ _ = ⊥

  abbrev pub JoinLike : JoinMarks → JoinMarks → Sight → Sight → Type 0
  JoinLike j k v w = (j.tab ≡ k.tab) × MarksLike (j.on v) (k.on w)

  abbrev pub ChainLike : ChainMarks → ChainMarks → Sight → Sight → Type 0
  ChainLike a b v w = (tables_of_chain a ≡ tables_of_chain b) × ((a.first ≡ b.first) × ((all before : List Name) → MarksLike (joins_marks v all before (a.first ∷ []) a.joins) (joins_marks w all before (b.first ∷ []) b.joins)))

  move : {A : Type 0} (R : A → A → Type 0) (a c b d : A) → a ≡ c → b ≡ d → R c d → R a b
  move R a c b d p q h = subst (λ z. R z b) (sym p) (subst (λ z. R c z) (sym q) h)

  none_like : MarksLike [] []
  none_like = tt

  both : (xs us ys ws : Marks) → MarksLike xs us → MarksLike ys ws → MarksLike (xs ++ ys) (us ++ ws)
  both [] [] ys ws h k = k
  both (x ∷ xs) (u ∷ us) ys ws h k = (h.0, both xs us ys ws h.1 k)
  both [] (u ∷ us) ys ws h k = absurd h
  both (x ∷ xs) [] ys ws h k = absurd h

  columns_like : (seen others : List Seen) → SeenLikes seen others → (cs : List Column) → MarksLike (map (column seen) cs) (map (column others) (map (with_item C seen) cs))
  columns_like seen others s [] = tt
  columns_like seen others s (c ∷ cs) = ((s, refl), columns_like seen others s cs)

  each : {X : Type 0} (F : X → In X) (G : X → Marked) (xs : List ((x : X) × ((v w : Sight) → SightLike v w → MarksLike ((G x).marks v) ((G ((F x).at v.seen)).marks w)))) (v w : Sight) → SightLike v w → MarksLike (of_each (λ m. m.marks) (map G (map (λ z. z.0) xs)) v) (of_each (λ m. m.marks) (map G (all_at v.seen (map F (map (λ z. z.0) xs)))) w)
  each F G [] v w s = tt
  each F G (x ∷ xs) v w s = both _ _ _ _ (x.1 v w s) (each F G xs v w s)

  atom_like : (a : Atom) (v w : Sight) → SightLike v w → MarksLike (atom_marks a v) (atom_marks (atom_in C v.seen a) w)
  atom_like atoms.Null v w s = tt
  atom_like (atoms.Int p) v w s = tt
  atom_like (atoms.Text p) v w s = tt
  atom_like (atoms.Date p) v w s = tt
  atom_like atoms.CurrentDate v w s = tt
  atom_like atoms.SessionUser v w s = tt
  atom_like (atoms.Column p) v w s = ((s.1.1.0, refl), tt)
  atom_like atoms.CountRows v w s = tt
  atom_like (atoms.VerifyRole p) v w s = tt
  atom_like (atoms.VerifyGroup p) v w s = tt
  atom_like (atoms.SecLabel p q) v w s = ((refl, refl), tt)
  atom_like (atoms.SecLabelByName p q) v w s = ((refl, refl), tt)
  atom_like (atoms.SecLabelToChar p q) v w s = ((refl, refl), ((s.1.1.0, refl), tt))

  abbrev GoodCond : Cond → Type 0
  GoodCond x = (v w : Sight) → SightLike v w → MarksLike ((m_cond x).marks v) ((m_cond ((c_cond x).at v.seen)).marks w)

  abbrev WithCond : Type 0
  WithCond = (x : Cond) × GoodCond x

  abbrev GoodExpr : Expr → Type 0
  GoodExpr x = (v w : Sight) → SightLike v w → MarksLike ((m_expr x).marks v) ((m_expr ((c_expr x).at v.seen)).marks w)

  abbrev WithExpr : Type 0
  WithExpr = (x : Expr) × GoodExpr x

  abbrev GoodItem : Item → Type 0
  GoodItem x = (v w : Sight) → SightLike v w → MarksLike ((m_item x).marks v) ((m_item ((c_item x).at v.seen)).marks w)

  abbrev WithItem : Type 0
  WithItem = (x : Item) × GoodItem x

  abbrev GoodJoin : Join → Type 0
  GoodJoin x = ((c_join x).tab ≡ (m_join x).tab) × ((v w : Sight) → SightLike v w → JoinLike (m_join x) (m_join ((c_join x).join v.seen)) v w)

  abbrev WithJoin : Type 0
  WithJoin = (x : Join) × GoodJoin x

  abbrev GoodArm : Arm → Type 0
  GoodArm x = (v w : Sight) → SightLike v w → MarksLike ((m_arm x).marks v) ((m_arm ((c_arm x).at v.seen)).marks w)

  abbrev WithArm : Type 0
  WithArm = (x : Arm) × GoodArm x

  abbrev GoodChain : Chain → Type 0
  GoodChain x = ((c_chain x).tabs ≡ tables_of_chain (m_chain x)) × ((v w : Sight) → SightLike v w → ChainLike (m_chain x) (m_chain ((c_chain x).chain v.seen)) v w)

  abbrev WithChain : Type 0
  WithChain = (x : Chain) × GoodChain x

  abbrev GoodChoice : Choice → Type 0
  GoodChoice x = (v w : Sight) → SightLike v w → MarksLike ((m_choice x).marks v) ((m_choice ((c_choice x).at v.seen)).marks w)

  abbrev WithChoice : Type 0
  WithChoice = (x : Choice) × GoodChoice x

  abbrev GoodQuery : Query → Type 0
  GoodQuery x = (v w : Sight) → SightLike v w → MarksLike ((m_query x).marks v) ((m_query ((c_query x).at v.seen)).marks w)

  abbrev WithQuery : Type 0
  WithQuery = (x : Query) × GoodQuery x

  abbrev GoodSigned : Signed → Type 0
  GoodSigned x = (v w : Sight) → SightLike v w → MarksLike ((m_signed x).marks v) ((m_signed ((c_signed x).at v.seen)).marks w)

  abbrev WithSigned : Type 0
  WithSigned = (x : Signed) × GoodSigned x

  -- a layer whose parts have their facts
  abbrev Goods : (Type 0 → Type 0 → Type 0 → Type 0 → Type 0 → Type 0 → Type 0 → Type 0 → Type 0 → Type 0) → Type 0
  Goods F = F WithCond WithExpr WithItem WithJoin WithArm WithChain WithChoice WithQuery WithSigned

  abbrev down_cond : Goods layers.Cond-F → Written layers.Cond-F
  down_cond = map-Cond WithCond WithExpr WithItem WithJoin WithArm WithChain WithChoice WithQuery WithSigned Cond Expr Item Join Arm Chain Choice Query Signed (λ z. z.0) (λ z. z.0) (λ z. z.0) (λ z. z.0) (λ z. z.0) (λ z. z.0) (λ z. z.0) (λ z. z.0) (λ z. z.0)

  abbrev down_expr : Goods layers.Expr-F → Written layers.Expr-F
  down_expr = map-Expr WithCond WithExpr WithItem WithJoin WithArm WithChain WithChoice WithQuery WithSigned Cond Expr Item Join Arm Chain Choice Query Signed (λ z. z.0) (λ z. z.0) (λ z. z.0) (λ z. z.0) (λ z. z.0) (λ z. z.0) (λ z. z.0) (λ z. z.0) (λ z. z.0)

  abbrev down_item : Goods layers.Item-F → Written layers.Item-F
  down_item = map-Item WithCond WithExpr WithItem WithJoin WithArm WithChain WithChoice WithQuery WithSigned Cond Expr Item Join Arm Chain Choice Query Signed (λ z. z.0) (λ z. z.0) (λ z. z.0) (λ z. z.0) (λ z. z.0) (λ z. z.0) (λ z. z.0) (λ z. z.0) (λ z. z.0)

  abbrev down_join : Goods layers.Join-F → Written layers.Join-F
  down_join = map-Join WithCond WithExpr WithItem WithJoin WithArm WithChain WithChoice WithQuery WithSigned Cond Expr Item Join Arm Chain Choice Query Signed (λ z. z.0) (λ z. z.0) (λ z. z.0) (λ z. z.0) (λ z. z.0) (λ z. z.0) (λ z. z.0) (λ z. z.0) (λ z. z.0)

  abbrev down_arm : Goods layers.Arm-F → Written layers.Arm-F
  down_arm = map-Arm WithCond WithExpr WithItem WithJoin WithArm WithChain WithChoice WithQuery WithSigned Cond Expr Item Join Arm Chain Choice Query Signed (λ z. z.0) (λ z. z.0) (λ z. z.0) (λ z. z.0) (λ z. z.0) (λ z. z.0) (λ z. z.0) (λ z. z.0) (λ z. z.0)

  abbrev down_chain : Goods layers.Chain-F → Written layers.Chain-F
  down_chain = map-Chain WithCond WithExpr WithItem WithJoin WithArm WithChain WithChoice WithQuery WithSigned Cond Expr Item Join Arm Chain Choice Query Signed (λ z. z.0) (λ z. z.0) (λ z. z.0) (λ z. z.0) (λ z. z.0) (λ z. z.0) (λ z. z.0) (λ z. z.0) (λ z. z.0)

  abbrev down_choice : Goods layers.Choice-F → Written layers.Choice-F
  down_choice = map-Choice WithCond WithExpr WithItem WithJoin WithArm WithChain WithChoice WithQuery WithSigned Cond Expr Item Join Arm Chain Choice Query Signed (λ z. z.0) (λ z. z.0) (λ z. z.0) (λ z. z.0) (λ z. z.0) (λ z. z.0) (λ z. z.0) (λ z. z.0) (λ z. z.0)

  abbrev down_query : Goods layers.Query-F → Written layers.Query-F
  down_query = map-Query WithCond WithExpr WithItem WithJoin WithArm WithChain WithChoice WithQuery WithSigned Cond Expr Item Join Arm Chain Choice Query Signed (λ z. z.0) (λ z. z.0) (λ z. z.0) (λ z. z.0) (λ z. z.0) (λ z. z.0) (λ z. z.0) (λ z. z.0) (λ z. z.0)

  abbrev down_signed : Goods layers.Signed-F → Written layers.Signed-F
  down_signed = map-Signed WithCond WithExpr WithItem WithJoin WithArm WithChain WithChoice WithQuery WithSigned Cond Expr Item Join Arm Chain Choice Query Signed (λ z. z.0) (λ z. z.0) (λ z. z.0) (λ z. z.0) (λ z. z.0) (λ z. z.0) (λ z. z.0) (λ z. z.0) (λ z. z.0)

  joins_tabs : (js : List WithJoin) → map (λ j. j.tab) (map c_join (map (λ z. z.0) js)) ≡ map (λ j. j.tab) (map marking.join (map m_join (map (λ z. z.0) js)))
  joins_tabs [] = refl
  joins_tabs (j ∷ js) = λ i. j.1.0 i ∷ joins_tabs js i

  joins_tables : (js : List WithJoin) (v w : Sight) → SightLike v w → (tabs : List Tab) → map (λ j. j.tab) (map marking.join (map m_join (map (λ z. z.0) js))) ≡ map (λ j. j.tab) (map marking.join (map m_join (joins_in tabs (map c_join (map (λ z. z.0) js)) v.seen)))
  joins_tables [] v w s tabs = refl
  joins_tables (j ∷ js) v w s tabs = let more : List Tab = tabs ++ (c_join j.0).tab ∷ [] in λ i. (j.1.1 (inside v more) (inside w more) (inside_like v w more s)).0 i ∷ joins_tables js v w s more i

  joins_like : (js : List WithJoin) (v w : Sight) → SightLike v w → (all before_ : List Name) (tabs : List Tab) → MarksLike (joins_marks v all before_ tabs (map marking.join (map m_join (map (λ z. z.0) js)))) (joins_marks w all before_ tabs (map marking.join (map m_join (joins_in tabs (map c_join (map (λ z. z.0) js)) v.seen))))
  joins_like [] v w s all before_ tabs = tt
  joins_like (j ∷ js) v w s all before_ tabs =
      let tab : Tab = (m_join j.0).tab in
      let more : List Tab = tabs ++ tab ∷ [] in
      let here : JoinLike (m_join j.0) (m_join ((c_join j.0).join (items_in v.seen more ++ v.seen))) (inside_on v all more) (inside_on w all more) = j.1.1 (inside_on v all more) (inside_on w all more) (inside_on_like v w all more s) in
      subst (λ t. MarksLike (joins_marks v all before_ tabs (m_join j.0 ∷ map marking.join (map m_join (map (λ z. z.0) js)))) (joins_marks w all before_ tabs (m_join ((c_join j.0).join (items_in v.seen (tabs ++ t ∷ []) ++ v.seen)) ∷ map marking.join (map m_join (joins_in (tabs ++ t ∷ []) (map c_join (map (λ z. z.0) js)) v.seen))))) (sym j.1.0)
      (subst (λ t. MarksLike (joins_marks v all before_ tabs (m_join j.0 ∷ map marking.join (map m_join (map (λ z. z.0) js)))) (item before_ w.around t ∷ ((m_join ((c_join j.0).join (items_in v.seen more ++ v.seen))).on (inside_on w all (tabs ++ t ∷ [])) ++ joins_marks w all (before_ ++ correlation t ∷ []) (tabs ++ t ∷ []) (map marking.join (map m_join (joins_in more (map c_join (map (λ z. z.0) js)) v.seen)))))) here.0
      ((refl, (s.1.1.1, refl)), both _ _ _ _ here.1 (joins_like js v w s all (before_ ++ correlation tab ∷ []) more)))

  chains_tabs : (cs : List WithChain) → flat_map (λ c. c.tabs) (map c_chain (map (λ z. z.0) cs)) ≡ tables_of (map marking.chain (map m_chain (map (λ z. z.0) cs)))
  chains_tabs [] = refl
  chains_tabs (c ∷ cs) = λ i. c.1.0 i ++ chains_tabs cs i

  chains_same : (cs : List WithChain) (v w : Sight) → SightLike v w → tables_of (map marking.chain (map m_chain (map (λ z. z.0) cs))) ≡ tables_of (map marking.chain (map m_chain (map (λ c. c.chain v.seen) (map c_chain (map (λ z. z.0) cs)))))
  chains_same [] v w s = refl
  chains_same (c ∷ cs) v w s = λ i. (c.1.1 v w s).0 i ++ chains_same cs v w s i

  chains_like : (cs : List WithChain) (v w : Sight) → SightLike v w → (all before_ : List Name) → MarksLike (chains_marks v all before_ (map marking.chain (map m_chain (map (λ z. z.0) cs)))) (chains_marks w all before_ (map marking.chain (map m_chain (map (λ c. c.chain v.seen) (map c_chain (map (λ z. z.0) cs))))))
  chains_like [] v w s all before_ = tt
  chains_like (c ∷ cs) v w s all before_ =
      let ch : ChainMarks = m_chain c.0 in
      let d : ChainMarks = m_chain ((c_chain c.0).chain v.seen) in
      let k : ChainLike ch d v w = c.1.1 v w s in
      let rest : List ChainMarks = map marking.chain (map m_chain (map (λ c. c.chain v.seen) (map c_chain (map (λ z. z.0) cs)))) in
      subst (λ ts. MarksLike (chains_marks v all before_ (ch ∷ map marking.chain (map m_chain (map (λ z. z.0) cs)))) (item before_ w.around d.first ∷ (joins_marks w all (before_ ++ correlation d.first ∷ []) (d.first ∷ []) d.joins ++ chains_marks w all (before_ ++ calls_of ts) rest))) k.0
      (subst (λ f. MarksLike (chains_marks v all before_ (ch ∷ map marking.chain (map m_chain (map (λ z. z.0) cs)))) (item before_ w.around f ∷ (joins_marks w all (before_ ++ correlation f ∷ []) (d.first ∷ []) d.joins ++ chains_marks w all (before_ ++ calls_of (tables_of_chain ch)) rest))) k.1.0
      ((refl, (s.1.1.1, refl)), both _ _ _ _ (k.1.1 all (before_ ++ correlation ch.first ∷ [])) (chains_like cs v w s all (before_ ++ calls_of (tables_of_chain ch)))))

  cond_good : (y : Goods layers.Cond-F) → GoodCond (roll-Cond (down_cond y))
  cond_good (layers.Cond-F.Or a) = λ v w s. move MarksLike _ _ _ _ (ap (λ m. m.marks v) (cond_roll marked mark_steps (layers.Cond-F.Or (map (λ z. z.0) a)))) (ap (λ z. (m_cond (z.at v.seen)).marks w) (cond_roll qualifying (qualify_steps C) (layers.Cond-F.Or (map (λ z. z.0) a))) ∙ ap (λ m. m.marks w) (cond_roll marked mark_steps (layers.Cond-F.Or (all_at v.seen (map c_cond (map (λ z. z.0) a)))))) (each c_cond m_cond a v w s)
  cond_good (layers.Cond-F.And a) = λ v w s. move MarksLike _ _ _ _ (ap (λ m. m.marks v) (cond_roll marked mark_steps (layers.Cond-F.And (map (λ z. z.0) a)))) (ap (λ z. (m_cond (z.at v.seen)).marks w) (cond_roll qualifying (qualify_steps C) (layers.Cond-F.And (map (λ z. z.0) a))) ∙ ap (λ m. m.marks w) (cond_roll marked mark_steps (layers.Cond-F.And (all_at v.seen (map c_cond (map (λ z. z.0) a)))))) (each c_cond m_cond a v w s)
  cond_good (layers.Cond-F.Not a) = λ v w s. move MarksLike _ _ _ _ (ap (λ m. m.marks v) (cond_roll marked mark_steps (layers.Cond-F.Not a.0))) (ap (λ z. (m_cond (z.at v.seen)).marks w) (cond_roll qualifying (qualify_steps C) (layers.Cond-F.Not a.0)) ∙ ap (λ m. m.marks w) (cond_roll marked mark_steps (layers.Cond-F.Not ((c_cond a.0).at v.seen)))) (a.1 v w s)
  cond_good (layers.Cond-F.Exists a) = λ v w s. move MarksLike _ _ _ _ (ap (λ m. m.marks v) (cond_roll marked mark_steps (layers.Cond-F.Exists a.0))) (ap (λ z. (m_cond (z.at v.seen)).marks w) (cond_roll qualifying (qualify_steps C) (layers.Cond-F.Exists a.0)) ∙ ap (λ m. m.marks w) (cond_roll marked mark_steps (layers.Cond-F.Exists ((c_query a.0).at v.seen)))) (a.1 v w s)
  cond_good (layers.Cond-F.Compare a b c) = λ v w s. move MarksLike _ _ _ _ (ap (λ m. m.marks v) (cond_roll marked mark_steps (layers.Cond-F.Compare a b.0 c.0))) (ap (λ z. (m_cond (z.at v.seen)).marks w) (cond_roll qualifying (qualify_steps C) (layers.Cond-F.Compare a b.0 c.0)) ∙ ap (λ m. m.marks w) (cond_roll marked mark_steps (layers.Cond-F.Compare a ((c_expr b.0).at v.seen) ((c_expr c.0).at v.seen)))) (both _ _ _ _ (b.1 v w s) (c.1 v w s))
  cond_good (layers.Cond-F.CompareQuery a b c) = λ v w s. move MarksLike _ _ _ _ (ap (λ m. m.marks v) (cond_roll marked mark_steps (layers.Cond-F.CompareQuery a b.0 c.0))) (ap (λ z. (m_cond (z.at v.seen)).marks w) (cond_roll qualifying (qualify_steps C) (layers.Cond-F.CompareQuery a b.0 c.0)) ∙ ap (λ m. m.marks w) (cond_roll marked mark_steps (layers.Cond-F.CompareQuery a ((c_expr b.0).at v.seen) ((c_query c.0).at v.seen)))) (both _ _ _ _ (b.1 v w s) (c.1 v w s))
  cond_good (layers.Cond-F.IsNull a) = λ v w s. move MarksLike _ _ _ _ (ap (λ m. m.marks v) (cond_roll marked mark_steps (layers.Cond-F.IsNull a.0))) (ap (λ z. (m_cond (z.at v.seen)).marks w) (cond_roll qualifying (qualify_steps C) (layers.Cond-F.IsNull a.0)) ∙ ap (λ m. m.marks w) (cond_roll marked mark_steps (layers.Cond-F.IsNull ((c_expr a.0).at v.seen)))) (a.1 v w s)
  cond_good (layers.Cond-F.InQuery a b) = λ v w s. move MarksLike _ _ _ _ (ap (λ m. m.marks v) (cond_roll marked mark_steps (layers.Cond-F.InQuery a.0 b.0))) (ap (λ z. (m_cond (z.at v.seen)).marks w) (cond_roll qualifying (qualify_steps C) (layers.Cond-F.InQuery a.0 b.0)) ∙ ap (λ m. m.marks w) (cond_roll marked mark_steps (layers.Cond-F.InQuery ((c_expr a.0).at v.seen) ((c_query b.0).at v.seen)))) (both _ _ _ _ (a.1 v w s) (b.1 v w s))
  cond_good (layers.Cond-F.InList a b) = λ v w s. move MarksLike _ _ _ _ (ap (λ m. m.marks v) (cond_roll marked mark_steps (layers.Cond-F.InList a.0 (map (λ z. z.0) b)))) (ap (λ z. (m_cond (z.at v.seen)).marks w) (cond_roll qualifying (qualify_steps C) (layers.Cond-F.InList a.0 (map (λ z. z.0) b))) ∙ ap (λ m. m.marks w) (cond_roll marked mark_steps (layers.Cond-F.InList ((c_expr a.0).at v.seen) (all_at v.seen (map c_expr (map (λ z. z.0) b)))))) (both _ _ _ _ (a.1 v w s) (each c_expr m_expr b v w s))
  cond_good (layers.Cond-F.Between a b c) = λ v w s. move MarksLike _ _ _ _ (ap (λ m. m.marks v) (cond_roll marked mark_steps (layers.Cond-F.Between a.0 b.0 c.0))) (ap (λ z. (m_cond (z.at v.seen)).marks w) (cond_roll qualifying (qualify_steps C) (layers.Cond-F.Between a.0 b.0 c.0)) ∙ ap (λ m. m.marks w) (cond_roll marked mark_steps (layers.Cond-F.Between ((c_expr a.0).at v.seen) ((c_expr b.0).at v.seen) ((c_expr c.0).at v.seen)))) (both _ _ _ _ (a.1 v w s) (both _ _ _ _ (b.1 v w s) (c.1 v w s)))

  expr_good : (y : Goods layers.Expr-F) → GoodExpr (roll-Expr (down_expr y))
  expr_good (layers.Expr-F.Atom a) = λ v w s. move MarksLike _ _ _ _ (ap (λ m. m.marks v) (expr_roll marked mark_steps (layers.Expr-F.Atom a))) (ap (λ z. (m_expr (z.at v.seen)).marks w) (expr_roll qualifying (qualify_steps C) (layers.Expr-F.Atom a)) ∙ ap (λ m. m.marks w) (expr_roll marked mark_steps (layers.Expr-F.Atom (atom_in C v.seen a)))) (atom_like a v w s)
  expr_good (layers.Expr-F.Sum a) = λ v w s. move MarksLike _ _ _ _ (ap (λ m. m.marks v) (expr_roll marked mark_steps (layers.Expr-F.Sum (map (λ z. z.0) a)))) (ap (λ z. (m_expr (z.at v.seen)).marks w) (expr_roll qualifying (qualify_steps C) (layers.Expr-F.Sum (map (λ z. z.0) a))) ∙ ap (λ m. m.marks w) (expr_roll marked mark_steps (layers.Expr-F.Sum (all_at v.seen (map c_signed (map (λ z. z.0) a)))))) (each c_signed m_signed a v w s)
  expr_good (layers.Expr-F.Concat a) = λ v w s. move MarksLike _ _ _ _ (ap (λ m. m.marks v) (expr_roll marked mark_steps (layers.Expr-F.Concat (map (λ z. z.0) a)))) (ap (λ z. (m_expr (z.at v.seen)).marks w) (expr_roll qualifying (qualify_steps C) (layers.Expr-F.Concat (map (λ z. z.0) a))) ∙ ap (λ m. m.marks w) (expr_roll marked mark_steps (layers.Expr-F.Concat (all_at v.seen (map c_expr (map (λ z. z.0) a)))))) (each c_expr m_expr a v w s)
  expr_good (layers.Expr-F.Product a) = λ v w s. move MarksLike _ _ _ _ (ap (λ m. m.marks v) (expr_roll marked mark_steps (layers.Expr-F.Product (map (λ z. z.0) a)))) (ap (λ z. (m_expr (z.at v.seen)).marks w) (expr_roll qualifying (qualify_steps C) (layers.Expr-F.Product (map (λ z. z.0) a))) ∙ ap (λ m. m.marks w) (expr_roll marked mark_steps (layers.Expr-F.Product (all_at v.seen (map c_expr (map (λ z. z.0) a)))))) (each c_expr m_expr a v w s)
  expr_good (layers.Expr-F.Case a None) = λ v w s. move MarksLike _ _ _ _ (ap (λ m. m.marks v) (expr_roll marked mark_steps (layers.Expr-F.Case (map (λ z. z.0) a) None))) (ap (λ z. (m_expr (z.at v.seen)).marks w) (expr_roll qualifying (qualify_steps C) (layers.Expr-F.Case (map (λ z. z.0) a) None)) ∙ ap (λ m. m.marks w) (expr_roll marked mark_steps (layers.Expr-F.Case (all_at v.seen (map c_arm (map (λ z. z.0) a))) None))) (both _ _ [] [] (each c_arm m_arm a v w s) (none_like))
  expr_good (layers.Expr-F.Case a (Some b)) = λ v w s. move MarksLike _ _ _ _ (ap (λ m. m.marks v) (expr_roll marked mark_steps (layers.Expr-F.Case (map (λ z. z.0) a) (Some b.0)))) (ap (λ z. (m_expr (z.at v.seen)).marks w) (expr_roll qualifying (qualify_steps C) (layers.Expr-F.Case (map (λ z. z.0) a) (Some b.0))) ∙ ap (λ m. m.marks w) (expr_roll marked mark_steps (layers.Expr-F.Case (all_at v.seen (map c_arm (map (λ z. z.0) a))) (Some ((c_expr b.0).at v.seen))))) (both _ _ _ _ (each c_arm m_arm a v w s) (b.1 v w s))
  expr_good (layers.Expr-F.Match a b None) = λ v w s. move MarksLike _ _ _ _ (ap (λ m. m.marks v) (expr_roll marked mark_steps (layers.Expr-F.Match a.0 (map (λ z. z.0) b) None))) (ap (λ z. (m_expr (z.at v.seen)).marks w) (expr_roll qualifying (qualify_steps C) (layers.Expr-F.Match a.0 (map (λ z. z.0) b) None)) ∙ ap (λ m. m.marks w) (expr_roll marked mark_steps (layers.Expr-F.Match ((c_expr a.0).at v.seen) (all_at v.seen (map c_choice (map (λ z. z.0) b))) None))) (both _ _ _ _ (a.1 v w s) (both _ _ [] [] (each c_choice m_choice b v w s) (none_like)))
  expr_good (layers.Expr-F.Match a b (Some c)) = λ v w s. move MarksLike _ _ _ _ (ap (λ m. m.marks v) (expr_roll marked mark_steps (layers.Expr-F.Match a.0 (map (λ z. z.0) b) (Some c.0)))) (ap (λ z. (m_expr (z.at v.seen)).marks w) (expr_roll qualifying (qualify_steps C) (layers.Expr-F.Match a.0 (map (λ z. z.0) b) (Some c.0))) ∙ ap (λ m. m.marks w) (expr_roll marked mark_steps (layers.Expr-F.Match ((c_expr a.0).at v.seen) (all_at v.seen (map c_choice (map (λ z. z.0) b))) (Some ((c_expr c.0).at v.seen))))) (both _ _ _ _ (a.1 v w s) (both _ _ _ _ (each c_choice m_choice b v w s) (c.1 v w s)))
  expr_good (layers.Expr-F.Aggregate a b) = λ v w s. move MarksLike _ _ _ _ (ap (λ m. m.marks v) (expr_roll marked mark_steps (layers.Expr-F.Aggregate a b.0))) (ap (λ z. (m_expr (z.at v.seen)).marks w) (expr_roll qualifying (qualify_steps C) (layers.Expr-F.Aggregate a b.0)) ∙ ap (λ m. m.marks w) (expr_roll marked mark_steps (layers.Expr-F.Aggregate a ((c_expr b.0).at v.seen)))) (b.1 v w s)
  expr_good (layers.Expr-F.Substr a b None) = λ v w s. move MarksLike _ _ _ _ (ap (λ m. m.marks v) (expr_roll marked mark_steps (layers.Expr-F.Substr a.0 b.0 None))) (ap (λ z. (m_expr (z.at v.seen)).marks w) (expr_roll qualifying (qualify_steps C) (layers.Expr-F.Substr a.0 b.0 None)) ∙ ap (λ m. m.marks w) (expr_roll marked mark_steps (layers.Expr-F.Substr ((c_expr a.0).at v.seen) ((c_expr b.0).at v.seen) None))) (both _ _ _ _ (a.1 v w s) (both _ _ [] [] (b.1 v w s) (none_like)))
  expr_good (layers.Expr-F.Substr a b (Some c)) = λ v w s. move MarksLike _ _ _ _ (ap (λ m. m.marks v) (expr_roll marked mark_steps (layers.Expr-F.Substr a.0 b.0 (Some c.0)))) (ap (λ z. (m_expr (z.at v.seen)).marks w) (expr_roll qualifying (qualify_steps C) (layers.Expr-F.Substr a.0 b.0 (Some c.0))) ∙ ap (λ m. m.marks w) (expr_roll marked mark_steps (layers.Expr-F.Substr ((c_expr a.0).at v.seen) ((c_expr b.0).at v.seen) (Some ((c_expr c.0).at v.seen))))) (both _ _ _ _ (a.1 v w s) (both _ _ _ _ (b.1 v w s) (c.1 v w s)))
  expr_good (layers.Expr-F.Apply a b) = λ v w s. move MarksLike _ _ _ _ (ap (λ m. m.marks v) (expr_roll marked mark_steps (layers.Expr-F.Apply a b.0))) (ap (λ z. (m_expr (z.at v.seen)).marks w) (expr_roll qualifying (qualify_steps C) (layers.Expr-F.Apply a b.0)) ∙ ap (λ m. m.marks w) (expr_roll marked mark_steps (layers.Expr-F.Apply a ((c_expr b.0).at v.seen)))) (b.1 v w s)
  expr_good (layers.Expr-F.Coalesce a) = λ v w s. move MarksLike _ _ _ _ (ap (λ m. m.marks v) (expr_roll marked mark_steps (layers.Expr-F.Coalesce (map (λ z. z.0) a)))) (ap (λ z. (m_expr (z.at v.seen)).marks w) (expr_roll qualifying (qualify_steps C) (layers.Expr-F.Coalesce (map (λ z. z.0) a))) ∙ ap (λ m. m.marks w) (expr_roll marked mark_steps (layers.Expr-F.Coalesce (all_at v.seen (map c_expr (map (λ z. z.0) a)))))) (each c_expr m_expr a v w s)

  item_good : (y : Goods layers.Item-F) → GoodItem (roll-Item (down_item y))
  item_good layers.Item-F.Everything = λ v w s. move MarksLike _ _ _ _ (ap (λ m. m.marks v) (item_roll marked mark_steps layers.Item-F.Everything)) (ap (λ z. (m_item (z.at v.seen)).marks w) (item_roll qualifying (qualify_steps C) layers.Item-F.Everything) ∙ ap (λ m. m.marks w) (item_roll marked mark_steps layers.Item-F.Everything)) (((s.1.0, refl), tt))
  item_good (layers.Item-F.AllOf a) = λ v w s. move MarksLike _ _ _ _ (ap (λ m. m.marks v) (item_roll marked mark_steps (layers.Item-F.AllOf a))) (ap (λ z. (m_item (z.at v.seen)).marks w) (item_roll qualifying (qualify_steps C) (layers.Item-F.AllOf a)) ∙ ap (λ m. m.marks w) (item_roll marked mark_steps (layers.Item-F.AllOf a))) (((s.1.0, refl), tt))
  item_good (layers.Item-F.Value a b) = λ v w s. move MarksLike _ _ _ _ (ap (λ m. m.marks v) (item_roll marked mark_steps (layers.Item-F.Value a.0 b))) (ap (λ z. (m_item (z.at v.seen)).marks w) (item_roll qualifying (qualify_steps C) (layers.Item-F.Value a.0 b)) ∙ ap (λ m. m.marks w) (item_roll marked mark_steps (layers.Item-F.Value ((c_expr a.0).at v.seen) b))) (a.1 v w s)

  join_good : (y : Goods layers.Join-F) → GoodJoin (roll-Join (down_join y))
  join_good (layers.Join-F.Inner a b) = (ap (λ z. z.tab) (join_roll qualifying (qualify_steps C) (layers.Join-F.Inner a b.0)) ∙ sym (ap (λ z. z.tab) (join_roll marked mark_steps (layers.Join-F.Inner a b.0))), λ v w s. move (λ a b. JoinLike a b v w) _ _ _ _ (join_roll marked mark_steps (layers.Join-F.Inner a b.0)) (ap (λ z. m_join (z.join v.seen)) (join_roll qualifying (qualify_steps C) (layers.Join-F.Inner a b.0)) ∙ join_roll marked mark_steps (layers.Join-F.Inner a ((c_cond b.0).at v.seen))) (refl, b.1 v w s))
  join_good (layers.Join-F.Left a b) = (ap (λ z. z.tab) (join_roll qualifying (qualify_steps C) (layers.Join-F.Left a b.0)) ∙ sym (ap (λ z. z.tab) (join_roll marked mark_steps (layers.Join-F.Left a b.0))), λ v w s. move (λ a b. JoinLike a b v w) _ _ _ _ (join_roll marked mark_steps (layers.Join-F.Left a b.0)) (ap (λ z. m_join (z.join v.seen)) (join_roll qualifying (qualify_steps C) (layers.Join-F.Left a b.0)) ∙ join_roll marked mark_steps (layers.Join-F.Left a ((c_cond b.0).at v.seen))) (refl, b.1 v w s))
  join_good (layers.Join-F.Cross a) = (ap (λ z. z.tab) (join_roll qualifying (qualify_steps C) (layers.Join-F.Cross a)) ∙ sym (ap (λ z. z.tab) (join_roll marked mark_steps (layers.Join-F.Cross a))), λ v w s. move (λ a b. JoinLike a b v w) _ _ _ _ (join_roll marked mark_steps (layers.Join-F.Cross a)) (ap (λ z. m_join (z.join v.seen)) (join_roll qualifying (qualify_steps C) (layers.Join-F.Cross a)) ∙ join_roll marked mark_steps (layers.Join-F.Cross a)) (refl, tt))

  arm_good : (y : Goods layers.Arm-F) → GoodArm (roll-Arm (down_arm y))
  arm_good y = λ v w s. move MarksLike _ _ _ _ (ap (λ m. m.marks v) (arm_roll marked mark_steps (record { when = y.when.0; result = y.result.0 }))) (ap (λ z. (m_arm (z.at v.seen)).marks w) (arm_roll qualifying (qualify_steps C) (record { when = y.when.0; result = y.result.0 })) ∙ ap (λ m. m.marks w) (arm_roll marked mark_steps (record { when = ((c_cond y.when.0).at v.seen); result = ((c_expr y.result.0).at v.seen) }))) (both _ _ _ _ (y.when.1 v w s) (y.result.1 v w s))

  chain_good : (y : Goods layers.Chain-F) → GoodChain (roll-Chain (down_chain y))
  chain_good y = (ap (λ z. z.tabs) (chain_roll qualifying (qualify_steps C) (record { first = y.first; joins = (map (λ z. z.0) y.joins) })) ∙ (λ i. y.first ∷ joins_tabs y.joins i) ∙ sym (ap (λ z. tables_of_chain z) (chain_roll marked mark_steps (record { first = y.first; joins = (map (λ z. z.0) y.joins) }))), λ v w s. move (λ a b. ChainLike a b v w) _ _ _ _ (chain_roll marked mark_steps (record { first = y.first; joins = (map (λ z. z.0) y.joins) })) (ap (λ z. m_chain (z.chain v.seen)) (chain_roll qualifying (qualify_steps C) (record { first = y.first; joins = (map (λ z. z.0) y.joins) })) ∙ chain_roll marked mark_steps (record { first = y.first; joins = joins_in (y.first ∷ []) (map c_join (map (λ z. z.0) y.joins)) v.seen })) ((λ i. y.first ∷ joins_tables y.joins v w s (y.first ∷ []) i), (refl, λ all before_. joins_like y.joins v w s all before_ (y.first ∷ []))))

  choice_good : (y : Goods layers.Choice-F) → GoodChoice (roll-Choice (down_choice y))
  choice_good y = λ v w s. move MarksLike _ _ _ _ (ap (λ m. m.marks v) (choice_roll marked mark_steps (record { when = y.when.0; result = y.result.0 }))) (ap (λ z. (m_choice (z.at v.seen)).marks w) (choice_roll qualifying (qualify_steps C) (record { when = y.when.0; result = y.result.0 })) ∙ ap (λ m. m.marks w) (choice_roll marked mark_steps (record { when = ((c_expr y.when.0).at v.seen); result = ((c_expr y.result.0).at v.seen) }))) (both _ _ _ _ (y.when.1 v w s) (y.result.1 v w s))

  query_good : (distinct : Bool) (items : List WithItem) (from : List WithChain) (filter : Option WithCond) (group : List Column) (having : Option WithCond)
      → GoodQuery (roll-Query (down_query (record { distinct = distinct; items = items; from = from; filter = filter; group = group; having = having })))
  query_good distinct items from None group None = λ v w s. let t : tables_of (map marking.chain (map m_chain (map (λ z. z.0) from))) ≡ tables_of (map marking.chain (map m_chain (map (λ c. c.chain v.seen) (map c_chain (map (λ z. z.0) from))))) = chains_same from v w s in let k : SightLike (inside v (tables_of (map marking.chain (map m_chain (map (λ z. z.0) from))))) (inside w (tables_of (map marking.chain (map m_chain (map (λ c. c.chain v.seen) (map c_chain (map (λ z. z.0) from))))))) = subst (λ ts. SightLike (inside v (tables_of (map marking.chain (map m_chain (map (λ z. z.0) from))))) (inside w ts)) t (inside_like v w (tables_of (map marking.chain (map m_chain (map (λ z. z.0) from)))) s) in move MarksLike _ _ _ _ (ap (λ m. m.marks v) (query_roll marked mark_steps (record { distinct = distinct; items = (map (λ z. z.0) items); from = (map (λ z. z.0) from); filter = None; group = group; having = None }))) (ap (λ z. (m_query (z.at v.seen)).marks w) (query_roll qualifying (qualify_steps C) (record { distinct = distinct; items = (map (λ z. z.0) items); from = (map (λ z. z.0) from); filter = None; group = group; having = None })) ∙ (λ i. (m_query (query_in C v.seen (items_in v.seen (chains_tabs from i) ++ v.seen) (record { distinct = distinct; items = map c_item (map (λ z. z.0) items); from = map c_chain (map (λ z. z.0) from); filter = None; group = group; having = None }))).marks w) ∙ ap (λ m. m.marks w) (query_roll marked mark_steps (record { distinct = distinct; items = (all_at (inside v (tables_of (map marking.chain (map m_chain (map (λ z. z.0) from))))).seen (map c_item (map (λ z. z.0) items))); from = map (λ c. c.chain v.seen) (map c_chain (map (λ z. z.0) from)); filter = None; group = map (with_item C (inside v (tables_of (map marking.chain (map m_chain (map (λ z. z.0) from))))).seen) group; having = None }))) (tt, both _ _ _ _ (each c_item m_item items (inside v (tables_of (map marking.chain (map m_chain (map (λ z. z.0) from))))) (inside w (tables_of (map marking.chain (map m_chain (map (λ c. c.chain v.seen) (map c_chain (map (λ z. z.0) from))))))) k) (both _ _ _ _ (subst (λ a. MarksLike (chains_marks v (calls_of (tables_of (map marking.chain (map m_chain (map (λ z. z.0) from))))) [] (map marking.chain (map m_chain (map (λ z. z.0) from)))) (chains_marks w a [] (map marking.chain (map m_chain (map (λ c. c.chain v.seen) (map c_chain (map (λ z. z.0) from))))))) (ap calls_of t) (chains_like from v w s (calls_of (tables_of (map marking.chain (map m_chain (map (λ z. z.0) from))))) [])) (both [] [] _ _ (none_like) (both _ _ [] [] (columns_like (inside v (tables_of (map marking.chain (map m_chain (map (λ z. z.0) from))))).seen (inside w (tables_of (map marking.chain (map m_chain (map (λ c. c.chain v.seen) (map c_chain (map (λ z. z.0) from))))))).seen k.1.1.0 group) (none_like)))))
  query_good distinct items from None group (Some having) = λ v w s. let t : tables_of (map marking.chain (map m_chain (map (λ z. z.0) from))) ≡ tables_of (map marking.chain (map m_chain (map (λ c. c.chain v.seen) (map c_chain (map (λ z. z.0) from))))) = chains_same from v w s in let k : SightLike (inside v (tables_of (map marking.chain (map m_chain (map (λ z. z.0) from))))) (inside w (tables_of (map marking.chain (map m_chain (map (λ c. c.chain v.seen) (map c_chain (map (λ z. z.0) from))))))) = subst (λ ts. SightLike (inside v (tables_of (map marking.chain (map m_chain (map (λ z. z.0) from))))) (inside w ts)) t (inside_like v w (tables_of (map marking.chain (map m_chain (map (λ z. z.0) from)))) s) in move MarksLike _ _ _ _ (ap (λ m. m.marks v) (query_roll marked mark_steps (record { distinct = distinct; items = (map (λ z. z.0) items); from = (map (λ z. z.0) from); filter = None; group = group; having = (Some having.0) }))) (ap (λ z. (m_query (z.at v.seen)).marks w) (query_roll qualifying (qualify_steps C) (record { distinct = distinct; items = (map (λ z. z.0) items); from = (map (λ z. z.0) from); filter = None; group = group; having = (Some having.0) })) ∙ (λ i. (m_query (query_in C v.seen (items_in v.seen (chains_tabs from i) ++ v.seen) (record { distinct = distinct; items = map c_item (map (λ z. z.0) items); from = map c_chain (map (λ z. z.0) from); filter = None; group = group; having = Some (c_cond having.0) }))).marks w) ∙ ap (λ m. m.marks w) (query_roll marked mark_steps (record { distinct = distinct; items = (all_at (inside v (tables_of (map marking.chain (map m_chain (map (λ z. z.0) from))))).seen (map c_item (map (λ z. z.0) items))); from = map (λ c. c.chain v.seen) (map c_chain (map (λ z. z.0) from)); filter = None; group = map (with_item C (inside v (tables_of (map marking.chain (map m_chain (map (λ z. z.0) from))))).seen) group; having = (Some ((c_cond having.0).at (inside v (tables_of (map marking.chain (map m_chain (map (λ z. z.0) from))))).seen)) }))) (tt, both _ _ _ _ (each c_item m_item items (inside v (tables_of (map marking.chain (map m_chain (map (λ z. z.0) from))))) (inside w (tables_of (map marking.chain (map m_chain (map (λ c. c.chain v.seen) (map c_chain (map (λ z. z.0) from))))))) k) (both _ _ _ _ (subst (λ a. MarksLike (chains_marks v (calls_of (tables_of (map marking.chain (map m_chain (map (λ z. z.0) from))))) [] (map marking.chain (map m_chain (map (λ z. z.0) from)))) (chains_marks w a [] (map marking.chain (map m_chain (map (λ c. c.chain v.seen) (map c_chain (map (λ z. z.0) from))))))) (ap calls_of t) (chains_like from v w s (calls_of (tables_of (map marking.chain (map m_chain (map (λ z. z.0) from))))) [])) (both [] [] _ _ (none_like) (both _ _ _ _ (columns_like (inside v (tables_of (map marking.chain (map m_chain (map (λ z. z.0) from))))).seen (inside w (tables_of (map marking.chain (map m_chain (map (λ c. c.chain v.seen) (map c_chain (map (λ z. z.0) from))))))).seen k.1.1.0 group) (having.1 (inside v (tables_of (map marking.chain (map m_chain (map (λ z. z.0) from))))) (inside w (tables_of (map marking.chain (map m_chain (map (λ c. c.chain v.seen) (map c_chain (map (λ z. z.0) from))))))) k)))))
  query_good distinct items from (Some filter) group None = λ v w s. let t : tables_of (map marking.chain (map m_chain (map (λ z. z.0) from))) ≡ tables_of (map marking.chain (map m_chain (map (λ c. c.chain v.seen) (map c_chain (map (λ z. z.0) from))))) = chains_same from v w s in let k : SightLike (inside v (tables_of (map marking.chain (map m_chain (map (λ z. z.0) from))))) (inside w (tables_of (map marking.chain (map m_chain (map (λ c. c.chain v.seen) (map c_chain (map (λ z. z.0) from))))))) = subst (λ ts. SightLike (inside v (tables_of (map marking.chain (map m_chain (map (λ z. z.0) from))))) (inside w ts)) t (inside_like v w (tables_of (map marking.chain (map m_chain (map (λ z. z.0) from)))) s) in move MarksLike _ _ _ _ (ap (λ m. m.marks v) (query_roll marked mark_steps (record { distinct = distinct; items = (map (λ z. z.0) items); from = (map (λ z. z.0) from); filter = (Some filter.0); group = group; having = None }))) (ap (λ z. (m_query (z.at v.seen)).marks w) (query_roll qualifying (qualify_steps C) (record { distinct = distinct; items = (map (λ z. z.0) items); from = (map (λ z. z.0) from); filter = (Some filter.0); group = group; having = None })) ∙ (λ i. (m_query (query_in C v.seen (items_in v.seen (chains_tabs from i) ++ v.seen) (record { distinct = distinct; items = map c_item (map (λ z. z.0) items); from = map c_chain (map (λ z. z.0) from); filter = Some (c_cond filter.0); group = group; having = None }))).marks w) ∙ ap (λ m. m.marks w) (query_roll marked mark_steps (record { distinct = distinct; items = (all_at (inside v (tables_of (map marking.chain (map m_chain (map (λ z. z.0) from))))).seen (map c_item (map (λ z. z.0) items))); from = map (λ c. c.chain v.seen) (map c_chain (map (λ z. z.0) from)); filter = (Some ((c_cond filter.0).at (inside v (tables_of (map marking.chain (map m_chain (map (λ z. z.0) from))))).seen)); group = map (with_item C (inside v (tables_of (map marking.chain (map m_chain (map (λ z. z.0) from))))).seen) group; having = None }))) (tt, both _ _ _ _ (each c_item m_item items (inside v (tables_of (map marking.chain (map m_chain (map (λ z. z.0) from))))) (inside w (tables_of (map marking.chain (map m_chain (map (λ c. c.chain v.seen) (map c_chain (map (λ z. z.0) from))))))) k) (both _ _ _ _ (subst (λ a. MarksLike (chains_marks v (calls_of (tables_of (map marking.chain (map m_chain (map (λ z. z.0) from))))) [] (map marking.chain (map m_chain (map (λ z. z.0) from)))) (chains_marks w a [] (map marking.chain (map m_chain (map (λ c. c.chain v.seen) (map c_chain (map (λ z. z.0) from))))))) (ap calls_of t) (chains_like from v w s (calls_of (tables_of (map marking.chain (map m_chain (map (λ z. z.0) from))))) [])) (both _ _ _ _ (filter.1 (inside v (tables_of (map marking.chain (map m_chain (map (λ z. z.0) from))))) (inside w (tables_of (map marking.chain (map m_chain (map (λ c. c.chain v.seen) (map c_chain (map (λ z. z.0) from))))))) k) (both _ _ [] [] (columns_like (inside v (tables_of (map marking.chain (map m_chain (map (λ z. z.0) from))))).seen (inside w (tables_of (map marking.chain (map m_chain (map (λ c. c.chain v.seen) (map c_chain (map (λ z. z.0) from))))))).seen k.1.1.0 group) (none_like)))))
  query_good distinct items from (Some filter) group (Some having) = λ v w s. let t : tables_of (map marking.chain (map m_chain (map (λ z. z.0) from))) ≡ tables_of (map marking.chain (map m_chain (map (λ c. c.chain v.seen) (map c_chain (map (λ z. z.0) from))))) = chains_same from v w s in let k : SightLike (inside v (tables_of (map marking.chain (map m_chain (map (λ z. z.0) from))))) (inside w (tables_of (map marking.chain (map m_chain (map (λ c. c.chain v.seen) (map c_chain (map (λ z. z.0) from))))))) = subst (λ ts. SightLike (inside v (tables_of (map marking.chain (map m_chain (map (λ z. z.0) from))))) (inside w ts)) t (inside_like v w (tables_of (map marking.chain (map m_chain (map (λ z. z.0) from)))) s) in move MarksLike _ _ _ _ (ap (λ m. m.marks v) (query_roll marked mark_steps (record { distinct = distinct; items = (map (λ z. z.0) items); from = (map (λ z. z.0) from); filter = (Some filter.0); group = group; having = (Some having.0) }))) (ap (λ z. (m_query (z.at v.seen)).marks w) (query_roll qualifying (qualify_steps C) (record { distinct = distinct; items = (map (λ z. z.0) items); from = (map (λ z. z.0) from); filter = (Some filter.0); group = group; having = (Some having.0) })) ∙ (λ i. (m_query (query_in C v.seen (items_in v.seen (chains_tabs from i) ++ v.seen) (record { distinct = distinct; items = map c_item (map (λ z. z.0) items); from = map c_chain (map (λ z. z.0) from); filter = Some (c_cond filter.0); group = group; having = Some (c_cond having.0) }))).marks w) ∙ ap (λ m. m.marks w) (query_roll marked mark_steps (record { distinct = distinct; items = (all_at (inside v (tables_of (map marking.chain (map m_chain (map (λ z. z.0) from))))).seen (map c_item (map (λ z. z.0) items))); from = map (λ c. c.chain v.seen) (map c_chain (map (λ z. z.0) from)); filter = (Some ((c_cond filter.0).at (inside v (tables_of (map marking.chain (map m_chain (map (λ z. z.0) from))))).seen)); group = map (with_item C (inside v (tables_of (map marking.chain (map m_chain (map (λ z. z.0) from))))).seen) group; having = (Some ((c_cond having.0).at (inside v (tables_of (map marking.chain (map m_chain (map (λ z. z.0) from))))).seen)) }))) (tt, both _ _ _ _ (each c_item m_item items (inside v (tables_of (map marking.chain (map m_chain (map (λ z. z.0) from))))) (inside w (tables_of (map marking.chain (map m_chain (map (λ c. c.chain v.seen) (map c_chain (map (λ z. z.0) from))))))) k) (both _ _ _ _ (subst (λ a. MarksLike (chains_marks v (calls_of (tables_of (map marking.chain (map m_chain (map (λ z. z.0) from))))) [] (map marking.chain (map m_chain (map (λ z. z.0) from)))) (chains_marks w a [] (map marking.chain (map m_chain (map (λ c. c.chain v.seen) (map c_chain (map (λ z. z.0) from))))))) (ap calls_of t) (chains_like from v w s (calls_of (tables_of (map marking.chain (map m_chain (map (λ z. z.0) from))))) [])) (both _ _ _ _ (filter.1 (inside v (tables_of (map marking.chain (map m_chain (map (λ z. z.0) from))))) (inside w (tables_of (map marking.chain (map m_chain (map (λ c. c.chain v.seen) (map c_chain (map (λ z. z.0) from))))))) k) (both _ _ _ _ (columns_like (inside v (tables_of (map marking.chain (map m_chain (map (λ z. z.0) from))))).seen (inside w (tables_of (map marking.chain (map m_chain (map (λ c. c.chain v.seen) (map c_chain (map (λ z. z.0) from))))))).seen k.1.1.0 group) (having.1 (inside v (tables_of (map marking.chain (map m_chain (map (λ z. z.0) from))))) (inside w (tables_of (map marking.chain (map m_chain (map (λ c. c.chain v.seen) (map c_chain (map (λ z. z.0) from))))))) k)))))

  signed_good : (y : Goods layers.Signed-F) → GoodSigned (roll-Signed (down_signed y))
  signed_good y = λ v w s. move MarksLike _ _ _ _ (ap (λ m. m.marks v) (signed_roll marked mark_steps (record { minus = y.minus; part = y.part.0 }))) (ap (λ z. (m_signed (z.at v.seen)).marks w) (signed_roll qualifying (qualify_steps C) (record { minus = y.minus; part = y.part.0 })) ∙ ap (λ m. m.marks w) (signed_roll marked mark_steps (record { minus = y.minus; part = ((c_expr y.part.0).at v.seen) }))) (y.part.1 v w s)

  pub form_cond : (x : Cond) → GoodCond x
  form_cond = ind-Cond GoodCond GoodExpr GoodItem GoodJoin GoodArm GoodChain GoodChoice GoodQuery GoodSigned (λ x y is. subst (λ z. GoodCond (roll-Cond z)) is (cond_good y)) (λ x y is. subst (λ z. GoodExpr (roll-Expr z)) is (expr_good y)) (λ x y is. subst (λ z. GoodItem (roll-Item z)) is (item_good y)) (λ x y is. subst (λ z. GoodJoin (roll-Join z)) is (join_good y)) (λ x y is. subst (λ z. GoodArm (roll-Arm z)) is (arm_good y)) (λ x y is. subst (λ z. GoodChain (roll-Chain z)) is (chain_good y)) (λ x y is. subst (λ z. GoodChoice (roll-Choice z)) is (choice_good y)) (λ x y is. subst (λ z. GoodQuery (roll-Query z)) is (query_good y.distinct y.items y.from y.filter y.group y.having)) (λ x y is. subst (λ z. GoodSigned (roll-Signed z)) is (signed_good y))

  pub form_expr : (x : Expr) → GoodExpr x
  form_expr = ind-Expr GoodCond GoodExpr GoodItem GoodJoin GoodArm GoodChain GoodChoice GoodQuery GoodSigned (λ x y is. subst (λ z. GoodCond (roll-Cond z)) is (cond_good y)) (λ x y is. subst (λ z. GoodExpr (roll-Expr z)) is (expr_good y)) (λ x y is. subst (λ z. GoodItem (roll-Item z)) is (item_good y)) (λ x y is. subst (λ z. GoodJoin (roll-Join z)) is (join_good y)) (λ x y is. subst (λ z. GoodArm (roll-Arm z)) is (arm_good y)) (λ x y is. subst (λ z. GoodChain (roll-Chain z)) is (chain_good y)) (λ x y is. subst (λ z. GoodChoice (roll-Choice z)) is (choice_good y)) (λ x y is. subst (λ z. GoodQuery (roll-Query z)) is (query_good y.distinct y.items y.from y.filter y.group y.having)) (λ x y is. subst (λ z. GoodSigned (roll-Signed z)) is (signed_good y))

  pub form_chain : (x : Chain) → GoodChain x
  form_chain = ind-Chain GoodCond GoodExpr GoodItem GoodJoin GoodArm GoodChain GoodChoice GoodQuery GoodSigned (λ x y is. subst (λ z. GoodCond (roll-Cond z)) is (cond_good y)) (λ x y is. subst (λ z. GoodExpr (roll-Expr z)) is (expr_good y)) (λ x y is. subst (λ z. GoodItem (roll-Item z)) is (item_good y)) (λ x y is. subst (λ z. GoodJoin (roll-Join z)) is (join_good y)) (λ x y is. subst (λ z. GoodArm (roll-Arm z)) is (arm_good y)) (λ x y is. subst (λ z. GoodChain (roll-Chain z)) is (chain_good y)) (λ x y is. subst (λ z. GoodChoice (roll-Choice z)) is (choice_good y)) (λ x y is. subst (λ z. GoodQuery (roll-Query z)) is (query_good y.distinct y.items y.from y.filter y.group y.having)) (λ x y is. subst (λ z. GoodSigned (roll-Signed z)) is (signed_good y))

-- A tree's qualified form has at a like sight the types of the tree, where its columns' items in sight have different correlation names. tools/names-inductions writes this file.
use Rattle.std.proofs.Common.{ℕ, ◌≡◌, refl, ap, sym, subst, ◌∙◌, List, [], ◌∷◌, ◌++◌, Bool, Option, Some, None, map}
use Rattle.std.specs.List.{flat_map}
use Rattle.lb_tree.specs.declared.query.Cond.{Cond}
use Rattle.lb_tree.specs.declared.query.Expr.{Expr}
use Rattle.lb_tree.specs.declared.query.Item.{Item}
use Rattle.lb_tree.specs.declared.query.Join.{Join}
use Rattle.lb_tree.specs.declared.query.Arm.{Arm}
use Rattle.lb_tree.specs.declared.query.Chain.{Chain}
use Rattle.lb_tree.specs.declared.query.Choice.{Choice}
use Rattle.lb_tree.specs.declared.query.Query.{Query}
use Rattle.lb_tree.specs.declared.query.Signed.{Signed}
use Rattle.lb_tree.specs.declared.query.Column.{Column}
use Rattle.lb_tree.specs.declared.query.Tab.{Tab}
use Rattle.lb_tree.specs.declared.query.Cond.TheOpen as layers
use Rattle.lb_tree.specs.declared.query.Cond.TheViews.{roll-Cond, roll-Expr, roll-Item, roll-Join, roll-Arm, roll-Chain, roll-Choice, roll-Query, roll-Signed}
use Rattle.lb_tree.specs.declared.query.Cond.TheFolds.{map-Cond, map-Expr, map-Item, map-Join, map-Arm, map-Chain, map-Choice, map-Query, map-Signed, ind-Cond, ind-Expr}
use Rattle.lb_tree.specs.Folds.{Written, cond_of, expr_of, item_of, join_of, arm_of, chain_of, choice_of, query_of, signed_of}
use Rattle.lb_tree.proofs.Opens.{cond_roll, expr_roll, item_roll, join_roll, arm_roll, chain_roll, choice_roll, query_roll, signed_roll}
use Rattle.lb_names.specs.Sights.{Name, correlation, calls_of, items_in, Sight, inside, inside_on}
use Rattle.lb_names.specs.Marks.{enter, column, Marks, Marked, ChainMarks, marked, marking, mark_steps, of_each, tables_of, tables_of_chain, joins_marks, chains_marks}
use Rattle.lb_names.specs.Scopes.{Catalogue}
use Rattle.lb_names.specs.Passes.{all_own}
use Rattle.lb_names.specs.Places.{Place, on_place}
use Rattle.lb_names.specs.Typed.{◌>>=◌}
use Rattle.lb_names.specs.Carriers.{Means, Says, Shows, Joins, Arms, Chains, Choices, Answers, typing, chain_marked}
use Rattle.lb_names.specs.Expressions.{expr_step, arm_step, choice_step, signed_step}
use Rattle.lb_names.specs.Conditions.{cond_step}
use Rattle.lb_names.specs.SelectLists.{item_step, join_step, chain_step, joins_typed, chains_typed}
use Rattle.lb_names.specs.Typing.{steps, query_step}
use Rattle.lb_names.specs.Qualify.{with_item, atom_in, In, JoinIn, ChainIn, qualifying, qualify_steps, all_at, joins_in, query_in}
use Rattle.lb_names.proofs.Apart.{AllApart}
use Rattle.lb_names.proofs.Carried.{carried_expr, carried_chain}
use Rattle.lb_names.proofs.FormColumns as f
use Rattle.lb_names.proofs.FormColumns.{before, after}
use Rattle.lb_names.proofs.FormLists as l
use Rattle.lb_names.proofs.FormMarks.{form_expr, form_chain}
use Rattle.lb_names.proofs.FormQueries as query
use Rattle.lb_names.proofs.FormSteps as node
use Rattle.lb_names.proofs.LikeSights.{SightLike, inside_like, inside_on_like}
use Rattle.lb_names.proofs.Mentioned.{m_cond, m_expr, m_item, m_join, m_arm, m_chain, m_choice, m_query, m_signed}

module _ (C : Catalogue) where
  abbrev c_cond : Cond → In Cond
  c_cond = cond_of qualifying (qualify_steps C)

  abbrev t_cond : Cond → Says
  t_cond = cond_of typing (steps C)

  abbrev c_expr : Expr → In Expr
  c_expr = expr_of qualifying (qualify_steps C)

  abbrev t_expr : Expr → Means
  t_expr = expr_of typing (steps C)

  abbrev c_item : Item → In Item
  c_item = item_of qualifying (qualify_steps C)

  abbrev t_item : Item → Shows
  t_item = item_of typing (steps C)

  abbrev c_join : Join → JoinIn
  c_join = join_of qualifying (qualify_steps C)

  abbrev t_join : Join → Joins
  t_join = join_of typing (steps C)

  abbrev c_arm : Arm → In Arm
  c_arm = arm_of qualifying (qualify_steps C)

  abbrev t_arm : Arm → Arms
  t_arm = arm_of typing (steps C)

  abbrev c_chain : Chain → ChainIn
  c_chain = chain_of qualifying (qualify_steps C)

  abbrev t_chain : Chain → Chains
  t_chain = chain_of typing (steps C)

  abbrev c_choice : Choice → In Choice
  c_choice = choice_of qualifying (qualify_steps C)

  abbrev t_choice : Choice → Choices
  t_choice = choice_of typing (steps C)

  abbrev c_query : Query → In Query
  c_query = query_of qualifying (qualify_steps C)

  abbrev t_query : Query → Answers
  t_query = query_of typing (steps C)

  abbrev c_signed : Signed → In Signed
  c_signed = signed_of qualifying (qualify_steps C)

  abbrev t_signed : Signed → Means
  t_signed = signed_of typing (steps C)

  along : {A : Type 0} (R : A → A → Type 0) (a c b d : A) → a ≡ c → b ≡ d → R c d → R a b
  along R a c b d p q h = subst (λ z. R z b) (sym p) (subst (λ z. R c z) (sym q) h)

  each : {X A : Type 0} (R : Sight → Sight → A → A → Type 0) (F : X → In X) (G : X → Marked) (T : X → A) (xs : List ((x : X) × ((v w : Sight) → SightLike v w → AllApart ((G x).marks v) → R v w (T x) (T ((F x).at v.seen))))) (v w : Sight) → SightLike v w → AllApart (of_each (λ m. m.marks) (map G (map (λ z. z.0) xs)) v) → l.Alls (R v w) (map T (map (λ z. z.0) xs)) (map T (all_at v.seen (map F (map (λ z. z.0) xs))))
  each R F G T [] v w s h = tt
  each R F G T (x ∷ xs) v w s h = (x.1 v w s (before ((G x.0).marks v) (of_each (λ m. m.marks) (map G (map (λ z. z.0) xs)) v) h), each R F G T xs v w s (after ((G x.0).marks v) (of_each (λ m. m.marks) (map G (map (λ z. z.0) xs)) v) h))

  -- the tables of FROM are those of the marks, and those of the qualified form
  marks_path : (cs : List Chain) → map chain_marked (map t_chain cs) ≡ map marking.chain (map m_chain cs)
  marks_path [] = refl
  marks_path (c ∷ cs) = λ i. carried_chain C c i ∷ marks_path cs i

  tables_path : (cs : List Chain) → tables_of (map chain_marked (map t_chain cs)) ≡ tables_of (map marking.chain (map m_chain cs))
  tables_path cs = ap (λ chains. tables_of chains) (marks_path cs)

  forms_tables : (cs : List Chain) (v w : Sight) → SightLike v w → tables_of (map marking.chain (map m_chain cs)) ≡ tables_of (map marking.chain (map m_chain (map (λ c. c.chain v.seen) (map c_chain cs))))
  forms_tables [] v w s = refl
  forms_tables (c ∷ cs) v w s = λ i. ((form_chain C c).1 v w s).0 i ++ forms_tables cs v w s i

  -- an aggregate's argument names columns of its own query in both or in neither
  own_path : (e : Expr) (v w : Sight) → SightLike v w → AllApart ((m_expr e).marks v) → all_own C v.level ((t_expr e).marks v) ≡ all_own C w.level ((t_expr ((c_expr e).at v.seen)).marks w)
  own_path e v w s h = ap (all_own C v.level) (carried_expr C e v) ∙ f.own_like C v.level w.level s.0 ((m_expr e).marks v) ((m_expr ((c_expr e).at v.seen)).marks w) (form_expr C e v w s) h ∙ sym (ap (all_own C w.level) (carried_expr C ((c_expr e).at v.seen) w))

  abbrev GoodCond : Cond → Type 0
  GoodCond x = (v w : Sight) → SightLike v w → AllApart ((m_cond x).marks v) → l.SameSays v w (t_cond x) (t_cond ((c_cond x).at v.seen))

  abbrev WithCond : Type 0
  WithCond = (x : Cond) × GoodCond x

  abbrev GoodExpr : Expr → Type 0
  GoodExpr x = (v w : Sight) → SightLike v w → AllApart ((m_expr x).marks v) → l.SameMeans v w (t_expr x) (t_expr ((c_expr x).at v.seen))

  abbrev WithExpr : Type 0
  WithExpr = (x : Expr) × GoodExpr x

  abbrev GoodItem : Item → Type 0
  GoodItem x = (v w : Sight) → SightLike v w → AllApart ((m_item x).marks v) → l.SameShows v w (t_item x) (t_item ((c_item x).at v.seen))

  abbrev WithItem : Type 0
  WithItem = (x : Item) × GoodItem x

  abbrev GoodJoin : Join → Type 0
  GoodJoin x = ((c_join x).tab ≡ (m_join x).tab) × (((t_join x).marked.tab ≡ (m_join x).tab) × ((v w : Sight) → SightLike v w → AllApart ((m_join x).on v) → l.SameJoins v w (t_join x) (t_join ((c_join x).join v.seen))))

  abbrev WithJoin : Type 0
  WithJoin = (x : Join) × GoodJoin x

  abbrev GoodArm : Arm → Type 0
  GoodArm x = (v w : Sight) → SightLike v w → AllApart ((m_arm x).marks v) → l.SameArms v w (t_arm x) (t_arm ((c_arm x).at v.seen))

  abbrev WithArm : Type 0
  WithArm = (x : Arm) × GoodArm x

  abbrev GoodChain : Chain → Type 0
  GoodChain x = ((c_chain x).tabs ≡ tables_of_chain (m_chain x)) × ((v w : Sight) → SightLike v w → (all before : List Name) → AllApart (joins_marks v all before ((m_chain x).first ∷ []) (m_chain x).joins) → l.SameChain v w all (t_chain x) (t_chain ((c_chain x).chain v.seen)))

  abbrev WithChain : Type 0
  WithChain = (x : Chain) × GoodChain x

  abbrev GoodChoice : Choice → Type 0
  GoodChoice x = (v w : Sight) → SightLike v w → AllApart ((m_choice x).marks v) → l.SameChoices v w (t_choice x) (t_choice ((c_choice x).at v.seen))

  abbrev WithChoice : Type 0
  WithChoice = (x : Choice) × GoodChoice x

  abbrev GoodQuery : Query → Type 0
  GoodQuery x = (v w : Sight) → SightLike v w → AllApart ((m_query x).marks v) → l.SameAnswers v w (t_query x) (t_query ((c_query x).at v.seen))

  abbrev WithQuery : Type 0
  WithQuery = (x : Query) × GoodQuery x

  abbrev GoodSigned : Signed → Type 0
  GoodSigned x = (v w : Sight) → SightLike v w → AllApart ((m_signed x).marks v) → l.SameMeans v w (t_signed x) (t_signed ((c_signed x).at v.seen))

  abbrev WithSigned : Type 0
  WithSigned = (x : Signed) × GoodSigned x

  -- a layer whose parts have their facts
  abbrev Goods : (Type 0 → Type 0 → Type 0 → Type 0 → Type 0 → Type 0 → Type 0 → Type 0 → Type 0 → Type 0) → Type 0
  Goods F = F WithCond WithExpr WithItem WithJoin WithArm WithChain WithChoice WithQuery WithSigned

  abbrev down_cond : Goods layers.Cond-F → Written layers.Cond-F
  down_cond = map-Cond WithCond WithExpr WithItem WithJoin WithArm WithChain WithChoice WithQuery WithSigned Cond Expr Item Join Arm Chain Choice Query Signed (λ z. z.0) (λ z. z.0) (λ z. z.0) (λ z. z.0) (λ z. z.0) (λ z. z.0) (λ z. z.0) (λ z. z.0) (λ z. z.0)

  abbrev down_expr : Goods layers.Expr-F → Written layers.Expr-F
  down_expr = map-Expr WithCond WithExpr WithItem WithJoin WithArm WithChain WithChoice WithQuery WithSigned Cond Expr Item Join Arm Chain Choice Query Signed (λ z. z.0) (λ z. z.0) (λ z. z.0) (λ z. z.0) (λ z. z.0) (λ z. z.0) (λ z. z.0) (λ z. z.0) (λ z. z.0)

  abbrev down_item : Goods layers.Item-F → Written layers.Item-F
  down_item = map-Item WithCond WithExpr WithItem WithJoin WithArm WithChain WithChoice WithQuery WithSigned Cond Expr Item Join Arm Chain Choice Query Signed (λ z. z.0) (λ z. z.0) (λ z. z.0) (λ z. z.0) (λ z. z.0) (λ z. z.0) (λ z. z.0) (λ z. z.0) (λ z. z.0)

  abbrev down_join : Goods layers.Join-F → Written layers.Join-F
  down_join = map-Join WithCond WithExpr WithItem WithJoin WithArm WithChain WithChoice WithQuery WithSigned Cond Expr Item Join Arm Chain Choice Query Signed (λ z. z.0) (λ z. z.0) (λ z. z.0) (λ z. z.0) (λ z. z.0) (λ z. z.0) (λ z. z.0) (λ z. z.0) (λ z. z.0)

  abbrev down_arm : Goods layers.Arm-F → Written layers.Arm-F
  down_arm = map-Arm WithCond WithExpr WithItem WithJoin WithArm WithChain WithChoice WithQuery WithSigned Cond Expr Item Join Arm Chain Choice Query Signed (λ z. z.0) (λ z. z.0) (λ z. z.0) (λ z. z.0) (λ z. z.0) (λ z. z.0) (λ z. z.0) (λ z. z.0) (λ z. z.0)

  abbrev down_chain : Goods layers.Chain-F → Written layers.Chain-F
  down_chain = map-Chain WithCond WithExpr WithItem WithJoin WithArm WithChain WithChoice WithQuery WithSigned Cond Expr Item Join Arm Chain Choice Query Signed (λ z. z.0) (λ z. z.0) (λ z. z.0) (λ z. z.0) (λ z. z.0) (λ z. z.0) (λ z. z.0) (λ z. z.0) (λ z. z.0)

  abbrev down_choice : Goods layers.Choice-F → Written layers.Choice-F
  down_choice = map-Choice WithCond WithExpr WithItem WithJoin WithArm WithChain WithChoice WithQuery WithSigned Cond Expr Item Join Arm Chain Choice Query Signed (λ z. z.0) (λ z. z.0) (λ z. z.0) (λ z. z.0) (λ z. z.0) (λ z. z.0) (λ z. z.0) (λ z. z.0) (λ z. z.0)

  abbrev down_query : Goods layers.Query-F → Written layers.Query-F
  down_query = map-Query WithCond WithExpr WithItem WithJoin WithArm WithChain WithChoice WithQuery WithSigned Cond Expr Item Join Arm Chain Choice Query Signed (λ z. z.0) (λ z. z.0) (λ z. z.0) (λ z. z.0) (λ z. z.0) (λ z. z.0) (λ z. z.0) (λ z. z.0) (λ z. z.0)

  abbrev down_signed : Goods layers.Signed-F → Written layers.Signed-F
  down_signed = map-Signed WithCond WithExpr WithItem WithJoin WithArm WithChain WithChoice WithQuery WithSigned Cond Expr Item Join Arm Chain Choice Query Signed (λ z. z.0) (λ z. z.0) (λ z. z.0) (λ z. z.0) (λ z. z.0) (λ z. z.0) (λ z. z.0) (λ z. z.0) (λ z. z.0)

  joins_tabs : (js : List WithJoin) → map (λ j. j.tab) (map c_join (map (λ z. z.0) js)) ≡ map (λ j. j.tab) (map marking.join (map m_join (map (λ z. z.0) js)))
  joins_tabs [] = refl
  joins_tabs (j ∷ js) = λ i. j.1.0 i ∷ joins_tabs js i

  joins_same : (js : List WithJoin) (v w : Sight) → SightLike v w → (all before_ : List Name) (tabs : List Tab) → AllApart (joins_marks v all before_ tabs (map marking.join (map m_join (map (λ z. z.0) js)))) → (P : Place) (n : ℕ) → joins_typed (l.at_sight P v) all tabs (map t_join (map (λ z. z.0) js)) n ≡ joins_typed (l.at_sight P w) all tabs (map t_join (joins_in tabs (map c_join (map (λ z. z.0) js)) v.seen)) n
  joins_same [] v w s all before_ tabs h P n = refl
  joins_same (j ∷ js) v w s all before_ tabs h P n =
      let tab : Tab = (m_join j.0).tab in
      let more : List Tab = tabs ++ tab ∷ [] in
      let on : Marks = (m_join j.0).on (inside_on v all more) in
      let rest : Marks = joins_marks v all (before_ ++ correlation tab ∷ []) more (map marking.join (map m_join (map (λ z. z.0) js))) in
      let form : Join = (c_join j.0).join (items_in v.seen more ++ v.seen) in
      let same : l.SameJoins (inside_on v all more) (inside_on w all more) (t_join j.0) (t_join form) = j.1.1.1 (inside_on v all more) (inside_on w all more) (inside_on_like v w all more s) (before on rest h.1) in
      let e : tab ≡ (t_join form).marked.tab = sym j.1.1.0 ∙ same.0 in
      (λ i. (t_join j.0).typed (on_place (l.at_sight P v) all (tabs ++ j.1.1.0 i ∷ [])) n >>= λ x. joins_typed (l.at_sight P v) all (tabs ++ j.1.1.0 i ∷ []) (map t_join (map (λ z. z.0) js)) x.1)
      ∙ (λ i. same.1 (on_place P all more) n i >>= λ x. joins_same js v w s all (before_ ++ correlation tab ∷ []) more (after on rest h.1) P x.1 i)
      ∙ (λ i. (t_join form).typed (on_place (l.at_sight P w) all (tabs ++ e i ∷ [])) n >>= λ x. joins_typed (l.at_sight P w) all (tabs ++ e i ∷ []) (map t_join (joins_in more (map c_join (map (λ z. z.0) js)) v.seen)) x.1)
      ∙ (λ i. joins_typed (l.at_sight P w) all tabs (t_join ((c_join j.0).join (items_in v.seen (tabs ++ sym j.1.0 i ∷ []) ++ v.seen)) ∷ map t_join (joins_in (tabs ++ sym j.1.0 i ∷ []) (map c_join (map (λ z. z.0) js)) v.seen)) n)

  chains_tabs : (cs : List WithChain) → flat_map (λ c. c.tabs) (map c_chain (map (λ z. z.0) cs)) ≡ tables_of (map marking.chain (map m_chain (map (λ z. z.0) cs)))
  chains_tabs [] = refl
  chains_tabs (c ∷ cs) = λ i. c.1.0 i ++ chains_tabs cs i

  chains_typed_same : (cs : List WithChain) (v w : Sight) → SightLike v w → (all before_ : List Name) → AllApart (chains_marks v all before_ (map marking.chain (map m_chain (map (λ z. z.0) cs)))) → (P : Place) (n : ℕ) → chains_typed (l.at_sight P v) all (map t_chain (map (λ z. z.0) cs)) n ≡ chains_typed (l.at_sight P w) all (map t_chain (map (λ c. c.chain v.seen) (map c_chain (map (λ z. z.0) cs)))) n
  chains_typed_same [] v w s all before_ h P n = refl
  chains_typed_same (c ∷ cs) v w s all before_ h P n =
      let ch : ChainMarks = m_chain c.0 in
      let joins : Marks = joins_marks v all (before_ ++ correlation ch.first ∷ []) (ch.first ∷ []) ch.joins in
      let rest : Marks = chains_marks v all (before_ ++ calls_of (tables_of_chain ch)) (map marking.chain (map m_chain (map (λ z. z.0) cs))) in
      λ i. c.1.1 v w s all (before_ ++ correlation ch.first ∷ []) (before joins rest h.1) P n i >>= λ x. chains_typed_same cs v w s all (before_ ++ calls_of (tables_of_chain ch)) (after joins rest h.1) P x.1 i

  cond_good : (y : Goods layers.Cond-F) → GoodCond (roll-Cond (down_cond y))
  cond_good (layers.Cond-F.Or a) = λ v w s h. let k : AllApart (of_each marking.cond (map m_cond (map (λ z. z.0) a)) v) = subst AllApart (ap (λ m. m.marks v) (cond_roll marked mark_steps (layers.Cond-F.Or (map (λ z. z.0) a)))) h in along (l.SameSays v w) _ (cond_step (layers.Cond-F.Or (map t_cond (map (λ z. z.0) a)))) _ (cond_step (layers.Cond-F.Or (map t_cond (all_at v.seen (map c_cond (map (λ z. z.0) a)))))) (cond_roll typing (steps C) (layers.Cond-F.Or (map (λ z. z.0) a))) (ap (λ z. t_cond (z.at v.seen)) (cond_roll qualifying (qualify_steps C) (layers.Cond-F.Or (map (λ z. z.0) a))) ∙ cond_roll typing (steps C) (layers.Cond-F.Or (all_at v.seen (map c_cond (map (λ z. z.0) a))))) (node.cond_or C v w s (map t_cond (map (λ z. z.0) a)) (map t_cond (all_at v.seen (map c_cond (map (λ z. z.0) a)))) (each (λ v w. l.SameSays v w) c_cond m_cond t_cond a v w s k))
  cond_good (layers.Cond-F.And a) = λ v w s h. let k : AllApart (of_each marking.cond (map m_cond (map (λ z. z.0) a)) v) = subst AllApart (ap (λ m. m.marks v) (cond_roll marked mark_steps (layers.Cond-F.And (map (λ z. z.0) a)))) h in along (l.SameSays v w) _ (cond_step (layers.Cond-F.And (map t_cond (map (λ z. z.0) a)))) _ (cond_step (layers.Cond-F.And (map t_cond (all_at v.seen (map c_cond (map (λ z. z.0) a)))))) (cond_roll typing (steps C) (layers.Cond-F.And (map (λ z. z.0) a))) (ap (λ z. t_cond (z.at v.seen)) (cond_roll qualifying (qualify_steps C) (layers.Cond-F.And (map (λ z. z.0) a))) ∙ cond_roll typing (steps C) (layers.Cond-F.And (all_at v.seen (map c_cond (map (λ z. z.0) a))))) (node.cond_and C v w s (map t_cond (map (λ z. z.0) a)) (map t_cond (all_at v.seen (map c_cond (map (λ z. z.0) a)))) (each (λ v w. l.SameSays v w) c_cond m_cond t_cond a v w s k))
  cond_good (layers.Cond-F.Not a) = λ v w s h. let k : AllApart ((m_cond a.0).marks v) = subst AllApart (ap (λ m. m.marks v) (cond_roll marked mark_steps (layers.Cond-F.Not a.0))) h in along (l.SameSays v w) _ (cond_step (layers.Cond-F.Not (t_cond a.0))) _ (cond_step (layers.Cond-F.Not (t_cond ((c_cond a.0).at v.seen)))) (cond_roll typing (steps C) (layers.Cond-F.Not a.0)) (ap (λ z. t_cond (z.at v.seen)) (cond_roll qualifying (qualify_steps C) (layers.Cond-F.Not a.0)) ∙ cond_roll typing (steps C) (layers.Cond-F.Not ((c_cond a.0).at v.seen))) (node.cond_not C v w s (t_cond a.0) (t_cond ((c_cond a.0).at v.seen)) (a.1 v w s k))
  cond_good (layers.Cond-F.Exists a) = λ v w s h. let k : AllApart ((m_query a.0).marks v) = subst AllApart (ap (λ m. m.marks v) (cond_roll marked mark_steps (layers.Cond-F.Exists a.0))) h in along (l.SameSays v w) _ (cond_step (layers.Cond-F.Exists (t_query a.0))) _ (cond_step (layers.Cond-F.Exists (t_query ((c_query a.0).at v.seen)))) (cond_roll typing (steps C) (layers.Cond-F.Exists a.0)) (ap (λ z. t_cond (z.at v.seen)) (cond_roll qualifying (qualify_steps C) (layers.Cond-F.Exists a.0)) ∙ cond_roll typing (steps C) (layers.Cond-F.Exists ((c_query a.0).at v.seen))) (node.cond_exists C v w s (t_query a.0) (t_query ((c_query a.0).at v.seen)) (a.1 v w s k))
  cond_good (layers.Cond-F.Compare a b c) = λ v w s h. let k : AllApart ((m_expr b.0).marks v ++ ((m_expr c.0).marks v)) = subst AllApart (ap (λ m. m.marks v) (cond_roll marked mark_steps (layers.Cond-F.Compare a b.0 c.0))) h in along (l.SameSays v w) _ (cond_step (layers.Cond-F.Compare a (t_expr b.0) (t_expr c.0))) _ (cond_step (layers.Cond-F.Compare a (t_expr ((c_expr b.0).at v.seen)) (t_expr ((c_expr c.0).at v.seen)))) (cond_roll typing (steps C) (layers.Cond-F.Compare a b.0 c.0)) (ap (λ z. t_cond (z.at v.seen)) (cond_roll qualifying (qualify_steps C) (layers.Cond-F.Compare a b.0 c.0)) ∙ cond_roll typing (steps C) (layers.Cond-F.Compare a ((c_expr b.0).at v.seen) ((c_expr c.0).at v.seen))) (node.cond_compare C v w s a (t_expr b.0) (t_expr ((c_expr b.0).at v.seen)) (b.1 v w s (before ((m_expr b.0).marks v) ((m_expr c.0).marks v) k)) (t_expr c.0) (t_expr ((c_expr c.0).at v.seen)) (c.1 v w s (after ((m_expr b.0).marks v) ((m_expr c.0).marks v) k)))
  cond_good (layers.Cond-F.CompareQuery a b c) = λ v w s h. let k : AllApart ((m_expr b.0).marks v ++ ((m_query c.0).marks v)) = subst AllApart (ap (λ m. m.marks v) (cond_roll marked mark_steps (layers.Cond-F.CompareQuery a b.0 c.0))) h in along (l.SameSays v w) _ (cond_step (layers.Cond-F.CompareQuery a (t_expr b.0) (t_query c.0))) _ (cond_step (layers.Cond-F.CompareQuery a (t_expr ((c_expr b.0).at v.seen)) (t_query ((c_query c.0).at v.seen)))) (cond_roll typing (steps C) (layers.Cond-F.CompareQuery a b.0 c.0)) (ap (λ z. t_cond (z.at v.seen)) (cond_roll qualifying (qualify_steps C) (layers.Cond-F.CompareQuery a b.0 c.0)) ∙ cond_roll typing (steps C) (layers.Cond-F.CompareQuery a ((c_expr b.0).at v.seen) ((c_query c.0).at v.seen))) (node.cond_comparequery C v w s a (t_expr b.0) (t_expr ((c_expr b.0).at v.seen)) (b.1 v w s (before ((m_expr b.0).marks v) ((m_query c.0).marks v) k)) (t_query c.0) (t_query ((c_query c.0).at v.seen)) (c.1 v w s (after ((m_expr b.0).marks v) ((m_query c.0).marks v) k)))
  cond_good (layers.Cond-F.IsNull a) = λ v w s h. let k : AllApart ((m_expr a.0).marks v) = subst AllApart (ap (λ m. m.marks v) (cond_roll marked mark_steps (layers.Cond-F.IsNull a.0))) h in along (l.SameSays v w) _ (cond_step (layers.Cond-F.IsNull (t_expr a.0))) _ (cond_step (layers.Cond-F.IsNull (t_expr ((c_expr a.0).at v.seen)))) (cond_roll typing (steps C) (layers.Cond-F.IsNull a.0)) (ap (λ z. t_cond (z.at v.seen)) (cond_roll qualifying (qualify_steps C) (layers.Cond-F.IsNull a.0)) ∙ cond_roll typing (steps C) (layers.Cond-F.IsNull ((c_expr a.0).at v.seen))) (node.cond_isnull C v w s (t_expr a.0) (t_expr ((c_expr a.0).at v.seen)) (a.1 v w s k))
  cond_good (layers.Cond-F.InQuery a b) = λ v w s h. let k : AllApart ((m_expr a.0).marks v ++ ((m_query b.0).marks v)) = subst AllApart (ap (λ m. m.marks v) (cond_roll marked mark_steps (layers.Cond-F.InQuery a.0 b.0))) h in along (l.SameSays v w) _ (cond_step (layers.Cond-F.InQuery (t_expr a.0) (t_query b.0))) _ (cond_step (layers.Cond-F.InQuery (t_expr ((c_expr a.0).at v.seen)) (t_query ((c_query b.0).at v.seen)))) (cond_roll typing (steps C) (layers.Cond-F.InQuery a.0 b.0)) (ap (λ z. t_cond (z.at v.seen)) (cond_roll qualifying (qualify_steps C) (layers.Cond-F.InQuery a.0 b.0)) ∙ cond_roll typing (steps C) (layers.Cond-F.InQuery ((c_expr a.0).at v.seen) ((c_query b.0).at v.seen))) (node.cond_inquery C v w s (t_expr a.0) (t_expr ((c_expr a.0).at v.seen)) (a.1 v w s (before ((m_expr a.0).marks v) ((m_query b.0).marks v) k)) (t_query b.0) (t_query ((c_query b.0).at v.seen)) (b.1 v w s (after ((m_expr a.0).marks v) ((m_query b.0).marks v) k)))
  cond_good (layers.Cond-F.InList a b) = λ v w s h. let k : AllApart ((m_expr a.0).marks v ++ (of_each marking.expr (map m_expr (map (λ z. z.0) b)) v)) = subst AllApart (ap (λ m. m.marks v) (cond_roll marked mark_steps (layers.Cond-F.InList a.0 (map (λ z. z.0) b)))) h in along (l.SameSays v w) _ (cond_step (layers.Cond-F.InList (t_expr a.0) (map t_expr (map (λ z. z.0) b)))) _ (cond_step (layers.Cond-F.InList (t_expr ((c_expr a.0).at v.seen)) (map t_expr (all_at v.seen (map c_expr (map (λ z. z.0) b)))))) (cond_roll typing (steps C) (layers.Cond-F.InList a.0 (map (λ z. z.0) b))) (ap (λ z. t_cond (z.at v.seen)) (cond_roll qualifying (qualify_steps C) (layers.Cond-F.InList a.0 (map (λ z. z.0) b))) ∙ cond_roll typing (steps C) (layers.Cond-F.InList ((c_expr a.0).at v.seen) (all_at v.seen (map c_expr (map (λ z. z.0) b))))) (node.cond_inlist C v w s (t_expr a.0) (t_expr ((c_expr a.0).at v.seen)) (a.1 v w s (before ((m_expr a.0).marks v) (of_each marking.expr (map m_expr (map (λ z. z.0) b)) v) k)) (map t_expr (map (λ z. z.0) b)) (map t_expr (all_at v.seen (map c_expr (map (λ z. z.0) b)))) (each (λ v w. l.SameMeans v w) c_expr m_expr t_expr b v w s (after ((m_expr a.0).marks v) (of_each marking.expr (map m_expr (map (λ z. z.0) b)) v) k)))
  cond_good (layers.Cond-F.Between a b c) = λ v w s h. let k : AllApart ((m_expr a.0).marks v ++ ((m_expr b.0).marks v ++ ((m_expr c.0).marks v))) = subst AllApart (ap (λ m. m.marks v) (cond_roll marked mark_steps (layers.Cond-F.Between a.0 b.0 c.0))) h in along (l.SameSays v w) _ (cond_step (layers.Cond-F.Between (t_expr a.0) (t_expr b.0) (t_expr c.0))) _ (cond_step (layers.Cond-F.Between (t_expr ((c_expr a.0).at v.seen)) (t_expr ((c_expr b.0).at v.seen)) (t_expr ((c_expr c.0).at v.seen)))) (cond_roll typing (steps C) (layers.Cond-F.Between a.0 b.0 c.0)) (ap (λ z. t_cond (z.at v.seen)) (cond_roll qualifying (qualify_steps C) (layers.Cond-F.Between a.0 b.0 c.0)) ∙ cond_roll typing (steps C) (layers.Cond-F.Between ((c_expr a.0).at v.seen) ((c_expr b.0).at v.seen) ((c_expr c.0).at v.seen))) (node.cond_between C v w s (t_expr a.0) (t_expr ((c_expr a.0).at v.seen)) (a.1 v w s (before ((m_expr a.0).marks v) ((m_expr b.0).marks v ++ ((m_expr c.0).marks v)) k)) (t_expr b.0) (t_expr ((c_expr b.0).at v.seen)) (b.1 v w s (before ((m_expr b.0).marks v) ((m_expr c.0).marks v) (after ((m_expr a.0).marks v) ((m_expr b.0).marks v ++ ((m_expr c.0).marks v)) k))) (t_expr c.0) (t_expr ((c_expr c.0).at v.seen)) (c.1 v w s (after ((m_expr b.0).marks v) ((m_expr c.0).marks v) (after ((m_expr a.0).marks v) ((m_expr b.0).marks v ++ ((m_expr c.0).marks v)) k))))

  expr_good : (y : Goods layers.Expr-F) → GoodExpr (roll-Expr (down_expr y))
  expr_good (layers.Expr-F.Atom a) = λ v w s h. along (l.SameMeans v w) _ (expr_step C (layers.Expr-F.Atom a)) _ (expr_step C (layers.Expr-F.Atom (atom_in C v.seen a))) (expr_roll typing (steps C) (layers.Expr-F.Atom a)) (ap (λ z. t_expr (z.at v.seen)) (expr_roll qualifying (qualify_steps C) (layers.Expr-F.Atom a)) ∙ expr_roll typing (steps C) (layers.Expr-F.Atom (atom_in C v.seen a))) (node.expr_atom C v w s a (subst AllApart (ap (λ m. m.marks v) (expr_roll marked mark_steps (layers.Expr-F.Atom a))) h))
  expr_good (layers.Expr-F.Sum a) = λ v w s h. let k : AllApart (of_each marking.signed (map m_signed (map (λ z. z.0) a)) v) = subst AllApart (ap (λ m. m.marks v) (expr_roll marked mark_steps (layers.Expr-F.Sum (map (λ z. z.0) a)))) h in along (l.SameMeans v w) _ (expr_step C (layers.Expr-F.Sum (map t_signed (map (λ z. z.0) a)))) _ (expr_step C (layers.Expr-F.Sum (map t_signed (all_at v.seen (map c_signed (map (λ z. z.0) a)))))) (expr_roll typing (steps C) (layers.Expr-F.Sum (map (λ z. z.0) a))) (ap (λ z. t_expr (z.at v.seen)) (expr_roll qualifying (qualify_steps C) (layers.Expr-F.Sum (map (λ z. z.0) a))) ∙ expr_roll typing (steps C) (layers.Expr-F.Sum (all_at v.seen (map c_signed (map (λ z. z.0) a))))) (node.expr_sum C v w s (map t_signed (map (λ z. z.0) a)) (map t_signed (all_at v.seen (map c_signed (map (λ z. z.0) a)))) (each (λ v w. l.SameMeans v w) c_signed m_signed t_signed a v w s k))
  expr_good (layers.Expr-F.Concat a) = λ v w s h. let k : AllApart (of_each marking.expr (map m_expr (map (λ z. z.0) a)) v) = subst AllApart (ap (λ m. m.marks v) (expr_roll marked mark_steps (layers.Expr-F.Concat (map (λ z. z.0) a)))) h in along (l.SameMeans v w) _ (expr_step C (layers.Expr-F.Concat (map t_expr (map (λ z. z.0) a)))) _ (expr_step C (layers.Expr-F.Concat (map t_expr (all_at v.seen (map c_expr (map (λ z. z.0) a)))))) (expr_roll typing (steps C) (layers.Expr-F.Concat (map (λ z. z.0) a))) (ap (λ z. t_expr (z.at v.seen)) (expr_roll qualifying (qualify_steps C) (layers.Expr-F.Concat (map (λ z. z.0) a))) ∙ expr_roll typing (steps C) (layers.Expr-F.Concat (all_at v.seen (map c_expr (map (λ z. z.0) a))))) (node.expr_concat C v w s (map t_expr (map (λ z. z.0) a)) (map t_expr (all_at v.seen (map c_expr (map (λ z. z.0) a)))) (each (λ v w. l.SameMeans v w) c_expr m_expr t_expr a v w s k))
  expr_good (layers.Expr-F.Product a) = λ v w s h. let k : AllApart (of_each marking.expr (map m_expr (map (λ z. z.0) a)) v) = subst AllApart (ap (λ m. m.marks v) (expr_roll marked mark_steps (layers.Expr-F.Product (map (λ z. z.0) a)))) h in along (l.SameMeans v w) _ (expr_step C (layers.Expr-F.Product (map t_expr (map (λ z. z.0) a)))) _ (expr_step C (layers.Expr-F.Product (map t_expr (all_at v.seen (map c_expr (map (λ z. z.0) a)))))) (expr_roll typing (steps C) (layers.Expr-F.Product (map (λ z. z.0) a))) (ap (λ z. t_expr (z.at v.seen)) (expr_roll qualifying (qualify_steps C) (layers.Expr-F.Product (map (λ z. z.0) a))) ∙ expr_roll typing (steps C) (layers.Expr-F.Product (all_at v.seen (map c_expr (map (λ z. z.0) a))))) (node.expr_product C v w s (map t_expr (map (λ z. z.0) a)) (map t_expr (all_at v.seen (map c_expr (map (λ z. z.0) a)))) (each (λ v w. l.SameMeans v w) c_expr m_expr t_expr a v w s k))
  expr_good (layers.Expr-F.Case a None) = λ v w s h. let k : AllApart (of_each marking.arm (map m_arm (map (λ z. z.0) a)) v ++ ([])) = subst AllApart (ap (λ m. m.marks v) (expr_roll marked mark_steps (layers.Expr-F.Case (map (λ z. z.0) a) None))) h in along (l.SameMeans v w) _ (expr_step C (layers.Expr-F.Case (map t_arm (map (λ z. z.0) a)) None)) _ (expr_step C (layers.Expr-F.Case (map t_arm (all_at v.seen (map c_arm (map (λ z. z.0) a)))) None)) (expr_roll typing (steps C) (layers.Expr-F.Case (map (λ z. z.0) a) None)) (ap (λ z. t_expr (z.at v.seen)) (expr_roll qualifying (qualify_steps C) (layers.Expr-F.Case (map (λ z. z.0) a) None)) ∙ expr_roll typing (steps C) (layers.Expr-F.Case (all_at v.seen (map c_arm (map (λ z. z.0) a))) None)) (node.expr_case C v w s (map t_arm (map (λ z. z.0) a)) (map t_arm (all_at v.seen (map c_arm (map (λ z. z.0) a)))) (each (λ v w. l.SameArms v w) c_arm m_arm t_arm a v w s (before (of_each marking.arm (map m_arm (map (λ z. z.0) a)) v) ([]) k)) None None tt)
  expr_good (layers.Expr-F.Case a (Some b)) = λ v w s h. let k : AllApart (of_each marking.arm (map m_arm (map (λ z. z.0) a)) v ++ ((m_expr b.0).marks v)) = subst AllApart (ap (λ m. m.marks v) (expr_roll marked mark_steps (layers.Expr-F.Case (map (λ z. z.0) a) (Some b.0)))) h in along (l.SameMeans v w) _ (expr_step C (layers.Expr-F.Case (map t_arm (map (λ z. z.0) a)) (Some (t_expr b.0)))) _ (expr_step C (layers.Expr-F.Case (map t_arm (all_at v.seen (map c_arm (map (λ z. z.0) a)))) (Some (t_expr ((c_expr b.0).at v.seen))))) (expr_roll typing (steps C) (layers.Expr-F.Case (map (λ z. z.0) a) (Some b.0))) (ap (λ z. t_expr (z.at v.seen)) (expr_roll qualifying (qualify_steps C) (layers.Expr-F.Case (map (λ z. z.0) a) (Some b.0))) ∙ expr_roll typing (steps C) (layers.Expr-F.Case (all_at v.seen (map c_arm (map (λ z. z.0) a))) (Some ((c_expr b.0).at v.seen)))) (node.expr_case C v w s (map t_arm (map (λ z. z.0) a)) (map t_arm (all_at v.seen (map c_arm (map (λ z. z.0) a)))) (each (λ v w. l.SameArms v w) c_arm m_arm t_arm a v w s (before (of_each marking.arm (map m_arm (map (λ z. z.0) a)) v) ((m_expr b.0).marks v) k)) (Some (t_expr b.0)) (Some (t_expr ((c_expr b.0).at v.seen))) (b.1 v w s (after (of_each marking.arm (map m_arm (map (λ z. z.0) a)) v) ((m_expr b.0).marks v) k)))
  expr_good (layers.Expr-F.Match a b None) = λ v w s h. let k : AllApart ((m_expr a.0).marks v ++ (of_each marking.choice (map m_choice (map (λ z. z.0) b)) v ++ ([]))) = subst AllApart (ap (λ m. m.marks v) (expr_roll marked mark_steps (layers.Expr-F.Match a.0 (map (λ z. z.0) b) None))) h in along (l.SameMeans v w) _ (expr_step C (layers.Expr-F.Match (t_expr a.0) (map t_choice (map (λ z. z.0) b)) None)) _ (expr_step C (layers.Expr-F.Match (t_expr ((c_expr a.0).at v.seen)) (map t_choice (all_at v.seen (map c_choice (map (λ z. z.0) b)))) None)) (expr_roll typing (steps C) (layers.Expr-F.Match a.0 (map (λ z. z.0) b) None)) (ap (λ z. t_expr (z.at v.seen)) (expr_roll qualifying (qualify_steps C) (layers.Expr-F.Match a.0 (map (λ z. z.0) b) None)) ∙ expr_roll typing (steps C) (layers.Expr-F.Match ((c_expr a.0).at v.seen) (all_at v.seen (map c_choice (map (λ z. z.0) b))) None)) (node.expr_match C v w s (t_expr a.0) (t_expr ((c_expr a.0).at v.seen)) (a.1 v w s (before ((m_expr a.0).marks v) (of_each marking.choice (map m_choice (map (λ z. z.0) b)) v ++ ([])) k)) (map t_choice (map (λ z. z.0) b)) (map t_choice (all_at v.seen (map c_choice (map (λ z. z.0) b)))) (each (λ v w. l.SameChoices v w) c_choice m_choice t_choice b v w s (before (of_each marking.choice (map m_choice (map (λ z. z.0) b)) v) ([]) (after ((m_expr a.0).marks v) (of_each marking.choice (map m_choice (map (λ z. z.0) b)) v ++ ([])) k))) None None tt)
  expr_good (layers.Expr-F.Match a b (Some c)) = λ v w s h. let k : AllApart ((m_expr a.0).marks v ++ (of_each marking.choice (map m_choice (map (λ z. z.0) b)) v ++ ((m_expr c.0).marks v))) = subst AllApart (ap (λ m. m.marks v) (expr_roll marked mark_steps (layers.Expr-F.Match a.0 (map (λ z. z.0) b) (Some c.0)))) h in along (l.SameMeans v w) _ (expr_step C (layers.Expr-F.Match (t_expr a.0) (map t_choice (map (λ z. z.0) b)) (Some (t_expr c.0)))) _ (expr_step C (layers.Expr-F.Match (t_expr ((c_expr a.0).at v.seen)) (map t_choice (all_at v.seen (map c_choice (map (λ z. z.0) b)))) (Some (t_expr ((c_expr c.0).at v.seen))))) (expr_roll typing (steps C) (layers.Expr-F.Match a.0 (map (λ z. z.0) b) (Some c.0))) (ap (λ z. t_expr (z.at v.seen)) (expr_roll qualifying (qualify_steps C) (layers.Expr-F.Match a.0 (map (λ z. z.0) b) (Some c.0))) ∙ expr_roll typing (steps C) (layers.Expr-F.Match ((c_expr a.0).at v.seen) (all_at v.seen (map c_choice (map (λ z. z.0) b))) (Some ((c_expr c.0).at v.seen)))) (node.expr_match C v w s (t_expr a.0) (t_expr ((c_expr a.0).at v.seen)) (a.1 v w s (before ((m_expr a.0).marks v) (of_each marking.choice (map m_choice (map (λ z. z.0) b)) v ++ ((m_expr c.0).marks v)) k)) (map t_choice (map (λ z. z.0) b)) (map t_choice (all_at v.seen (map c_choice (map (λ z. z.0) b)))) (each (λ v w. l.SameChoices v w) c_choice m_choice t_choice b v w s (before (of_each marking.choice (map m_choice (map (λ z. z.0) b)) v) ((m_expr c.0).marks v) (after ((m_expr a.0).marks v) (of_each marking.choice (map m_choice (map (λ z. z.0) b)) v ++ ((m_expr c.0).marks v)) k))) (Some (t_expr c.0)) (Some (t_expr ((c_expr c.0).at v.seen))) (c.1 v w s (after (of_each marking.choice (map m_choice (map (λ z. z.0) b)) v) ((m_expr c.0).marks v) (after ((m_expr a.0).marks v) (of_each marking.choice (map m_choice (map (λ z. z.0) b)) v ++ ((m_expr c.0).marks v)) k))))
  expr_good (layers.Expr-F.Aggregate a b) = λ v w s h. let k : AllApart ((m_expr b.0).marks v) = subst AllApart (ap (λ m. m.marks v) (expr_roll marked mark_steps (layers.Expr-F.Aggregate a b.0))) h in along (l.SameMeans v w) _ (expr_step C (layers.Expr-F.Aggregate a (t_expr b.0))) _ (expr_step C (layers.Expr-F.Aggregate a (t_expr ((c_expr b.0).at v.seen)))) (expr_roll typing (steps C) (layers.Expr-F.Aggregate a b.0)) (ap (λ z. t_expr (z.at v.seen)) (expr_roll qualifying (qualify_steps C) (layers.Expr-F.Aggregate a b.0)) ∙ expr_roll typing (steps C) (layers.Expr-F.Aggregate a ((c_expr b.0).at v.seen))) (node.expr_aggregate C v w s a (t_expr b.0) (t_expr ((c_expr b.0).at v.seen)) (b.1 v w s k) (own_path b.0 v w s k))
  expr_good (layers.Expr-F.Substr a b None) = λ v w s h. let k : AllApart ((m_expr a.0).marks v ++ ((m_expr b.0).marks v ++ ([]))) = subst AllApart (ap (λ m. m.marks v) (expr_roll marked mark_steps (layers.Expr-F.Substr a.0 b.0 None))) h in along (l.SameMeans v w) _ (expr_step C (layers.Expr-F.Substr (t_expr a.0) (t_expr b.0) None)) _ (expr_step C (layers.Expr-F.Substr (t_expr ((c_expr a.0).at v.seen)) (t_expr ((c_expr b.0).at v.seen)) None)) (expr_roll typing (steps C) (layers.Expr-F.Substr a.0 b.0 None)) (ap (λ z. t_expr (z.at v.seen)) (expr_roll qualifying (qualify_steps C) (layers.Expr-F.Substr a.0 b.0 None)) ∙ expr_roll typing (steps C) (layers.Expr-F.Substr ((c_expr a.0).at v.seen) ((c_expr b.0).at v.seen) None)) (node.expr_substr C v w s (t_expr a.0) (t_expr ((c_expr a.0).at v.seen)) (a.1 v w s (before ((m_expr a.0).marks v) ((m_expr b.0).marks v ++ ([])) k)) (t_expr b.0) (t_expr ((c_expr b.0).at v.seen)) (b.1 v w s (before ((m_expr b.0).marks v) ([]) (after ((m_expr a.0).marks v) ((m_expr b.0).marks v ++ ([])) k))) None None tt)
  expr_good (layers.Expr-F.Substr a b (Some c)) = λ v w s h. let k : AllApart ((m_expr a.0).marks v ++ ((m_expr b.0).marks v ++ ((m_expr c.0).marks v))) = subst AllApart (ap (λ m. m.marks v) (expr_roll marked mark_steps (layers.Expr-F.Substr a.0 b.0 (Some c.0)))) h in along (l.SameMeans v w) _ (expr_step C (layers.Expr-F.Substr (t_expr a.0) (t_expr b.0) (Some (t_expr c.0)))) _ (expr_step C (layers.Expr-F.Substr (t_expr ((c_expr a.0).at v.seen)) (t_expr ((c_expr b.0).at v.seen)) (Some (t_expr ((c_expr c.0).at v.seen))))) (expr_roll typing (steps C) (layers.Expr-F.Substr a.0 b.0 (Some c.0))) (ap (λ z. t_expr (z.at v.seen)) (expr_roll qualifying (qualify_steps C) (layers.Expr-F.Substr a.0 b.0 (Some c.0))) ∙ expr_roll typing (steps C) (layers.Expr-F.Substr ((c_expr a.0).at v.seen) ((c_expr b.0).at v.seen) (Some ((c_expr c.0).at v.seen)))) (node.expr_substr C v w s (t_expr a.0) (t_expr ((c_expr a.0).at v.seen)) (a.1 v w s (before ((m_expr a.0).marks v) ((m_expr b.0).marks v ++ ((m_expr c.0).marks v)) k)) (t_expr b.0) (t_expr ((c_expr b.0).at v.seen)) (b.1 v w s (before ((m_expr b.0).marks v) ((m_expr c.0).marks v) (after ((m_expr a.0).marks v) ((m_expr b.0).marks v ++ ((m_expr c.0).marks v)) k))) (Some (t_expr c.0)) (Some (t_expr ((c_expr c.0).at v.seen))) (c.1 v w s (after ((m_expr b.0).marks v) ((m_expr c.0).marks v) (after ((m_expr a.0).marks v) ((m_expr b.0).marks v ++ ((m_expr c.0).marks v)) k))))
  expr_good (layers.Expr-F.Apply a b) = λ v w s h. let k : AllApart ((m_expr b.0).marks v) = subst AllApart (ap (λ m. m.marks v) (expr_roll marked mark_steps (layers.Expr-F.Apply a b.0))) h in along (l.SameMeans v w) _ (expr_step C (layers.Expr-F.Apply a (t_expr b.0))) _ (expr_step C (layers.Expr-F.Apply a (t_expr ((c_expr b.0).at v.seen)))) (expr_roll typing (steps C) (layers.Expr-F.Apply a b.0)) (ap (λ z. t_expr (z.at v.seen)) (expr_roll qualifying (qualify_steps C) (layers.Expr-F.Apply a b.0)) ∙ expr_roll typing (steps C) (layers.Expr-F.Apply a ((c_expr b.0).at v.seen))) (node.expr_apply C v w s a (t_expr b.0) (t_expr ((c_expr b.0).at v.seen)) (b.1 v w s k))
  expr_good (layers.Expr-F.Coalesce a) = λ v w s h. let k : AllApart (of_each marking.expr (map m_expr (map (λ z. z.0) a)) v) = subst AllApart (ap (λ m. m.marks v) (expr_roll marked mark_steps (layers.Expr-F.Coalesce (map (λ z. z.0) a)))) h in along (l.SameMeans v w) _ (expr_step C (layers.Expr-F.Coalesce (map t_expr (map (λ z. z.0) a)))) _ (expr_step C (layers.Expr-F.Coalesce (map t_expr (all_at v.seen (map c_expr (map (λ z. z.0) a)))))) (expr_roll typing (steps C) (layers.Expr-F.Coalesce (map (λ z. z.0) a))) (ap (λ z. t_expr (z.at v.seen)) (expr_roll qualifying (qualify_steps C) (layers.Expr-F.Coalesce (map (λ z. z.0) a))) ∙ expr_roll typing (steps C) (layers.Expr-F.Coalesce (all_at v.seen (map c_expr (map (λ z. z.0) a))))) (node.expr_coalesce C v w s (map t_expr (map (λ z. z.0) a)) (map t_expr (all_at v.seen (map c_expr (map (λ z. z.0) a)))) (each (λ v w. l.SameMeans v w) c_expr m_expr t_expr a v w s k))

  item_good : (y : Goods layers.Item-F) → GoodItem (roll-Item (down_item y))
  item_good layers.Item-F.Everything = λ v w s h. along (l.SameShows v w) _ (item_step C layers.Item-F.Everything) _ (item_step C layers.Item-F.Everything) (item_roll typing (steps C) layers.Item-F.Everything) (ap (λ z. t_item (z.at v.seen)) (item_roll qualifying (qualify_steps C) layers.Item-F.Everything) ∙ item_roll typing (steps C) layers.Item-F.Everything) (node.item_everything C v w s)
  item_good (layers.Item-F.AllOf a) = λ v w s h. along (l.SameShows v w) _ (item_step C (layers.Item-F.AllOf a)) _ (item_step C (layers.Item-F.AllOf a)) (item_roll typing (steps C) (layers.Item-F.AllOf a)) (ap (λ z. t_item (z.at v.seen)) (item_roll qualifying (qualify_steps C) (layers.Item-F.AllOf a)) ∙ item_roll typing (steps C) (layers.Item-F.AllOf a)) (node.item_allof C v w s a)
  item_good (layers.Item-F.Value a b) = λ v w s h. let k : AllApart ((m_expr a.0).marks v) = subst AllApart (ap (λ m. m.marks v) (item_roll marked mark_steps (layers.Item-F.Value a.0 b))) h in along (l.SameShows v w) _ (item_step C (layers.Item-F.Value (t_expr a.0) b)) _ (item_step C (layers.Item-F.Value (t_expr ((c_expr a.0).at v.seen)) b)) (item_roll typing (steps C) (layers.Item-F.Value a.0 b)) (ap (λ z. t_item (z.at v.seen)) (item_roll qualifying (qualify_steps C) (layers.Item-F.Value a.0 b)) ∙ item_roll typing (steps C) (layers.Item-F.Value ((c_expr a.0).at v.seen) b)) (node.item_value C v w s (t_expr a.0) (t_expr ((c_expr a.0).at v.seen)) (a.1 v w s k) b)

  join_good : (y : Goods layers.Join-F) → GoodJoin (roll-Join (down_join y))
  join_good (layers.Join-F.Inner a b) = (ap (λ z. z.tab) (join_roll qualifying (qualify_steps C) (layers.Join-F.Inner a b.0)) ∙ sym (ap (λ z. z.tab) (join_roll marked mark_steps (layers.Join-F.Inner a b.0))), (ap (λ z. z.marked.tab) (join_roll typing (steps C) (layers.Join-F.Inner a b.0)) ∙ sym (ap (λ z. z.tab) (join_roll marked mark_steps (layers.Join-F.Inner a b.0))), λ v w s h. along (l.SameJoins v w) _ (join_step (layers.Join-F.Inner a (t_cond b.0))) _ (join_step (layers.Join-F.Inner a (t_cond ((c_cond b.0).at v.seen)))) (join_roll typing (steps C) (layers.Join-F.Inner a b.0)) (ap (λ z. t_join (z.join v.seen)) (join_roll qualifying (qualify_steps C) (layers.Join-F.Inner a b.0)) ∙ join_roll typing (steps C) (layers.Join-F.Inner a ((c_cond b.0).at v.seen))) (node.join_inner C v w s a (t_cond b.0) (t_cond ((c_cond b.0).at v.seen)) (b.1 v w s (subst (λ j. AllApart (j.on v)) (join_roll marked mark_steps (layers.Join-F.Inner a b.0)) h)))))
  join_good (layers.Join-F.Left a b) = (ap (λ z. z.tab) (join_roll qualifying (qualify_steps C) (layers.Join-F.Left a b.0)) ∙ sym (ap (λ z. z.tab) (join_roll marked mark_steps (layers.Join-F.Left a b.0))), (ap (λ z. z.marked.tab) (join_roll typing (steps C) (layers.Join-F.Left a b.0)) ∙ sym (ap (λ z. z.tab) (join_roll marked mark_steps (layers.Join-F.Left a b.0))), λ v w s h. along (l.SameJoins v w) _ (join_step (layers.Join-F.Left a (t_cond b.0))) _ (join_step (layers.Join-F.Left a (t_cond ((c_cond b.0).at v.seen)))) (join_roll typing (steps C) (layers.Join-F.Left a b.0)) (ap (λ z. t_join (z.join v.seen)) (join_roll qualifying (qualify_steps C) (layers.Join-F.Left a b.0)) ∙ join_roll typing (steps C) (layers.Join-F.Left a ((c_cond b.0).at v.seen))) (node.join_left C v w s a (t_cond b.0) (t_cond ((c_cond b.0).at v.seen)) (b.1 v w s (subst (λ j. AllApart (j.on v)) (join_roll marked mark_steps (layers.Join-F.Left a b.0)) h)))))
  join_good (layers.Join-F.Cross a) = (ap (λ z. z.tab) (join_roll qualifying (qualify_steps C) (layers.Join-F.Cross a)) ∙ sym (ap (λ z. z.tab) (join_roll marked mark_steps (layers.Join-F.Cross a))), (ap (λ z. z.marked.tab) (join_roll typing (steps C) (layers.Join-F.Cross a)) ∙ sym (ap (λ z. z.tab) (join_roll marked mark_steps (layers.Join-F.Cross a))), λ v w s h. along (l.SameJoins v w) _ (join_step (layers.Join-F.Cross a)) _ (join_step (layers.Join-F.Cross a)) (join_roll typing (steps C) (layers.Join-F.Cross a)) (ap (λ z. t_join (z.join v.seen)) (join_roll qualifying (qualify_steps C) (layers.Join-F.Cross a)) ∙ join_roll typing (steps C) (layers.Join-F.Cross a)) (node.join_cross C v w s a)))

  arm_good : (y : Goods layers.Arm-F) → GoodArm (roll-Arm (down_arm y))
  arm_good y = λ v w s h. let k : AllApart ((m_cond y.when.0).marks v ++ ((m_expr y.result.0).marks v)) = subst AllApart (ap (λ m. m.marks v) (arm_roll marked mark_steps (record { when = y.when.0; result = y.result.0 }))) h in along (l.SameArms v w) _ (arm_step (record { when = (t_cond y.when.0); result = (t_expr y.result.0) })) _ (arm_step (record { when = (t_cond ((c_cond y.when.0).at v.seen)); result = (t_expr ((c_expr y.result.0).at v.seen)) })) (arm_roll typing (steps C) (record { when = y.when.0; result = y.result.0 })) (ap (λ z. t_arm (z.at v.seen)) (arm_roll qualifying (qualify_steps C) (record { when = y.when.0; result = y.result.0 })) ∙ arm_roll typing (steps C) (record { when = ((c_cond y.when.0).at v.seen); result = ((c_expr y.result.0).at v.seen) })) (((y.when.1 v w s (before ((m_cond y.when.0).marks v) ((m_expr y.result.0).marks v) k)), (y.result.1 v w s (after ((m_cond y.when.0).marks v) ((m_expr y.result.0).marks v) k))))

  chain_good : (y : Goods layers.Chain-F) → GoodChain (roll-Chain (down_chain y))
  chain_good y = (ap (λ z. z.tabs) (chain_roll qualifying (qualify_steps C) (record { first = y.first; joins = (map (λ z. z.0) y.joins) })) ∙ (λ i. y.first ∷ joins_tabs y.joins i) ∙ sym (ap (λ z. tables_of_chain z) (chain_roll marked mark_steps (record { first = y.first; joins = (map (λ z. z.0) y.joins) }))), λ v w s all before_ h. along (l.SameChain v w all) _ (chain_step (record { first = y.first; joins = map t_join (map (λ z. z.0) y.joins) })) _ (chain_step (record { first = y.first; joins = map t_join (joins_in (y.first ∷ []) (map c_join (map (λ z. z.0) y.joins)) v.seen) })) (chain_roll typing (steps C) (record { first = y.first; joins = (map (λ z. z.0) y.joins) })) (ap (λ z. t_chain (z.chain v.seen)) (chain_roll qualifying (qualify_steps C) (record { first = y.first; joins = (map (λ z. z.0) y.joins) })) ∙ chain_roll typing (steps C) (record { first = y.first; joins = joins_in (y.first ∷ []) (map c_join (map (λ z. z.0) y.joins)) v.seen })) (joins_same y.joins v w s all before_ (y.first ∷ []) (subst (λ c. AllApart (joins_marks v all before_ (c.first ∷ []) c.joins)) (chain_roll marked mark_steps (record { first = y.first; joins = (map (λ z. z.0) y.joins) })) h)))

  choice_good : (y : Goods layers.Choice-F) → GoodChoice (roll-Choice (down_choice y))
  choice_good y = λ v w s h. let k : AllApart ((m_expr y.when.0).marks v ++ ((m_expr y.result.0).marks v)) = subst AllApart (ap (λ m. m.marks v) (choice_roll marked mark_steps (record { when = y.when.0; result = y.result.0 }))) h in along (l.SameChoices v w) _ (choice_step (record { when = (t_expr y.when.0); result = (t_expr y.result.0) })) _ (choice_step (record { when = (t_expr ((c_expr y.when.0).at v.seen)); result = (t_expr ((c_expr y.result.0).at v.seen)) })) (choice_roll typing (steps C) (record { when = y.when.0; result = y.result.0 })) (ap (λ z. t_choice (z.at v.seen)) (choice_roll qualifying (qualify_steps C) (record { when = y.when.0; result = y.result.0 })) ∙ choice_roll typing (steps C) (record { when = ((c_expr y.when.0).at v.seen); result = ((c_expr y.result.0).at v.seen) })) (((y.when.1 v w s (before ((m_expr y.when.0).marks v) ((m_expr y.result.0).marks v) k)), (y.result.1 v w s (after ((m_expr y.when.0).marks v) ((m_expr y.result.0).marks v) k))))

  query_good : (distinct : Bool) (items : List WithItem) (from : List WithChain) (filter : Option WithCond) (group : List Column) (having : Option WithCond)
      → GoodQuery (roll-Query (down_query (record { distinct = distinct; items = items; from = from; filter = filter; group = group; having = having })))
  query_good distinct items from None group None = λ v w s h. let g : AllApart (enter (items_in v.seen (tables_of (map marking.chain (map m_chain (map (λ z. z.0) from))))) ∷ (of_each marking.item (map m_item (map (λ z. z.0) items)) (inside v (tables_of (map marking.chain (map m_chain (map (λ z. z.0) from))))) ++ (chains_marks v (calls_of (tables_of (map marking.chain (map m_chain (map (λ z. z.0) from))))) [] (map marking.chain (map m_chain (map (λ z. z.0) from))) ++ ([] ++ (map (column (inside v (tables_of (map marking.chain (map m_chain (map (λ z. z.0) from))))).seen) group ++ ([])))))) = subst AllApart (ap (λ m. m.marks v) (query_roll marked mark_steps (record { distinct = distinct; items = (map (λ z. z.0) items); from = (map (λ z. z.0) from); filter = None; group = group; having = None }))) h in let k : AllApart (of_each marking.item (map m_item (map (λ z. z.0) items)) (inside v (tables_of (map marking.chain (map m_chain (map (λ z. z.0) from))))) ++ (chains_marks v (calls_of (tables_of (map marking.chain (map m_chain (map (λ z. z.0) from))))) [] (map marking.chain (map m_chain (map (λ z. z.0) from))) ++ ([] ++ (map (column (inside v (tables_of (map marking.chain (map m_chain (map (λ z. z.0) from))))).seen) group ++ ([]))))) = g.1 in along (l.SameAnswers v w) _ (query_step C (record { distinct = distinct; items = (map t_item (map (λ z. z.0) items)); from = (map t_chain (map (λ z. z.0) from)); filter = None; group = group; having = None })) _ (query_step C (record { distinct = distinct; items = (map t_item (all_at (inside v (tables_of (map marking.chain (map m_chain (map (λ z. z.0) from))))).seen (map c_item (map (λ z. z.0) items)))); from = (map t_chain (map (λ c. c.chain v.seen) (map c_chain (map (λ z. z.0) from)))); filter = None; group = (map (with_item C (inside v (tables_of (map marking.chain (map m_chain (map (λ z. z.0) from))))).seen) group); having = None })) (query_roll typing (steps C) (record { distinct = distinct; items = (map (λ z. z.0) items); from = (map (λ z. z.0) from); filter = None; group = group; having = None })) (ap (λ z. t_query (z.at v.seen)) (query_roll qualifying (qualify_steps C) (record { distinct = distinct; items = (map (λ z. z.0) items); from = (map (λ z. z.0) from); filter = None; group = group; having = None })) ∙ (λ i. t_query (query_in C v.seen (items_in v.seen (chains_tabs from i) ++ v.seen) (record { distinct = distinct; items = map c_item (map (λ z. z.0) items); from = map c_chain (map (λ z. z.0) from); filter = None; group = group; having = None }))) ∙ query_roll typing (steps C) (record { distinct = distinct; items = (all_at (inside v (tables_of (map marking.chain (map m_chain (map (λ z. z.0) from))))).seen (map c_item (map (λ z. z.0) items))); from = (map (λ c. c.chain v.seen) (map c_chain (map (λ z. z.0) from))); filter = None; group = map (with_item C (inside v (tables_of (map marking.chain (map m_chain (map (λ z. z.0) from))))).seen) group; having = None })) (query.query_same C v w s (tables_of (map marking.chain (map m_chain (map (λ z. z.0) from)))) (inside_like v w (tables_of (map marking.chain (map m_chain (map (λ z. z.0) from)))) s) distinct group (before (map (column (inside v (tables_of (map marking.chain (map m_chain (map (λ z. z.0) from))))).seen) group) ([]) (after ([]) (map (column (inside v (tables_of (map marking.chain (map m_chain (map (λ z. z.0) from))))).seen) group ++ ([])) (after (chains_marks v (calls_of (tables_of (map marking.chain (map m_chain (map (λ z. z.0) from))))) [] (map marking.chain (map m_chain (map (λ z. z.0) from)))) ([] ++ (map (column (inside v (tables_of (map marking.chain (map m_chain (map (λ z. z.0) from))))).seen) group ++ ([]))) (after (of_each marking.item (map m_item (map (λ z. z.0) items)) (inside v (tables_of (map marking.chain (map m_chain (map (λ z. z.0) from)))))) (chains_marks v (calls_of (tables_of (map marking.chain (map m_chain (map (λ z. z.0) from))))) [] (map marking.chain (map m_chain (map (λ z. z.0) from))) ++ ([] ++ (map (column (inside v (tables_of (map marking.chain (map m_chain (map (λ z. z.0) from))))).seen) group ++ ([])))) k)))) (map t_item (map (λ z. z.0) items)) (map t_item (all_at (inside v (tables_of (map marking.chain (map m_chain (map (λ z. z.0) from))))).seen (map c_item (map (λ z. z.0) items)))) (each (λ v w. l.SameShows v w) c_item m_item t_item items (inside v (tables_of (map marking.chain (map m_chain (map (λ z. z.0) from))))) (inside w (tables_of (map marking.chain (map m_chain (map (λ z. z.0) from))))) (inside_like v w (tables_of (map marking.chain (map m_chain (map (λ z. z.0) from)))) s) (before (of_each marking.item (map m_item (map (λ z. z.0) items)) (inside v (tables_of (map marking.chain (map m_chain (map (λ z. z.0) from)))))) (chains_marks v (calls_of (tables_of (map marking.chain (map m_chain (map (λ z. z.0) from))))) [] (map marking.chain (map m_chain (map (λ z. z.0) from))) ++ ([] ++ (map (column (inside v (tables_of (map marking.chain (map m_chain (map (λ z. z.0) from))))).seen) group ++ ([])))) k)) (map t_chain (map (λ z. z.0) from)) (map t_chain (map (λ c. c.chain v.seen) (map c_chain (map (λ z. z.0) from)))) (chains_typed_same from v w s (calls_of (tables_of (map marking.chain (map m_chain (map (λ z. z.0) from))))) [] (before (chains_marks v (calls_of (tables_of (map marking.chain (map m_chain (map (λ z. z.0) from))))) [] (map marking.chain (map m_chain (map (λ z. z.0) from)))) ([] ++ (map (column (inside v (tables_of (map marking.chain (map m_chain (map (λ z. z.0) from))))).seen) group ++ ([]))) (after (of_each marking.item (map m_item (map (λ z. z.0) items)) (inside v (tables_of (map marking.chain (map m_chain (map (λ z. z.0) from)))))) (chains_marks v (calls_of (tables_of (map marking.chain (map m_chain (map (λ z. z.0) from))))) [] (map marking.chain (map m_chain (map (λ z. z.0) from))) ++ ([] ++ (map (column (inside v (tables_of (map marking.chain (map m_chain (map (λ z. z.0) from))))).seen) group ++ ([])))) k))) None None tt None None tt (tables_path (map (λ z. z.0) from)) (tables_path (map (λ c. c.chain v.seen) (map c_chain (map (λ z. z.0) from))) ∙ sym (forms_tables (map (λ z. z.0) from) v w s)))
  query_good distinct items from None group (Some having) = λ v w s h. let g : AllApart (enter (items_in v.seen (tables_of (map marking.chain (map m_chain (map (λ z. z.0) from))))) ∷ (of_each marking.item (map m_item (map (λ z. z.0) items)) (inside v (tables_of (map marking.chain (map m_chain (map (λ z. z.0) from))))) ++ (chains_marks v (calls_of (tables_of (map marking.chain (map m_chain (map (λ z. z.0) from))))) [] (map marking.chain (map m_chain (map (λ z. z.0) from))) ++ ([] ++ (map (column (inside v (tables_of (map marking.chain (map m_chain (map (λ z. z.0) from))))).seen) group ++ ((m_cond having.0).marks (inside v (tables_of (map marking.chain (map m_chain (map (λ z. z.0) from))))))))))) = subst AllApart (ap (λ m. m.marks v) (query_roll marked mark_steps (record { distinct = distinct; items = (map (λ z. z.0) items); from = (map (λ z. z.0) from); filter = None; group = group; having = (Some having.0) }))) h in let k : AllApart (of_each marking.item (map m_item (map (λ z. z.0) items)) (inside v (tables_of (map marking.chain (map m_chain (map (λ z. z.0) from))))) ++ (chains_marks v (calls_of (tables_of (map marking.chain (map m_chain (map (λ z. z.0) from))))) [] (map marking.chain (map m_chain (map (λ z. z.0) from))) ++ ([] ++ (map (column (inside v (tables_of (map marking.chain (map m_chain (map (λ z. z.0) from))))).seen) group ++ ((m_cond having.0).marks (inside v (tables_of (map marking.chain (map m_chain (map (λ z. z.0) from)))))))))) = g.1 in along (l.SameAnswers v w) _ (query_step C (record { distinct = distinct; items = (map t_item (map (λ z. z.0) items)); from = (map t_chain (map (λ z. z.0) from)); filter = None; group = group; having = (Some (t_cond having.0)) })) _ (query_step C (record { distinct = distinct; items = (map t_item (all_at (inside v (tables_of (map marking.chain (map m_chain (map (λ z. z.0) from))))).seen (map c_item (map (λ z. z.0) items)))); from = (map t_chain (map (λ c. c.chain v.seen) (map c_chain (map (λ z. z.0) from)))); filter = None; group = (map (with_item C (inside v (tables_of (map marking.chain (map m_chain (map (λ z. z.0) from))))).seen) group); having = (Some (t_cond ((c_cond having.0).at (inside v (tables_of (map marking.chain (map m_chain (map (λ z. z.0) from))))).seen))) })) (query_roll typing (steps C) (record { distinct = distinct; items = (map (λ z. z.0) items); from = (map (λ z. z.0) from); filter = None; group = group; having = (Some having.0) })) (ap (λ z. t_query (z.at v.seen)) (query_roll qualifying (qualify_steps C) (record { distinct = distinct; items = (map (λ z. z.0) items); from = (map (λ z. z.0) from); filter = None; group = group; having = (Some having.0) })) ∙ (λ i. t_query (query_in C v.seen (items_in v.seen (chains_tabs from i) ++ v.seen) (record { distinct = distinct; items = map c_item (map (λ z. z.0) items); from = map c_chain (map (λ z. z.0) from); filter = None; group = group; having = Some (c_cond having.0) }))) ∙ query_roll typing (steps C) (record { distinct = distinct; items = (all_at (inside v (tables_of (map marking.chain (map m_chain (map (λ z. z.0) from))))).seen (map c_item (map (λ z. z.0) items))); from = (map (λ c. c.chain v.seen) (map c_chain (map (λ z. z.0) from))); filter = None; group = map (with_item C (inside v (tables_of (map marking.chain (map m_chain (map (λ z. z.0) from))))).seen) group; having = (Some ((c_cond having.0).at (inside v (tables_of (map marking.chain (map m_chain (map (λ z. z.0) from))))).seen)) })) (query.query_same C v w s (tables_of (map marking.chain (map m_chain (map (λ z. z.0) from)))) (inside_like v w (tables_of (map marking.chain (map m_chain (map (λ z. z.0) from)))) s) distinct group (before (map (column (inside v (tables_of (map marking.chain (map m_chain (map (λ z. z.0) from))))).seen) group) ((m_cond having.0).marks (inside v (tables_of (map marking.chain (map m_chain (map (λ z. z.0) from)))))) (after ([]) (map (column (inside v (tables_of (map marking.chain (map m_chain (map (λ z. z.0) from))))).seen) group ++ ((m_cond having.0).marks (inside v (tables_of (map marking.chain (map m_chain (map (λ z. z.0) from))))))) (after (chains_marks v (calls_of (tables_of (map marking.chain (map m_chain (map (λ z. z.0) from))))) [] (map marking.chain (map m_chain (map (λ z. z.0) from)))) ([] ++ (map (column (inside v (tables_of (map marking.chain (map m_chain (map (λ z. z.0) from))))).seen) group ++ ((m_cond having.0).marks (inside v (tables_of (map marking.chain (map m_chain (map (λ z. z.0) from)))))))) (after (of_each marking.item (map m_item (map (λ z. z.0) items)) (inside v (tables_of (map marking.chain (map m_chain (map (λ z. z.0) from)))))) (chains_marks v (calls_of (tables_of (map marking.chain (map m_chain (map (λ z. z.0) from))))) [] (map marking.chain (map m_chain (map (λ z. z.0) from))) ++ ([] ++ (map (column (inside v (tables_of (map marking.chain (map m_chain (map (λ z. z.0) from))))).seen) group ++ ((m_cond having.0).marks (inside v (tables_of (map marking.chain (map m_chain (map (λ z. z.0) from))))))))) k)))) (map t_item (map (λ z. z.0) items)) (map t_item (all_at (inside v (tables_of (map marking.chain (map m_chain (map (λ z. z.0) from))))).seen (map c_item (map (λ z. z.0) items)))) (each (λ v w. l.SameShows v w) c_item m_item t_item items (inside v (tables_of (map marking.chain (map m_chain (map (λ z. z.0) from))))) (inside w (tables_of (map marking.chain (map m_chain (map (λ z. z.0) from))))) (inside_like v w (tables_of (map marking.chain (map m_chain (map (λ z. z.0) from)))) s) (before (of_each marking.item (map m_item (map (λ z. z.0) items)) (inside v (tables_of (map marking.chain (map m_chain (map (λ z. z.0) from)))))) (chains_marks v (calls_of (tables_of (map marking.chain (map m_chain (map (λ z. z.0) from))))) [] (map marking.chain (map m_chain (map (λ z. z.0) from))) ++ ([] ++ (map (column (inside v (tables_of (map marking.chain (map m_chain (map (λ z. z.0) from))))).seen) group ++ ((m_cond having.0).marks (inside v (tables_of (map marking.chain (map m_chain (map (λ z. z.0) from))))))))) k)) (map t_chain (map (λ z. z.0) from)) (map t_chain (map (λ c. c.chain v.seen) (map c_chain (map (λ z. z.0) from)))) (chains_typed_same from v w s (calls_of (tables_of (map marking.chain (map m_chain (map (λ z. z.0) from))))) [] (before (chains_marks v (calls_of (tables_of (map marking.chain (map m_chain (map (λ z. z.0) from))))) [] (map marking.chain (map m_chain (map (λ z. z.0) from)))) ([] ++ (map (column (inside v (tables_of (map marking.chain (map m_chain (map (λ z. z.0) from))))).seen) group ++ ((m_cond having.0).marks (inside v (tables_of (map marking.chain (map m_chain (map (λ z. z.0) from)))))))) (after (of_each marking.item (map m_item (map (λ z. z.0) items)) (inside v (tables_of (map marking.chain (map m_chain (map (λ z. z.0) from)))))) (chains_marks v (calls_of (tables_of (map marking.chain (map m_chain (map (λ z. z.0) from))))) [] (map marking.chain (map m_chain (map (λ z. z.0) from))) ++ ([] ++ (map (column (inside v (tables_of (map marking.chain (map m_chain (map (λ z. z.0) from))))).seen) group ++ ((m_cond having.0).marks (inside v (tables_of (map marking.chain (map m_chain (map (λ z. z.0) from))))))))) k))) None None tt (Some (t_cond having.0)) (Some (t_cond ((c_cond having.0).at (inside v (tables_of (map marking.chain (map m_chain (map (λ z. z.0) from))))).seen))) (having.1 (inside v (tables_of (map marking.chain (map m_chain (map (λ z. z.0) from))))) (inside w (tables_of (map marking.chain (map m_chain (map (λ z. z.0) from))))) (inside_like v w (tables_of (map marking.chain (map m_chain (map (λ z. z.0) from)))) s) (after (map (column (inside v (tables_of (map marking.chain (map m_chain (map (λ z. z.0) from))))).seen) group) ((m_cond having.0).marks (inside v (tables_of (map marking.chain (map m_chain (map (λ z. z.0) from)))))) (after ([]) (map (column (inside v (tables_of (map marking.chain (map m_chain (map (λ z. z.0) from))))).seen) group ++ ((m_cond having.0).marks (inside v (tables_of (map marking.chain (map m_chain (map (λ z. z.0) from))))))) (after (chains_marks v (calls_of (tables_of (map marking.chain (map m_chain (map (λ z. z.0) from))))) [] (map marking.chain (map m_chain (map (λ z. z.0) from)))) ([] ++ (map (column (inside v (tables_of (map marking.chain (map m_chain (map (λ z. z.0) from))))).seen) group ++ ((m_cond having.0).marks (inside v (tables_of (map marking.chain (map m_chain (map (λ z. z.0) from)))))))) (after (of_each marking.item (map m_item (map (λ z. z.0) items)) (inside v (tables_of (map marking.chain (map m_chain (map (λ z. z.0) from)))))) (chains_marks v (calls_of (tables_of (map marking.chain (map m_chain (map (λ z. z.0) from))))) [] (map marking.chain (map m_chain (map (λ z. z.0) from))) ++ ([] ++ (map (column (inside v (tables_of (map marking.chain (map m_chain (map (λ z. z.0) from))))).seen) group ++ ((m_cond having.0).marks (inside v (tables_of (map marking.chain (map m_chain (map (λ z. z.0) from))))))))) k))))) (tables_path (map (λ z. z.0) from)) (tables_path (map (λ c. c.chain v.seen) (map c_chain (map (λ z. z.0) from))) ∙ sym (forms_tables (map (λ z. z.0) from) v w s)))
  query_good distinct items from (Some filter) group None = λ v w s h. let g : AllApart (enter (items_in v.seen (tables_of (map marking.chain (map m_chain (map (λ z. z.0) from))))) ∷ (of_each marking.item (map m_item (map (λ z. z.0) items)) (inside v (tables_of (map marking.chain (map m_chain (map (λ z. z.0) from))))) ++ (chains_marks v (calls_of (tables_of (map marking.chain (map m_chain (map (λ z. z.0) from))))) [] (map marking.chain (map m_chain (map (λ z. z.0) from))) ++ ((m_cond filter.0).marks (inside v (tables_of (map marking.chain (map m_chain (map (λ z. z.0) from))))) ++ (map (column (inside v (tables_of (map marking.chain (map m_chain (map (λ z. z.0) from))))).seen) group ++ ([])))))) = subst AllApart (ap (λ m. m.marks v) (query_roll marked mark_steps (record { distinct = distinct; items = (map (λ z. z.0) items); from = (map (λ z. z.0) from); filter = (Some filter.0); group = group; having = None }))) h in let k : AllApart (of_each marking.item (map m_item (map (λ z. z.0) items)) (inside v (tables_of (map marking.chain (map m_chain (map (λ z. z.0) from))))) ++ (chains_marks v (calls_of (tables_of (map marking.chain (map m_chain (map (λ z. z.0) from))))) [] (map marking.chain (map m_chain (map (λ z. z.0) from))) ++ ((m_cond filter.0).marks (inside v (tables_of (map marking.chain (map m_chain (map (λ z. z.0) from))))) ++ (map (column (inside v (tables_of (map marking.chain (map m_chain (map (λ z. z.0) from))))).seen) group ++ ([]))))) = g.1 in along (l.SameAnswers v w) _ (query_step C (record { distinct = distinct; items = (map t_item (map (λ z. z.0) items)); from = (map t_chain (map (λ z. z.0) from)); filter = (Some (t_cond filter.0)); group = group; having = None })) _ (query_step C (record { distinct = distinct; items = (map t_item (all_at (inside v (tables_of (map marking.chain (map m_chain (map (λ z. z.0) from))))).seen (map c_item (map (λ z. z.0) items)))); from = (map t_chain (map (λ c. c.chain v.seen) (map c_chain (map (λ z. z.0) from)))); filter = (Some (t_cond ((c_cond filter.0).at (inside v (tables_of (map marking.chain (map m_chain (map (λ z. z.0) from))))).seen))); group = (map (with_item C (inside v (tables_of (map marking.chain (map m_chain (map (λ z. z.0) from))))).seen) group); having = None })) (query_roll typing (steps C) (record { distinct = distinct; items = (map (λ z. z.0) items); from = (map (λ z. z.0) from); filter = (Some filter.0); group = group; having = None })) (ap (λ z. t_query (z.at v.seen)) (query_roll qualifying (qualify_steps C) (record { distinct = distinct; items = (map (λ z. z.0) items); from = (map (λ z. z.0) from); filter = (Some filter.0); group = group; having = None })) ∙ (λ i. t_query (query_in C v.seen (items_in v.seen (chains_tabs from i) ++ v.seen) (record { distinct = distinct; items = map c_item (map (λ z. z.0) items); from = map c_chain (map (λ z. z.0) from); filter = Some (c_cond filter.0); group = group; having = None }))) ∙ query_roll typing (steps C) (record { distinct = distinct; items = (all_at (inside v (tables_of (map marking.chain (map m_chain (map (λ z. z.0) from))))).seen (map c_item (map (λ z. z.0) items))); from = (map (λ c. c.chain v.seen) (map c_chain (map (λ z. z.0) from))); filter = (Some ((c_cond filter.0).at (inside v (tables_of (map marking.chain (map m_chain (map (λ z. z.0) from))))).seen)); group = map (with_item C (inside v (tables_of (map marking.chain (map m_chain (map (λ z. z.0) from))))).seen) group; having = None })) (query.query_same C v w s (tables_of (map marking.chain (map m_chain (map (λ z. z.0) from)))) (inside_like v w (tables_of (map marking.chain (map m_chain (map (λ z. z.0) from)))) s) distinct group (before (map (column (inside v (tables_of (map marking.chain (map m_chain (map (λ z. z.0) from))))).seen) group) ([]) (after ((m_cond filter.0).marks (inside v (tables_of (map marking.chain (map m_chain (map (λ z. z.0) from)))))) (map (column (inside v (tables_of (map marking.chain (map m_chain (map (λ z. z.0) from))))).seen) group ++ ([])) (after (chains_marks v (calls_of (tables_of (map marking.chain (map m_chain (map (λ z. z.0) from))))) [] (map marking.chain (map m_chain (map (λ z. z.0) from)))) ((m_cond filter.0).marks (inside v (tables_of (map marking.chain (map m_chain (map (λ z. z.0) from))))) ++ (map (column (inside v (tables_of (map marking.chain (map m_chain (map (λ z. z.0) from))))).seen) group ++ ([]))) (after (of_each marking.item (map m_item (map (λ z. z.0) items)) (inside v (tables_of (map marking.chain (map m_chain (map (λ z. z.0) from)))))) (chains_marks v (calls_of (tables_of (map marking.chain (map m_chain (map (λ z. z.0) from))))) [] (map marking.chain (map m_chain (map (λ z. z.0) from))) ++ ((m_cond filter.0).marks (inside v (tables_of (map marking.chain (map m_chain (map (λ z. z.0) from))))) ++ (map (column (inside v (tables_of (map marking.chain (map m_chain (map (λ z. z.0) from))))).seen) group ++ ([])))) k)))) (map t_item (map (λ z. z.0) items)) (map t_item (all_at (inside v (tables_of (map marking.chain (map m_chain (map (λ z. z.0) from))))).seen (map c_item (map (λ z. z.0) items)))) (each (λ v w. l.SameShows v w) c_item m_item t_item items (inside v (tables_of (map marking.chain (map m_chain (map (λ z. z.0) from))))) (inside w (tables_of (map marking.chain (map m_chain (map (λ z. z.0) from))))) (inside_like v w (tables_of (map marking.chain (map m_chain (map (λ z. z.0) from)))) s) (before (of_each marking.item (map m_item (map (λ z. z.0) items)) (inside v (tables_of (map marking.chain (map m_chain (map (λ z. z.0) from)))))) (chains_marks v (calls_of (tables_of (map marking.chain (map m_chain (map (λ z. z.0) from))))) [] (map marking.chain (map m_chain (map (λ z. z.0) from))) ++ ((m_cond filter.0).marks (inside v (tables_of (map marking.chain (map m_chain (map (λ z. z.0) from))))) ++ (map (column (inside v (tables_of (map marking.chain (map m_chain (map (λ z. z.0) from))))).seen) group ++ ([])))) k)) (map t_chain (map (λ z. z.0) from)) (map t_chain (map (λ c. c.chain v.seen) (map c_chain (map (λ z. z.0) from)))) (chains_typed_same from v w s (calls_of (tables_of (map marking.chain (map m_chain (map (λ z. z.0) from))))) [] (before (chains_marks v (calls_of (tables_of (map marking.chain (map m_chain (map (λ z. z.0) from))))) [] (map marking.chain (map m_chain (map (λ z. z.0) from)))) ((m_cond filter.0).marks (inside v (tables_of (map marking.chain (map m_chain (map (λ z. z.0) from))))) ++ (map (column (inside v (tables_of (map marking.chain (map m_chain (map (λ z. z.0) from))))).seen) group ++ ([]))) (after (of_each marking.item (map m_item (map (λ z. z.0) items)) (inside v (tables_of (map marking.chain (map m_chain (map (λ z. z.0) from)))))) (chains_marks v (calls_of (tables_of (map marking.chain (map m_chain (map (λ z. z.0) from))))) [] (map marking.chain (map m_chain (map (λ z. z.0) from))) ++ ((m_cond filter.0).marks (inside v (tables_of (map marking.chain (map m_chain (map (λ z. z.0) from))))) ++ (map (column (inside v (tables_of (map marking.chain (map m_chain (map (λ z. z.0) from))))).seen) group ++ ([])))) k))) (Some (t_cond filter.0)) (Some (t_cond ((c_cond filter.0).at (inside v (tables_of (map marking.chain (map m_chain (map (λ z. z.0) from))))).seen))) (filter.1 (inside v (tables_of (map marking.chain (map m_chain (map (λ z. z.0) from))))) (inside w (tables_of (map marking.chain (map m_chain (map (λ z. z.0) from))))) (inside_like v w (tables_of (map marking.chain (map m_chain (map (λ z. z.0) from)))) s) (before ((m_cond filter.0).marks (inside v (tables_of (map marking.chain (map m_chain (map (λ z. z.0) from)))))) (map (column (inside v (tables_of (map marking.chain (map m_chain (map (λ z. z.0) from))))).seen) group ++ ([])) (after (chains_marks v (calls_of (tables_of (map marking.chain (map m_chain (map (λ z. z.0) from))))) [] (map marking.chain (map m_chain (map (λ z. z.0) from)))) ((m_cond filter.0).marks (inside v (tables_of (map marking.chain (map m_chain (map (λ z. z.0) from))))) ++ (map (column (inside v (tables_of (map marking.chain (map m_chain (map (λ z. z.0) from))))).seen) group ++ ([]))) (after (of_each marking.item (map m_item (map (λ z. z.0) items)) (inside v (tables_of (map marking.chain (map m_chain (map (λ z. z.0) from)))))) (chains_marks v (calls_of (tables_of (map marking.chain (map m_chain (map (λ z. z.0) from))))) [] (map marking.chain (map m_chain (map (λ z. z.0) from))) ++ ((m_cond filter.0).marks (inside v (tables_of (map marking.chain (map m_chain (map (λ z. z.0) from))))) ++ (map (column (inside v (tables_of (map marking.chain (map m_chain (map (λ z. z.0) from))))).seen) group ++ ([])))) k)))) None None tt (tables_path (map (λ z. z.0) from)) (tables_path (map (λ c. c.chain v.seen) (map c_chain (map (λ z. z.0) from))) ∙ sym (forms_tables (map (λ z. z.0) from) v w s)))
  query_good distinct items from (Some filter) group (Some having) = λ v w s h. let g : AllApart (enter (items_in v.seen (tables_of (map marking.chain (map m_chain (map (λ z. z.0) from))))) ∷ (of_each marking.item (map m_item (map (λ z. z.0) items)) (inside v (tables_of (map marking.chain (map m_chain (map (λ z. z.0) from))))) ++ (chains_marks v (calls_of (tables_of (map marking.chain (map m_chain (map (λ z. z.0) from))))) [] (map marking.chain (map m_chain (map (λ z. z.0) from))) ++ ((m_cond filter.0).marks (inside v (tables_of (map marking.chain (map m_chain (map (λ z. z.0) from))))) ++ (map (column (inside v (tables_of (map marking.chain (map m_chain (map (λ z. z.0) from))))).seen) group ++ ((m_cond having.0).marks (inside v (tables_of (map marking.chain (map m_chain (map (λ z. z.0) from))))))))))) = subst AllApart (ap (λ m. m.marks v) (query_roll marked mark_steps (record { distinct = distinct; items = (map (λ z. z.0) items); from = (map (λ z. z.0) from); filter = (Some filter.0); group = group; having = (Some having.0) }))) h in let k : AllApart (of_each marking.item (map m_item (map (λ z. z.0) items)) (inside v (tables_of (map marking.chain (map m_chain (map (λ z. z.0) from))))) ++ (chains_marks v (calls_of (tables_of (map marking.chain (map m_chain (map (λ z. z.0) from))))) [] (map marking.chain (map m_chain (map (λ z. z.0) from))) ++ ((m_cond filter.0).marks (inside v (tables_of (map marking.chain (map m_chain (map (λ z. z.0) from))))) ++ (map (column (inside v (tables_of (map marking.chain (map m_chain (map (λ z. z.0) from))))).seen) group ++ ((m_cond having.0).marks (inside v (tables_of (map marking.chain (map m_chain (map (λ z. z.0) from)))))))))) = g.1 in along (l.SameAnswers v w) _ (query_step C (record { distinct = distinct; items = (map t_item (map (λ z. z.0) items)); from = (map t_chain (map (λ z. z.0) from)); filter = (Some (t_cond filter.0)); group = group; having = (Some (t_cond having.0)) })) _ (query_step C (record { distinct = distinct; items = (map t_item (all_at (inside v (tables_of (map marking.chain (map m_chain (map (λ z. z.0) from))))).seen (map c_item (map (λ z. z.0) items)))); from = (map t_chain (map (λ c. c.chain v.seen) (map c_chain (map (λ z. z.0) from)))); filter = (Some (t_cond ((c_cond filter.0).at (inside v (tables_of (map marking.chain (map m_chain (map (λ z. z.0) from))))).seen))); group = (map (with_item C (inside v (tables_of (map marking.chain (map m_chain (map (λ z. z.0) from))))).seen) group); having = (Some (t_cond ((c_cond having.0).at (inside v (tables_of (map marking.chain (map m_chain (map (λ z. z.0) from))))).seen))) })) (query_roll typing (steps C) (record { distinct = distinct; items = (map (λ z. z.0) items); from = (map (λ z. z.0) from); filter = (Some filter.0); group = group; having = (Some having.0) })) (ap (λ z. t_query (z.at v.seen)) (query_roll qualifying (qualify_steps C) (record { distinct = distinct; items = (map (λ z. z.0) items); from = (map (λ z. z.0) from); filter = (Some filter.0); group = group; having = (Some having.0) })) ∙ (λ i. t_query (query_in C v.seen (items_in v.seen (chains_tabs from i) ++ v.seen) (record { distinct = distinct; items = map c_item (map (λ z. z.0) items); from = map c_chain (map (λ z. z.0) from); filter = Some (c_cond filter.0); group = group; having = Some (c_cond having.0) }))) ∙ query_roll typing (steps C) (record { distinct = distinct; items = (all_at (inside v (tables_of (map marking.chain (map m_chain (map (λ z. z.0) from))))).seen (map c_item (map (λ z. z.0) items))); from = (map (λ c. c.chain v.seen) (map c_chain (map (λ z. z.0) from))); filter = (Some ((c_cond filter.0).at (inside v (tables_of (map marking.chain (map m_chain (map (λ z. z.0) from))))).seen)); group = map (with_item C (inside v (tables_of (map marking.chain (map m_chain (map (λ z. z.0) from))))).seen) group; having = (Some ((c_cond having.0).at (inside v (tables_of (map marking.chain (map m_chain (map (λ z. z.0) from))))).seen)) })) (query.query_same C v w s (tables_of (map marking.chain (map m_chain (map (λ z. z.0) from)))) (inside_like v w (tables_of (map marking.chain (map m_chain (map (λ z. z.0) from)))) s) distinct group (before (map (column (inside v (tables_of (map marking.chain (map m_chain (map (λ z. z.0) from))))).seen) group) ((m_cond having.0).marks (inside v (tables_of (map marking.chain (map m_chain (map (λ z. z.0) from)))))) (after ((m_cond filter.0).marks (inside v (tables_of (map marking.chain (map m_chain (map (λ z. z.0) from)))))) (map (column (inside v (tables_of (map marking.chain (map m_chain (map (λ z. z.0) from))))).seen) group ++ ((m_cond having.0).marks (inside v (tables_of (map marking.chain (map m_chain (map (λ z. z.0) from))))))) (after (chains_marks v (calls_of (tables_of (map marking.chain (map m_chain (map (λ z. z.0) from))))) [] (map marking.chain (map m_chain (map (λ z. z.0) from)))) ((m_cond filter.0).marks (inside v (tables_of (map marking.chain (map m_chain (map (λ z. z.0) from))))) ++ (map (column (inside v (tables_of (map marking.chain (map m_chain (map (λ z. z.0) from))))).seen) group ++ ((m_cond having.0).marks (inside v (tables_of (map marking.chain (map m_chain (map (λ z. z.0) from)))))))) (after (of_each marking.item (map m_item (map (λ z. z.0) items)) (inside v (tables_of (map marking.chain (map m_chain (map (λ z. z.0) from)))))) (chains_marks v (calls_of (tables_of (map marking.chain (map m_chain (map (λ z. z.0) from))))) [] (map marking.chain (map m_chain (map (λ z. z.0) from))) ++ ((m_cond filter.0).marks (inside v (tables_of (map marking.chain (map m_chain (map (λ z. z.0) from))))) ++ (map (column (inside v (tables_of (map marking.chain (map m_chain (map (λ z. z.0) from))))).seen) group ++ ((m_cond having.0).marks (inside v (tables_of (map marking.chain (map m_chain (map (λ z. z.0) from))))))))) k)))) (map t_item (map (λ z. z.0) items)) (map t_item (all_at (inside v (tables_of (map marking.chain (map m_chain (map (λ z. z.0) from))))).seen (map c_item (map (λ z. z.0) items)))) (each (λ v w. l.SameShows v w) c_item m_item t_item items (inside v (tables_of (map marking.chain (map m_chain (map (λ z. z.0) from))))) (inside w (tables_of (map marking.chain (map m_chain (map (λ z. z.0) from))))) (inside_like v w (tables_of (map marking.chain (map m_chain (map (λ z. z.0) from)))) s) (before (of_each marking.item (map m_item (map (λ z. z.0) items)) (inside v (tables_of (map marking.chain (map m_chain (map (λ z. z.0) from)))))) (chains_marks v (calls_of (tables_of (map marking.chain (map m_chain (map (λ z. z.0) from))))) [] (map marking.chain (map m_chain (map (λ z. z.0) from))) ++ ((m_cond filter.0).marks (inside v (tables_of (map marking.chain (map m_chain (map (λ z. z.0) from))))) ++ (map (column (inside v (tables_of (map marking.chain (map m_chain (map (λ z. z.0) from))))).seen) group ++ ((m_cond having.0).marks (inside v (tables_of (map marking.chain (map m_chain (map (λ z. z.0) from))))))))) k)) (map t_chain (map (λ z. z.0) from)) (map t_chain (map (λ c. c.chain v.seen) (map c_chain (map (λ z. z.0) from)))) (chains_typed_same from v w s (calls_of (tables_of (map marking.chain (map m_chain (map (λ z. z.0) from))))) [] (before (chains_marks v (calls_of (tables_of (map marking.chain (map m_chain (map (λ z. z.0) from))))) [] (map marking.chain (map m_chain (map (λ z. z.0) from)))) ((m_cond filter.0).marks (inside v (tables_of (map marking.chain (map m_chain (map (λ z. z.0) from))))) ++ (map (column (inside v (tables_of (map marking.chain (map m_chain (map (λ z. z.0) from))))).seen) group ++ ((m_cond having.0).marks (inside v (tables_of (map marking.chain (map m_chain (map (λ z. z.0) from)))))))) (after (of_each marking.item (map m_item (map (λ z. z.0) items)) (inside v (tables_of (map marking.chain (map m_chain (map (λ z. z.0) from)))))) (chains_marks v (calls_of (tables_of (map marking.chain (map m_chain (map (λ z. z.0) from))))) [] (map marking.chain (map m_chain (map (λ z. z.0) from))) ++ ((m_cond filter.0).marks (inside v (tables_of (map marking.chain (map m_chain (map (λ z. z.0) from))))) ++ (map (column (inside v (tables_of (map marking.chain (map m_chain (map (λ z. z.0) from))))).seen) group ++ ((m_cond having.0).marks (inside v (tables_of (map marking.chain (map m_chain (map (λ z. z.0) from))))))))) k))) (Some (t_cond filter.0)) (Some (t_cond ((c_cond filter.0).at (inside v (tables_of (map marking.chain (map m_chain (map (λ z. z.0) from))))).seen))) (filter.1 (inside v (tables_of (map marking.chain (map m_chain (map (λ z. z.0) from))))) (inside w (tables_of (map marking.chain (map m_chain (map (λ z. z.0) from))))) (inside_like v w (tables_of (map marking.chain (map m_chain (map (λ z. z.0) from)))) s) (before ((m_cond filter.0).marks (inside v (tables_of (map marking.chain (map m_chain (map (λ z. z.0) from)))))) (map (column (inside v (tables_of (map marking.chain (map m_chain (map (λ z. z.0) from))))).seen) group ++ ((m_cond having.0).marks (inside v (tables_of (map marking.chain (map m_chain (map (λ z. z.0) from))))))) (after (chains_marks v (calls_of (tables_of (map marking.chain (map m_chain (map (λ z. z.0) from))))) [] (map marking.chain (map m_chain (map (λ z. z.0) from)))) ((m_cond filter.0).marks (inside v (tables_of (map marking.chain (map m_chain (map (λ z. z.0) from))))) ++ (map (column (inside v (tables_of (map marking.chain (map m_chain (map (λ z. z.0) from))))).seen) group ++ ((m_cond having.0).marks (inside v (tables_of (map marking.chain (map m_chain (map (λ z. z.0) from)))))))) (after (of_each marking.item (map m_item (map (λ z. z.0) items)) (inside v (tables_of (map marking.chain (map m_chain (map (λ z. z.0) from)))))) (chains_marks v (calls_of (tables_of (map marking.chain (map m_chain (map (λ z. z.0) from))))) [] (map marking.chain (map m_chain (map (λ z. z.0) from))) ++ ((m_cond filter.0).marks (inside v (tables_of (map marking.chain (map m_chain (map (λ z. z.0) from))))) ++ (map (column (inside v (tables_of (map marking.chain (map m_chain (map (λ z. z.0) from))))).seen) group ++ ((m_cond having.0).marks (inside v (tables_of (map marking.chain (map m_chain (map (λ z. z.0) from))))))))) k)))) (Some (t_cond having.0)) (Some (t_cond ((c_cond having.0).at (inside v (tables_of (map marking.chain (map m_chain (map (λ z. z.0) from))))).seen))) (having.1 (inside v (tables_of (map marking.chain (map m_chain (map (λ z. z.0) from))))) (inside w (tables_of (map marking.chain (map m_chain (map (λ z. z.0) from))))) (inside_like v w (tables_of (map marking.chain (map m_chain (map (λ z. z.0) from)))) s) (after (map (column (inside v (tables_of (map marking.chain (map m_chain (map (λ z. z.0) from))))).seen) group) ((m_cond having.0).marks (inside v (tables_of (map marking.chain (map m_chain (map (λ z. z.0) from)))))) (after ((m_cond filter.0).marks (inside v (tables_of (map marking.chain (map m_chain (map (λ z. z.0) from)))))) (map (column (inside v (tables_of (map marking.chain (map m_chain (map (λ z. z.0) from))))).seen) group ++ ((m_cond having.0).marks (inside v (tables_of (map marking.chain (map m_chain (map (λ z. z.0) from))))))) (after (chains_marks v (calls_of (tables_of (map marking.chain (map m_chain (map (λ z. z.0) from))))) [] (map marking.chain (map m_chain (map (λ z. z.0) from)))) ((m_cond filter.0).marks (inside v (tables_of (map marking.chain (map m_chain (map (λ z. z.0) from))))) ++ (map (column (inside v (tables_of (map marking.chain (map m_chain (map (λ z. z.0) from))))).seen) group ++ ((m_cond having.0).marks (inside v (tables_of (map marking.chain (map m_chain (map (λ z. z.0) from)))))))) (after (of_each marking.item (map m_item (map (λ z. z.0) items)) (inside v (tables_of (map marking.chain (map m_chain (map (λ z. z.0) from)))))) (chains_marks v (calls_of (tables_of (map marking.chain (map m_chain (map (λ z. z.0) from))))) [] (map marking.chain (map m_chain (map (λ z. z.0) from))) ++ ((m_cond filter.0).marks (inside v (tables_of (map marking.chain (map m_chain (map (λ z. z.0) from))))) ++ (map (column (inside v (tables_of (map marking.chain (map m_chain (map (λ z. z.0) from))))).seen) group ++ ((m_cond having.0).marks (inside v (tables_of (map marking.chain (map m_chain (map (λ z. z.0) from))))))))) k))))) (tables_path (map (λ z. z.0) from)) (tables_path (map (λ c. c.chain v.seen) (map c_chain (map (λ z. z.0) from))) ∙ sym (forms_tables (map (λ z. z.0) from) v w s)))

  signed_good : (y : Goods layers.Signed-F) → GoodSigned (roll-Signed (down_signed y))
  signed_good y = λ v w s h. let k : AllApart ((m_expr y.part.0).marks v) = subst AllApart (ap (λ m. m.marks v) (signed_roll marked mark_steps (record { minus = y.minus; part = y.part.0 }))) h in along (l.SameMeans v w) _ (signed_step (record { minus = y.minus; part = (t_expr y.part.0) })) _ (signed_step (record { minus = y.minus; part = (t_expr ((c_expr y.part.0).at v.seen)) })) (signed_roll typing (steps C) (record { minus = y.minus; part = y.part.0 })) (ap (λ z. t_signed (z.at v.seen)) (signed_roll qualifying (qualify_steps C) (record { minus = y.minus; part = y.part.0 })) ∙ signed_roll typing (steps C) (record { minus = y.minus; part = ((c_expr y.part.0).at v.seen) })) ((y.part.1 v w s k))

  pub same_cond : (x : Cond) → GoodCond x
  same_cond = ind-Cond GoodCond GoodExpr GoodItem GoodJoin GoodArm GoodChain GoodChoice GoodQuery GoodSigned (λ x y is. subst (λ z. GoodCond (roll-Cond z)) is (cond_good y)) (λ x y is. subst (λ z. GoodExpr (roll-Expr z)) is (expr_good y)) (λ x y is. subst (λ z. GoodItem (roll-Item z)) is (item_good y)) (λ x y is. subst (λ z. GoodJoin (roll-Join z)) is (join_good y)) (λ x y is. subst (λ z. GoodArm (roll-Arm z)) is (arm_good y)) (λ x y is. subst (λ z. GoodChain (roll-Chain z)) is (chain_good y)) (λ x y is. subst (λ z. GoodChoice (roll-Choice z)) is (choice_good y)) (λ x y is. subst (λ z. GoodQuery (roll-Query z)) is (query_good y.distinct y.items y.from y.filter y.group y.having)) (λ x y is. subst (λ z. GoodSigned (roll-Signed z)) is (signed_good y))

  pub same_expr : (x : Expr) → GoodExpr x
  same_expr = ind-Expr GoodCond GoodExpr GoodItem GoodJoin GoodArm GoodChain GoodChoice GoodQuery GoodSigned (λ x y is. subst (λ z. GoodCond (roll-Cond z)) is (cond_good y)) (λ x y is. subst (λ z. GoodExpr (roll-Expr z)) is (expr_good y)) (λ x y is. subst (λ z. GoodItem (roll-Item z)) is (item_good y)) (λ x y is. subst (λ z. GoodJoin (roll-Join z)) is (join_good y)) (λ x y is. subst (λ z. GoodArm (roll-Arm z)) is (arm_good y)) (λ x y is. subst (λ z. GoodChain (roll-Chain z)) is (chain_good y)) (λ x y is. subst (λ z. GoodChoice (roll-Choice z)) is (choice_good y)) (λ x y is. subst (λ z. GoodQuery (roll-Query z)) is (query_good y.distinct y.items y.from y.filter y.group y.having)) (λ x y is. subst (λ z. GoodSigned (roll-Signed z)) is (signed_good y))

-- What a tree's marks ask of a catalogue is what the tree mentions. tools/names-inductions writes this file.
use Rattle.std.proofs.Common.{ℕ, ◌≡◌, ap, sym, subst, List, [], ◌∷◌, ◌++◌, Bool, Option, Some, None, map}
use Rattle.lb_tree.specs.declared.query.Cond.{Cond}
use Rattle.lb_tree.specs.declared.query.Expr.{Expr}
use Rattle.lb_tree.specs.declared.query.Item.{Item}
use Rattle.lb_tree.specs.declared.query.Join.{Join}
use Rattle.lb_tree.specs.declared.query.Arm.{Arm}
use Rattle.lb_tree.specs.declared.query.Chain.{Chain}
use Rattle.lb_tree.specs.declared.query.Choice.{Choice}
use Rattle.lb_tree.specs.declared.query.Query.{Query}
use Rattle.lb_tree.specs.declared.query.Signed.{Signed}
use Rattle.lb_tree.specs.declared.query.Atom.{Atom}
use Rattle.lb_tree.specs.declared.query.Atom.TheVariants as atoms
use Rattle.lb_tree.specs.declared.query.Column.{Column}
use Rattle.lb_tree.specs.declared.query.Tab.{Tab}
use Rattle.lb_tree.specs.declared.query.Cond.TheOpen as layers
use Rattle.lb_tree.specs.declared.query.Cond.TheViews.{roll-Cond, roll-Expr, roll-Item, roll-Join, roll-Arm, roll-Chain, roll-Choice, roll-Query, roll-Signed}
use Rattle.lb_tree.specs.declared.query.Cond.TheFolds.{map-Cond, map-Expr, map-Item, map-Join, map-Arm, map-Chain, map-Choice, map-Query, map-Signed, ind-Cond, ind-Expr, ind-Chain, ind-Query}
use Rattle.lb_tree.specs.Folds.{Written}
use Rattle.lb_tree.proofs.Opens.{cond_roll, expr_roll, item_roll, join_roll, arm_roll, chain_roll, choice_roll, query_roll, signed_roll}
use Rattle.lb_names.specs.declared.place.Seen.{Seen}
use Rattle.lb_names.specs.Sights.{Name, correlation, calls_of, level_in, at_level, Sight, inside, inside_on}
use Rattle.lb_names.specs.Marks.{Mark, enter, item, column, star, call, Marks, Marked, JoinMarks, ChainMarks, marked, marking, mark_steps, of_each, tables_of, tables_of_chain, joins_marks, chains_marks, atom_marks}
use Rattle.lb_names.specs.Mentions.{Mention, Mentions, table, mention_in, all_of, if_given, in_atom, naming, naming_steps}
use Rattle.std.specs.Option.{option_map}
use Rattle.lb_tree.specs.declared.query.Cond.TheViews.{out-Query}
use Rattle.lb_tree.proofs.Opens.{query_out}
use Rattle.lb_names.specs.Scopes.{Catalogue}
use Rattle.lb_names.specs.Agreeing.{Agree, AgreeOn}
use Rattle.lb_names.proofs.Mentioned.{m_cond, n_cond, m_expr, n_expr, m_item, n_item, m_join, n_join, m_arm, n_arm, m_chain, n_chain, m_choice, n_choice, m_query, n_query, m_signed, n_signed}

module _ (C D : Catalogue) where
  -- every item in sight has the same columns in both
  abbrev pub SeenAgree : List Seen → Type 0
  SeenAgree [] = Unit {0}
  SeenAgree (s ∷ seen) = (C.columns s.tab.table ≡ D.columns s.tab.table) × SeenAgree seen

  abbrev pub TabsAgree : List Tab → Type 0
  TabsAgree [] = Unit {0}
  TabsAgree (tab ∷ tabs) = (C.columns tab.table ≡ D.columns tab.table) × TabsAgree tabs

  abbrev pub CallAgrees : Option Mention → Type 0
  CallAgrees None = Unit {0}
  CallAgrees (Some m) = Agree C D m

  -- what a mark asks of a catalogue is the same in both
  abbrev pub MarkAgrees : Mark → Type 0
  MarkAgrees (enter items) = Unit {0}
  MarkAgrees (item before around tab) = C.columns tab.table ≡ D.columns tab.table
  MarkAgrees (column seen c) = SeenAgree seen
  MarkAgrees (star items x) = Unit {0}
  MarkAgrees (call a) = CallAgrees (mention_in a)

  abbrev pub Every : Marks → Type 0
  Every [] = Unit {0}
  Every (m ∷ ms) = MarkAgrees m × Every ms

  abbrev pub JoinAgrees : JoinMarks → Type 0
  JoinAgrees j = (C.columns j.tab.table ≡ D.columns j.tab.table) × ((v : Sight) → SeenAgree v.seen → Every (j.on v))

  abbrev pub JoinsAgree : List JoinMarks → Type 0
  JoinsAgree [] = Unit {0}
  JoinsAgree (j ∷ js) = JoinAgrees j × JoinsAgree js

  abbrev pub ChainAgrees : ChainMarks → Type 0
  ChainAgrees ch = (C.columns ch.first.table ≡ D.columns ch.first.table) × JoinsAgree ch.joins

  abbrev pub ChainsAgree : List ChainMarks → Type 0
  ChainsAgree [] = Unit {0}
  ChainsAgree (ch ∷ chains) = ChainAgrees ch × ChainsAgree chains

  pub front : (xs ys : Mentions) → AgreeOn C D (xs ++ ys) → AgreeOn C D xs
  front [] ys h = tt
  front (x ∷ xs) ys h = (h.0, front xs ys h.1)

  pub back : (xs ys : Mentions) → AgreeOn C D (xs ++ ys) → AgreeOn C D ys
  back [] ys h = h
  back (x ∷ xs) ys h = back xs ys h.1

  pub both : (xs ys : Marks) → Every xs → Every ys → Every (xs ++ ys)
  both [] ys h k = k
  both (x ∷ xs) ys h k = (h.0, both xs ys h.1 k)

  pub tabs_both : (xs ys : List Tab) → TabsAgree xs → TabsAgree ys → TabsAgree (xs ++ ys)
  tabs_both [] ys h k = k
  tabs_both (x ∷ xs) ys h k = (h.0, tabs_both xs ys h.1 k)

  pub seen_before : (n : ℕ) (tabs : List Tab) (seen : List Seen) → TabsAgree tabs → SeenAgree seen → SeenAgree (map (at_level n) tabs ++ seen)
  seen_before n [] seen h s = s
  seen_before n (tab ∷ tabs) seen h s = (h.0, seen_before n tabs seen h.1 s)

  pub seen_inside : (v : Sight) (tabs : List Tab) → TabsAgree tabs → SeenAgree v.seen → SeenAgree (inside v tabs).seen
  seen_inside v tabs h s = seen_before (level_in v.seen) tabs v.seen h s

  pub tabs_of_joins : (js : List JoinMarks) → JoinsAgree js → TabsAgree (map (λ j. j.tab) js)
  tabs_of_joins [] h = tt
  tabs_of_joins (j ∷ js) h = (h.0.0, tabs_of_joins js h.1)

  pub tables_agree : (chains : List ChainMarks) → ChainsAgree chains → TabsAgree (tables_of chains)
  tables_agree [] h = tt
  tables_agree (ch ∷ chains) h = tabs_both (tables_of_chain ch) (tables_of chains) (h.0.0, tabs_of_joins ch.joins h.0.1) (tables_agree chains h.1)

  joins_sighted : (js : List JoinMarks) → JoinsAgree js → (v : Sight) → SeenAgree v.seen → (all before : List Name) (tabs : List Tab) → TabsAgree tabs → Every (joins_marks v all before tabs js)
  joins_sighted [] h v s all before tabs t = tt
  joins_sighted (j ∷ js) h v s all before tabs t =
      let more : TabsAgree (tabs ++ j.tab ∷ []) = tabs_both tabs (j.tab ∷ []) t (h.0.0, tt) in
      (h.0.0, both (j.on (inside_on v all (tabs ++ j.tab ∷ []))) (joins_marks v all (before ++ correlation j.tab ∷ []) (tabs ++ j.tab ∷ []) js) (h.0.1 (inside_on v all (tabs ++ j.tab ∷ [])) (seen_inside v (tabs ++ j.tab ∷ []) more s)) (joins_sighted js h.1 v s all (before ++ correlation j.tab ∷ []) (tabs ++ j.tab ∷ []) more))

  chains_sighted : (chains : List ChainMarks) → ChainsAgree chains → (v : Sight) → SeenAgree v.seen → (all before : List Name) → Every (chains_marks v all before chains)
  chains_sighted [] h v s all before = tt
  chains_sighted (ch ∷ chains) h v s all before = (h.0.0, both (joins_marks v all (before ++ correlation ch.first ∷ []) (ch.first ∷ []) ch.joins) (chains_marks v all (before ++ calls_of (tables_of_chain ch)) chains) (joins_sighted ch.joins h.0.1 v s all (before ++ correlation ch.first ∷ []) (ch.first ∷ []) (h.0.0, tt)) (chains_sighted chains h.1 v s all (before ++ calls_of (tables_of_chain ch))))

  columns_sighted : (seen : List Seen) → SeenAgree seen → (cs : List Column) → Every (map (column seen) cs)
  columns_sighted seen s [] = tt
  columns_sighted seen s (c ∷ cs) = (s, columns_sighted seen s cs)

  each : {X : Type 0} (F : X → Marked) (g : X → Mentions) (xs : List ((x : X) × (AgreeOn C D (g x) → (v : Sight) → SeenAgree v.seen → Every ((F x).marks v)))) → AgreeOn C D (all_of (map g (map (λ z. z.0) xs))) → (v : Sight) → SeenAgree v.seen → Every (of_each (λ m. m.marks) (map F (map (λ z. z.0) xs)) v)
  each F g [] h v s = tt
  each F g (x ∷ xs) h v s = both ((F x.0).marks v) (of_each (λ m. m.marks) (map F (map (λ z. z.0) xs)) v) (x.1 (front (g x.0) (all_of (map g (map (λ z. z.0) xs))) h) v s) (each F g xs (back (g x.0) (all_of (map g (map (λ z. z.0) xs))) h) v s)

  atom_sighted : (a : Atom) (v : Sight) → SeenAgree v.seen → AgreeOn C D (in_atom a) → Every (atom_marks a v)
  atom_sighted atoms.Null v s k = tt
  atom_sighted (atoms.Int p) v s k = tt
  atom_sighted (atoms.Text p) v s k = tt
  atom_sighted (atoms.Date p) v s k = tt
  atom_sighted atoms.CurrentDate v s k = tt
  atom_sighted atoms.SessionUser v s k = tt
  atom_sighted (atoms.Column p) v s k = (s, tt)
  atom_sighted atoms.CountRows v s k = tt
  atom_sighted (atoms.VerifyRole p) v s k = tt
  atom_sighted (atoms.VerifyGroup p) v s k = tt
  atom_sighted (atoms.SecLabel p q) v s k = (k.0, tt)
  atom_sighted (atoms.SecLabelByName p q) v s k = (k.0, tt)
  atom_sighted (atoms.SecLabelToChar p q) v s k = (k.0, (s, tt))

  abbrev GoodCond : Cond → Type 0
  GoodCond x = AgreeOn C D (n_cond x) → (v : Sight) → SeenAgree v.seen → Every ((m_cond x).marks v)

  abbrev WithCond : Type 0
  WithCond = (x : Cond) × GoodCond x

  abbrev GoodExpr : Expr → Type 0
  GoodExpr x = AgreeOn C D (n_expr x) → (v : Sight) → SeenAgree v.seen → Every ((m_expr x).marks v)

  abbrev WithExpr : Type 0
  WithExpr = (x : Expr) × GoodExpr x

  abbrev GoodItem : Item → Type 0
  GoodItem x = AgreeOn C D (n_item x) → (v : Sight) → SeenAgree v.seen → Every ((m_item x).marks v)

  abbrev WithItem : Type 0
  WithItem = (x : Item) × GoodItem x

  abbrev GoodJoin : Join → Type 0
  GoodJoin x = AgreeOn C D (n_join x) → JoinAgrees (m_join x)

  abbrev WithJoin : Type 0
  WithJoin = (x : Join) × GoodJoin x

  abbrev GoodArm : Arm → Type 0
  GoodArm x = AgreeOn C D (n_arm x) → (v : Sight) → SeenAgree v.seen → Every ((m_arm x).marks v)

  abbrev WithArm : Type 0
  WithArm = (x : Arm) × GoodArm x

  abbrev GoodChain : Chain → Type 0
  GoodChain x = AgreeOn C D (n_chain x) → ChainAgrees (m_chain x)

  abbrev WithChain : Type 0
  WithChain = (x : Chain) × GoodChain x

  abbrev GoodChoice : Choice → Type 0
  GoodChoice x = AgreeOn C D (n_choice x) → (v : Sight) → SeenAgree v.seen → Every ((m_choice x).marks v)

  abbrev WithChoice : Type 0
  WithChoice = (x : Choice) × GoodChoice x

  abbrev GoodQuery : Query → Type 0
  GoodQuery x = AgreeOn C D (n_query x) → (v : Sight) → SeenAgree v.seen → Every ((m_query x).marks v)

  abbrev WithQuery : Type 0
  WithQuery = (x : Query) × GoodQuery x

  abbrev GoodSigned : Signed → Type 0
  GoodSigned x = AgreeOn C D (n_signed x) → (v : Sight) → SeenAgree v.seen → Every ((m_signed x).marks v)

  abbrev WithSigned : Type 0
  WithSigned = (x : Signed) × GoodSigned x

  -- a layer whose parts have their facts
  abbrev Goods : (Type 0 → Type 0 → Type 0 → Type 0 → Type 0 → Type 0 → Type 0 → Type 0 → Type 0 → Type 0) → Type 0
  Goods F = F WithCond WithExpr WithItem WithJoin WithArm WithChain WithChoice WithQuery WithSigned

  abbrev down_cond : Goods layers.Cond-F → Written layers.Cond-F
  down_cond = map-Cond WithCond WithExpr WithItem WithJoin WithArm WithChain WithChoice WithQuery WithSigned Cond Expr Item Join Arm Chain Choice Query Signed (λ z. z.0) (λ z. z.0) (λ z. z.0) (λ z. z.0) (λ z. z.0) (λ z. z.0) (λ z. z.0) (λ z. z.0) (λ z. z.0)

  abbrev down_expr : Goods layers.Expr-F → Written layers.Expr-F
  down_expr = map-Expr WithCond WithExpr WithItem WithJoin WithArm WithChain WithChoice WithQuery WithSigned Cond Expr Item Join Arm Chain Choice Query Signed (λ z. z.0) (λ z. z.0) (λ z. z.0) (λ z. z.0) (λ z. z.0) (λ z. z.0) (λ z. z.0) (λ z. z.0) (λ z. z.0)

  abbrev down_item : Goods layers.Item-F → Written layers.Item-F
  down_item = map-Item WithCond WithExpr WithItem WithJoin WithArm WithChain WithChoice WithQuery WithSigned Cond Expr Item Join Arm Chain Choice Query Signed (λ z. z.0) (λ z. z.0) (λ z. z.0) (λ z. z.0) (λ z. z.0) (λ z. z.0) (λ z. z.0) (λ z. z.0) (λ z. z.0)

  abbrev down_join : Goods layers.Join-F → Written layers.Join-F
  down_join = map-Join WithCond WithExpr WithItem WithJoin WithArm WithChain WithChoice WithQuery WithSigned Cond Expr Item Join Arm Chain Choice Query Signed (λ z. z.0) (λ z. z.0) (λ z. z.0) (λ z. z.0) (λ z. z.0) (λ z. z.0) (λ z. z.0) (λ z. z.0) (λ z. z.0)

  abbrev down_arm : Goods layers.Arm-F → Written layers.Arm-F
  down_arm = map-Arm WithCond WithExpr WithItem WithJoin WithArm WithChain WithChoice WithQuery WithSigned Cond Expr Item Join Arm Chain Choice Query Signed (λ z. z.0) (λ z. z.0) (λ z. z.0) (λ z. z.0) (λ z. z.0) (λ z. z.0) (λ z. z.0) (λ z. z.0) (λ z. z.0)

  abbrev down_chain : Goods layers.Chain-F → Written layers.Chain-F
  down_chain = map-Chain WithCond WithExpr WithItem WithJoin WithArm WithChain WithChoice WithQuery WithSigned Cond Expr Item Join Arm Chain Choice Query Signed (λ z. z.0) (λ z. z.0) (λ z. z.0) (λ z. z.0) (λ z. z.0) (λ z. z.0) (λ z. z.0) (λ z. z.0) (λ z. z.0)

  abbrev down_choice : Goods layers.Choice-F → Written layers.Choice-F
  down_choice = map-Choice WithCond WithExpr WithItem WithJoin WithArm WithChain WithChoice WithQuery WithSigned Cond Expr Item Join Arm Chain Choice Query Signed (λ z. z.0) (λ z. z.0) (λ z. z.0) (λ z. z.0) (λ z. z.0) (λ z. z.0) (λ z. z.0) (λ z. z.0) (λ z. z.0)

  abbrev down_query : Goods layers.Query-F → Written layers.Query-F
  down_query = map-Query WithCond WithExpr WithItem WithJoin WithArm WithChain WithChoice WithQuery WithSigned Cond Expr Item Join Arm Chain Choice Query Signed (λ z. z.0) (λ z. z.0) (λ z. z.0) (λ z. z.0) (λ z. z.0) (λ z. z.0) (λ z. z.0) (λ z. z.0) (λ z. z.0)

  abbrev down_signed : Goods layers.Signed-F → Written layers.Signed-F
  down_signed = map-Signed WithCond WithExpr WithItem WithJoin WithArm WithChain WithChoice WithQuery WithSigned Cond Expr Item Join Arm Chain Choice Query Signed (λ z. z.0) (λ z. z.0) (λ z. z.0) (λ z. z.0) (λ z. z.0) (λ z. z.0) (λ z. z.0) (λ z. z.0) (λ z. z.0)

  joins_agree : (js : List WithJoin) → AgreeOn C D (all_of (map n_join (map (λ z. z.0) js))) → JoinsAgree (map marking.join (map m_join (map (λ z. z.0) js)))
  joins_agree [] h = tt
  joins_agree (j ∷ js) h = (j.1 (front (n_join j.0) (all_of (map n_join (map (λ z. z.0) js))) h), joins_agree js (back (n_join j.0) (all_of (map n_join (map (λ z. z.0) js))) h))

  chains_agree : (cs : List WithChain) → AgreeOn C D (all_of (map n_chain (map (λ z. z.0) cs))) → ChainsAgree (map marking.chain (map m_chain (map (λ z. z.0) cs)))
  chains_agree [] h = tt
  chains_agree (c ∷ cs) h = (c.1 (front (n_chain c.0) (all_of (map n_chain (map (λ z. z.0) cs))) h), chains_agree cs (back (n_chain c.0) (all_of (map n_chain (map (λ z. z.0) cs))) h))

  cond_good : (y : Goods layers.Cond-F) → GoodCond (roll-Cond (down_cond y))
  cond_good (layers.Cond-F.Or a) = λ h v s. let k : AgreeOn C D (all_of (map n_cond (map (λ z. z.0) a))) = subst (AgreeOn C D) (cond_roll naming naming_steps (layers.Cond-F.Or (map (λ z. z.0) a))) h in subst Every (ap (λ m. m.marks v) (sym (cond_roll marked mark_steps (layers.Cond-F.Or (map (λ z. z.0) a))))) (each m_cond n_cond a k v s)
  cond_good (layers.Cond-F.And a) = λ h v s. let k : AgreeOn C D (all_of (map n_cond (map (λ z. z.0) a))) = subst (AgreeOn C D) (cond_roll naming naming_steps (layers.Cond-F.And (map (λ z. z.0) a))) h in subst Every (ap (λ m. m.marks v) (sym (cond_roll marked mark_steps (layers.Cond-F.And (map (λ z. z.0) a))))) (each m_cond n_cond a k v s)
  cond_good (layers.Cond-F.Not a) = λ h v s. let k : AgreeOn C D (n_cond a.0) = subst (AgreeOn C D) (cond_roll naming naming_steps (layers.Cond-F.Not a.0)) h in subst Every (ap (λ m. m.marks v) (sym (cond_roll marked mark_steps (layers.Cond-F.Not a.0)))) (a.1 k v s)
  cond_good (layers.Cond-F.Exists a) = λ h v s. let k : AgreeOn C D (n_query a.0) = subst (AgreeOn C D) (cond_roll naming naming_steps (layers.Cond-F.Exists a.0)) h in subst Every (ap (λ m. m.marks v) (sym (cond_roll marked mark_steps (layers.Cond-F.Exists a.0)))) (a.1 k v s)
  cond_good (layers.Cond-F.Compare a b c) = λ h v s. let k : AgreeOn C D (n_expr b.0 ++ (n_expr c.0)) = subst (AgreeOn C D) (cond_roll naming naming_steps (layers.Cond-F.Compare a b.0 c.0)) h in subst Every (ap (λ m. m.marks v) (sym (cond_roll marked mark_steps (layers.Cond-F.Compare a b.0 c.0)))) (both ((m_expr b.0).marks v) ((m_expr c.0).marks v) (b.1 (front (n_expr b.0) (n_expr c.0) k) v s) (c.1 (back (n_expr b.0) (n_expr c.0) k) v s))
  cond_good (layers.Cond-F.CompareQuery a b c) = λ h v s. let k : AgreeOn C D (n_expr b.0 ++ (n_query c.0)) = subst (AgreeOn C D) (cond_roll naming naming_steps (layers.Cond-F.CompareQuery a b.0 c.0)) h in subst Every (ap (λ m. m.marks v) (sym (cond_roll marked mark_steps (layers.Cond-F.CompareQuery a b.0 c.0)))) (both ((m_expr b.0).marks v) ((m_query c.0).marks v) (b.1 (front (n_expr b.0) (n_query c.0) k) v s) (c.1 (back (n_expr b.0) (n_query c.0) k) v s))
  cond_good (layers.Cond-F.IsNull a) = λ h v s. let k : AgreeOn C D (n_expr a.0) = subst (AgreeOn C D) (cond_roll naming naming_steps (layers.Cond-F.IsNull a.0)) h in subst Every (ap (λ m. m.marks v) (sym (cond_roll marked mark_steps (layers.Cond-F.IsNull a.0)))) (a.1 k v s)
  cond_good (layers.Cond-F.InQuery a b) = λ h v s. let k : AgreeOn C D (n_expr a.0 ++ (n_query b.0)) = subst (AgreeOn C D) (cond_roll naming naming_steps (layers.Cond-F.InQuery a.0 b.0)) h in subst Every (ap (λ m. m.marks v) (sym (cond_roll marked mark_steps (layers.Cond-F.InQuery a.0 b.0)))) (both ((m_expr a.0).marks v) ((m_query b.0).marks v) (a.1 (front (n_expr a.0) (n_query b.0) k) v s) (b.1 (back (n_expr a.0) (n_query b.0) k) v s))
  cond_good (layers.Cond-F.InList a b) = λ h v s. let k : AgreeOn C D (n_expr a.0 ++ (all_of (map n_expr (map (λ z. z.0) b)))) = subst (AgreeOn C D) (cond_roll naming naming_steps (layers.Cond-F.InList a.0 (map (λ z. z.0) b))) h in subst Every (ap (λ m. m.marks v) (sym (cond_roll marked mark_steps (layers.Cond-F.InList a.0 (map (λ z. z.0) b))))) (both ((m_expr a.0).marks v) (of_each marking.expr (map m_expr (map (λ z. z.0) b)) v) (a.1 (front (n_expr a.0) (all_of (map n_expr (map (λ z. z.0) b))) k) v s) (each m_expr n_expr b (back (n_expr a.0) (all_of (map n_expr (map (λ z. z.0) b))) k) v s))
  cond_good (layers.Cond-F.Between a b c) = λ h v s. let k : AgreeOn C D (n_expr a.0 ++ (n_expr b.0 ++ (n_expr c.0))) = subst (AgreeOn C D) (cond_roll naming naming_steps (layers.Cond-F.Between a.0 b.0 c.0)) h in subst Every (ap (λ m. m.marks v) (sym (cond_roll marked mark_steps (layers.Cond-F.Between a.0 b.0 c.0)))) (both ((m_expr a.0).marks v) ((m_expr b.0).marks v ++ ((m_expr c.0).marks v)) (a.1 (front (n_expr a.0) (n_expr b.0 ++ (n_expr c.0)) k) v s) (both ((m_expr b.0).marks v) ((m_expr c.0).marks v) (b.1 (front (n_expr b.0) (n_expr c.0) (back (n_expr a.0) (n_expr b.0 ++ (n_expr c.0)) k)) v s) (c.1 (back (n_expr b.0) (n_expr c.0) (back (n_expr a.0) (n_expr b.0 ++ (n_expr c.0)) k)) v s)))

  expr_good : (y : Goods layers.Expr-F) → GoodExpr (roll-Expr (down_expr y))
  expr_good (layers.Expr-F.Atom a) = λ h v s. let k : AgreeOn C D (in_atom a) = subst (AgreeOn C D) (expr_roll naming naming_steps (layers.Expr-F.Atom a)) h in subst Every (ap (λ m. m.marks v) (sym (expr_roll marked mark_steps (layers.Expr-F.Atom a)))) (atom_sighted a v s k)
  expr_good (layers.Expr-F.Sum a) = λ h v s. let k : AgreeOn C D (all_of (map n_signed (map (λ z. z.0) a))) = subst (AgreeOn C D) (expr_roll naming naming_steps (layers.Expr-F.Sum (map (λ z. z.0) a))) h in subst Every (ap (λ m. m.marks v) (sym (expr_roll marked mark_steps (layers.Expr-F.Sum (map (λ z. z.0) a))))) (each m_signed n_signed a k v s)
  expr_good (layers.Expr-F.Concat a) = λ h v s. let k : AgreeOn C D (all_of (map n_expr (map (λ z. z.0) a))) = subst (AgreeOn C D) (expr_roll naming naming_steps (layers.Expr-F.Concat (map (λ z. z.0) a))) h in subst Every (ap (λ m. m.marks v) (sym (expr_roll marked mark_steps (layers.Expr-F.Concat (map (λ z. z.0) a))))) (each m_expr n_expr a k v s)
  expr_good (layers.Expr-F.Product a) = λ h v s. let k : AgreeOn C D (all_of (map n_expr (map (λ z. z.0) a))) = subst (AgreeOn C D) (expr_roll naming naming_steps (layers.Expr-F.Product (map (λ z. z.0) a))) h in subst Every (ap (λ m. m.marks v) (sym (expr_roll marked mark_steps (layers.Expr-F.Product (map (λ z. z.0) a))))) (each m_expr n_expr a k v s)
  expr_good (layers.Expr-F.Case a None) = λ h v s. let k : AgreeOn C D (all_of (map n_arm (map (λ z. z.0) a)) ++ ([])) = subst (AgreeOn C D) (expr_roll naming naming_steps (layers.Expr-F.Case (map (λ z. z.0) a) None)) h in subst Every (ap (λ m. m.marks v) (sym (expr_roll marked mark_steps (layers.Expr-F.Case (map (λ z. z.0) a) None)))) (both (of_each marking.arm (map m_arm (map (λ z. z.0) a)) v) ([]) (each m_arm n_arm a (front (all_of (map n_arm (map (λ z. z.0) a))) ([]) k) v s) (tt))
  expr_good (layers.Expr-F.Case a (Some b)) = λ h v s. let k : AgreeOn C D (all_of (map n_arm (map (λ z. z.0) a)) ++ (n_expr b.0)) = subst (AgreeOn C D) (expr_roll naming naming_steps (layers.Expr-F.Case (map (λ z. z.0) a) (Some b.0))) h in subst Every (ap (λ m. m.marks v) (sym (expr_roll marked mark_steps (layers.Expr-F.Case (map (λ z. z.0) a) (Some b.0))))) (both (of_each marking.arm (map m_arm (map (λ z. z.0) a)) v) ((m_expr b.0).marks v) (each m_arm n_arm a (front (all_of (map n_arm (map (λ z. z.0) a))) (n_expr b.0) k) v s) (b.1 (back (all_of (map n_arm (map (λ z. z.0) a))) (n_expr b.0) k) v s))
  expr_good (layers.Expr-F.Match a b None) = λ h v s. let k : AgreeOn C D (n_expr a.0 ++ (all_of (map n_choice (map (λ z. z.0) b)) ++ ([]))) = subst (AgreeOn C D) (expr_roll naming naming_steps (layers.Expr-F.Match a.0 (map (λ z. z.0) b) None)) h in subst Every (ap (λ m. m.marks v) (sym (expr_roll marked mark_steps (layers.Expr-F.Match a.0 (map (λ z. z.0) b) None)))) (both ((m_expr a.0).marks v) (of_each marking.choice (map m_choice (map (λ z. z.0) b)) v ++ ([])) (a.1 (front (n_expr a.0) (all_of (map n_choice (map (λ z. z.0) b)) ++ ([])) k) v s) (both (of_each marking.choice (map m_choice (map (λ z. z.0) b)) v) ([]) (each m_choice n_choice b (front (all_of (map n_choice (map (λ z. z.0) b))) ([]) (back (n_expr a.0) (all_of (map n_choice (map (λ z. z.0) b)) ++ ([])) k)) v s) (tt)))
  expr_good (layers.Expr-F.Match a b (Some c)) = λ h v s. let k : AgreeOn C D (n_expr a.0 ++ (all_of (map n_choice (map (λ z. z.0) b)) ++ (n_expr c.0))) = subst (AgreeOn C D) (expr_roll naming naming_steps (layers.Expr-F.Match a.0 (map (λ z. z.0) b) (Some c.0))) h in subst Every (ap (λ m. m.marks v) (sym (expr_roll marked mark_steps (layers.Expr-F.Match a.0 (map (λ z. z.0) b) (Some c.0))))) (both ((m_expr a.0).marks v) (of_each marking.choice (map m_choice (map (λ z. z.0) b)) v ++ ((m_expr c.0).marks v)) (a.1 (front (n_expr a.0) (all_of (map n_choice (map (λ z. z.0) b)) ++ (n_expr c.0)) k) v s) (both (of_each marking.choice (map m_choice (map (λ z. z.0) b)) v) ((m_expr c.0).marks v) (each m_choice n_choice b (front (all_of (map n_choice (map (λ z. z.0) b))) (n_expr c.0) (back (n_expr a.0) (all_of (map n_choice (map (λ z. z.0) b)) ++ (n_expr c.0)) k)) v s) (c.1 (back (all_of (map n_choice (map (λ z. z.0) b))) (n_expr c.0) (back (n_expr a.0) (all_of (map n_choice (map (λ z. z.0) b)) ++ (n_expr c.0)) k)) v s)))
  expr_good (layers.Expr-F.Aggregate a b) = λ h v s. let k : AgreeOn C D (n_expr b.0) = subst (AgreeOn C D) (expr_roll naming naming_steps (layers.Expr-F.Aggregate a b.0)) h in subst Every (ap (λ m. m.marks v) (sym (expr_roll marked mark_steps (layers.Expr-F.Aggregate a b.0)))) (b.1 k v s)
  expr_good (layers.Expr-F.Substr a b None) = λ h v s. let k : AgreeOn C D (n_expr a.0 ++ (n_expr b.0 ++ ([]))) = subst (AgreeOn C D) (expr_roll naming naming_steps (layers.Expr-F.Substr a.0 b.0 None)) h in subst Every (ap (λ m. m.marks v) (sym (expr_roll marked mark_steps (layers.Expr-F.Substr a.0 b.0 None)))) (both ((m_expr a.0).marks v) ((m_expr b.0).marks v ++ ([])) (a.1 (front (n_expr a.0) (n_expr b.0 ++ ([])) k) v s) (both ((m_expr b.0).marks v) ([]) (b.1 (front (n_expr b.0) ([]) (back (n_expr a.0) (n_expr b.0 ++ ([])) k)) v s) (tt)))
  expr_good (layers.Expr-F.Substr a b (Some c)) = λ h v s. let k : AgreeOn C D (n_expr a.0 ++ (n_expr b.0 ++ (n_expr c.0))) = subst (AgreeOn C D) (expr_roll naming naming_steps (layers.Expr-F.Substr a.0 b.0 (Some c.0))) h in subst Every (ap (λ m. m.marks v) (sym (expr_roll marked mark_steps (layers.Expr-F.Substr a.0 b.0 (Some c.0))))) (both ((m_expr a.0).marks v) ((m_expr b.0).marks v ++ ((m_expr c.0).marks v)) (a.1 (front (n_expr a.0) (n_expr b.0 ++ (n_expr c.0)) k) v s) (both ((m_expr b.0).marks v) ((m_expr c.0).marks v) (b.1 (front (n_expr b.0) (n_expr c.0) (back (n_expr a.0) (n_expr b.0 ++ (n_expr c.0)) k)) v s) (c.1 (back (n_expr b.0) (n_expr c.0) (back (n_expr a.0) (n_expr b.0 ++ (n_expr c.0)) k)) v s)))
  expr_good (layers.Expr-F.Apply a b) = λ h v s. let k : AgreeOn C D (n_expr b.0) = subst (AgreeOn C D) (expr_roll naming naming_steps (layers.Expr-F.Apply a b.0)) h in subst Every (ap (λ m. m.marks v) (sym (expr_roll marked mark_steps (layers.Expr-F.Apply a b.0)))) (b.1 k v s)
  expr_good (layers.Expr-F.Coalesce a) = λ h v s. let k : AgreeOn C D (all_of (map n_expr (map (λ z. z.0) a))) = subst (AgreeOn C D) (expr_roll naming naming_steps (layers.Expr-F.Coalesce (map (λ z. z.0) a))) h in subst Every (ap (λ m. m.marks v) (sym (expr_roll marked mark_steps (layers.Expr-F.Coalesce (map (λ z. z.0) a))))) (each m_expr n_expr a k v s)

  item_good : (y : Goods layers.Item-F) → GoodItem (roll-Item (down_item y))
  item_good layers.Item-F.Everything = λ h v s. let k : AgreeOn C D ([]) = subst (AgreeOn C D) (item_roll naming naming_steps layers.Item-F.Everything) h in subst Every (ap (λ m. m.marks v) (sym (item_roll marked mark_steps layers.Item-F.Everything))) ((tt, tt))
  item_good (layers.Item-F.AllOf a) = λ h v s. let k : AgreeOn C D ([]) = subst (AgreeOn C D) (item_roll naming naming_steps (layers.Item-F.AllOf a)) h in subst Every (ap (λ m. m.marks v) (sym (item_roll marked mark_steps (layers.Item-F.AllOf a)))) ((tt, tt))
  item_good (layers.Item-F.Value a b) = λ h v s. let k : AgreeOn C D (n_expr a.0) = subst (AgreeOn C D) (item_roll naming naming_steps (layers.Item-F.Value a.0 b)) h in subst Every (ap (λ m. m.marks v) (sym (item_roll marked mark_steps (layers.Item-F.Value a.0 b)))) (a.1 k v s)

  join_good : (y : Goods layers.Join-F) → GoodJoin (roll-Join (down_join y))
  join_good (layers.Join-F.Inner a b) = λ h. let k : AgreeOn C D (table a.table ∷ n_cond b.0) = subst (AgreeOn C D) (join_roll naming naming_steps (layers.Join-F.Inner a b.0)) h in subst JoinAgrees (sym (join_roll marked mark_steps (layers.Join-F.Inner a b.0))) (k.0, λ v s. b.1 k.1 v s)
  join_good (layers.Join-F.Left a b) = λ h. let k : AgreeOn C D (table a.table ∷ n_cond b.0) = subst (AgreeOn C D) (join_roll naming naming_steps (layers.Join-F.Left a b.0)) h in subst JoinAgrees (sym (join_roll marked mark_steps (layers.Join-F.Left a b.0))) (k.0, λ v s. b.1 k.1 v s)
  join_good (layers.Join-F.Cross a) = λ h. let k : AgreeOn C D (table a.table ∷ []) = subst (AgreeOn C D) (join_roll naming naming_steps (layers.Join-F.Cross a)) h in subst JoinAgrees (sym (join_roll marked mark_steps (layers.Join-F.Cross a))) (k.0, λ v s. tt)

  arm_good : (y : Goods layers.Arm-F) → GoodArm (roll-Arm (down_arm y))
  arm_good y = λ h v s. let k : AgreeOn C D (n_cond y.when.0 ++ (n_expr y.result.0)) = subst (AgreeOn C D) (arm_roll naming naming_steps (record { when = y.when.0; result = y.result.0 })) h in subst Every (ap (λ m. m.marks v) (sym (arm_roll marked mark_steps (record { when = y.when.0; result = y.result.0 })))) (both ((m_cond y.when.0).marks v) ((m_expr y.result.0).marks v) (y.when.1 (front (n_cond y.when.0) (n_expr y.result.0) k) v s) (y.result.1 (back (n_cond y.when.0) (n_expr y.result.0) k) v s))

  chain_good : (y : Goods layers.Chain-F) → GoodChain (roll-Chain (down_chain y))
  chain_good y = λ h. let k : AgreeOn C D (table y.first.table ∷ all_of (map n_join (map (λ z. z.0) y.joins))) = subst (AgreeOn C D) (chain_roll naming naming_steps (record { first = y.first; joins = (map (λ z. z.0) y.joins) })) h in subst ChainAgrees (sym (chain_roll marked mark_steps (record { first = y.first; joins = (map (λ z. z.0) y.joins) }))) (k.0, joins_agree y.joins k.1)

  choice_good : (y : Goods layers.Choice-F) → GoodChoice (roll-Choice (down_choice y))
  choice_good y = λ h v s. let k : AgreeOn C D (n_expr y.when.0 ++ (n_expr y.result.0)) = subst (AgreeOn C D) (choice_roll naming naming_steps (record { when = y.when.0; result = y.result.0 })) h in subst Every (ap (λ m. m.marks v) (sym (choice_roll marked mark_steps (record { when = y.when.0; result = y.result.0 })))) (both ((m_expr y.when.0).marks v) ((m_expr y.result.0).marks v) (y.when.1 (front (n_expr y.when.0) (n_expr y.result.0) k) v s) (y.result.1 (back (n_expr y.when.0) (n_expr y.result.0) k) v s))

  query_good : (distinct : Bool) (items : List WithItem) (from : List WithChain) (filter : Option WithCond) (group : List Column) (having : Option WithCond)
      → GoodQuery (roll-Query (down_query (record { distinct = distinct; items = items; from = from; filter = filter; group = group; having = having })))
  query_good distinct items from None group None = λ h v s. let k : AgreeOn C D (all_of (map n_item (map (λ z. z.0) items)) ++ (all_of (map n_chain (map (λ z. z.0) from)) ++ ([] ++ ([])))) = subst (AgreeOn C D) (query_roll naming naming_steps (record { distinct = distinct; items = (map (λ z. z.0) items); from = (map (λ z. z.0) from); filter = None; group = group; having = None })) h in subst Every (ap (λ m. m.marks v) (sym (query_roll marked mark_steps (record { distinct = distinct; items = (map (λ z. z.0) items); from = (map (λ z. z.0) from); filter = None; group = group; having = None })))) (let c : ChainsAgree (map marking.chain (map m_chain (map (λ z. z.0) from))) = chains_agree from (front (all_of (map n_chain (map (λ z. z.0) from))) ([] ++ ([])) (back (all_of (map n_item (map (λ z. z.0) items))) (all_of (map n_chain (map (λ z. z.0) from)) ++ ([] ++ ([]))) k)) in let seen : SeenAgree (inside v (tables_of (map marking.chain (map m_chain (map (λ z. z.0) from))))).seen = seen_inside v (tables_of (map marking.chain (map m_chain (map (λ z. z.0) from)))) (tables_agree (map marking.chain (map m_chain (map (λ z. z.0) from))) c) s in (tt, both (of_each marking.item (map m_item (map (λ z. z.0) items)) (inside v (tables_of (map marking.chain (map m_chain (map (λ z. z.0) from)))))) (chains_marks v (calls_of (tables_of (map marking.chain (map m_chain (map (λ z. z.0) from))))) [] (map marking.chain (map m_chain (map (λ z. z.0) from))) ++ ([] ++ (map (column (inside v (tables_of (map marking.chain (map m_chain (map (λ z. z.0) from))))).seen) group ++ ([])))) (each m_item n_item items (front (all_of (map n_item (map (λ z. z.0) items))) (all_of (map n_chain (map (λ z. z.0) from)) ++ ([] ++ ([]))) k) (inside v (tables_of (map marking.chain (map m_chain (map (λ z. z.0) from))))) seen) (both (chains_marks v (calls_of (tables_of (map marking.chain (map m_chain (map (λ z. z.0) from))))) [] (map marking.chain (map m_chain (map (λ z. z.0) from)))) ([] ++ (map (column (inside v (tables_of (map marking.chain (map m_chain (map (λ z. z.0) from))))).seen) group ++ ([]))) (chains_sighted (map marking.chain (map m_chain (map (λ z. z.0) from))) c v s (calls_of (tables_of (map marking.chain (map m_chain (map (λ z. z.0) from))))) []) (both ([]) (map (column (inside v (tables_of (map marking.chain (map m_chain (map (λ z. z.0) from))))).seen) group ++ ([])) (tt) (both (map (column (inside v (tables_of (map marking.chain (map m_chain (map (λ z. z.0) from))))).seen) group) ([]) (columns_sighted (inside v (tables_of (map marking.chain (map m_chain (map (λ z. z.0) from))))).seen seen group) (tt))))))
  query_good distinct items from None group (Some having) = λ h v s. let k : AgreeOn C D (all_of (map n_item (map (λ z. z.0) items)) ++ (all_of (map n_chain (map (λ z. z.0) from)) ++ ([] ++ (n_cond having.0)))) = subst (AgreeOn C D) (query_roll naming naming_steps (record { distinct = distinct; items = (map (λ z. z.0) items); from = (map (λ z. z.0) from); filter = None; group = group; having = (Some having.0) })) h in subst Every (ap (λ m. m.marks v) (sym (query_roll marked mark_steps (record { distinct = distinct; items = (map (λ z. z.0) items); from = (map (λ z. z.0) from); filter = None; group = group; having = (Some having.0) })))) (let c : ChainsAgree (map marking.chain (map m_chain (map (λ z. z.0) from))) = chains_agree from (front (all_of (map n_chain (map (λ z. z.0) from))) ([] ++ (n_cond having.0)) (back (all_of (map n_item (map (λ z. z.0) items))) (all_of (map n_chain (map (λ z. z.0) from)) ++ ([] ++ (n_cond having.0))) k)) in let seen : SeenAgree (inside v (tables_of (map marking.chain (map m_chain (map (λ z. z.0) from))))).seen = seen_inside v (tables_of (map marking.chain (map m_chain (map (λ z. z.0) from)))) (tables_agree (map marking.chain (map m_chain (map (λ z. z.0) from))) c) s in (tt, both (of_each marking.item (map m_item (map (λ z. z.0) items)) (inside v (tables_of (map marking.chain (map m_chain (map (λ z. z.0) from)))))) (chains_marks v (calls_of (tables_of (map marking.chain (map m_chain (map (λ z. z.0) from))))) [] (map marking.chain (map m_chain (map (λ z. z.0) from))) ++ ([] ++ (map (column (inside v (tables_of (map marking.chain (map m_chain (map (λ z. z.0) from))))).seen) group ++ ((m_cond having.0).marks (inside v (tables_of (map marking.chain (map m_chain (map (λ z. z.0) from))))))))) (each m_item n_item items (front (all_of (map n_item (map (λ z. z.0) items))) (all_of (map n_chain (map (λ z. z.0) from)) ++ ([] ++ (n_cond having.0))) k) (inside v (tables_of (map marking.chain (map m_chain (map (λ z. z.0) from))))) seen) (both (chains_marks v (calls_of (tables_of (map marking.chain (map m_chain (map (λ z. z.0) from))))) [] (map marking.chain (map m_chain (map (λ z. z.0) from)))) ([] ++ (map (column (inside v (tables_of (map marking.chain (map m_chain (map (λ z. z.0) from))))).seen) group ++ ((m_cond having.0).marks (inside v (tables_of (map marking.chain (map m_chain (map (λ z. z.0) from)))))))) (chains_sighted (map marking.chain (map m_chain (map (λ z. z.0) from))) c v s (calls_of (tables_of (map marking.chain (map m_chain (map (λ z. z.0) from))))) []) (both ([]) (map (column (inside v (tables_of (map marking.chain (map m_chain (map (λ z. z.0) from))))).seen) group ++ ((m_cond having.0).marks (inside v (tables_of (map marking.chain (map m_chain (map (λ z. z.0) from))))))) (tt) (both (map (column (inside v (tables_of (map marking.chain (map m_chain (map (λ z. z.0) from))))).seen) group) ((m_cond having.0).marks (inside v (tables_of (map marking.chain (map m_chain (map (λ z. z.0) from)))))) (columns_sighted (inside v (tables_of (map marking.chain (map m_chain (map (λ z. z.0) from))))).seen seen group) (having.1 (back ([]) (n_cond having.0) (back (all_of (map n_chain (map (λ z. z.0) from))) ([] ++ (n_cond having.0)) (back (all_of (map n_item (map (λ z. z.0) items))) (all_of (map n_chain (map (λ z. z.0) from)) ++ ([] ++ (n_cond having.0))) k))) (inside v (tables_of (map marking.chain (map m_chain (map (λ z. z.0) from))))) seen))))))
  query_good distinct items from (Some filter) group None = λ h v s. let k : AgreeOn C D (all_of (map n_item (map (λ z. z.0) items)) ++ (all_of (map n_chain (map (λ z. z.0) from)) ++ (n_cond filter.0 ++ ([])))) = subst (AgreeOn C D) (query_roll naming naming_steps (record { distinct = distinct; items = (map (λ z. z.0) items); from = (map (λ z. z.0) from); filter = (Some filter.0); group = group; having = None })) h in subst Every (ap (λ m. m.marks v) (sym (query_roll marked mark_steps (record { distinct = distinct; items = (map (λ z. z.0) items); from = (map (λ z. z.0) from); filter = (Some filter.0); group = group; having = None })))) (let c : ChainsAgree (map marking.chain (map m_chain (map (λ z. z.0) from))) = chains_agree from (front (all_of (map n_chain (map (λ z. z.0) from))) (n_cond filter.0 ++ ([])) (back (all_of (map n_item (map (λ z. z.0) items))) (all_of (map n_chain (map (λ z. z.0) from)) ++ (n_cond filter.0 ++ ([]))) k)) in let seen : SeenAgree (inside v (tables_of (map marking.chain (map m_chain (map (λ z. z.0) from))))).seen = seen_inside v (tables_of (map marking.chain (map m_chain (map (λ z. z.0) from)))) (tables_agree (map marking.chain (map m_chain (map (λ z. z.0) from))) c) s in (tt, both (of_each marking.item (map m_item (map (λ z. z.0) items)) (inside v (tables_of (map marking.chain (map m_chain (map (λ z. z.0) from)))))) (chains_marks v (calls_of (tables_of (map marking.chain (map m_chain (map (λ z. z.0) from))))) [] (map marking.chain (map m_chain (map (λ z. z.0) from))) ++ ((m_cond filter.0).marks (inside v (tables_of (map marking.chain (map m_chain (map (λ z. z.0) from))))) ++ (map (column (inside v (tables_of (map marking.chain (map m_chain (map (λ z. z.0) from))))).seen) group ++ ([])))) (each m_item n_item items (front (all_of (map n_item (map (λ z. z.0) items))) (all_of (map n_chain (map (λ z. z.0) from)) ++ (n_cond filter.0 ++ ([]))) k) (inside v (tables_of (map marking.chain (map m_chain (map (λ z. z.0) from))))) seen) (both (chains_marks v (calls_of (tables_of (map marking.chain (map m_chain (map (λ z. z.0) from))))) [] (map marking.chain (map m_chain (map (λ z. z.0) from)))) ((m_cond filter.0).marks (inside v (tables_of (map marking.chain (map m_chain (map (λ z. z.0) from))))) ++ (map (column (inside v (tables_of (map marking.chain (map m_chain (map (λ z. z.0) from))))).seen) group ++ ([]))) (chains_sighted (map marking.chain (map m_chain (map (λ z. z.0) from))) c v s (calls_of (tables_of (map marking.chain (map m_chain (map (λ z. z.0) from))))) []) (both ((m_cond filter.0).marks (inside v (tables_of (map marking.chain (map m_chain (map (λ z. z.0) from)))))) (map (column (inside v (tables_of (map marking.chain (map m_chain (map (λ z. z.0) from))))).seen) group ++ ([])) (filter.1 (front (n_cond filter.0) ([]) (back (all_of (map n_chain (map (λ z. z.0) from))) (n_cond filter.0 ++ ([])) (back (all_of (map n_item (map (λ z. z.0) items))) (all_of (map n_chain (map (λ z. z.0) from)) ++ (n_cond filter.0 ++ ([]))) k))) (inside v (tables_of (map marking.chain (map m_chain (map (λ z. z.0) from))))) seen) (both (map (column (inside v (tables_of (map marking.chain (map m_chain (map (λ z. z.0) from))))).seen) group) ([]) (columns_sighted (inside v (tables_of (map marking.chain (map m_chain (map (λ z. z.0) from))))).seen seen group) (tt))))))
  query_good distinct items from (Some filter) group (Some having) = λ h v s. let k : AgreeOn C D (all_of (map n_item (map (λ z. z.0) items)) ++ (all_of (map n_chain (map (λ z. z.0) from)) ++ (n_cond filter.0 ++ (n_cond having.0)))) = subst (AgreeOn C D) (query_roll naming naming_steps (record { distinct = distinct; items = (map (λ z. z.0) items); from = (map (λ z. z.0) from); filter = (Some filter.0); group = group; having = (Some having.0) })) h in subst Every (ap (λ m. m.marks v) (sym (query_roll marked mark_steps (record { distinct = distinct; items = (map (λ z. z.0) items); from = (map (λ z. z.0) from); filter = (Some filter.0); group = group; having = (Some having.0) })))) (let c : ChainsAgree (map marking.chain (map m_chain (map (λ z. z.0) from))) = chains_agree from (front (all_of (map n_chain (map (λ z. z.0) from))) (n_cond filter.0 ++ (n_cond having.0)) (back (all_of (map n_item (map (λ z. z.0) items))) (all_of (map n_chain (map (λ z. z.0) from)) ++ (n_cond filter.0 ++ (n_cond having.0))) k)) in let seen : SeenAgree (inside v (tables_of (map marking.chain (map m_chain (map (λ z. z.0) from))))).seen = seen_inside v (tables_of (map marking.chain (map m_chain (map (λ z. z.0) from)))) (tables_agree (map marking.chain (map m_chain (map (λ z. z.0) from))) c) s in (tt, both (of_each marking.item (map m_item (map (λ z. z.0) items)) (inside v (tables_of (map marking.chain (map m_chain (map (λ z. z.0) from)))))) (chains_marks v (calls_of (tables_of (map marking.chain (map m_chain (map (λ z. z.0) from))))) [] (map marking.chain (map m_chain (map (λ z. z.0) from))) ++ ((m_cond filter.0).marks (inside v (tables_of (map marking.chain (map m_chain (map (λ z. z.0) from))))) ++ (map (column (inside v (tables_of (map marking.chain (map m_chain (map (λ z. z.0) from))))).seen) group ++ ((m_cond having.0).marks (inside v (tables_of (map marking.chain (map m_chain (map (λ z. z.0) from))))))))) (each m_item n_item items (front (all_of (map n_item (map (λ z. z.0) items))) (all_of (map n_chain (map (λ z. z.0) from)) ++ (n_cond filter.0 ++ (n_cond having.0))) k) (inside v (tables_of (map marking.chain (map m_chain (map (λ z. z.0) from))))) seen) (both (chains_marks v (calls_of (tables_of (map marking.chain (map m_chain (map (λ z. z.0) from))))) [] (map marking.chain (map m_chain (map (λ z. z.0) from)))) ((m_cond filter.0).marks (inside v (tables_of (map marking.chain (map m_chain (map (λ z. z.0) from))))) ++ (map (column (inside v (tables_of (map marking.chain (map m_chain (map (λ z. z.0) from))))).seen) group ++ ((m_cond having.0).marks (inside v (tables_of (map marking.chain (map m_chain (map (λ z. z.0) from)))))))) (chains_sighted (map marking.chain (map m_chain (map (λ z. z.0) from))) c v s (calls_of (tables_of (map marking.chain (map m_chain (map (λ z. z.0) from))))) []) (both ((m_cond filter.0).marks (inside v (tables_of (map marking.chain (map m_chain (map (λ z. z.0) from)))))) (map (column (inside v (tables_of (map marking.chain (map m_chain (map (λ z. z.0) from))))).seen) group ++ ((m_cond having.0).marks (inside v (tables_of (map marking.chain (map m_chain (map (λ z. z.0) from))))))) (filter.1 (front (n_cond filter.0) (n_cond having.0) (back (all_of (map n_chain (map (λ z. z.0) from))) (n_cond filter.0 ++ (n_cond having.0)) (back (all_of (map n_item (map (λ z. z.0) items))) (all_of (map n_chain (map (λ z. z.0) from)) ++ (n_cond filter.0 ++ (n_cond having.0))) k))) (inside v (tables_of (map marking.chain (map m_chain (map (λ z. z.0) from))))) seen) (both (map (column (inside v (tables_of (map marking.chain (map m_chain (map (λ z. z.0) from))))).seen) group) ((m_cond having.0).marks (inside v (tables_of (map marking.chain (map m_chain (map (λ z. z.0) from)))))) (columns_sighted (inside v (tables_of (map marking.chain (map m_chain (map (λ z. z.0) from))))).seen seen group) (having.1 (back (n_cond filter.0) (n_cond having.0) (back (all_of (map n_chain (map (λ z. z.0) from))) (n_cond filter.0 ++ (n_cond having.0)) (back (all_of (map n_item (map (λ z. z.0) items))) (all_of (map n_chain (map (λ z. z.0) from)) ++ (n_cond filter.0 ++ (n_cond having.0))) k))) (inside v (tables_of (map marking.chain (map m_chain (map (λ z. z.0) from))))) seen))))))

  signed_good : (y : Goods layers.Signed-F) → GoodSigned (roll-Signed (down_signed y))
  signed_good y = λ h v s. let k : AgreeOn C D (n_expr y.part.0) = subst (AgreeOn C D) (signed_roll naming naming_steps (record { minus = y.minus; part = y.part.0 })) h in subst Every (ap (λ m. m.marks v) (sym (signed_roll marked mark_steps (record { minus = y.minus; part = y.part.0 })))) (y.part.1 k v s)

  pub sighted_cond : (x : Cond) → GoodCond x
  sighted_cond = ind-Cond GoodCond GoodExpr GoodItem GoodJoin GoodArm GoodChain GoodChoice GoodQuery GoodSigned (λ x y is. subst (λ z. GoodCond (roll-Cond z)) is (cond_good y)) (λ x y is. subst (λ z. GoodExpr (roll-Expr z)) is (expr_good y)) (λ x y is. subst (λ z. GoodItem (roll-Item z)) is (item_good y)) (λ x y is. subst (λ z. GoodJoin (roll-Join z)) is (join_good y)) (λ x y is. subst (λ z. GoodArm (roll-Arm z)) is (arm_good y)) (λ x y is. subst (λ z. GoodChain (roll-Chain z)) is (chain_good y)) (λ x y is. subst (λ z. GoodChoice (roll-Choice z)) is (choice_good y)) (λ x y is. subst (λ z. GoodQuery (roll-Query z)) is (query_good y.distinct y.items y.from y.filter y.group y.having)) (λ x y is. subst (λ z. GoodSigned (roll-Signed z)) is (signed_good y))

  pub sighted_expr : (x : Expr) → GoodExpr x
  sighted_expr = ind-Expr GoodCond GoodExpr GoodItem GoodJoin GoodArm GoodChain GoodChoice GoodQuery GoodSigned (λ x y is. subst (λ z. GoodCond (roll-Cond z)) is (cond_good y)) (λ x y is. subst (λ z. GoodExpr (roll-Expr z)) is (expr_good y)) (λ x y is. subst (λ z. GoodItem (roll-Item z)) is (item_good y)) (λ x y is. subst (λ z. GoodJoin (roll-Join z)) is (join_good y)) (λ x y is. subst (λ z. GoodArm (roll-Arm z)) is (arm_good y)) (λ x y is. subst (λ z. GoodChain (roll-Chain z)) is (chain_good y)) (λ x y is. subst (λ z. GoodChoice (roll-Choice z)) is (choice_good y)) (λ x y is. subst (λ z. GoodQuery (roll-Query z)) is (query_good y.distinct y.items y.from y.filter y.group y.having)) (λ x y is. subst (λ z. GoodSigned (roll-Signed z)) is (signed_good y))

  pub sighted_chain : (x : Chain) → GoodChain x
  sighted_chain = ind-Chain GoodCond GoodExpr GoodItem GoodJoin GoodArm GoodChain GoodChoice GoodQuery GoodSigned (λ x y is. subst (λ z. GoodCond (roll-Cond z)) is (cond_good y)) (λ x y is. subst (λ z. GoodExpr (roll-Expr z)) is (expr_good y)) (λ x y is. subst (λ z. GoodItem (roll-Item z)) is (item_good y)) (λ x y is. subst (λ z. GoodJoin (roll-Join z)) is (join_good y)) (λ x y is. subst (λ z. GoodArm (roll-Arm z)) is (arm_good y)) (λ x y is. subst (λ z. GoodChain (roll-Chain z)) is (chain_good y)) (λ x y is. subst (λ z. GoodChoice (roll-Choice z)) is (choice_good y)) (λ x y is. subst (λ z. GoodQuery (roll-Query z)) is (query_good y.distinct y.items y.from y.filter y.group y.having)) (λ x y is. subst (λ z. GoodSigned (roll-Signed z)) is (signed_good y))

  pub sighted_query : (x : Query) → GoodQuery x
  sighted_query = ind-Query GoodCond GoodExpr GoodItem GoodJoin GoodArm GoodChain GoodChoice GoodQuery GoodSigned (λ x y is. subst (λ z. GoodCond (roll-Cond z)) is (cond_good y)) (λ x y is. subst (λ z. GoodExpr (roll-Expr z)) is (expr_good y)) (λ x y is. subst (λ z. GoodItem (roll-Item z)) is (item_good y)) (λ x y is. subst (λ z. GoodJoin (roll-Join z)) is (join_good y)) (λ x y is. subst (λ z. GoodArm (roll-Arm z)) is (arm_good y)) (λ x y is. subst (λ z. GoodChain (roll-Chain z)) is (chain_good y)) (λ x y is. subst (λ z. GoodChoice (roll-Choice z)) is (choice_good y)) (λ x y is. subst (λ z. GoodQuery (roll-Query z)) is (query_good y.distinct y.items y.from y.filter y.group y.having)) (λ x y is. subst (λ z. GoodSigned (roll-Signed z)) is (signed_good y))

  pub from_chains : (cs : List Chain) → AgreeOn C D (all_of (map n_chain cs)) → ChainsAgree (map m_chain cs)
  from_chains [] h = tt
  from_chains (c ∷ cs) h = (sighted_chain c (front (n_chain c) (all_of (map n_chain cs)) h), from_chains cs (back (n_chain c) (all_of (map n_chain cs)) h))

  -- the FROM items of a query are mentioned
  pub from_sighted : (q : Query) → AgreeOn C D (n_query q) → TabsAgree (tables_of (map m_chain (out-Query q).from))
  from_sighted q h =
      let k : AgreeOn C D (all_of (map n_item (out-Query q).items) ++ (all_of (map n_chain (out-Query q).from) ++ (if_given (option_map n_cond (out-Query q).filter) ++ if_given (option_map n_cond (out-Query q).having)))) = subst (AgreeOn C D) (query_out naming naming_steps q) h in
      tables_agree (map m_chain (out-Query q).from) (from_chains (out-Query q).from (front (all_of (map n_chain (out-Query q).from)) (if_given (option_map n_cond (out-Query q).filter) ++ if_given (option_map n_cond (out-Query q).having)) (back (all_of (map n_item (out-Query q).items)) (all_of (map n_chain (out-Query q).from) ++ (if_given (option_map n_cond (out-Query q).filter) ++ if_given (option_map n_cond (out-Query q).having))) k)))

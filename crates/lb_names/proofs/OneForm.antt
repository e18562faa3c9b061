-- Catalogues that agree on what a tree mentions give it one qualified form. tools/names-inductions writes this file.
use Rattle.std.proofs.Common.{◌≡◌, refl, ap, sym, subst, ◌∙◌, List, [], ◌∷◌, ◌++◌, Bool, Option, Some, None, map}
use Rattle.std.specs.List.{flat_map}
use Rattle.lb_tree.specs.declared.query.Cond.{Cond}
use Rattle.lb_tree.specs.declared.query.Expr.{Expr}
use Rattle.lb_tree.specs.declared.query.Item.{Item}
use Rattle.lb_tree.specs.declared.query.Join.{Join}
use Rattle.lb_tree.specs.declared.query.Arm.{Arm}
use Rattle.lb_tree.specs.declared.query.Chain.{Chain}
use Rattle.lb_tree.specs.declared.query.Choice.{Choice}
use Rattle.lb_tree.specs.declared.query.Query.{Query}
use Rattle.lb_tree.specs.declared.query.Signed.{Signed}
use Rattle.lb_tree.specs.declared.query.Atom.{Atom}
use Rattle.lb_tree.specs.declared.query.Atom.TheVariants as atoms
use Rattle.lb_tree.specs.declared.query.Column.{Column}
use Rattle.lb_tree.specs.declared.query.Tab.{Tab}
use Rattle.lb_tree.specs.declared.query.Cond.TheOpen as layers
use Rattle.lb_tree.specs.declared.query.Cond.TheViews.{roll-Cond, roll-Expr, roll-Item, roll-Join, roll-Arm, roll-Chain, roll-Choice, roll-Query, roll-Signed}
use Rattle.lb_tree.specs.declared.query.Cond.TheFolds.{map-Cond, map-Expr, map-Item, map-Join, map-Arm, map-Chain, map-Choice, map-Query, map-Signed, ind-Cond, ind-Expr}
use Rattle.lb_tree.specs.Folds.{Written, cond_of, expr_of, item_of, join_of, arm_of, chain_of, choice_of, query_of, signed_of}
use Rattle.lb_tree.proofs.Opens.{cond_roll, expr_roll, item_roll, join_roll, arm_roll, chain_roll, choice_roll, query_roll, signed_roll}
use Rattle.lb_names.specs.declared.place.Seen.{Seen}
use Rattle.lb_names.specs.Sights.{level_in, items_in}
use Rattle.lb_names.specs.Mentions.{Mentions, table, all_of, naming, naming_steps}
use Rattle.lb_names.specs.Scopes.{Catalogue}
use Rattle.lb_names.specs.Qualify.{by_item, with_item, atom_in, In, JoinIn, ChainIn, qualifying, qualify_steps, all_at, join_in, joins_in, chain_in, query_in, seen_in}
use Rattle.lb_names.specs.Agreeing.{AgreeOn}
use Rattle.lb_names.proofs.NamesFrame.{resolve_same}
use Rattle.lb_names.proofs.Sighted as s
use Rattle.lb_names.proofs.Mentioned.{n_cond, n_expr, n_item, n_join, n_arm, n_chain, n_choice, n_query, n_signed}

module _ (C D : Catalogue) where
  abbrev c_cond : Cond → In Cond
  c_cond = cond_of qualifying (qualify_steps C)

  abbrev d_cond : Cond → In Cond
  d_cond = cond_of qualifying (qualify_steps D)

  abbrev c_expr : Expr → In Expr
  c_expr = expr_of qualifying (qualify_steps C)

  abbrev d_expr : Expr → In Expr
  d_expr = expr_of qualifying (qualify_steps D)

  abbrev c_item : Item → In Item
  c_item = item_of qualifying (qualify_steps C)

  abbrev d_item : Item → In Item
  d_item = item_of qualifying (qualify_steps D)

  abbrev c_join : Join → JoinIn
  c_join = join_of qualifying (qualify_steps C)

  abbrev d_join : Join → JoinIn
  d_join = join_of qualifying (qualify_steps D)

  abbrev c_arm : Arm → In Arm
  c_arm = arm_of qualifying (qualify_steps C)

  abbrev d_arm : Arm → In Arm
  d_arm = arm_of qualifying (qualify_steps D)

  abbrev c_chain : Chain → ChainIn
  c_chain = chain_of qualifying (qualify_steps C)

  abbrev d_chain : Chain → ChainIn
  d_chain = chain_of qualifying (qualify_steps D)

  abbrev c_choice : Choice → In Choice
  c_choice = choice_of qualifying (qualify_steps C)

  abbrev d_choice : Choice → In Choice
  d_choice = choice_of qualifying (qualify_steps D)

  abbrev c_query : Query → In Query
  c_query = query_of qualifying (qualify_steps C)

  abbrev d_query : Query → In Query
  d_query = query_of qualifying (qualify_steps D)

  abbrev c_signed : Signed → In Signed
  c_signed = signed_of qualifying (qualify_steps C)

  abbrev d_signed : Signed → In Signed
  d_signed = signed_of qualifying (qualify_steps D)

  abbrev JoinSame : JoinIn → JoinIn → Type 0
  JoinSame a b = (a.tab ≡ b.tab) × ((C.columns a.tab.table ≡ D.columns a.tab.table) × ((seen : List Seen) → s.SeenAgree C D seen → a.join seen ≡ b.join seen))

  abbrev ChainSame : ChainIn → ChainIn → Type 0
  ChainSame a b = (a.tabs ≡ b.tabs) × (s.TabsAgree C D a.tabs × ((outer : List Seen) → s.SeenAgree C D outer → a.chain outer ≡ b.chain outer))

  along : {A B : Type 0} (R : A → B → Type 0) (a c : A) (b d : B) → a ≡ c → b ≡ d → R c d → R a b
  along R a c b d p q h = subst (λ z. R z b) (sym p) (subst (λ z. R c z) (sym q) h)

  map_same : {A B : Type 0} (f g : A → B) → ((x : A) → f x ≡ g x) → (xs : List A) → map f xs ≡ map g xs
  map_same f g same [] = refl
  map_same f g same (x ∷ xs) = λ i. same x i ∷ map_same f g same xs i

  with_item_same : (seen : List Seen) → s.SeenAgree C D seen → (c : Column) → with_item C seen c ≡ with_item D seen c
  with_item_same seen v c = ap (by_item c) (resolve_same C D seen v c)

  each : {X Y : Type 0} (F G : X → In Y) (g : X → Mentions) (xs : List ((x : X) × (AgreeOn C D (g x) → (seen : List Seen) → s.SeenAgree C D seen → (F x).at seen ≡ (G x).at seen))) → AgreeOn C D (all_of (map g (map (λ z. z.0) xs))) → (seen : List Seen) → s.SeenAgree C D seen → all_at seen (map F (map (λ z. z.0) xs)) ≡ all_at seen (map G (map (λ z. z.0) xs))
  each F G g [] h seen v = refl
  each F G g (x ∷ xs) h seen v = λ i. x.1 (s.front C D (g x.0) (all_of (map g (map (λ z. z.0) xs))) h) seen v i ∷ each F G g xs (s.back C D (g x.0) (all_of (map g (map (λ z. z.0) xs))) h) seen v i

  atom_same : (a : Atom) (seen : List Seen) → s.SeenAgree C D seen → atom_in C seen a ≡ atom_in D seen a
  atom_same atoms.Null seen v = refl
  atom_same (atoms.Int p) seen v = refl
  atom_same (atoms.Text p) seen v = refl
  atom_same (atoms.Date p) seen v = refl
  atom_same atoms.CurrentDate seen v = refl
  atom_same atoms.SessionUser seen v = refl
  atom_same (atoms.Column p) seen v = ap atoms.Column (with_item_same seen v p)
  atom_same atoms.CountRows seen v = refl
  atom_same (atoms.VerifyRole p) seen v = refl
  atom_same (atoms.VerifyGroup p) seen v = refl
  atom_same (atoms.SecLabel p q) seen v = refl
  atom_same (atoms.SecLabelByName p q) seen v = refl
  atom_same (atoms.SecLabelToChar p q) seen v = ap (atoms.SecLabelToChar p) (with_item_same seen v q)

  abbrev GoodCond : Cond → Type 0
  GoodCond x = AgreeOn C D (n_cond x) → (seen : List Seen) → s.SeenAgree C D seen → (c_cond x).at seen ≡ (d_cond x).at seen

  abbrev WithCond : Type 0
  WithCond = (x : Cond) × GoodCond x

  abbrev GoodExpr : Expr → Type 0
  GoodExpr x = AgreeOn C D (n_expr x) → (seen : List Seen) → s.SeenAgree C D seen → (c_expr x).at seen ≡ (d_expr x).at seen

  abbrev WithExpr : Type 0
  WithExpr = (x : Expr) × GoodExpr x

  abbrev GoodItem : Item → Type 0
  GoodItem x = AgreeOn C D (n_item x) → (seen : List Seen) → s.SeenAgree C D seen → (c_item x).at seen ≡ (d_item x).at seen

  abbrev WithItem : Type 0
  WithItem = (x : Item) × GoodItem x

  abbrev GoodJoin : Join → Type 0
  GoodJoin x = AgreeOn C D (n_join x) → JoinSame (c_join x) (d_join x)

  abbrev WithJoin : Type 0
  WithJoin = (x : Join) × GoodJoin x

  abbrev GoodArm : Arm → Type 0
  GoodArm x = AgreeOn C D (n_arm x) → (seen : List Seen) → s.SeenAgree C D seen → (c_arm x).at seen ≡ (d_arm x).at seen

  abbrev WithArm : Type 0
  WithArm = (x : Arm) × GoodArm x

  abbrev GoodChain : Chain → Type 0
  GoodChain x = AgreeOn C D (n_chain x) → ChainSame (c_chain x) (d_chain x)

  abbrev WithChain : Type 0
  WithChain = (x : Chain) × GoodChain x

  abbrev GoodChoice : Choice → Type 0
  GoodChoice x = AgreeOn C D (n_choice x) → (seen : List Seen) → s.SeenAgree C D seen → (c_choice x).at seen ≡ (d_choice x).at seen

  abbrev WithChoice : Type 0
  WithChoice = (x : Choice) × GoodChoice x

  abbrev GoodQuery : Query → Type 0
  GoodQuery x = AgreeOn C D (n_query x) → (seen : List Seen) → s.SeenAgree C D seen → (c_query x).at seen ≡ (d_query x).at seen

  abbrev WithQuery : Type 0
  WithQuery = (x : Query) × GoodQuery x

  abbrev GoodSigned : Signed → Type 0
  GoodSigned x = AgreeOn C D (n_signed x) → (seen : List Seen) → s.SeenAgree C D seen → (c_signed x).at seen ≡ (d_signed x).at seen

  abbrev WithSigned : Type 0
  WithSigned = (x : Signed) × GoodSigned x

  -- a layer whose parts have their facts
  abbrev Goods : (Type 0 → Type 0 → Type 0 → Type 0 → Type 0 → Type 0 → Type 0 → Type 0 → Type 0 → Type 0) → Type 0
  Goods F = F WithCond WithExpr WithItem WithJoin WithArm WithChain WithChoice WithQuery WithSigned

  abbrev down_cond : Goods layers.Cond-F → Written layers.Cond-F
  down_cond = map-Cond WithCond WithExpr WithItem WithJoin WithArm WithChain WithChoice WithQuery WithSigned Cond Expr Item Join Arm Chain Choice Query Signed (λ z. z.0) (λ z. z.0) (λ z. z.0) (λ z. z.0) (λ z. z.0) (λ z. z.0) (λ z. z.0) (λ z. z.0) (λ z. z.0)

  abbrev down_expr : Goods layers.Expr-F → Written layers.Expr-F
  down_expr = map-Expr WithCond WithExpr WithItem WithJoin WithArm WithChain WithChoice WithQuery WithSigned Cond Expr Item Join Arm Chain Choice Query Signed (λ z. z.0) (λ z. z.0) (λ z. z.0) (λ z. z.0) (λ z. z.0) (λ z. z.0) (λ z. z.0) (λ z. z.0) (λ z. z.0)

  abbrev down_item : Goods layers.Item-F → Written layers.Item-F
  down_item = map-Item WithCond WithExpr WithItem WithJoin WithArm WithChain WithChoice WithQuery WithSigned Cond Expr Item Join Arm Chain Choice Query Signed (λ z. z.0) (λ z. z.0) (λ z. z.0) (λ z. z.0) (λ z. z.0) (λ z. z.0) (λ z. z.0) (λ z. z.0) (λ z. z.0)

  abbrev down_join : Goods layers.Join-F → Written layers.Join-F
  down_join = map-Join WithCond WithExpr WithItem WithJoin WithArm WithChain WithChoice WithQuery WithSigned Cond Expr Item Join Arm Chain Choice Query Signed (λ z. z.0) (λ z. z.0) (λ z. z.0) (λ z. z.0) (λ z. z.0) (λ z. z.0) (λ z. z.0) (λ z. z.0) (λ z. z.0)

  abbrev down_arm : Goods layers.Arm-F → Written layers.Arm-F
  down_arm = map-Arm WithCond WithExpr WithItem WithJoin WithArm WithChain WithChoice WithQuery WithSigned Cond Expr Item Join Arm Chain Choice Query Signed (λ z. z.0) (λ z. z.0) (λ z. z.0) (λ z. z.0) (λ z. z.0) (λ z. z.0) (λ z. z.0) (λ z. z.0) (λ z. z.0)

  abbrev down_chain : Goods layers.Chain-F → Written layers.Chain-F
  down_chain = map-Chain WithCond WithExpr WithItem WithJoin WithArm WithChain WithChoice WithQuery WithSigned Cond Expr Item Join Arm Chain Choice Query Signed (λ z. z.0) (λ z. z.0) (λ z. z.0) (λ z. z.0) (λ z. z.0) (λ z. z.0) (λ z. z.0) (λ z. z.0) (λ z. z.0)

  abbrev down_choice : Goods layers.Choice-F → Written layers.Choice-F
  down_choice = map-Choice WithCond WithExpr WithItem WithJoin WithArm WithChain WithChoice WithQuery WithSigned Cond Expr Item Join Arm Chain Choice Query Signed (λ z. z.0) (λ z. z.0) (λ z. z.0) (λ z. z.0) (λ z. z.0) (λ z. z.0) (λ z. z.0) (λ z. z.0) (λ z. z.0)

  abbrev down_query : Goods layers.Query-F → Written layers.Query-F
  down_query = map-Query WithCond WithExpr WithItem WithJoin WithArm WithChain WithChoice WithQuery WithSigned Cond Expr Item Join Arm Chain Choice Query Signed (λ z. z.0) (λ z. z.0) (λ z. z.0) (λ z. z.0) (λ z. z.0) (λ z. z.0) (λ z. z.0) (λ z. z.0) (λ z. z.0)

  abbrev down_signed : Goods layers.Signed-F → Written layers.Signed-F
  down_signed = map-Signed WithCond WithExpr WithItem WithJoin WithArm WithChain WithChoice WithQuery WithSigned Cond Expr Item Join Arm Chain Choice Query Signed (λ z. z.0) (λ z. z.0) (λ z. z.0) (λ z. z.0) (λ z. z.0) (λ z. z.0) (λ z. z.0) (λ z. z.0) (λ z. z.0)

  of_first : (j : WithJoin) (js : List WithJoin) → AgreeOn C D (all_of (map n_join (map (λ z. z.0) (j ∷ js)))) → JoinSame (c_join j.0) (d_join j.0)
  of_first j js h = j.1 (s.front C D (n_join j.0) (all_of (map n_join (map (λ z. z.0) js))) h)

  of_rest : (j : WithJoin) (js : List WithJoin) → AgreeOn C D (all_of (map n_join (map (λ z. z.0) (j ∷ js)))) → AgreeOn C D (all_of (map n_join (map (λ z. z.0) js)))
  of_rest j js h = s.back C D (n_join j.0) (all_of (map n_join (map (λ z. z.0) js))) h

  joins_tabs : (js : List WithJoin) → AgreeOn C D (all_of (map n_join (map (λ z. z.0) js))) → map (λ j. j.tab) (map c_join (map (λ z. z.0) js)) ≡ map (λ j. j.tab) (map d_join (map (λ z. z.0) js))
  joins_tabs [] h = refl
  joins_tabs (j ∷ js) h = λ i. (of_first j js h).0 i ∷ joins_tabs js (of_rest j js h) i

  joins_tabs_agree : (js : List WithJoin) → AgreeOn C D (all_of (map n_join (map (λ z. z.0) js))) → s.TabsAgree C D (map (λ j. j.tab) (map c_join (map (λ z. z.0) js)))
  joins_tabs_agree [] h = tt
  joins_tabs_agree (j ∷ js) h = ((of_first j js h).1.0, joins_tabs_agree js (of_rest j js h))

  joins_same : (js : List WithJoin) → AgreeOn C D (all_of (map n_join (map (λ z. z.0) js))) → (tabs : List Tab) → s.TabsAgree C D tabs → (outer : List Seen) → s.SeenAgree C D outer → joins_in tabs (map c_join (map (λ z. z.0) js)) outer ≡ joins_in tabs (map d_join (map (λ z. z.0) js)) outer
  joins_same [] h tabs a outer v = refl
  joins_same (j ∷ js) h tabs a outer v =
      let here : JoinSame (c_join j.0) (d_join j.0) = of_first j js h in
      let more : s.TabsAgree C D (tabs ++ (c_join j.0).tab ∷ []) = s.tabs_both C D tabs ((c_join j.0).tab ∷ []) a (here.1.0, tt) in
      (λ i. here.1.1 (items_in outer (tabs ++ (c_join j.0).tab ∷ []) ++ outer) (s.seen_before C D (level_in outer) (tabs ++ (c_join j.0).tab ∷ []) outer more v) i ∷ joins_same js (of_rest j js h) (tabs ++ (c_join j.0).tab ∷ []) more outer v i)
      ∙ (λ i. (d_join j.0).join (items_in outer (tabs ++ here.0 i ∷ []) ++ outer) ∷ joins_in (tabs ++ here.0 i ∷ []) (map d_join (map (λ z. z.0) js)) outer)

  first_chain : (c : WithChain) (cs : List WithChain) → AgreeOn C D (all_of (map n_chain (map (λ z. z.0) (c ∷ cs)))) → ChainSame (c_chain c.0) (d_chain c.0)
  first_chain c cs h = c.1 (s.front C D (n_chain c.0) (all_of (map n_chain (map (λ z. z.0) cs))) h)

  rest_chains : (c : WithChain) (cs : List WithChain) → AgreeOn C D (all_of (map n_chain (map (λ z. z.0) (c ∷ cs)))) → AgreeOn C D (all_of (map n_chain (map (λ z. z.0) cs)))
  rest_chains c cs h = s.back C D (n_chain c.0) (all_of (map n_chain (map (λ z. z.0) cs))) h

  chains_tabs : (cs : List WithChain) → AgreeOn C D (all_of (map n_chain (map (λ z. z.0) cs))) → flat_map (λ c. c.tabs) (map c_chain (map (λ z. z.0) cs)) ≡ flat_map (λ c. c.tabs) (map d_chain (map (λ z. z.0) cs))
  chains_tabs [] h = refl
  chains_tabs (c ∷ cs) h = λ i. (first_chain c cs h).0 i ++ chains_tabs cs (rest_chains c cs h) i

  chains_tabs_agree : (cs : List WithChain) → AgreeOn C D (all_of (map n_chain (map (λ z. z.0) cs))) → s.TabsAgree C D (flat_map (λ c. c.tabs) (map c_chain (map (λ z. z.0) cs)))
  chains_tabs_agree [] h = tt
  chains_tabs_agree (c ∷ cs) h = s.tabs_both C D (c_chain c.0).tabs (flat_map (λ c. c.tabs) (map c_chain (map (λ z. z.0) cs))) (first_chain c cs h).1.0 (chains_tabs_agree cs (rest_chains c cs h))

  chains_same : (cs : List WithChain) → AgreeOn C D (all_of (map n_chain (map (λ z. z.0) cs))) → (outer : List Seen) → s.SeenAgree C D outer → map (λ c. c.chain outer) (map c_chain (map (λ z. z.0) cs)) ≡ map (λ c. c.chain outer) (map d_chain (map (λ z. z.0) cs))
  chains_same [] h outer v = refl
  chains_same (c ∷ cs) h outer v = λ i. (first_chain c cs h).1.1 outer v i ∷ chains_same cs (rest_chains c cs h) outer v i

  cond_good : (y : Goods layers.Cond-F) → GoodCond (roll-Cond (down_cond y))
  cond_good (layers.Cond-F.Or a) = λ h seen v. let k : AgreeOn C D (all_of (map n_cond (map (λ z. z.0) a))) = subst (AgreeOn C D) (cond_roll naming naming_steps (layers.Cond-F.Or (map (λ z. z.0) a))) h in ap (λ x. x.at seen) (cond_roll qualifying (qualify_steps C) (layers.Cond-F.Or (map (λ z. z.0) a))) ∙ (λ i. roll-Cond (layers.Cond-F.Or (each c_cond d_cond n_cond a k seen v i))) ∙ sym (ap (λ x. x.at seen) (cond_roll qualifying (qualify_steps D) (layers.Cond-F.Or (map (λ z. z.0) a))))
  cond_good (layers.Cond-F.And a) = λ h seen v. let k : AgreeOn C D (all_of (map n_cond (map (λ z. z.0) a))) = subst (AgreeOn C D) (cond_roll naming naming_steps (layers.Cond-F.And (map (λ z. z.0) a))) h in ap (λ x. x.at seen) (cond_roll qualifying (qualify_steps C) (layers.Cond-F.And (map (λ z. z.0) a))) ∙ (λ i. roll-Cond (layers.Cond-F.And (each c_cond d_cond n_cond a k seen v i))) ∙ sym (ap (λ x. x.at seen) (cond_roll qualifying (qualify_steps D) (layers.Cond-F.And (map (λ z. z.0) a))))
  cond_good (layers.Cond-F.Not a) = λ h seen v. let k : AgreeOn C D (n_cond a.0) = subst (AgreeOn C D) (cond_roll naming naming_steps (layers.Cond-F.Not a.0)) h in ap (λ x. x.at seen) (cond_roll qualifying (qualify_steps C) (layers.Cond-F.Not a.0)) ∙ (λ i. roll-Cond (layers.Cond-F.Not (a.1 k seen v i))) ∙ sym (ap (λ x. x.at seen) (cond_roll qualifying (qualify_steps D) (layers.Cond-F.Not a.0)))
  cond_good (layers.Cond-F.Exists a) = λ h seen v. let k : AgreeOn C D (n_query a.0) = subst (AgreeOn C D) (cond_roll naming naming_steps (layers.Cond-F.Exists a.0)) h in ap (λ x. x.at seen) (cond_roll qualifying (qualify_steps C) (layers.Cond-F.Exists a.0)) ∙ (λ i. roll-Cond (layers.Cond-F.Exists (a.1 k seen v i))) ∙ sym (ap (λ x. x.at seen) (cond_roll qualifying (qualify_steps D) (layers.Cond-F.Exists a.0)))
  cond_good (layers.Cond-F.Compare a b c) = λ h seen v. let k : AgreeOn C D (n_expr b.0 ++ (n_expr c.0)) = subst (AgreeOn C D) (cond_roll naming naming_steps (layers.Cond-F.Compare a b.0 c.0)) h in ap (λ x. x.at seen) (cond_roll qualifying (qualify_steps C) (layers.Cond-F.Compare a b.0 c.0)) ∙ (λ i. roll-Cond (layers.Cond-F.Compare a (b.1 (s.front C D (n_expr b.0) (n_expr c.0) k) seen v i) (c.1 (s.back C D (n_expr b.0) (n_expr c.0) k) seen v i))) ∙ sym (ap (λ x. x.at seen) (cond_roll qualifying (qualify_steps D) (layers.Cond-F.Compare a b.0 c.0)))
  cond_good (layers.Cond-F.CompareQuery a b c) = λ h seen v. let k : AgreeOn C D (n_expr b.0 ++ (n_query c.0)) = subst (AgreeOn C D) (cond_roll naming naming_steps (layers.Cond-F.CompareQuery a b.0 c.0)) h in ap (λ x. x.at seen) (cond_roll qualifying (qualify_steps C) (layers.Cond-F.CompareQuery a b.0 c.0)) ∙ (λ i. roll-Cond (layers.Cond-F.CompareQuery a (b.1 (s.front C D (n_expr b.0) (n_query c.0) k) seen v i) (c.1 (s.back C D (n_expr b.0) (n_query c.0) k) seen v i))) ∙ sym (ap (λ x. x.at seen) (cond_roll qualifying (qualify_steps D) (layers.Cond-F.CompareQuery a b.0 c.0)))
  cond_good (layers.Cond-F.IsNull a) = λ h seen v. let k : AgreeOn C D (n_expr a.0) = subst (AgreeOn C D) (cond_roll naming naming_steps (layers.Cond-F.IsNull a.0)) h in ap (λ x. x.at seen) (cond_roll qualifying (qualify_steps C) (layers.Cond-F.IsNull a.0)) ∙ (λ i. roll-Cond (layers.Cond-F.IsNull (a.1 k seen v i))) ∙ sym (ap (λ x. x.at seen) (cond_roll qualifying (qualify_steps D) (layers.Cond-F.IsNull a.0)))
  cond_good (layers.Cond-F.InQuery a b) = λ h seen v. let k : AgreeOn C D (n_expr a.0 ++ (n_query b.0)) = subst (AgreeOn C D) (cond_roll naming naming_steps (layers.Cond-F.InQuery a.0 b.0)) h in ap (λ x. x.at seen) (cond_roll qualifying (qualify_steps C) (layers.Cond-F.InQuery a.0 b.0)) ∙ (λ i. roll-Cond (layers.Cond-F.InQuery (a.1 (s.front C D (n_expr a.0) (n_query b.0) k) seen v i) (b.1 (s.back C D (n_expr a.0) (n_query b.0) k) seen v i))) ∙ sym (ap (λ x. x.at seen) (cond_roll qualifying (qualify_steps D) (layers.Cond-F.InQuery a.0 b.0)))
  cond_good (layers.Cond-F.InList a b) = λ h seen v. let k : AgreeOn C D (n_expr a.0 ++ (all_of (map n_expr (map (λ z. z.0) b)))) = subst (AgreeOn C D) (cond_roll naming naming_steps (layers.Cond-F.InList a.0 (map (λ z. z.0) b))) h in ap (λ x. x.at seen) (cond_roll qualifying (qualify_steps C) (layers.Cond-F.InList a.0 (map (λ z. z.0) b))) ∙ (λ i. roll-Cond (layers.Cond-F.InList (a.1 (s.front C D (n_expr a.0) (all_of (map n_expr (map (λ z. z.0) b))) k) seen v i) (each c_expr d_expr n_expr b (s.back C D (n_expr a.0) (all_of (map n_expr (map (λ z. z.0) b))) k) seen v i))) ∙ sym (ap (λ x. x.at seen) (cond_roll qualifying (qualify_steps D) (layers.Cond-F.InList a.0 (map (λ z. z.0) b))))
  cond_good (layers.Cond-F.Between a b c) = λ h seen v. let k : AgreeOn C D (n_expr a.0 ++ (n_expr b.0 ++ (n_expr c.0))) = subst (AgreeOn C D) (cond_roll naming naming_steps (layers.Cond-F.Between a.0 b.0 c.0)) h in ap (λ x. x.at seen) (cond_roll qualifying (qualify_steps C) (layers.Cond-F.Between a.0 b.0 c.0)) ∙ (λ i. roll-Cond (layers.Cond-F.Between (a.1 (s.front C D (n_expr a.0) (n_expr b.0 ++ (n_expr c.0)) k) seen v i) (b.1 (s.front C D (n_expr b.0) (n_expr c.0) (s.back C D (n_expr a.0) (n_expr b.0 ++ (n_expr c.0)) k)) seen v i) (c.1 (s.back C D (n_expr b.0) (n_expr c.0) (s.back C D (n_expr a.0) (n_expr b.0 ++ (n_expr c.0)) k)) seen v i))) ∙ sym (ap (λ x. x.at seen) (cond_roll qualifying (qualify_steps D) (layers.Cond-F.Between a.0 b.0 c.0)))

  expr_good : (y : Goods layers.Expr-F) → GoodExpr (roll-Expr (down_expr y))
  expr_good (layers.Expr-F.Atom a) = λ h seen v. ap (λ x. x.at seen) (expr_roll qualifying (qualify_steps C) (layers.Expr-F.Atom a)) ∙ (λ i. roll-Expr (layers.Expr-F.Atom (atom_same a seen v i))) ∙ sym (ap (λ x. x.at seen) (expr_roll qualifying (qualify_steps D) (layers.Expr-F.Atom a)))
  expr_good (layers.Expr-F.Sum a) = λ h seen v. let k : AgreeOn C D (all_of (map n_signed (map (λ z. z.0) a))) = subst (AgreeOn C D) (expr_roll naming naming_steps (layers.Expr-F.Sum (map (λ z. z.0) a))) h in ap (λ x. x.at seen) (expr_roll qualifying (qualify_steps C) (layers.Expr-F.Sum (map (λ z. z.0) a))) ∙ (λ i. roll-Expr (layers.Expr-F.Sum (each c_signed d_signed n_signed a k seen v i))) ∙ sym (ap (λ x. x.at seen) (expr_roll qualifying (qualify_steps D) (layers.Expr-F.Sum (map (λ z. z.0) a))))
  expr_good (layers.Expr-F.Concat a) = λ h seen v. let k : AgreeOn C D (all_of (map n_expr (map (λ z. z.0) a))) = subst (AgreeOn C D) (expr_roll naming naming_steps (layers.Expr-F.Concat (map (λ z. z.0) a))) h in ap (λ x. x.at seen) (expr_roll qualifying (qualify_steps C) (layers.Expr-F.Concat (map (λ z. z.0) a))) ∙ (λ i. roll-Expr (layers.Expr-F.Concat (each c_expr d_expr n_expr a k seen v i))) ∙ sym (ap (λ x. x.at seen) (expr_roll qualifying (qualify_steps D) (layers.Expr-F.Concat (map (λ z. z.0) a))))
  expr_good (layers.Expr-F.Product a) = λ h seen v. let k : AgreeOn C D (all_of (map n_expr (map (λ z. z.0) a))) = subst (AgreeOn C D) (expr_roll naming naming_steps (layers.Expr-F.Product (map (λ z. z.0) a))) h in ap (λ x. x.at seen) (expr_roll qualifying (qualify_steps C) (layers.Expr-F.Product (map (λ z. z.0) a))) ∙ (λ i. roll-Expr (layers.Expr-F.Product (each c_expr d_expr n_expr a k seen v i))) ∙ sym (ap (λ x. x.at seen) (expr_roll qualifying (qualify_steps D) (layers.Expr-F.Product (map (λ z. z.0) a))))
  expr_good (layers.Expr-F.Case a None) = λ h seen v. let k : AgreeOn C D (all_of (map n_arm (map (λ z. z.0) a)) ++ ([])) = subst (AgreeOn C D) (expr_roll naming naming_steps (layers.Expr-F.Case (map (λ z. z.0) a) None)) h in ap (λ x. x.at seen) (expr_roll qualifying (qualify_steps C) (layers.Expr-F.Case (map (λ z. z.0) a) None)) ∙ (λ i. roll-Expr (layers.Expr-F.Case (each c_arm d_arm n_arm a (s.front C D (all_of (map n_arm (map (λ z. z.0) a))) ([]) k) seen v i) None)) ∙ sym (ap (λ x. x.at seen) (expr_roll qualifying (qualify_steps D) (layers.Expr-F.Case (map (λ z. z.0) a) None)))
  expr_good (layers.Expr-F.Case a (Some b)) = λ h seen v. let k : AgreeOn C D (all_of (map n_arm (map (λ z. z.0) a)) ++ (n_expr b.0)) = subst (AgreeOn C D) (expr_roll naming naming_steps (layers.Expr-F.Case (map (λ z. z.0) a) (Some b.0))) h in ap (λ x. x.at seen) (expr_roll qualifying (qualify_steps C) (layers.Expr-F.Case (map (λ z. z.0) a) (Some b.0))) ∙ (λ i. roll-Expr (layers.Expr-F.Case (each c_arm d_arm n_arm a (s.front C D (all_of (map n_arm (map (λ z. z.0) a))) (n_expr b.0) k) seen v i) (Some (b.1 (s.back C D (all_of (map n_arm (map (λ z. z.0) a))) (n_expr b.0) k) seen v i)))) ∙ sym (ap (λ x. x.at seen) (expr_roll qualifying (qualify_steps D) (layers.Expr-F.Case (map (λ z. z.0) a) (Some b.0))))
  expr_good (layers.Expr-F.Match a b None) = λ h seen v. let k : AgreeOn C D (n_expr a.0 ++ (all_of (map n_choice (map (λ z. z.0) b)) ++ ([]))) = subst (AgreeOn C D) (expr_roll naming naming_steps (layers.Expr-F.Match a.0 (map (λ z. z.0) b) None)) h in ap (λ x. x.at seen) (expr_roll qualifying (qualify_steps C) (layers.Expr-F.Match a.0 (map (λ z. z.0) b) None)) ∙ (λ i. roll-Expr (layers.Expr-F.Match (a.1 (s.front C D (n_expr a.0) (all_of (map n_choice (map (λ z. z.0) b)) ++ ([])) k) seen v i) (each c_choice d_choice n_choice b (s.front C D (all_of (map n_choice (map (λ z. z.0) b))) ([]) (s.back C D (n_expr a.0) (all_of (map n_choice (map (λ z. z.0) b)) ++ ([])) k)) seen v i) None)) ∙ sym (ap (λ x. x.at seen) (expr_roll qualifying (qualify_steps D) (layers.Expr-F.Match a.0 (map (λ z. z.0) b) None)))
  expr_good (layers.Expr-F.Match a b (Some c)) = λ h seen v. let k : AgreeOn C D (n_expr a.0 ++ (all_of (map n_choice (map (λ z. z.0) b)) ++ (n_expr c.0))) = subst (AgreeOn C D) (expr_roll naming naming_steps (layers.Expr-F.Match a.0 (map (λ z. z.0) b) (Some c.0))) h in ap (λ x. x.at seen) (expr_roll qualifying (qualify_steps C) (layers.Expr-F.Match a.0 (map (λ z. z.0) b) (Some c.0))) ∙ (λ i. roll-Expr (layers.Expr-F.Match (a.1 (s.front C D (n_expr a.0) (all_of (map n_choice (map (λ z. z.0) b)) ++ (n_expr c.0)) k) seen v i) (each c_choice d_choice n_choice b (s.front C D (all_of (map n_choice (map (λ z. z.0) b))) (n_expr c.0) (s.back C D (n_expr a.0) (all_of (map n_choice (map (λ z. z.0) b)) ++ (n_expr c.0)) k)) seen v i) (Some (c.1 (s.back C D (all_of (map n_choice (map (λ z. z.0) b))) (n_expr c.0) (s.back C D (n_expr a.0) (all_of (map n_choice (map (λ z. z.0) b)) ++ (n_expr c.0)) k)) seen v i)))) ∙ sym (ap (λ x. x.at seen) (expr_roll qualifying (qualify_steps D) (layers.Expr-F.Match a.0 (map (λ z. z.0) b) (Some c.0))))
  expr_good (layers.Expr-F.Aggregate a b) = λ h seen v. let k : AgreeOn C D (n_expr b.0) = subst (AgreeOn C D) (expr_roll naming naming_steps (layers.Expr-F.Aggregate a b.0)) h in ap (λ x. x.at seen) (expr_roll qualifying (qualify_steps C) (layers.Expr-F.Aggregate a b.0)) ∙ (λ i. roll-Expr (layers.Expr-F.Aggregate a (b.1 k seen v i))) ∙ sym (ap (λ x. x.at seen) (expr_roll qualifying (qualify_steps D) (layers.Expr-F.Aggregate a b.0)))
  expr_good (layers.Expr-F.Substr a b None) = λ h seen v. let k : AgreeOn C D (n_expr a.0 ++ (n_expr b.0 ++ ([]))) = subst (AgreeOn C D) (expr_roll naming naming_steps (layers.Expr-F.Substr a.0 b.0 None)) h in ap (λ x. x.at seen) (expr_roll qualifying (qualify_steps C) (layers.Expr-F.Substr a.0 b.0 None)) ∙ (λ i. roll-Expr (layers.Expr-F.Substr (a.1 (s.front C D (n_expr a.0) (n_expr b.0 ++ ([])) k) seen v i) (b.1 (s.front C D (n_expr b.0) ([]) (s.back C D (n_expr a.0) (n_expr b.0 ++ ([])) k)) seen v i) None)) ∙ sym (ap (λ x. x.at seen) (expr_roll qualifying (qualify_steps D) (layers.Expr-F.Substr a.0 b.0 None)))
  expr_good (layers.Expr-F.Substr a b (Some c)) = λ h seen v. let k : AgreeOn C D (n_expr a.0 ++ (n_expr b.0 ++ (n_expr c.0))) = subst (AgreeOn C D) (expr_roll naming naming_steps (layers.Expr-F.Substr a.0 b.0 (Some c.0))) h in ap (λ x. x.at seen) (expr_roll qualifying (qualify_steps C) (layers.Expr-F.Substr a.0 b.0 (Some c.0))) ∙ (λ i. roll-Expr (layers.Expr-F.Substr (a.1 (s.front C D (n_expr a.0) (n_expr b.0 ++ (n_expr c.0)) k) seen v i) (b.1 (s.front C D (n_expr b.0) (n_expr c.0) (s.back C D (n_expr a.0) (n_expr b.0 ++ (n_expr c.0)) k)) seen v i) (Some (c.1 (s.back C D (n_expr b.0) (n_expr c.0) (s.back C D (n_expr a.0) (n_expr b.0 ++ (n_expr c.0)) k)) seen v i)))) ∙ sym (ap (λ x. x.at seen) (expr_roll qualifying (qualify_steps D) (layers.Expr-F.Substr a.0 b.0 (Some c.0))))
  expr_good (layers.Expr-F.Apply a b) = λ h seen v. let k : AgreeOn C D (n_expr b.0) = subst (AgreeOn C D) (expr_roll naming naming_steps (layers.Expr-F.Apply a b.0)) h in ap (λ x. x.at seen) (expr_roll qualifying (qualify_steps C) (layers.Expr-F.Apply a b.0)) ∙ (λ i. roll-Expr (layers.Expr-F.Apply a (b.1 k seen v i))) ∙ sym (ap (λ x. x.at seen) (expr_roll qualifying (qualify_steps D) (layers.Expr-F.Apply a b.0)))
  expr_good (layers.Expr-F.Coalesce a) = λ h seen v. let k : AgreeOn C D (all_of (map n_expr (map (λ z. z.0) a))) = subst (AgreeOn C D) (expr_roll naming naming_steps (layers.Expr-F.Coalesce (map (λ z. z.0) a))) h in ap (λ x. x.at seen) (expr_roll qualifying (qualify_steps C) (layers.Expr-F.Coalesce (map (λ z. z.0) a))) ∙ (λ i. roll-Expr (layers.Expr-F.Coalesce (each c_expr d_expr n_expr a k seen v i))) ∙ sym (ap (λ x. x.at seen) (expr_roll qualifying (qualify_steps D) (layers.Expr-F.Coalesce (map (λ z. z.0) a))))

  item_good : (y : Goods layers.Item-F) → GoodItem (roll-Item (down_item y))
  item_good layers.Item-F.Everything = λ h seen v. ap (λ x. x.at seen) (item_roll qualifying (qualify_steps C) layers.Item-F.Everything) ∙ (refl) ∙ sym (ap (λ x. x.at seen) (item_roll qualifying (qualify_steps D) layers.Item-F.Everything))
  item_good (layers.Item-F.AllOf a) = λ h seen v. ap (λ x. x.at seen) (item_roll qualifying (qualify_steps C) (layers.Item-F.AllOf a)) ∙ (refl) ∙ sym (ap (λ x. x.at seen) (item_roll qualifying (qualify_steps D) (layers.Item-F.AllOf a)))
  item_good (layers.Item-F.Value a b) = λ h seen v. let k : AgreeOn C D (n_expr a.0) = subst (AgreeOn C D) (item_roll naming naming_steps (layers.Item-F.Value a.0 b)) h in ap (λ x. x.at seen) (item_roll qualifying (qualify_steps C) (layers.Item-F.Value a.0 b)) ∙ (λ i. roll-Item (layers.Item-F.Value (a.1 k seen v i) b)) ∙ sym (ap (λ x. x.at seen) (item_roll qualifying (qualify_steps D) (layers.Item-F.Value a.0 b)))

  join_good : (y : Goods layers.Join-F) → GoodJoin (roll-Join (down_join y))
  join_good (layers.Join-F.Inner a b) = λ h. let k : AgreeOn C D (table a.table ∷ n_cond b.0) = subst (AgreeOn C D) (join_roll naming naming_steps (layers.Join-F.Inner a b.0)) h in along JoinSame (c_join (roll-Join (layers.Join-F.Inner a b.0))) (join_in (layers.Join-F.Inner a (c_cond b.0))) (d_join (roll-Join (layers.Join-F.Inner a b.0))) (join_in (layers.Join-F.Inner a (d_cond b.0))) (join_roll qualifying (qualify_steps C) (layers.Join-F.Inner a b.0)) (join_roll qualifying (qualify_steps D) (layers.Join-F.Inner a b.0)) (refl, (k.0, λ seen v i. roll-Join (layers.Join-F.Inner a (b.1 k.1 seen v i))))
  join_good (layers.Join-F.Left a b) = λ h. let k : AgreeOn C D (table a.table ∷ n_cond b.0) = subst (AgreeOn C D) (join_roll naming naming_steps (layers.Join-F.Left a b.0)) h in along JoinSame (c_join (roll-Join (layers.Join-F.Left a b.0))) (join_in (layers.Join-F.Left a (c_cond b.0))) (d_join (roll-Join (layers.Join-F.Left a b.0))) (join_in (layers.Join-F.Left a (d_cond b.0))) (join_roll qualifying (qualify_steps C) (layers.Join-F.Left a b.0)) (join_roll qualifying (qualify_steps D) (layers.Join-F.Left a b.0)) (refl, (k.0, λ seen v i. roll-Join (layers.Join-F.Left a (b.1 k.1 seen v i))))
  join_good (layers.Join-F.Cross a) = λ h. let k : AgreeOn C D (table a.table ∷ []) = subst (AgreeOn C D) (join_roll naming naming_steps (layers.Join-F.Cross a)) h in along JoinSame (c_join (roll-Join (layers.Join-F.Cross a))) (join_in (layers.Join-F.Cross a)) (d_join (roll-Join (layers.Join-F.Cross a))) (join_in (layers.Join-F.Cross a)) (join_roll qualifying (qualify_steps C) (layers.Join-F.Cross a)) (join_roll qualifying (qualify_steps D) (layers.Join-F.Cross a)) (refl, (k.0, λ seen v. refl))

  arm_good : (y : Goods layers.Arm-F) → GoodArm (roll-Arm (down_arm y))
  arm_good y = λ h seen v. let k : AgreeOn C D (n_cond y.when.0 ++ (n_expr y.result.0)) = subst (AgreeOn C D) (arm_roll naming naming_steps (record { when = y.when.0; result = y.result.0 })) h in ap (λ x. x.at seen) (arm_roll qualifying (qualify_steps C) (record { when = y.when.0; result = y.result.0 })) ∙ (λ i. roll-Arm (record { when = (y.when.1 (s.front C D (n_cond y.when.0) (n_expr y.result.0) k) seen v i); result = (y.result.1 (s.back C D (n_cond y.when.0) (n_expr y.result.0) k) seen v i) })) ∙ sym (ap (λ x. x.at seen) (arm_roll qualifying (qualify_steps D) (record { when = y.when.0; result = y.result.0 })))

  chain_good : (y : Goods layers.Chain-F) → GoodChain (roll-Chain (down_chain y))
  chain_good y = λ h. let k : AgreeOn C D (table y.first.table ∷ all_of (map n_join (map (λ z. z.0) y.joins))) = subst (AgreeOn C D) (chain_roll naming naming_steps (record { first = y.first; joins = (map (λ z. z.0) y.joins) })) h in along ChainSame (c_chain (roll-Chain (record { first = y.first; joins = (map (λ z. z.0) y.joins) }))) (chain_in (record { first = y.first; joins = map c_join (map (λ z. z.0) y.joins) })) (d_chain (roll-Chain (record { first = y.first; joins = (map (λ z. z.0) y.joins) }))) (chain_in (record { first = y.first; joins = map d_join (map (λ z. z.0) y.joins) })) (chain_roll qualifying (qualify_steps C) (record { first = y.first; joins = (map (λ z. z.0) y.joins) })) (chain_roll qualifying (qualify_steps D) (record { first = y.first; joins = (map (λ z. z.0) y.joins) })) ((λ i. y.first ∷ joins_tabs y.joins k.1 i), ((k.0, joins_tabs_agree y.joins k.1), λ outer v i. roll-Chain (record { first = y.first; joins = joins_same y.joins k.1 (y.first ∷ []) (k.0, tt) outer v i })))

  choice_good : (y : Goods layers.Choice-F) → GoodChoice (roll-Choice (down_choice y))
  choice_good y = λ h seen v. let k : AgreeOn C D (n_expr y.when.0 ++ (n_expr y.result.0)) = subst (AgreeOn C D) (choice_roll naming naming_steps (record { when = y.when.0; result = y.result.0 })) h in ap (λ x. x.at seen) (choice_roll qualifying (qualify_steps C) (record { when = y.when.0; result = y.result.0 })) ∙ (λ i. roll-Choice (record { when = (y.when.1 (s.front C D (n_expr y.when.0) (n_expr y.result.0) k) seen v i); result = (y.result.1 (s.back C D (n_expr y.when.0) (n_expr y.result.0) k) seen v i) })) ∙ sym (ap (λ x. x.at seen) (choice_roll qualifying (qualify_steps D) (record { when = y.when.0; result = y.result.0 })))

  query_good : (distinct : Bool) (items : List WithItem) (from : List WithChain) (filter : Option WithCond) (group : List Column) (having : Option WithCond)
      → GoodQuery (roll-Query (down_query (record { distinct = distinct; items = items; from = from; filter = filter; group = group; having = having })))
  query_good distinct items from None group None = λ h outer v. let k : AgreeOn C D (all_of (map n_item (map (λ z. z.0) items)) ++ (all_of (map n_chain (map (λ z. z.0) from)) ++ ([] ++ ([])))) = subst (AgreeOn C D) (query_roll naming naming_steps (record { distinct = distinct; items = (map (λ z. z.0) items); from = (map (λ z. z.0) from); filter = None; group = group; having = None })) h in let seen : List Seen = seen_in outer (map c_chain (map (λ z. z.0) from)) in let w : s.SeenAgree C D seen = s.seen_before C D (level_in outer) (flat_map (λ c. c.tabs) (map c_chain (map (λ z. z.0) from))) outer (chains_tabs_agree from (s.front C D (all_of (map n_chain (map (λ z. z.0) from))) ([] ++ ([])) (s.back C D (all_of (map n_item (map (λ z. z.0) items))) (all_of (map n_chain (map (λ z. z.0) from)) ++ ([] ++ ([]))) k))) v in ap (λ x. x.at outer) (query_roll qualifying (qualify_steps C) (record { distinct = distinct; items = (map (λ z. z.0) items); from = (map (λ z. z.0) from); filter = None; group = group; having = None })) ∙ (λ i. roll-Query (record { distinct = distinct; items = (each c_item d_item n_item items (s.front C D (all_of (map n_item (map (λ z. z.0) items))) (all_of (map n_chain (map (λ z. z.0) from)) ++ ([] ++ ([]))) k) seen w i); from = chains_same from (s.front C D (all_of (map n_chain (map (λ z. z.0) from))) ([] ++ ([])) (s.back C D (all_of (map n_item (map (λ z. z.0) items))) (all_of (map n_chain (map (λ z. z.0) from)) ++ ([] ++ ([]))) k)) outer v i; filter = None; group = map_same (with_item C seen) (with_item D seen) (with_item_same seen w) group i; having = None })) ∙ (λ i. query_in D outer (items_in outer (chains_tabs from (s.front C D (all_of (map n_chain (map (λ z. z.0) from))) ([] ++ ([])) (s.back C D (all_of (map n_item (map (λ z. z.0) items))) (all_of (map n_chain (map (λ z. z.0) from)) ++ ([] ++ ([]))) k)) i) ++ outer) (record { distinct = distinct; items = map d_item (map (λ z. z.0) items); from = map d_chain (map (λ z. z.0) from); filter = None; group = group; having = None })) ∙ sym (ap (λ x. x.at outer) (query_roll qualifying (qualify_steps D) (record { distinct = distinct; items = (map (λ z. z.0) items); from = (map (λ z. z.0) from); filter = None; group = group; having = None })))
  query_good distinct items from None group (Some having) = λ h outer v. let k : AgreeOn C D (all_of (map n_item (map (λ z. z.0) items)) ++ (all_of (map n_chain (map (λ z. z.0) from)) ++ ([] ++ (n_cond having.0)))) = subst (AgreeOn C D) (query_roll naming naming_steps (record { distinct = distinct; items = (map (λ z. z.0) items); from = (map (λ z. z.0) from); filter = None; group = group; having = (Some having.0) })) h in let seen : List Seen = seen_in outer (map c_chain (map (λ z. z.0) from)) in let w : s.SeenAgree C D seen = s.seen_before C D (level_in outer) (flat_map (λ c. c.tabs) (map c_chain (map (λ z. z.0) from))) outer (chains_tabs_agree from (s.front C D (all_of (map n_chain (map (λ z. z.0) from))) ([] ++ (n_cond having.0)) (s.back C D (all_of (map n_item (map (λ z. z.0) items))) (all_of (map n_chain (map (λ z. z.0) from)) ++ ([] ++ (n_cond having.0))) k))) v in ap (λ x. x.at outer) (query_roll qualifying (qualify_steps C) (record { distinct = distinct; items = (map (λ z. z.0) items); from = (map (λ z. z.0) from); filter = None; group = group; having = (Some having.0) })) ∙ (λ i. roll-Query (record { distinct = distinct; items = (each c_item d_item n_item items (s.front C D (all_of (map n_item (map (λ z. z.0) items))) (all_of (map n_chain (map (λ z. z.0) from)) ++ ([] ++ (n_cond having.0))) k) seen w i); from = chains_same from (s.front C D (all_of (map n_chain (map (λ z. z.0) from))) ([] ++ (n_cond having.0)) (s.back C D (all_of (map n_item (map (λ z. z.0) items))) (all_of (map n_chain (map (λ z. z.0) from)) ++ ([] ++ (n_cond having.0))) k)) outer v i; filter = None; group = map_same (with_item C seen) (with_item D seen) (with_item_same seen w) group i; having = (Some (having.1 (s.back C D ([]) (n_cond having.0) (s.back C D (all_of (map n_chain (map (λ z. z.0) from))) ([] ++ (n_cond having.0)) (s.back C D (all_of (map n_item (map (λ z. z.0) items))) (all_of (map n_chain (map (λ z. z.0) from)) ++ ([] ++ (n_cond having.0))) k))) seen w i)) })) ∙ (λ i. query_in D outer (items_in outer (chains_tabs from (s.front C D (all_of (map n_chain (map (λ z. z.0) from))) ([] ++ (n_cond having.0)) (s.back C D (all_of (map n_item (map (λ z. z.0) items))) (all_of (map n_chain (map (λ z. z.0) from)) ++ ([] ++ (n_cond having.0))) k)) i) ++ outer) (record { distinct = distinct; items = map d_item (map (λ z. z.0) items); from = map d_chain (map (λ z. z.0) from); filter = None; group = group; having = Some (d_cond having.0) })) ∙ sym (ap (λ x. x.at outer) (query_roll qualifying (qualify_steps D) (record { distinct = distinct; items = (map (λ z. z.0) items); from = (map (λ z. z.0) from); filter = None; group = group; having = (Some having.0) })))
  query_good distinct items from (Some filter) group None = λ h outer v. let k : AgreeOn C D (all_of (map n_item (map (λ z. z.0) items)) ++ (all_of (map n_chain (map (λ z. z.0) from)) ++ (n_cond filter.0 ++ ([])))) = subst (AgreeOn C D) (query_roll naming naming_steps (record { distinct = distinct; items = (map (λ z. z.0) items); from = (map (λ z. z.0) from); filter = (Some filter.0); group = group; having = None })) h in let seen : List Seen = seen_in outer (map c_chain (map (λ z. z.0) from)) in let w : s.SeenAgree C D seen = s.seen_before C D (level_in outer) (flat_map (λ c. c.tabs) (map c_chain (map (λ z. z.0) from))) outer (chains_tabs_agree from (s.front C D (all_of (map n_chain (map (λ z. z.0) from))) (n_cond filter.0 ++ ([])) (s.back C D (all_of (map n_item (map (λ z. z.0) items))) (all_of (map n_chain (map (λ z. z.0) from)) ++ (n_cond filter.0 ++ ([]))) k))) v in ap (λ x. x.at outer) (query_roll qualifying (qualify_steps C) (record { distinct = distinct; items = (map (λ z. z.0) items); from = (map (λ z. z.0) from); filter = (Some filter.0); group = group; having = None })) ∙ (λ i. roll-Query (record { distinct = distinct; items = (each c_item d_item n_item items (s.front C D (all_of (map n_item (map (λ z. z.0) items))) (all_of (map n_chain (map (λ z. z.0) from)) ++ (n_cond filter.0 ++ ([]))) k) seen w i); from = chains_same from (s.front C D (all_of (map n_chain (map (λ z. z.0) from))) (n_cond filter.0 ++ ([])) (s.back C D (all_of (map n_item (map (λ z. z.0) items))) (all_of (map n_chain (map (λ z. z.0) from)) ++ (n_cond filter.0 ++ ([]))) k)) outer v i; filter = (Some (filter.1 (s.front C D (n_cond filter.0) ([]) (s.back C D (all_of (map n_chain (map (λ z. z.0) from))) (n_cond filter.0 ++ ([])) (s.back C D (all_of (map n_item (map (λ z. z.0) items))) (all_of (map n_chain (map (λ z. z.0) from)) ++ (n_cond filter.0 ++ ([]))) k))) seen w i)); group = map_same (with_item C seen) (with_item D seen) (with_item_same seen w) group i; having = None })) ∙ (λ i. query_in D outer (items_in outer (chains_tabs from (s.front C D (all_of (map n_chain (map (λ z. z.0) from))) (n_cond filter.0 ++ ([])) (s.back C D (all_of (map n_item (map (λ z. z.0) items))) (all_of (map n_chain (map (λ z. z.0) from)) ++ (n_cond filter.0 ++ ([]))) k)) i) ++ outer) (record { distinct = distinct; items = map d_item (map (λ z. z.0) items); from = map d_chain (map (λ z. z.0) from); filter = Some (d_cond filter.0); group = group; having = None })) ∙ sym (ap (λ x. x.at outer) (query_roll qualifying (qualify_steps D) (record { distinct = distinct; items = (map (λ z. z.0) items); from = (map (λ z. z.0) from); filter = (Some filter.0); group = group; having = None })))
  query_good distinct items from (Some filter) group (Some having) = λ h outer v. let k : AgreeOn C D (all_of (map n_item (map (λ z. z.0) items)) ++ (all_of (map n_chain (map (λ z. z.0) from)) ++ (n_cond filter.0 ++ (n_cond having.0)))) = subst (AgreeOn C D) (query_roll naming naming_steps (record { distinct = distinct; items = (map (λ z. z.0) items); from = (map (λ z. z.0) from); filter = (Some filter.0); group = group; having = (Some having.0) })) h in let seen : List Seen = seen_in outer (map c_chain (map (λ z. z.0) from)) in let w : s.SeenAgree C D seen = s.seen_before C D (level_in outer) (flat_map (λ c. c.tabs) (map c_chain (map (λ z. z.0) from))) outer (chains_tabs_agree from (s.front C D (all_of (map n_chain (map (λ z. z.0) from))) (n_cond filter.0 ++ (n_cond having.0)) (s.back C D (all_of (map n_item (map (λ z. z.0) items))) (all_of (map n_chain (map (λ z. z.0) from)) ++ (n_cond filter.0 ++ (n_cond having.0))) k))) v in ap (λ x. x.at outer) (query_roll qualifying (qualify_steps C) (record { distinct = distinct; items = (map (λ z. z.0) items); from = (map (λ z. z.0) from); filter = (Some filter.0); group = group; having = (Some having.0) })) ∙ (λ i. roll-Query (record { distinct = distinct; items = (each c_item d_item n_item items (s.front C D (all_of (map n_item (map (λ z. z.0) items))) (all_of (map n_chain (map (λ z. z.0) from)) ++ (n_cond filter.0 ++ (n_cond having.0))) k) seen w i); from = chains_same from (s.front C D (all_of (map n_chain (map (λ z. z.0) from))) (n_cond filter.0 ++ (n_cond having.0)) (s.back C D (all_of (map n_item (map (λ z. z.0) items))) (all_of (map n_chain (map (λ z. z.0) from)) ++ (n_cond filter.0 ++ (n_cond having.0))) k)) outer v i; filter = (Some (filter.1 (s.front C D (n_cond filter.0) (n_cond having.0) (s.back C D (all_of (map n_chain (map (λ z. z.0) from))) (n_cond filter.0 ++ (n_cond having.0)) (s.back C D (all_of (map n_item (map (λ z. z.0) items))) (all_of (map n_chain (map (λ z. z.0) from)) ++ (n_cond filter.0 ++ (n_cond having.0))) k))) seen w i)); group = map_same (with_item C seen) (with_item D seen) (with_item_same seen w) group i; having = (Some (having.1 (s.back C D (n_cond filter.0) (n_cond having.0) (s.back C D (all_of (map n_chain (map (λ z. z.0) from))) (n_cond filter.0 ++ (n_cond having.0)) (s.back C D (all_of (map n_item (map (λ z. z.0) items))) (all_of (map n_chain (map (λ z. z.0) from)) ++ (n_cond filter.0 ++ (n_cond having.0))) k))) seen w i)) })) ∙ (λ i. query_in D outer (items_in outer (chains_tabs from (s.front C D (all_of (map n_chain (map (λ z. z.0) from))) (n_cond filter.0 ++ (n_cond having.0)) (s.back C D (all_of (map n_item (map (λ z. z.0) items))) (all_of (map n_chain (map (λ z. z.0) from)) ++ (n_cond filter.0 ++ (n_cond having.0))) k)) i) ++ outer) (record { distinct = distinct; items = map d_item (map (λ z. z.0) items); from = map d_chain (map (λ z. z.0) from); filter = Some (d_cond filter.0); group = group; having = Some (d_cond having.0) })) ∙ sym (ap (λ x. x.at outer) (query_roll qualifying (qualify_steps D) (record { distinct = distinct; items = (map (λ z. z.0) items); from = (map (λ z. z.0) from); filter = (Some filter.0); group = group; having = (Some having.0) })))

  signed_good : (y : Goods layers.Signed-F) → GoodSigned (roll-Signed (down_signed y))
  signed_good y = λ h seen v. let k : AgreeOn C D (n_expr y.part.0) = subst (AgreeOn C D) (signed_roll naming naming_steps (record { minus = y.minus; part = y.part.0 })) h in ap (λ x. x.at seen) (signed_roll qualifying (qualify_steps C) (record { minus = y.minus; part = y.part.0 })) ∙ (λ i. roll-Signed (record { minus = y.minus; part = (y.part.1 k seen v i) })) ∙ sym (ap (λ x. x.at seen) (signed_roll qualifying (qualify_steps D) (record { minus = y.minus; part = y.part.0 })))

  pub one_form_cond : (x : Cond) → GoodCond x
  one_form_cond = ind-Cond GoodCond GoodExpr GoodItem GoodJoin GoodArm GoodChain GoodChoice GoodQuery GoodSigned (λ x y is. subst (λ z. GoodCond (roll-Cond z)) is (cond_good y)) (λ x y is. subst (λ z. GoodExpr (roll-Expr z)) is (expr_good y)) (λ x y is. subst (λ z. GoodItem (roll-Item z)) is (item_good y)) (λ x y is. subst (λ z. GoodJoin (roll-Join z)) is (join_good y)) (λ x y is. subst (λ z. GoodArm (roll-Arm z)) is (arm_good y)) (λ x y is. subst (λ z. GoodChain (roll-Chain z)) is (chain_good y)) (λ x y is. subst (λ z. GoodChoice (roll-Choice z)) is (choice_good y)) (λ x y is. subst (λ z. GoodQuery (roll-Query z)) is (query_good y.distinct y.items y.from y.filter y.group y.having)) (λ x y is. subst (λ z. GoodSigned (roll-Signed z)) is (signed_good y))

  pub one_form_expr : (x : Expr) → GoodExpr x
  one_form_expr = ind-Expr GoodCond GoodExpr GoodItem GoodJoin GoodArm GoodChain GoodChoice GoodQuery GoodSigned (λ x y is. subst (λ z. GoodCond (roll-Cond z)) is (cond_good y)) (λ x y is. subst (λ z. GoodExpr (roll-Expr z)) is (expr_good y)) (λ x y is. subst (λ z. GoodItem (roll-Item z)) is (item_good y)) (λ x y is. subst (λ z. GoodJoin (roll-Join z)) is (join_good y)) (λ x y is. subst (λ z. GoodArm (roll-Arm z)) is (arm_good y)) (λ x y is. subst (λ z. GoodChain (roll-Chain z)) is (chain_good y)) (λ x y is. subst (λ z. GoodChoice (roll-Choice z)) is (choice_good y)) (λ x y is. subst (λ z. GoodQuery (roll-Query z)) is (query_good y.distinct y.items y.from y.filter y.group y.having)) (λ x y is. subst (λ z. GoodSigned (roll-Signed z)) is (signed_good y))

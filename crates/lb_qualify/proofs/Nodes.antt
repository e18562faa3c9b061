-- The qualified form of each kind of node, by those of its parts.
use Rattle.std.proofs.Common.{◌≡◌, refl, ap, sym, ◌∙◌, subst, List, [], ◌∷◌, ◌++◌, Option, Some, None, map}
use Rattle.std.specs.Option.{option_map}
use Rattle.std.specs.List.{flat_map}
use Rattle.lb_tree.specs.declared.query.Cond.{Cond}
use Rattle.lb_tree.specs.declared.query.Expr.{Expr}
use Rattle.lb_tree.specs.declared.query.Join.{Join}
use Rattle.lb_tree.specs.declared.query.Arm.{Arm}
use Rattle.lb_tree.specs.declared.query.Chain.{Chain}
use Rattle.lb_tree.specs.declared.query.Choice.{Choice}
use Rattle.lb_tree.specs.declared.query.Query.{Query}
use Rattle.lb_tree.specs.declared.query.Signed.{Signed}
use Rattle.lb_tree.specs.declared.query.Aggregate.{Aggregate}
use Rattle.lb_tree.specs.declared.query.Atom.{Atom}
use Rattle.lb_tree.specs.declared.query.Comparison.{Comparison}
use Rattle.lb_tree.specs.declared.query.Function.{Function}
use Rattle.lb_tree.specs.declared.query.Tab.{Tab}
use Rattle.lb_tree.specs.declared.query.Cond.TheVariants as conds
use Rattle.lb_tree.specs.declared.query.Expr.TheVariants as exprs
use Rattle.lb_tree.specs.declared.query.Item.TheVariants as items
use Rattle.lb_tree.specs.declared.query.Join.TheVariants as joins
use Rattle.lb_tree.specs.declared.query.Cond.TheOpen as layers
use Rattle.lb_tree.specs.declared.query.Cond.TheViews.{roll-Query, roll-Arm, roll-Chain, roll-Choice, roll-Signed, roll-Join, out-Join, out-Query, roll-out-Join}
use Rattle.lb_tree.specs.Folds.{Written, cond_of, expr_of, item_of, join_of, arm_of, chain_of, choice_of, query_of, signed_of}
use Rattle.lb_tree.proofs.Opens as opens
use Rattle.lb_names.specs.declared.place.Seen.{Seen}
use Rattle.lb_names.specs.Sights.{Name, items_in}
use Rattle.lb_names.specs.Marks.{marked, mark_steps, tables_of, tables_of_chain}
use Rattle.lb_names.specs.Qualify.{In, ChainIn, qualifying, qualify_steps, all_at, any_at, atom_in, with_item, joins_in, seen_in, query_in}
use Rattle.lb_names.specs.Scopes.{Catalogue}
use Rattle.lb_scope.specs.Found.{catalogue}
use Rattle.lb_scope.proofs.FromTables.{tables_in_chain}
use Rattle.lb_qualify.specs.declared.leaf.Qualifier.{Qualifier}
use Rattle.lb_qualify.specs.Forms as f

all_mapped : {A B : Type 0} (g : A → In B) (seen : List Seen) (xs : List A) → all_at seen (map g xs) ≡ map (λ x. (g x).at seen) xs
all_mapped g seen [] = refl
all_mapped g seen (x ∷ xs) = ap (λ ys. (g x).at seen ∷ ys) (all_mapped g seen xs)

any_mapped : {A B : Type 0} (g : A → In B) (seen : List Seen) (x : Option A) → any_at seen (option_map g x) ≡ option_map (λ y. (g y).at seen) x
any_mapped g seen None = refl
any_mapped g seen (Some x) = refl

chains_mapped : {A : Type 0} (g : A → ChainIn) (outer : List Seen) (xs : List A) → map (λ c. c.chain outer) (map g xs) ≡ map (λ x. (g x).chain outer) xs
chains_mapped g outer [] = refl
chains_mapped g outer (x ∷ xs) = ap (λ ys. (g x).chain outer ∷ ys) (chains_mapped g outer xs)

module _ (q : Qualifier) where
  abbrev C : Catalogue
  C = catalogue q.catalog.now

  -- ---- conditions

  pub or_form : (xs : List Cond) (seen : List Seen) → f.in_cond q (conds.Or xs) seen ≡ conds.Or (map (λ c. f.in_cond q c seen) xs)
  unfolding f.in_cond
  or_form xs seen = ap (λ x. x.at seen) (opens.cond_or qualifying (qualify_steps C) xs) ∙ conds.rolls-Or (all_at seen (map (cond_of qualifying (qualify_steps C)) xs)) ∙ ap conds.Or (all_mapped (cond_of qualifying (qualify_steps C)) seen xs)

  pub and_form : (xs : List Cond) (seen : List Seen) → f.in_cond q (conds.And xs) seen ≡ conds.And (map (λ c. f.in_cond q c seen) xs)
  unfolding f.in_cond
  and_form xs seen = ap (λ x. x.at seen) (opens.cond_and qualifying (qualify_steps C) xs) ∙ conds.rolls-And (all_at seen (map (cond_of qualifying (qualify_steps C)) xs)) ∙ ap conds.And (all_mapped (cond_of qualifying (qualify_steps C)) seen xs)

  pub not_form : (x : Cond) (seen : List Seen) → f.in_cond q (conds.Not x) seen ≡ conds.Not (f.in_cond q x seen)
  unfolding f.in_cond
  not_form x seen = ap (λ y. y.at seen) (opens.cond_not qualifying (qualify_steps C) x) ∙ conds.rolls-Not ((cond_of qualifying (qualify_steps C) x).at seen)

  pub exists_form : (x : Query) (seen : List Seen) → f.in_cond q (conds.Exists x) seen ≡ conds.Exists (f.in_query q x seen)
  unfolding f.in_cond f.in_query
  exists_form x seen = ap (λ y. y.at seen) (opens.cond_exists qualifying (qualify_steps C) x) ∙ conds.rolls-Exists ((query_of qualifying (qualify_steps C) x).at seen)

  pub compare_form : (by : Comparison) (x y : Expr) (seen : List Seen) → f.in_cond q (conds.Compare by x y) seen ≡ conds.Compare by (f.in_expr q x seen) (f.in_expr q y seen)
  unfolding f.in_cond f.in_expr
  compare_form by x y seen = ap (λ z. z.at seen) (opens.cond_compare qualifying (qualify_steps C) by x y) ∙ conds.rolls-Compare by ((expr_of qualifying (qualify_steps C) x).at seen) ((expr_of qualifying (qualify_steps C) y).at seen)

  pub compare_query_form : (by : Comparison) (x : Expr) (y : Query) (seen : List Seen) → f.in_cond q (conds.CompareQuery by x y) seen ≡ conds.CompareQuery by (f.in_expr q x seen) (f.in_query q y seen)
  unfolding f.in_cond f.in_expr f.in_query
  compare_query_form by x y seen = ap (λ z. z.at seen) (opens.cond_comparequery qualifying (qualify_steps C) by x y) ∙ conds.rolls-CompareQuery by ((expr_of qualifying (qualify_steps C) x).at seen) ((query_of qualifying (qualify_steps C) y).at seen)

  pub null_form : (x : Expr) (seen : List Seen) → f.in_cond q (conds.IsNull x) seen ≡ conds.IsNull (f.in_expr q x seen)
  unfolding f.in_cond f.in_expr
  null_form x seen = ap (λ z. z.at seen) (opens.cond_isnull qualifying (qualify_steps C) x) ∙ conds.rolls-IsNull ((expr_of qualifying (qualify_steps C) x).at seen)

  pub in_query_form : (x : Expr) (y : Query) (seen : List Seen) → f.in_cond q (conds.InQuery x y) seen ≡ conds.InQuery (f.in_expr q x seen) (f.in_query q y seen)
  unfolding f.in_cond f.in_expr f.in_query
  in_query_form x y seen = ap (λ z. z.at seen) (opens.cond_inquery qualifying (qualify_steps C) x y) ∙ conds.rolls-InQuery ((expr_of qualifying (qualify_steps C) x).at seen) ((query_of qualifying (qualify_steps C) y).at seen)

  pub in_list_form : (x : Expr) (xs : List Expr) (seen : List Seen) → f.in_cond q (conds.InList x xs) seen ≡ conds.InList (f.in_expr q x seen) (map (λ e. f.in_expr q e seen) xs)
  unfolding f.in_cond f.in_expr
  in_list_form x xs seen = ap (λ z. z.at seen) (opens.cond_inlist qualifying (qualify_steps C) x xs) ∙ conds.rolls-InList ((expr_of qualifying (qualify_steps C) x).at seen) (all_at seen (map (expr_of qualifying (qualify_steps C)) xs)) ∙ ap (conds.InList ((expr_of qualifying (qualify_steps C) x).at seen)) (all_mapped (expr_of qualifying (qualify_steps C)) seen xs)

  pub between_form : (x low high : Expr) (seen : List Seen) → f.in_cond q (conds.Between x low high) seen ≡ conds.Between (f.in_expr q x seen) (f.in_expr q low seen) (f.in_expr q high seen)
  unfolding f.in_cond f.in_expr
  between_form x low high seen = ap (λ z. z.at seen) (opens.cond_between qualifying (qualify_steps C) x low high) ∙ conds.rolls-Between ((expr_of qualifying (qualify_steps C) x).at seen) ((expr_of qualifying (qualify_steps C) low).at seen) ((expr_of qualifying (qualify_steps C) high).at seen)

  -- ---- expressions

  pub atom_form : (x : Atom) (seen : List Seen) → f.in_expr q (exprs.Atom x) seen ≡ exprs.Atom (atom_in C seen x)
  unfolding f.in_expr
  atom_form x seen = ap (λ z. z.at seen) (opens.expr_atom qualifying (qualify_steps C) x) ∙ exprs.rolls-Atom (atom_in C seen x)

  pub sum_form : (xs : List Signed) (seen : List Seen) → f.in_expr q (exprs.Sum xs) seen ≡ exprs.Sum (map (λ s. f.in_signed q s seen) xs)
  unfolding f.in_expr f.in_signed
  sum_form xs seen = ap (λ z. z.at seen) (opens.expr_sum qualifying (qualify_steps C) xs) ∙ exprs.rolls-Sum (all_at seen (map (signed_of qualifying (qualify_steps C)) xs)) ∙ ap exprs.Sum (all_mapped (signed_of qualifying (qualify_steps C)) seen xs)

  pub concat_form : (xs : List Expr) (seen : List Seen) → f.in_expr q (exprs.Concat xs) seen ≡ exprs.Concat (map (λ e. f.in_expr q e seen) xs)
  unfolding f.in_expr
  concat_form xs seen = ap (λ z. z.at seen) (opens.expr_concat qualifying (qualify_steps C) xs) ∙ exprs.rolls-Concat (all_at seen (map (expr_of qualifying (qualify_steps C)) xs)) ∙ ap exprs.Concat (all_mapped (expr_of qualifying (qualify_steps C)) seen xs)

  pub product_form : (xs : List Expr) (seen : List Seen) → f.in_expr q (exprs.Product xs) seen ≡ exprs.Product (map (λ e. f.in_expr q e seen) xs)
  unfolding f.in_expr
  product_form xs seen = ap (λ z. z.at seen) (opens.expr_product qualifying (qualify_steps C) xs) ∙ exprs.rolls-Product (all_at seen (map (expr_of qualifying (qualify_steps C)) xs)) ∙ ap exprs.Product (all_mapped (expr_of qualifying (qualify_steps C)) seen xs)

  pub coalesce_form : (xs : List Expr) (seen : List Seen) → f.in_expr q (exprs.Coalesce xs) seen ≡ exprs.Coalesce (map (λ e. f.in_expr q e seen) xs)
  unfolding f.in_expr
  coalesce_form xs seen = ap (λ z. z.at seen) (opens.expr_coalesce qualifying (qualify_steps C) xs) ∙ exprs.rolls-Coalesce (all_at seen (map (expr_of qualifying (qualify_steps C)) xs)) ∙ ap exprs.Coalesce (all_mapped (expr_of qualifying (qualify_steps C)) seen xs)

  pub case_form : (arms : List Arm) (otherwise : Option Expr) (seen : List Seen) → f.in_expr q (exprs.Case arms otherwise) seen ≡ exprs.Case (map (λ a. f.in_arm q a seen) arms) (option_map (λ e. f.in_expr q e seen) otherwise)
  unfolding f.in_expr f.in_arm
  case_form arms otherwise seen =
      ap (λ z. z.at seen) (opens.expr_case qualifying (qualify_steps C) arms otherwise)
      ∙ exprs.rolls-Case (all_at seen (map (arm_of qualifying (qualify_steps C)) arms)) (any_at seen (option_map (expr_of qualifying (qualify_steps C)) otherwise))
      ∙ ap (λ xs. exprs.Case xs (any_at seen (option_map (expr_of qualifying (qualify_steps C)) otherwise))) (all_mapped (arm_of qualifying (qualify_steps C)) seen arms)
      ∙ ap (exprs.Case (map (λ a. f.in_arm q a seen) arms)) (any_mapped (expr_of qualifying (qualify_steps C)) seen otherwise)

  pub match_form : (x : Expr) (choices : List Choice) (otherwise : Option Expr) (seen : List Seen) → f.in_expr q (exprs.Match x choices otherwise) seen ≡ exprs.Match (f.in_expr q x seen) (map (λ c. f.in_choice q c seen) choices) (option_map (λ e. f.in_expr q e seen) otherwise)
  unfolding f.in_expr f.in_choice
  match_form x choices otherwise seen =
      ap (λ z. z.at seen) (opens.expr_match qualifying (qualify_steps C) x choices otherwise)
      ∙ exprs.rolls-Match ((expr_of qualifying (qualify_steps C) x).at seen) (all_at seen (map (choice_of qualifying (qualify_steps C)) choices)) (any_at seen (option_map (expr_of qualifying (qualify_steps C)) otherwise))
      ∙ ap (λ xs. exprs.Match ((expr_of qualifying (qualify_steps C) x).at seen) xs (any_at seen (option_map (expr_of qualifying (qualify_steps C)) otherwise))) (all_mapped (choice_of qualifying (qualify_steps C)) seen choices)
      ∙ ap (exprs.Match (f.in_expr q x seen) (map (λ c. f.in_choice q c seen) choices)) (any_mapped (expr_of qualifying (qualify_steps C)) seen otherwise)

  pub aggregate_form : (op : Aggregate) (x : Expr) (seen : List Seen) → f.in_expr q (exprs.Aggregate op x) seen ≡ exprs.Aggregate op (f.in_expr q x seen)
  unfolding f.in_expr
  aggregate_form op x seen = ap (λ z. z.at seen) (opens.expr_aggregate qualifying (qualify_steps C) op x) ∙ exprs.rolls-Aggregate op ((expr_of qualifying (qualify_steps C) x).at seen)

  pub substr_form : (x from : Expr) (n : Option Expr) (seen : List Seen) → f.in_expr q (exprs.Substr x from n) seen ≡ exprs.Substr (f.in_expr q x seen) (f.in_expr q from seen) (option_map (λ e. f.in_expr q e seen) n)
  unfolding f.in_expr
  substr_form x from n seen =
      ap (λ z. z.at seen) (opens.expr_substr qualifying (qualify_steps C) x from n)
      ∙ exprs.rolls-Substr ((expr_of qualifying (qualify_steps C) x).at seen) ((expr_of qualifying (qualify_steps C) from).at seen) (any_at seen (option_map (expr_of qualifying (qualify_steps C)) n))
      ∙ ap (exprs.Substr (f.in_expr q x seen) (f.in_expr q from seen)) (any_mapped (expr_of qualifying (qualify_steps C)) seen n)

  pub apply_form : (g : Function) (x : Expr) (seen : List Seen) → f.in_expr q (exprs.Apply g x) seen ≡ exprs.Apply g (f.in_expr q x seen)
  unfolding f.in_expr
  apply_form g x seen = ap (λ z. z.at seen) (opens.expr_apply qualifying (qualify_steps C) g x) ∙ exprs.rolls-Apply g ((expr_of qualifying (qualify_steps C) x).at seen)

  -- ---- the rest

  pub everything_form : (seen : List Seen) → f.in_item q items.Everything seen ≡ items.Everything
  unfolding f.in_item
  everything_form seen = ap (λ z. z.at seen) (opens.item_everything qualifying (qualify_steps C)) ∙ items.rolls-Everything

  pub all_of_form : (n : Name) (seen : List Seen) → f.in_item q (items.AllOf n) seen ≡ items.AllOf n
  unfolding f.in_item
  all_of_form n seen = ap (λ z. z.at seen) (opens.item_allof qualifying (qualify_steps C) n) ∙ items.rolls-AllOf n

  pub value_form : (x : Expr) (n : Option Name) (seen : List Seen) → f.in_item q (items.Value x n) seen ≡ items.Value (f.in_expr q x seen) n
  unfolding f.in_item f.in_expr
  value_form x n seen = ap (λ z. z.at seen) (opens.item_value qualifying (qualify_steps C) x n) ∙ items.rolls-Value ((expr_of qualifying (qualify_steps C) x).at seen) n

  pub inner_form : (t : Tab) (c : Cond) (seen : List Seen) → f.in_join q (joins.Inner t c) seen ≡ joins.Inner t (f.in_cond q c seen)
  unfolding f.in_join f.in_cond
  inner_form t c seen = ap (λ z. z.join seen) (opens.join_inner qualifying (qualify_steps C) t c) ∙ joins.rolls-Inner t ((cond_of qualifying (qualify_steps C) c).at seen)

  pub left_form : (t : Tab) (c : Cond) (seen : List Seen) → f.in_join q (joins.Left t c) seen ≡ joins.Left t (f.in_cond q c seen)
  unfolding f.in_join f.in_cond
  left_form t c seen = ap (λ z. z.join seen) (opens.join_left qualifying (qualify_steps C) t c) ∙ joins.rolls-Left t ((cond_of qualifying (qualify_steps C) c).at seen)

  pub cross_form : (t : Tab) (seen : List Seen) → f.in_join q (joins.Cross t) seen ≡ joins.Cross t
  unfolding f.in_join
  cross_form t seen = ap (λ z. z.join seen) (opens.join_cross qualifying (qualify_steps C) t) ∙ joins.rolls-Cross t

  pub arm_form : (x : Arm) (seen : List Seen) → f.in_arm q x seen ≡ roll-Arm (record { when = f.in_cond q x.when seen; result = f.in_expr q x.result seen })
  unfolding f.in_arm f.in_cond f.in_expr
  arm_form x seen = ap (λ z. z.at seen) (opens.arm_out qualifying (qualify_steps C) x)

  pub choice_form : (x : Choice) (seen : List Seen) → f.in_choice q x seen ≡ roll-Choice (record { when = f.in_expr q x.when seen; result = f.in_expr q x.result seen })
  unfolding f.in_choice f.in_expr
  choice_form x seen = ap (λ z. z.at seen) (opens.choice_out qualifying (qualify_steps C) x)

  pub signed_form : (x : Signed) (seen : List Seen) → f.in_signed q x seen ≡ roll-Signed (record { minus = x.minus; part = f.in_expr q x.part seen })
  unfolding f.in_signed f.in_expr
  signed_form x seen = ap (λ z. z.at seen) (opens.signed_out qualifying (qualify_steps C) x)

  -- ---- FROM

  tab_rolled : (x : Written layers.Join-F) → (join_of qualifying (qualify_steps C) (roll-Join x)).tab ≡ (join_of marked mark_steps (roll-Join x)).tab
  tab_rolled (layers.Join-F.Inner t c) = ap (λ z. z.tab) (opens.join_roll qualifying (qualify_steps C) (layers.Join-F.Inner t c)) ∙ sym (ap (λ z. z.tab) (opens.join_roll marked mark_steps (layers.Join-F.Inner t c)))
  tab_rolled (layers.Join-F.Left t c) = ap (λ z. z.tab) (opens.join_roll qualifying (qualify_steps C) (layers.Join-F.Left t c)) ∙ sym (ap (λ z. z.tab) (opens.join_roll marked mark_steps (layers.Join-F.Left t c)))
  tab_rolled (layers.Join-F.Cross t) = ap (λ z. z.tab) (opens.join_roll qualifying (qualify_steps C) (layers.Join-F.Cross t)) ∙ sym (ap (λ z. z.tab) (opens.join_roll marked mark_steps (layers.Join-F.Cross t)))

  tab_same : (j : Join) → (join_of qualifying (qualify_steps C) j).tab ≡ (join_of marked mark_steps j).tab
  tab_same j = subst (λ (k : Join). (join_of qualifying (qualify_steps C) k).tab ≡ (join_of marked mark_steps k).tab) (roll-out-Join j) (tab_rolled (out-Join j))

  joins_same : (tabs : List Tab) (js : List Join) (outer : List Seen) → joins_in tabs (map (join_of qualifying (qualify_steps C)) js) outer ≡ f.in_joins q tabs js outer
  unfolding f.in_join
  joins_same tabs [] outer = refl
  joins_same tabs (j ∷ js) outer =
      ap (λ (t : Tab). (join_of qualifying (qualify_steps C) j).join (items_in outer (tabs ++ t ∷ []) ++ outer) ∷ joins_in (tabs ++ t ∷ []) (map (join_of qualifying (qualify_steps C)) js) outer) (tab_same j)
      ∙ ap (λ (rest : List Join). (join_of qualifying (qualify_steps C) j).join (items_in outer (tabs ++ (join_of marked mark_steps j).tab ∷ []) ++ outer) ∷ rest) (joins_same (tabs ++ (join_of marked mark_steps j).tab ∷ []) js outer)

  pub chain_form : (x : Chain) (outer : List Seen) → f.in_chain q x outer ≡ roll-Chain (record { first = x.first; joins = f.in_joins q (x.first ∷ []) x.joins outer })
  unfolding f.in_chain
  chain_form x outer = ap (λ z. z.chain outer) (opens.chain_out qualifying (qualify_steps C) x) ∙ ap (λ (js : List Join). roll-Chain (record { first = x.first; joins = js })) (joins_same (x.first ∷ []) x.joins outer)

  map_tabs : (js : List Join) → map (λ j. j.tab) (map (join_of qualifying (qualify_steps C)) js) ≡ map (λ j. j.tab) (map (join_of marked mark_steps) js)
  map_tabs [] = refl
  map_tabs (j ∷ js) = λ i. tab_same j i ∷ map_tabs js i

  chain_tabs : (x : Chain) → (chain_of qualifying (qualify_steps C) x).tabs ≡ tables_of_chain (chain_of marked mark_steps x)
  chain_tabs x = ap (λ z. z.tabs) (opens.chain_out qualifying (qualify_steps C) x) ∙ ap (λ (ts : List Tab). x.first ∷ ts) (map_tabs x.joins) ∙ sym (tables_in_chain x)

  from_tabs : (xs : List Chain) → flat_map (λ c. c.tabs) (map (chain_of qualifying (qualify_steps C)) xs) ≡ tables_of (map (chain_of marked mark_steps) xs)
  from_tabs [] = refl
  from_tabs (x ∷ xs) = λ i. chain_tabs x i ++ from_tabs xs i

  -- ---- queries

  pub query_form : (x : Query) (outer inner : List Seen) → inner ≡ items_in outer (tables_of (map (chain_of marked mark_steps) (out-Query x).from)) ++ outer
      → f.in_query q x outer ≡ roll-Query (record {
        distinct = (out-Query x).distinct;
        items = map (λ i. f.in_item q i inner) (out-Query x).items;
        from = map (λ c. f.in_chain q c outer) (out-Query x).from;
        filter = option_map (λ c. f.in_cond q c inner) (out-Query x).filter;
        group = map (with_item C inner) (out-Query x).group;
        having = option_map (λ c. f.in_cond q c inner) (out-Query x).having;
      })
  unfolding f.in_query f.in_item f.in_chain f.in_cond
  query_form x outer inner h =
      let L : Written layers.Query-F = out-Query x in
      let e : seen_in outer (map (chain_of qualifying (qualify_steps C)) L.from) ≡ inner = ap (λ (ts : List Tab). items_in outer ts ++ outer) (from_tabs L.from) ∙ sym h in
      ap (λ z. z.at outer) (opens.query_out qualifying (qualify_steps C) x)
      ∙ ap (λ (seen : List Seen). query_in C outer seen (record { distinct = L.distinct; items = map (item_of qualifying (qualify_steps C)) L.items; from = map (chain_of qualifying (qualify_steps C)) L.from; filter = option_map (cond_of qualifying (qualify_steps C)) L.filter; group = L.group; having = option_map (cond_of qualifying (qualify_steps C)) L.having })) e
      ∙ (λ i. roll-Query (record {
        distinct = L.distinct;
        items = all_mapped (item_of qualifying (qualify_steps C)) inner L.items i;
        from = chains_mapped (chain_of qualifying (qualify_steps C)) outer L.from i;
        filter = any_mapped (cond_of qualifying (qualify_steps C)) inner L.filter i;
        group = map (with_item C inner) L.group;
        having = any_mapped (cond_of qualifying (qualify_steps C)) inner L.having i;
      }))

-- What a query names depends on the columns of the tables that it mentions, and the tables that it names are mentioned.
use Rattle.std.proofs.Common.{ℕ, ◌≡◌, refl, List, [], ◌∷◌, ◌++◌, Option, Some, None}
use Rattle.std.specs.List.{AllByRecursion, flat_map}
use Rattle.lb_tree.specs.declared.query.Expr.{Expr}
use Rattle.lb_tree.specs.declared.query.Cond.{Cond}
use Rattle.lb_tree.specs.declared.query.Query.{Query}
use Rattle.lb_tree.specs.declared.query.Cond.TheOpen as layers
use Rattle.lb_tree.specs.Folds.{Layer}
use Rattle.lb_cat.specs.declared.catalog.ColumnRec.{ColumnRec}
use Rattle.lb_names.specs.Mentions.{Mention, table, policy, label, in_expr, in_cond, in_query}
use Rattle.lb_mean.specs.Frame.{Agrees}
use Rattle.lb_mean.specs.Named.{FromItem, Named, Use, Uses, ItemUses, JoinUses, Joining, QueryUses, no_uses, all_uses, if_used, and_then, joinings}
use Rattle.lb_mean.specs.Uses.{using, use_steps, use_of, inside, query_within, from_item, join_uses, chain_uses, uses_in, uses_in_cond, uses_in_query}
use Rattle.lb_mean.proofs.Lists.{all_two, all_flat, all_of_map, all_turned}
use Rattle.lb_mean.proofs.Framed.{Alike, head_expr, head_join, head_chain, expr_framed, cond_framed, query_framed}
use Rattle.lb_mean.proofs.Held.{Holding, Keeps, IfThere, parts_expr, parts_cond, parts_item, parts_join, parts_chain, parts_query, expr_held, cond_held, query_held}

-- ---- one list of columns for a table or another

module _ (f g : List ℕ → List ColumnRec) where
  -- the same columns of a mentioned table
  abbrev pub SameColumns : Mention → Type 0
  SameColumns (table n) = f n ≡ g n
  SameColumns (policy p) = Unit {0}
  SameColumns (label p l) = Unit {0}

  join_same : (x : Layer using layers.Join-F) → Agrees SameColumns (head_join x) → join_uses f x ≡ join_uses g x
  join_same (layers.Join-F.Inner tab on) h = λ i. record { item = record { tab = tab; columns = h.0 i }; on = on }
  join_same (layers.Join-F.Left tab on) h = λ i. record { item = record { tab = tab; columns = h.0 i }; on = on }
  join_same (layers.Join-F.Cross tab) h = λ i. record { item = record { tab = tab; columns = h.0 i }; on = no_uses }

  chain_same : (x : Layer using layers.Chain-F) → Agrees SameColumns (head_chain x) → chain_uses f x ≡ chain_uses g x
  chain_same x h = λ i.
      record { item = record { tab = x.first; columns = h.0 i }; owned = []; outer = []; tables = [] }
      ∷ joinings (record { tab = x.first; columns = h.0 i } ∷ []) x.joins

  item_same : (x : Layer using layers.Item-F) → (use_steps f).item x ≡ (use_steps g).item x
  item_same layers.Item-F.Everything = refl
  item_same (layers.Item-F.AllOf n) = refl
  item_same (layers.Item-F.Value e name) = refl

  alike : Alike using (use_steps f) (use_steps g) SameColumns
  alike = record {
    cond = λ x. refl;
    expr = λ x h. refl;
    item = item_same;
    join = join_same;
    arm = λ x. refl;
    chain = chain_same;
    choice = λ x. refl;
    query = λ x. refl;
    signed = λ x. refl;
  }

  pub expr_uses_same : (e : Expr) → Agrees SameColumns (in_expr e) → uses_in f e ≡ uses_in g e
  unfolding uses_in
  expr_uses_same = expr_framed using (use_steps f) (use_steps g) SameColumns alike

  pub cond_uses_same : (c : Cond) → Agrees SameColumns (in_cond c) → uses_in_cond f c ≡ uses_in_cond g c
  unfolding uses_in_cond
  cond_uses_same = cond_framed using (use_steps f) (use_steps g) SameColumns alike

  pub query_uses_same : (q : Query) → Agrees SameColumns (in_query q) → uses_in_query f q ≡ uses_in_query g q
  unfolding uses_in_query
  query_uses_same = query_framed using (use_steps f) (use_steps g) SameColumns alike

-- ---- the tables that a query names are mentioned

module _ (f : List ℕ → List ColumnRec) (A : Mention → Type 0) where
  abbrev pub AtItem : FromItem → Type 0
  AtItem item = A (table item.tab.table)

  abbrev pub AtUse : Use → Type 0
  AtUse u = AtItem u.item

  abbrev pub InUses : Uses → Type 0
  InUses x = AllByRecursion AtUse x.tables

  abbrev InItem : ItemUses → Type 0
  InItem x = InUses x.within

  abbrev InJoin : JoinUses → Type 0
  InJoin x = AtItem x.item × InUses x.on

  abbrev AtJoining : Joining → Type 0
  AtJoining j = AtItem j.item × AllByRecursion AtUse j.tables

  abbrev pub InQuery : QueryUses → Type 0
  InQuery q = ((further : List Named) → InUses (q.within further)) × AllByRecursion AtItem q.from

  abbrev holding : Holding using
  holding = record { cond = InUses; expr = InUses; item = InItem; join = InJoin; arm = InUses; chain = AllByRecursion AtJoining; choice = InUses; query = InQuery; signed = InUses }

  two_hold : (a b : Uses) → InUses a → InUses b → InUses (and_then a b)
  two_hold a b = all_two AtUse a.tables b.tables

  all_hold : (xs : List Uses) → AllByRecursion InUses xs → InUses (all_uses xs)
  all_hold [] h = tt
  all_hold (x ∷ xs) h = two_hold x (all_uses xs) h.0 (all_hold xs h.1)

  some_holds : (o : Option Uses) → IfThere InUses o → InUses (if_used o)
  some_holds None h = tt
  some_holds (Some x) h = h

  expr_holds : (x : Layer using layers.Expr-F) → Agrees A (head_expr x) → parts_expr using holding x → InUses ((use_steps f).expr x)
  expr_holds (layers.Expr-F.Atom x) g h = tt
  expr_holds (layers.Expr-F.Sum es) g h = all_hold es h
  expr_holds (layers.Expr-F.Concat es) g h = all_hold es h
  expr_holds (layers.Expr-F.Product es) g h = all_hold es h
  expr_holds (layers.Expr-F.Case arms other) g h = two_hold (all_uses arms) (if_used other) (all_hold arms h.0) (some_holds other h.1)
  expr_holds (layers.Expr-F.Match e arms other) g h = two_hold e (and_then (all_uses arms) (if_used other)) h.0 (two_hold (all_uses arms) (if_used other) (all_hold arms h.1.0) (some_holds other h.1.1))
  expr_holds (layers.Expr-F.Aggregate op e) g h = h
  expr_holds (layers.Expr-F.Substr text start count) g h = two_hold text (and_then start (if_used count)) h.0 (two_hold start (if_used count) h.1.0 (some_holds count h.1.1))
  expr_holds (layers.Expr-F.Apply op e) g h = h
  expr_holds (layers.Expr-F.Coalesce es) g h = all_hold es h

  cond_holds : (x : Layer using layers.Cond-F) → parts_cond using holding x → InUses ((use_steps f).cond x)
  cond_holds (layers.Cond-F.Or cs) h = all_hold cs h
  cond_holds (layers.Cond-F.And cs) h = all_hold cs h
  cond_holds (layers.Cond-F.Not c) h = h
  cond_holds (layers.Cond-F.Exists q) h = h.0 []
  cond_holds (layers.Cond-F.Compare by a b) h = two_hold a b h.0 h.1
  cond_holds (layers.Cond-F.CompareQuery by a q) h = two_hold a (inside q) h.0 (h.1.0 [])
  cond_holds (layers.Cond-F.IsNull a) h = h
  cond_holds (layers.Cond-F.InQuery a q) h = two_hold a (inside q) h.0 (h.1.0 [])
  cond_holds (layers.Cond-F.InList a es) h = two_hold a (all_uses es) h.0 (all_hold es h.1)
  cond_holds (layers.Cond-F.Between a low high) h = two_hold a (and_then low high) h.0 (two_hold low high h.1.0 h.1.1)

  item_holds : (x : Layer using layers.Item-F) → parts_item using holding x → InItem ((use_steps f).item x)
  item_holds layers.Item-F.Everything h = tt
  item_holds (layers.Item-F.AllOf n) h = tt
  item_holds (layers.Item-F.Value e name) h = h

  join_holds : (x : Layer using layers.Join-F) → Agrees A (head_join x) → parts_join using holding x → InJoin ((use_steps f).join x)
  join_holds (layers.Join-F.Inner tab on) g h = (g.0, h)
  join_holds (layers.Join-F.Left tab on) g h = (g.0, h)
  join_holds (layers.Join-F.Cross tab) g h = (g.0, tt)

  joinings_hold : (before : List FromItem) (js : List JoinUses) → AllByRecursion InJoin js → AllByRecursion AtJoining (joinings before js)
  joinings_hold before [] h = tt
  joinings_hold before (j ∷ js) h = (h.0, joinings_hold (before ++ (j.item ∷ [])) js h.1)

  chain_holds : (x : Layer using layers.Chain-F) → Agrees A (head_chain x) → parts_chain using holding x → AllByRecursion AtJoining ((use_steps f).chain x)
  chain_holds x g h = ((g.0, tt), joinings_hold (from_item f x.first ∷ []) x.joins h)

  query_holds : (x : Layer using layers.Query-F) → parts_query using holding x → InQuery ((use_steps f).query x)
  query_holds x h = (within, all_of_map AtItem (λ j. j.item) all (all_turned AtJoining (λ j k. k.0) all joined))
    where
      all : List Joining
      all = flat_map (λ js. js) x.from

      joined : AllByRecursion AtJoining all
      joined = all_flat AtJoining (λ js. js) x.from h.1.0

      within : (further : List Named) → InUses (query_within x all further)
      within further = all_two AtUse (flat_map (λ i. i.within.tables) x.items) _
          (all_flat AtUse (λ i. i.within.tables) x.items h.0)
          (all_two AtUse (flat_map (λ j. use_of x further all j.item ∷ j.tables) all) ((if_used x.filter).tables ++ (if_used x.having).tables)
          (all_flat AtUse (λ j. use_of x further all j.item ∷ j.tables) all (all_turned AtJoining (λ j k. k) all joined))
          (all_two AtUse (if_used x.filter).tables (if_used x.having).tables (some_holds x.filter h.1.1.0) (some_holds x.having h.1.1.1)))

  keeps : Keeps using (use_steps f) A holding
  keeps = record {
    cond = cond_holds;
    expr = expr_holds;
    item = item_holds;
    join = join_holds;
    arm = λ x h. two_hold x.when x.result h.0 h.1;
    chain = chain_holds;
    choice = λ x h. two_hold x.when x.result h.0 h.1;
    query = query_holds;
    signed = λ x h. h;
  }

  pub expr_uses_held : (e : Expr) → Agrees A (in_expr e) → InUses (uses_in f e)
  unfolding uses_in
  expr_uses_held = expr_held using (use_steps f) A holding keeps

  pub cond_uses_held : (c : Cond) → Agrees A (in_cond c) → InUses (uses_in_cond f c)
  unfolding uses_in_cond
  cond_uses_held = cond_held using (use_steps f) A holding keeps

  pub query_uses_held : (q : Query) → Agrees A (in_query q) → InQuery (uses_in_query f q)
  unfolding uses_in_query
  query_uses_held = query_held using (use_steps f) A holding keeps

-- The first refusal for types depends on the catalogue by what is mentioned alone.
use Rattle.std.proofs.Common.{ℕ, ◌≡◌, refl, ap, sym, subst, ◌∙◌, List, [], ◌∷◌, ◌++◌, Bool, true, false, cond, not, ◌&&◌, ◌||◌, ◌==◌, if◌then◌else◌, Option, Some, None, map, Ok, Err, length}
use Rattle.std.specs.Prelude.{ℤ}
use Rattle.std.specs.List.{list_any, flat_map}
use Rattle.std.specs.Str.{bytes_eq}
use Rattle.lb_tree.specs.declared.query.Atom.TheVariants as atoms
use Rattle.lb_tree.specs.declared.query.Tab.{Tab}
use Rattle.lb_tree.specs.declared.query.Cond.{Cond}
use Rattle.lb_tree.specs.declared.query.Expr.{Expr}
use Rattle.lb_tree.specs.declared.query.Item.{Item}
use Rattle.lb_tree.specs.declared.query.Query.{Query}
use Rattle.lb_tree.specs.declared.query.SortKey.{SortKey}
use Rattle.lb_tree.specs.declared.query.Select.{Select}
use Rattle.lb_tree.specs.declared.query.Cond.TheOpen as layers
use Rattle.lb_tree.specs.declared.query.Cond.TheViews.{out-Expr, out-Item, out-Query, roll-Item, roll-out-Item}
use Rattle.lb_tree.proofs.Opens.{item_roll, query_out}
use Rattle.lb_tree.specs.Folds.{Written}
use Rattle.lb_stmt.specs.declared.write.Assignment.{Assignment}
use Rattle.lb_stmt.specs.declared.write.InsertSource.{InsertSource}
use Rattle.lb_stmt.specs.declared.write.InsertSource.TheVariants as sources
use Rattle.lb_stmt.specs.declared.write.Stmt.{Stmt}
use Rattle.lb_stmt.specs.declared.write.Stmt.TheVariants as stmts
use Rattle.lb_names.specs.Sights.{Name}
use Rattle.lb_names.specs.SortNames.{or_else, if_named, named, maybe_named, bare_name, meant, position}
use Rattle.lb_names.specs.Mentions.{table, all_of, if_given, naming, naming_steps, in_cond, in_expr, in_query, in_key, in_select, in_where, in_assignment, in_source, in_stmt}
use Rattle.lb_names.specs.Kinds.{Kind, is_label, takes}
use Rattle.lb_names.specs.Scopes.{Field, Catalogue, listed, resolve}
use Rattle.lb_names.specs.Typed.{◌>>=◌, only_if}
use Rattle.lb_names.specs.Places.{Place, outermost}
use Rattle.lb_names.specs.Carriers.{Role}
use Rattle.lb_names.specs.Typing.{says, means, answers}
use Rattle.lb_names.specs.OrderTyping.{is_own_column, is_in_star, is_item, is_selected, item_key, output_key, output_at, other_key, key_typed, keys_typed, is_total_key, outermost_role, order_place, select_typed}
use Rattle.lb_names.specs.Statements.{broken, over_place, set_place, values_place, stored_place, given, kind_wanted, kinds_wanted, is_taken_by, values_typed, first_broken, rows_typed, source_types_refused, kinds_given, assignments_typed, where_typed, types_refused, permission_types_refused, mask_takes, mask_types_refused}
use Rattle.lb_names.specs.Agreeing.{AgreeOn}
use Rattle.lb_names.proofs.NamesFrame.{resolve_same}
use Rattle.lb_names.proofs.Mentioned.{n_item, n_expr, n_chain, n_cond}
use Rattle.lb_names.proofs.Sighted as s
use Rattle.std.specs.Option.{option_map}
use Rattle.lb_names.proofs.AlikeLists as l
use Rattle.lb_names.proofs.Alike.{same_alike}
use Rattle.lb_names.proofs.OneType.{one_type_cond, one_type_expr, one_type_query}

module _ (C D : Catalogue) where
  of_cond : (c : Cond) → AgreeOn C D (in_cond c) → l.AlikeSays C D (says C c) (says D c)
  unfolding in_cond says
  of_cond c h = one_type_cond C D c h

  of_expr : (e : Expr) → AgreeOn C D (in_expr e) → l.AlikeMeans C D (means C e) (means D e)
  unfolding in_expr means
  of_expr e h = one_type_expr C D e h

  of_query : (q : Query) → AgreeOn C D (in_query q) → l.AlikeAnswers C D (answers C q) (answers D q)
  unfolding in_query answers
  of_query q h = one_type_query C D q h

  -- ---- ORDER BY

  own_column_same : (P : Place) (x : Option Name) → (e : Written layers.Expr-F) → l.PlaceAgrees C D P → is_in_star C P x e ≡ is_in_star D P x e
  own_column_same P x (layers.Expr-F.Atom (atoms.Column c)) p = ap (is_own_column C P x) (resolve_same C D P.sight.seen p.0 c) ∙ own P x (resolve D P.sight.seen c)
    where
      own : (P : Place) (x : Option Name) → (r : _) → is_own_column C P x r ≡ is_own_column D P x r
      own P None (Ok r) = refl
      own P (Some n) (Ok r) = refl
      own P None (Err n) = refl
      own P (Some m) (Err n) = refl
  own_column_same P x (layers.Expr-F.Atom atoms.Null) p = refl
  own_column_same P x (layers.Expr-F.Atom (atoms.Int n)) p = refl
  own_column_same P x (layers.Expr-F.Atom (atoms.Text t)) p = refl
  own_column_same P x (layers.Expr-F.Atom (atoms.Date d)) p = refl
  own_column_same P x (layers.Expr-F.Atom atoms.CurrentDate) p = refl
  own_column_same P x (layers.Expr-F.Atom atoms.SessionUser) p = refl
  own_column_same P x (layers.Expr-F.Atom atoms.CountRows) p = refl
  own_column_same P x (layers.Expr-F.Atom (atoms.VerifyRole r)) p = refl
  own_column_same P x (layers.Expr-F.Atom (atoms.VerifyGroup g)) p = refl
  own_column_same P x (layers.Expr-F.Atom (atoms.SecLabel q t)) p = refl
  own_column_same P x (layers.Expr-F.Atom (atoms.SecLabelByName q m)) p = refl
  own_column_same P x (layers.Expr-F.Atom (atoms.SecLabelToChar q c)) p = refl
  own_column_same P x (layers.Expr-F.Sum a) p = refl
  own_column_same P x (layers.Expr-F.Concat a) p = refl
  own_column_same P x (layers.Expr-F.Product a) p = refl
  own_column_same P x (layers.Expr-F.Case a b) p = refl
  own_column_same P x (layers.Expr-F.Match a b c) p = refl
  own_column_same P x (layers.Expr-F.Aggregate a b) p = refl
  own_column_same P x (layers.Expr-F.Substr a b c) p = refl
  own_column_same P x (layers.Expr-F.Apply a b) p = refl
  own_column_same P x (layers.Expr-F.Coalesce a) p = refl

  item_same : (P : Place) → l.PlaceAgrees C D P → (e : Expr) (i : Written layers.Item-F) → is_item C P e i ≡ is_item D P e i
  item_same P p e layers.Item-F.Everything = own_column_same P None (out-Expr e) p
  item_same P p e (layers.Item-F.AllOf x) = own_column_same P (Some x) (out-Expr e) p
  item_same P p e (layers.Item-F.Value f name) = same_alike C D P.sight.seen p.0 e f

  selected_same : (P : Place) → l.PlaceAgrees C D P → (items : List Item) (e : Expr) → is_selected C P items e ≡ is_selected D P items e
  selected_same P p [] e = refl
  selected_same P p (j ∷ items) e = λ i. item_same P p e (out-Item j) i || selected_same P p items e i

  -- what a name stands for is an item of the query, whose mentions are among the query's
  abbrev MaybeAlike : Option Expr → Type 0
  MaybeAlike None = Unit {0}
  MaybeAlike (Some f) = l.AlikeMeans C D (means C f) (means D f)

  in_item : (f : Expr) → AgreeOn C D (n_expr f) → AgreeOn C D (in_expr f)
  unfolding in_expr
  in_item f h = h

  item_alike : (n : Name) (x : Written layers.Item-F) (rest : Option Expr) → AgreeOn C D (n_item (roll-Item x)) → MaybeAlike rest → MaybeAlike (or_else (if_named n x) rest)
  item_alike n layers.Item-F.Everything rest h k = k
  item_alike n (layers.Item-F.AllOf x) rest h k = k
  item_alike n (layers.Item-F.Value f None) rest h k = k
  item_alike n (layers.Item-F.Value f (Some m)) rest h k =
      let g : AgreeOn C D (n_expr f) = subst (AgreeOn C D) (item_roll naming naming_steps (layers.Item-F.Value f (Some m))) h in
      elim (bytes_eq n m) as (λ b. MaybeAlike (or_else (cond b (Some f) None) rest)) [
        | true ↦ of_expr f (in_item f g)
        | false ↦ k
      ]

  named_alike : (n : Name) (items : List Item) → AgreeOn C D (all_of (map n_item items)) → MaybeAlike (named n items)
  named_alike n [] h = tt
  named_alike n (i ∷ items) h = item_alike n (out-Item i) (named n items) (subst (λ z. AgreeOn C D (n_item z)) (sym (roll-out-Item i)) (s.front C D (n_item i) (all_of (map n_item items)) h)) (named_alike n items (s.back C D (n_item i) (all_of (map n_item items)) h))

  maybe_alike : (b : Option Name) (items : List Item) → AgreeOn C D (all_of (map n_item items)) → MaybeAlike (maybe_named b items)
  maybe_alike None items h = tt
  maybe_alike (Some n) items h = named_alike n items h

  items_agree : (q : Query) → AgreeOn C D (in_query q) → AgreeOn C D (all_of (map n_item (out-Query q).items))
  unfolding in_query
  items_agree q h = s.front C D (all_of (map n_item (out-Query q).items)) (all_of (map n_chain (out-Query q).from) ++ (if_given (option_map n_cond (out-Query q).filter) ++ if_given (option_map n_cond (out-Query q).having))) (subst (AgreeOn C D) (query_out naming naming_steps q) h)

  output_same : (o : Option Kind) (at : ℕ) → output_key C o at ≡ output_key D o at
  output_same None at = refl
  output_same (Some k) at = refl

  other_same : (P : Place) → l.PlaceAgrees C D P → (distinct : Bool) (items : List Item) (ks : List Kind) (e : Expr) → AgreeOn C D (in_expr e) → (n : Option ℤ) (at : ℕ) → other_key C P distinct items ks e n at ≡ other_key D P distinct items ks e n at
  other_same P p distinct items ks e h None at = λ i. (of_expr e h).0 P p at i >>= λ x. only_if (not (is_label x.0) && (not distinct || selected_same P p items e i)) at (tt, x.1)
  other_same P p distinct items ks e h (Some n) at = output_same (output_at n ks) at

  key_same : (P : Place) → l.PlaceAgrees C D P → (distinct : Bool) (items : List Item) (ks : List Kind) (e : Expr) → AgreeOn C D (in_expr e) → (m : Option Expr) → MaybeAlike m → (at : ℕ) → key_typed C P distinct items ks e m at ≡ key_typed D P distinct items ks e m at
  key_same P p distinct items ks e h None k at = other_same P p distinct items ks e h (position e) at
  key_same P p distinct items ks e h (Some f) k at = λ i. k.0 P p at i >>= λ x. item_key D at x.0

  keys_same : (P : Place) → l.PlaceAgrees C D P → (distinct : Bool) (items : List Item) → AgreeOn C D (all_of (map n_item items)) → (ks : List Kind) (keys : List SortKey) → AgreeOn C D (flat_map in_key keys) → (n : ℕ) → keys_typed C P distinct items ks keys n ≡ keys_typed D P distinct items ks keys n
  keys_same P p distinct items a ks [] h n = refl
  keys_same P p distinct items a ks (key ∷ keys) h n = λ i. key_same P p distinct items ks key.by (s.front C D (in_key key) (flat_map in_key keys) h) (meant items key.by) (maybe_alike (bare_name (out-Expr key.by)) items a) n i >>= λ x. keys_same P p distinct items a ks keys (s.back C D (in_key key) (flat_map in_key keys) h) x.1 i

  totals_same : (keys : List SortKey) → AgreeOn C D (flat_map in_key keys) → list_any (is_total_key C) keys ≡ list_any (is_total_key D) keys
  totals_same [] h = refl
  totals_same (key ∷ keys) h = λ i. (of_expr key.by (s.front C D (in_key key) (flat_map in_key keys) h)).1.0 i || totals_same keys (s.back C D (in_key key) (flat_map in_key keys) h) i

  pub select_same : (q : Select) (wanted : Option (List Kind)) → AgreeOn C D (in_select q) → select_typed C q wanted ≡ select_typed D q wanted
  select_same q wanted h =
      let one : AgreeOn C D (in_query q.query) = s.front C D (in_query q.query) (flat_map in_key q.order) h in
      let keys : AgreeOn C D (flat_map in_key q.order) = s.back C D (in_query q.query) (flat_map in_key q.order) h in
      let role : Role = outermost_role C q.order wanted in
      let alike : l.AlikeAnswers C D (answers C q.query) (answers D q.query) = of_query q.query one in
      (λ i. alike.0 role outermost (tt, tt) 0 i >>= λ ks. keys_same (order_place C q wanted) (alike.1 role outermost (tt, tt)).1 (out-Query q.query).distinct (out-Query q.query).items (items_agree q.query one) ks.0 q.order keys ks.1 i >>= λ x. Ok (ks.0, x.1))
      ∙ (λ i. (answers D q.query).kinds role outermost 0 >>= λ ks. keys_typed D ((alike.1 role outermost (tt, tt)).0 i) (out-Query q.query).distinct (out-Query q.query).items ks.0 q.order ks.1 >>= λ x. Ok (ks.0, x.1))
      ∙ (λ i. (answers D q.query).kinds (record { subquery = false; one = false; total = totals_same q.order keys i; wanted = wanted }) outermost 0 >>= λ ks. keys_typed D ((answers D q.query).shown (record { subquery = false; one = false; total = totals_same q.order keys i; wanted = wanted }) outermost) (out-Query q.query).distinct (out-Query q.query).items ks.0 q.order ks.1 >>= λ x. Ok (ks.0, x.1))

  -- ---- writes

  values_same : (ws : List Kind) (es : List Expr) → AgreeOn C D (flat_map in_expr es) → (n : ℕ) → values_typed C ws es n ≡ values_typed D ws es n
  values_same [] [] h n = refl
  values_same [] (e ∷ es) h n = refl
  values_same (w ∷ ws) [] h n = refl
  values_same (w ∷ ws) (e ∷ es) h n = λ i. (of_expr e (s.front C D (in_expr e) (flat_map in_expr es) h)).0 values_place (tt, tt) n i >>= λ x. only_if (takes w x.0) n x >>= λ y. values_same ws es (s.back C D (in_expr e) (flat_map in_expr es) h) y.1 i

  broken_same : (es : List Expr) → AgreeOn C D (flat_map in_expr es) → (n : ℕ) → first_broken C es n ≡ first_broken D es n
  broken_same [] h n = refl
  broken_same (e ∷ es) h n = λ i. (of_expr e (s.front C D (in_expr e) (flat_map in_expr es) h)).0 values_place (tt, tt) n i >>= λ x. Err n

  rows_same : (ws : List Kind) (rows : List (List Expr)) → AgreeOn C D (flat_map (flat_map in_expr) rows) → (n : ℕ) → rows_typed C ws rows n ≡ rows_typed D ws rows n
  rows_same ws [] h n = refl
  rows_same ws (es ∷ rows) h n =
      let here : AgreeOn C D (flat_map in_expr es) = s.front C D (flat_map in_expr es) (flat_map (flat_map in_expr) rows) h in
      λ i. (if length ws == length es then values_same ws es here n i else broken_same es here n i) >>= λ x. rows_same ws rows (s.back C D (flat_map in_expr es) (flat_map (flat_map in_expr) rows) h) x.1 i

  source_same : (ws : List Kind) (q : InsertSource) → AgreeOn C D (in_source q) → source_types_refused C ws q ≡ source_types_refused D ws q
  source_same ws (sources.Rows rows) h = ap broken (rows_same ws rows h 0)
  source_same ws (sources.Query q) h = ap broken (select_same q (Some ws) h)

  assignments_same : (fields : List Field) (P : Place) → l.PlaceAgrees C D P → (as_ : List Assignment) → AgreeOn C D (flat_map in_assignment as_) → (n : ℕ) → assignments_typed C fields P as_ n ≡ assignments_typed D fields P as_ n
  assignments_same fields P p [] h n = refl
  assignments_same fields P p (a ∷ rest) h n = λ i. (of_expr a.value (s.front C D (in_assignment a) (flat_map in_assignment rest) h)).0 P p n i >>= λ x. only_if (is_taken_by (kind_wanted fields a.column) x.0) n x >>= λ y. assignments_same fields P p rest (s.back C D (in_assignment a) (flat_map in_assignment rest) h) y.1 i

  where_same : (P : Place) → l.PlaceAgrees C D P → (c : Option Cond) → AgreeOn C D (in_where c) → (n : ℕ) → where_typed C P c n ≡ where_typed D P c n
  where_same P p None h n = refl
  where_same P p (Some c) h n = (of_cond c h).0 P p n

  pub types_same : (q : Stmt) → AgreeOn C D (in_stmt q) → types_refused C q ≡ types_refused D q
  types_same (stmts.Select q) h = ap broken (select_same q None h)
  types_same (stmts.Insert i) h = source_same (kinds_given C i.table i.columns) i.source h.1 ∙ ap (λ fields. source_types_refused D (kinds_wanted (listed fields) (given (listed fields) i.columns)) i.source) h.0
  types_same (stmts.Update u) h =
      let sets : AgreeOn C D (flat_map in_assignment u.assignments) = s.front C D (flat_map in_assignment u.assignments) (in_where u.filter) h.1 in
      let rest : AgreeOn C D (in_where u.filter) = s.back C D (flat_map in_assignment u.assignments) (in_where u.filter) h.1 in
      (λ i. broken (assignments_same (listed (C.columns u.target.table)) (set_place u.target) ((h.0, tt), (h.0, tt)) u.assignments sets 0 i >>= λ x. where_same (over_place u.target) ((h.0, tt), (h.0, tt)) u.filter rest x.1 i))
      ∙ (λ i. broken (assignments_typed D (listed (h.0 i)) (set_place u.target) u.assignments 0 >>= λ x. where_typed D (over_place u.target) u.filter x.1))
  types_same (stmts.Delete d) h = ap broken (where_same (over_place d.target) ((h.0, tt), (h.0, tt)) d.filter h.1 0)
  types_same (stmts.Change c) h = refl

  pub permission_types_same : (tab : Tab) (c : Cond) → AgreeOn C D (table tab.table ∷ in_cond c) → permission_types_refused C tab c ≡ permission_types_refused D tab c
  permission_types_same tab c h = ap broken ((of_cond c h.1).0 (stored_place tab) ((h.0, tt), (h.0, tt)) 0)

  pub mask_types_same : (tab : Tab) (column : Name) (e : Expr) → AgreeOn C D (table tab.table ∷ in_expr e) → mask_types_refused C tab column e ≡ mask_types_refused D tab column e
  mask_types_same tab column e h = λ i. broken ((of_expr e h.1).0 (stored_place tab) ((h.0, tt), (h.0, tt)) 0 i >>= λ x. only_if (mask_takes D (kind_wanted (listed (h.0 i)) column) x.0) 0 x)

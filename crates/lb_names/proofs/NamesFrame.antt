-- The first refusal for names depends on the catalogue by what is mentioned alone.
use Rattle.std.proofs.Common.{ℕ, ◌≡◌, refl, ap, List, [], ◌∷◌, Bool, true, false, Option, Some, None, ◌&&◌, ◌||◌, ◌==◌, if◌then◌else◌, Err, map}
use Rattle.std.specs.List.{list_any, flat_map}
use Rattle.std.specs.Str.{bytes_eq}
use Rattle.lb_tree.specs.declared.query.Atom.{Atom}
use Rattle.lb_tree.specs.declared.query.Atom.TheVariants as atoms
use Rattle.lb_tree.specs.declared.query.Column.{Column}
use Rattle.lb_tree.specs.declared.query.Tab.{Tab}
use Rattle.lb_tree.specs.declared.query.Cond.{Cond}
use Rattle.lb_tree.specs.declared.query.Expr.{Expr}
use Rattle.lb_tree.specs.declared.query.Item.{Item}
use Rattle.lb_tree.specs.declared.query.Query.{Query}
use Rattle.lb_tree.specs.declared.query.SortKey.{SortKey}
use Rattle.lb_tree.specs.declared.query.Select.{Select}
use Rattle.lb_tree.specs.declared.query.Cond.TheViews.{out-Query}
use Rattle.lb_stmt.specs.declared.write.InsertSource.{InsertSource}
use Rattle.lb_stmt.specs.declared.write.InsertSource.TheVariants as sources
use Rattle.lb_stmt.specs.declared.write.Stmt.{Stmt}
use Rattle.lb_stmt.specs.declared.write.Stmt.TheVariants as stmts
use Rattle.lb_names.specs.declared.place.Seen.{Seen}
use Rattle.lb_names.specs.declared.refused.Refused.{Refused}
use Rattle.lb_names.specs.declared.refused.Refused.TheVariants.{Unknown, Exists}
use Rattle.lb_names.specs.Sights.{Name, correlation, Sight, nothing}
use Rattle.lb_names.specs.SortNames.{or_else, meant}
use Rattle.lb_names.specs.Marks.{Mark, enter, item, column, star, call, Marks, cond_marks, expr_marks, query_marks}
use Rattle.lb_names.specs.StatementMarks.{over, key_marks, marks_of_key, select_marks, order_sight, from_tables, where_marks, assignment_marks, source_marks, marks_of, permission_marks, mask_marks}
use Rattle.lb_names.specs.Mentions.{Mentions, table, in_cond, in_expr, in_query, in_key, in_select, in_where, in_assignment, in_source, in_stmt}
use Rattle.lb_names.specs.Scopes.{Catalogue, is_some, listed, field_named, found_in, qualified, is_shared, unqualified, resolve}
use Rattle.lb_names.specs.Passes.{first, is_taken, refusal_if, item_refusal, unresolved, unless_known, column_refusal, call_refusal, call_refusal_of, fault, text_refusal, text_refusal_of, passes}
use Rattle.lb_names.specs.Statements.{targets_refused, written_refused, target_columns_refused, names_refused, permission_names_refused, mask_names_refused}
use Rattle.lb_names.specs.Agreeing.{AgreeOn}
use Rattle.lb_names.proofs.Sighted as s

module _ (C D : Catalogue) where
  -- ---- what a column's name means

  shared_same : (n : Name) (level : ℕ) (seen : List Seen) → s.SeenAgree C D seen → is_shared C n level seen ≡ is_shared D n level seen
  shared_same n level [] h = refl
  shared_same n level (t ∷ seen) h = λ i. ((t.level == level) && list_any (λ f. bytes_eq f.name n) (listed (h.0 i))) || shared_same n level seen h.1 i

  unqualified_same : (n : Name) (seen : List Seen) → s.SeenAgree C D seen → unqualified C n seen ≡ unqualified D n seen
  unqualified_same n [] h = refl
  unqualified_same n (t ∷ seen) h = λ i. if list_any (λ f. bytes_eq f.name n) (listed (h.0 i)) then (if shared_same n t.level seen h.1 i then Err n else found_in n t (field_named n (listed (h.0 i)))) else unqualified_same n seen h.1 i

  qualified_same : (x n : Name) (seen : List Seen) → s.SeenAgree C D seen → qualified C x n seen ≡ qualified D x n seen
  qualified_same x n [] h = refl
  qualified_same x n (t ∷ seen) h = λ i. if bytes_eq (correlation t.tab) x then found_in n t (field_named n (listed (h.0 i))) else qualified_same x n seen h.1 i

  resolved_same : (x : Option Name) (n : Name) (seen : List Seen) → s.SeenAgree C D seen → resolve C seen (record { correlation = x; name = n }) ≡ resolve D seen (record { correlation = x; name = n })
  resolved_same None n seen h = unqualified_same n seen h
  resolved_same (Some x) n seen h = qualified_same x n seen h

  pub resolve_same : (seen : List Seen) → s.SeenAgree C D seen → (c : Column) → resolve C seen c ≡ resolve D seen c
  resolve_same seen h c = resolved_same c.correlation c.name seen h

  -- ---- the passes

  first_same : (f g : Mark → Option Refused) → ((m : Mark) → s.MarkAgrees C D m → f m ≡ g m) → (ms : Marks) → s.Every C D ms → first f ms ≡ first g ms
  first_same f g same [] h = refl
  first_same f g same (m ∷ ms) h = λ i. or_else (same m h.0 i) (first_same f g same ms h.1 i)

  item_same : (stored : Bool) (m : Mark) → s.MarkAgrees C D m → item_refusal C stored m ≡ item_refusal D stored m
  item_same stored (enter items) h = refl
  item_same stored (item before around tab) h = λ i. if is_some (h i) then refusal_if (is_taken stored before around (correlation tab)) (Exists (correlation tab)) else Some (Unknown tab.table)
  item_same stored (column seen c) h = refl
  item_same stored (star items x) h = refl
  item_same stored (call a) h = refl

  column_same : (m : Mark) → s.MarkAgrees C D m → column_refusal C m ≡ column_refusal D m
  column_same (enter items) h = refl
  column_same (item before around tab) h = refl
  column_same (column seen c) h = ap unresolved (resolve_same seen h c)
  column_same (star items None) h = refl
  column_same (star items (Some x)) h = refl
  column_same (call a) h = refl

  call_of_same : (a : Atom) → s.MarkAgrees C D (call a) → call_refusal_of C a ≡ call_refusal_of D a
  call_of_same (atoms.SecLabel p t) h = ap (λ b. unless_known b p) h.0
  call_of_same (atoms.SecLabelByName p l) h = λ i. if h.0 i then unless_known (h.1 i) l else Some (Unknown p)
  call_of_same (atoms.SecLabelToChar p c) h = ap (λ b. unless_known b p) h.0
  call_of_same atoms.Null h = refl
  call_of_same (atoms.Int n) h = refl
  call_of_same (atoms.Text t) h = refl
  call_of_same (atoms.Date d) h = refl
  call_of_same atoms.CurrentDate h = refl
  call_of_same atoms.SessionUser h = refl
  call_of_same (atoms.Column c) h = refl
  call_of_same atoms.CountRows h = refl
  call_of_same (atoms.VerifyRole r) h = refl
  call_of_same (atoms.VerifyGroup g) h = refl

  call_same : (m : Mark) → s.MarkAgrees C D m → call_refusal C m ≡ call_refusal D m
  call_same (enter items) h = refl
  call_same (item before around tab) h = refl
  call_same (column seen c) h = refl
  call_same (star items x) h = refl
  call_same (call a) h = call_of_same a h

  text_of_same : (a : Atom) → s.MarkAgrees C D (call a) → text_refusal_of C a ≡ text_refusal_of D a
  text_of_same (atoms.SecLabel p t) h = ap fault (h.1 t)
  text_of_same (atoms.SecLabelByName p l) h = refl
  text_of_same (atoms.SecLabelToChar p c) h = refl
  text_of_same atoms.Null h = refl
  text_of_same (atoms.Int n) h = refl
  text_of_same (atoms.Text t) h = refl
  text_of_same (atoms.Date d) h = refl
  text_of_same atoms.CurrentDate h = refl
  text_of_same atoms.SessionUser h = refl
  text_of_same (atoms.Column c) h = refl
  text_of_same atoms.CountRows h = refl
  text_of_same (atoms.VerifyRole r) h = refl
  text_of_same (atoms.VerifyGroup g) h = refl

  text_same : (m : Mark) → s.MarkAgrees C D m → text_refusal C m ≡ text_refusal D m
  text_same (enter items) h = refl
  text_same (item before around tab) h = refl
  text_same (column seen c) h = refl
  text_same (star items x) h = refl
  text_same (call a) h = text_of_same a h

  passes_same : (stored : Bool) (ms : Marks) → s.Every C D ms → (x y : Option Refused) → x ≡ y → passes C stored ms x ≡ passes D stored ms y
  passes_same stored ms h x y targets = λ i. or_else (first_same (item_refusal C stored) (item_refusal D stored) (item_same stored) ms h i) (or_else (first_same (column_refusal C) (column_refusal D) column_same ms h i) (or_else (targets i) (or_else (first_same (call_refusal C) (call_refusal D) call_same ms h i) (first_same (text_refusal C) (text_refusal D) text_same ms h i))))

  -- ---- the marks of a statement

  of_cond : (c : Cond) → AgreeOn C D (in_cond c) → (v : Sight) → s.SeenAgree C D v.seen → s.Every C D (cond_marks c v)
  unfolding in_cond cond_marks
  of_cond c h v t = s.sighted_cond C D c h v t

  of_expr : (e : Expr) → AgreeOn C D (in_expr e) → (v : Sight) → s.SeenAgree C D v.seen → s.Every C D (expr_marks e v)
  unfolding in_expr expr_marks
  of_expr e h v t = s.sighted_expr C D e h v t

  of_query : (q : Query) → AgreeOn C D (in_query q) → (v : Sight) → s.SeenAgree C D v.seen → s.Every C D (query_marks q v)
  unfolding in_query query_marks
  of_query q h v t = s.sighted_query C D q h v t

  each : {A : Type 0} (f : A → Marks) (g : A → Mentions) → ((x : A) → AgreeOn C D (g x) → s.Every C D (f x)) → (xs : List A) → AgreeOn C D (flat_map g xs) → s.Every C D (flat_map f xs)
  each f g same [] h = tt
  each f g same (x ∷ xs) h = s.both C D (f x) (flat_map f xs) (same x (s.front C D (g x) (flat_map g xs) h)) (each f g same xs (s.back C D (g x) (flat_map g xs) h))

  -- the FROM items of a query are mentioned
  pub from_agree : (q : Query) → AgreeOn C D (in_query q) → s.TabsAgree C D (from_tables q)
  unfolding in_query
  from_agree q h = s.from_sighted C D q h

  of_key : (items : List Item) (v : Sight) → s.SeenAgree C D v.seen → (k : SortKey) → AgreeOn C D (in_key k) → s.Every C D (marks_of_key items v k)
  of_key items v t k h = by_meant (meant items k.by)
    where
      by_meant : (m : Option Expr) → s.Every C D (key_marks v k.by m)
      by_meant None = of_expr k.by h v t
      by_meant (Some f) = tt

  of_select : (q : Select) → AgreeOn C D (in_select q) → s.Every C D (select_marks q)
  of_select q h =
      let one : AgreeOn C D (in_query q.query) = s.front C D (in_query q.query) (flat_map in_key q.order) h in
      let keys : AgreeOn C D (flat_map in_key q.order) = s.back C D (in_query q.query) (flat_map in_key q.order) h in
      s.both C D (query_marks q.query nothing) (flat_map (marks_of_key (out-Query q.query).items (order_sight q)) q.order) (of_query q.query one nothing tt) (each (marks_of_key (out-Query q.query).items (order_sight q)) in_key (of_key (out-Query q.query).items (order_sight q) (s.seen_inside C D nothing (from_tables q.query) (from_agree q.query one) tt)) q.order keys)

  of_where : (v : Sight) → s.SeenAgree C D v.seen → (c : Option Cond) → AgreeOn C D (in_where c) → s.Every C D (where_marks v c)
  of_where v t None h = tt
  of_where v t (Some c) h = of_cond c h v t

  of_source : (q : InsertSource) → AgreeOn C D (in_source q) → s.Every C D (source_marks q)
  of_source (sources.Rows rows) h = each (flat_map (λ e. expr_marks e nothing)) (flat_map in_expr) (each (λ e. expr_marks e nothing) in_expr (λ e k. of_expr e k nothing tt)) rows h
  of_source (sources.Query q) h = of_select q h

  over_agrees : (tab : Tab) → C.columns tab.table ≡ D.columns tab.table → s.SeenAgree C D (over tab).seen
  over_agrees tab h = (h, tt)

  of_stmt : (q : Stmt) → AgreeOn C D (in_stmt q) → s.Every C D (marks_of q)
  of_stmt (stmts.Select q) h = of_select q h
  of_stmt (stmts.Insert i) h = (tt, (h.0, of_source i.source h.1))
  of_stmt (stmts.Update u) h = (tt, (h.0, s.both C D (flat_map (assignment_marks (over u.target)) u.assignments) (where_marks (over u.target) u.filter) (each (assignment_marks (over u.target)) in_assignment (λ a k. of_expr a.value k (over u.target) (over_agrees u.target h.0)) u.assignments (s.front C D (flat_map in_assignment u.assignments) (in_where u.filter) h.1)) (of_where (over u.target) (over_agrees u.target h.0) u.filter (s.back C D (flat_map in_assignment u.assignments) (in_where u.filter) h.1))))
  of_stmt (stmts.Delete d) h = (tt, (h.0, of_where (over d.target) (over_agrees d.target h.0) d.filter h.1))
  of_stmt (stmts.Change c) h = tt

  targets_same : (q : Stmt) → AgreeOn C D (in_stmt q) → target_columns_refused C q ≡ target_columns_refused D q
  targets_same (stmts.Select q) h = refl
  targets_same (stmts.Insert i) h = ap (λ fields. written_refused (listed fields) i.columns) h.0
  targets_same (stmts.Update u) h = ap (λ fields. targets_refused (listed fields) [] (map (λ a. a.column) u.assignments)) h.0
  targets_same (stmts.Delete d) h = refl
  targets_same (stmts.Change c) h = refl

  pub names_same : (q : Stmt) → AgreeOn C D (in_stmt q) → names_refused C q ≡ names_refused D q
  names_same q h = passes_same false (marks_of q) (of_stmt q h) (target_columns_refused C q) (target_columns_refused D q) (targets_same q h)

  pub permission_names_same : (tab : Tab) (c : Cond) → AgreeOn C D (table tab.table ∷ in_cond c) → permission_names_refused C tab c ≡ permission_names_refused D tab c
  permission_names_same tab c h = passes_same true (permission_marks tab c) (tt, of_cond c h.1 (over tab) (over_agrees tab h.0)) None None refl

  pub mask_names_same : (tab : Tab) (e : Expr) → AgreeOn C D (table tab.table ∷ in_expr e) → mask_names_refused C tab e ≡ mask_names_refused D tab e
  mask_names_same tab e h = passes_same true (mask_marks tab e) (tt, of_expr e h.1 (over tab) (over_agrees tab h.0)) None None refl

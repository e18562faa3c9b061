-- The first refusal of a pass over a whole statement, or over a permission or mask, by those of its parts.
use Rattle.std.proofs.Common.{◌≡◌, refl, ap, sym, ◌∙◌, List, [], ◌∷◌, ◌++◌, Option, Some, None}
use Rattle.std.specs.List.{flat_map}
use Rattle.lb_tree.specs.declared.query.Cond.{Cond}
use Rattle.lb_tree.specs.declared.query.Expr.{Expr}
use Rattle.lb_tree.specs.declared.query.Item.{Item}
use Rattle.lb_tree.specs.declared.query.Select.{Select}
use Rattle.lb_tree.specs.declared.query.SortKey.{SortKey}
use Rattle.lb_tree.specs.declared.query.Tab.{Tab}
use Rattle.lb_tree.specs.declared.query.Cond.TheViews.{out-Query}
use Rattle.lb_stmt.specs.declared.write.InsertSource.{InsertSource}
use Rattle.lb_stmt.specs.declared.write.InsertSource.TheVariants as sources
use Rattle.lb_stmt.specs.declared.write.Stmt.{Stmt}
use Rattle.lb_stmt.specs.declared.write.Stmt.TheVariants as stmts
use Rattle.lb_names.specs.declared.refused.Refused.{Refused}
use Rattle.lb_names.specs.Sights.{Sight, nothing}
use Rattle.lb_names.specs.Marks.{Mark, Marks, item, cond_marks, expr_marks, query_marks}
use Rattle.lb_names.specs.SortNames.{or_else, meant}
use Rattle.lb_names.specs.StatementMarks.{order_sight, key_marks, marks_of_key, select_marks, over, target_of, target_marks, where_marks, assignment_marks, source_marks, marks_of, permission_marks, mask_marks}
use Rattle.lb_names.specs.Passes.{first}
use Rattle.lb_resolve.specs.declared.mark.Walk.{Walk}
use Rattle.lb_resolve.specs.Passing.{asked}
use Rattle.lb_resolve.specs.Parts as p
use Rattle.lb_resolve.proofs.Nodes.{first_append, enter_passes}

module _ (w : Walk) where
  abbrev a : Mark → Option Refused
  a = asked w

  each : {A : Type 0} (g : A → Sight → Marks) (h : A → Sight → Option Refused) (v : Sight) → ((x : A) → first a (g x v) ≡ h x v) → (xs : List A) → first a (flat_map (λ x. g x v) xs) ≡ p.of_all h xs v
  each g h v same [] = refl
  each g h v same (x ∷ xs) = first_append a (g x v) (flat_map (λ y. g y v) xs) ∙ (λ i. or_else (same x i) (each g h v same xs i))

  cond_is : (c : Cond) (v : Sight) → first a (cond_marks c v) ≡ p.in_cond w c v
  unfolding cond_marks p.in_cond
  cond_is c v = refl

  expr_is : (e : Expr) (v : Sight) → first a (expr_marks e v) ≡ p.in_expr w e v
  unfolding expr_marks p.in_expr
  expr_is e v = refl

  key_is : (v : Sight) (e : Expr) (o : Option Expr) → first a (key_marks v e o) ≡ p.in_meant w v e o
  key_is v e (Some f) = refl
  key_is v e None = expr_is e v

  keys_are : (items : List Item) (v : Sight) (ks : List SortKey) → first a (flat_map (marks_of_key items v) ks) ≡ p.in_keys w items v ks
  keys_are items v [] = refl
  keys_are items v (k ∷ ks) = first_append a (marks_of_key items v k) (flat_map (marks_of_key items v) ks) ∙ (λ i. or_else (key_is v k.by (meant items k.by) i) (keys_are items v ks i))

  select_is : (s : Select) → first a (select_marks s) ≡ p.in_select w s
  unfolding query_marks p.in_query
  select_is s =
      first_append a (query_marks s.query nothing) (flat_map (marks_of_key (out-Query s.query).items (order_sight s)) s.order)
      ∙ ap (or_else (p.in_query w s.query nothing)) (keys_are (out-Query s.query).items (order_sight s) s.order)

  rows_are : (rows : List (List Expr)) → first a (flat_map (λ es. flat_map (λ e. expr_marks e nothing) es) rows) ≡ p.of_all (p.of_all (p.in_expr w)) rows nothing
  rows_are rows = each (λ es v. flat_map (λ e. expr_marks e v) es) (p.of_all (p.in_expr w)) nothing (λ es. each expr_marks (p.in_expr w) nothing (λ e. expr_is e nothing) es) rows

  source_is : (s : InsertSource) → first a (source_marks s) ≡ p.in_source w s
  source_is (sources.Rows rows) = rows_are rows
  source_is (sources.Query s) = select_is s

  where_is : (v : Sight) (o : Option Cond) → first a (where_marks v o) ≡ p.of_maybe (p.in_cond w) o v
  where_is v None = refl
  where_is v (Some c) = cond_is c v

  target_is : (tab : Tab) (rest : Marks) → first a (target_marks tab ++ rest) ≡ or_else (asked w (item [] [] tab)) (first a rest)
  target_is tab rest = ap (λ x. or_else x (or_else (asked w (item [] [] tab)) (first a rest))) (enter_passes w (over tab).own)

  pub statement_is : (s : Stmt) → p.in_statement w s ≡ first (asked w) (marks_of s)
  statement_is (stmts.Select s) = sym (select_is s)
  statement_is (stmts.Insert i) = sym (target_is (target_of i.table) (source_marks i.source) ∙ ap (or_else (asked w (item [] [] (target_of i.table)))) (source_is i.source))
  statement_is (stmts.Update u) =
      sym (target_is u.target (flat_map (assignment_marks (over u.target)) u.assignments ++ where_marks (over u.target) u.filter)
      ∙ ap (or_else (asked w (item [] [] u.target)))
      (first_append a (flat_map (assignment_marks (over u.target)) u.assignments) (where_marks (over u.target) u.filter)
      ∙ (λ i. or_else (each (λ x v. assignment_marks v x) (p.in_assignment w) (over u.target) (λ x. expr_is x.value (over u.target)) u.assignments i) (where_is (over u.target) u.filter i))))
  statement_is (stmts.Delete d) = sym (target_is d.target (where_marks (over d.target) d.filter) ∙ ap (or_else (asked w (item [] [] d.target))) (where_is (over d.target) d.filter))
  statement_is (stmts.Change c) = refl

  pub condition_is : (tab : Tab) (c : Cond) → p.in_cond w c (over tab) ≡ first (asked w) (permission_marks tab c)
  condition_is tab c = sym (ap (λ x. or_else x (first a (cond_marks c (over tab)))) (enter_passes w (over tab).own) ∙ cond_is c (over tab))

  pub value_is : (tab : Tab) (e : Expr) → p.in_expr w e (over tab) ≡ first (asked w) (mask_marks tab e)
  value_is tab e = sym (ap (λ x. or_else x (first a (expr_marks e (over tab)))) (enter_passes w (over tab).own) ∙ expr_is e (over tab))

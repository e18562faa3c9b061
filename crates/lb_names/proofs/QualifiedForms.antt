-- What is stored of an accepted condition is qualified.
use Rattle.std.proofs.Common.{◌≡◌, [], ◌∷◌, Bool, true, Option, None}
use Rattle.lb_tree.specs.declared.query.Tab.{Tab}
use Rattle.lb_tree.specs.declared.query.Cond.{Cond}
use Rattle.lb_tree.specs.declared.query.Expr.{Expr}
use Rattle.lb_names.specs.declared.refused.Refused.{Refused}
use Rattle.lb_names.specs.Sights.{Sight}
use Rattle.lb_names.specs.SortNames.{or_else}
use Rattle.lb_names.specs.Marks.{Marks, cond_marks, expr_marks}
use Rattle.lb_names.specs.StatementMarks.{over, permission_marks, mask_marks}
use Rattle.lb_names.specs.Scopes.{Catalogue}
use Rattle.lb_names.specs.Passes.{first, item_refusal, column_refusal, call_refusal, text_refusal, passes}
use Rattle.lb_names.specs.Qualify.{qualified_cond, qualified_expr}
use Rattle.lb_names.specs.Qualified.{are_qualified, are_qualified_in}
use Rattle.lb_names.specs.Statements.{permission_names_refused, permission_qualified, mask_names_refused, mask_qualified}
use Rattle.lb_names.proofs.There.{neither}
use Rattle.lb_names.proofs.FoundColumns.{Found, found_cond, found_expr}

module _ (C : Catalogue) where
  all_found : (ms : Marks) → first (column_refusal C) ms ≡ None → Found C ms
  all_found [] h = tt
  all_found (m ∷ ms) h = let here : (column_refusal C m ≡ None) × (first (column_refusal C) ms ≡ None) = neither (column_refusal C m) (first (column_refusal C) ms) h in (here.0, all_found ms here.1)

  passes_found : (stored : Bool) (ms : Marks) (targets : Option Refused) → passes C stored ms targets ≡ None → Found C ms
  passes_found stored ms targets h =
      let rest : Option Refused = or_else targets (or_else (first (call_refusal C) ms) (first (text_refusal C) ms)) in
      all_found ms (neither (first (column_refusal C) ms) rest (neither (first (item_refusal C stored) ms) (or_else (first (column_refusal C) ms) rest) h).1).0

  cond_found : (c : Cond) (v : Sight) → Found C (cond_marks c v) → are_qualified (qualified_cond C c v.seen) ≡ true
  unfolding cond_marks are_qualified qualified_cond
  cond_found c v h = found_cond C c v h

  expr_found : (e : Expr) (v : Sight) → Found C (expr_marks e v) → are_qualified_in (qualified_expr C e v.seen) ≡ true
  unfolding expr_marks are_qualified_in qualified_expr
  expr_found e v h = found_expr C e v h

  pub permission_is_qualified : (tab : Tab) (c : Cond) → permission_names_refused C tab c ≡ None → are_qualified (permission_qualified C tab c) ≡ true
  permission_is_qualified tab c h = cond_found c (over tab) (passes_found true (permission_marks tab c) None h).1

  pub mask_is_qualified : (tab : Tab) (e : Expr) → mask_names_refused C tab e ≡ None → are_qualified_in (mask_qualified C tab e) ≡ true
  mask_is_qualified tab e h = expr_found e (over tab) (passes_found true (mask_marks tab e) None h).1

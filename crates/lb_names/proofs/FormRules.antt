-- The types of a stored condition's qualified form are refused where those of the condition are, if its names are not.
use Rattle.std.proofs.Common.{◌≡◌, ap, sym, None}
use Rattle.lb_tree.specs.declared.query.Tab.{Tab}
use Rattle.lb_tree.specs.declared.query.Cond.{Cond}
use Rattle.lb_tree.specs.declared.query.Expr.{Expr}
use Rattle.lb_names.specs.Sights.{Name, correlation, Sight}
use Rattle.lb_names.specs.Marks.{cond_marks, expr_marks}
use Rattle.lb_names.specs.StatementMarks.{over, permission_marks, mask_marks}
use Rattle.lb_names.specs.Scopes.{Catalogue, listed}
use Rattle.lb_names.specs.Typed.{◌>>=◌, only_if}
use Rattle.lb_names.specs.Typing.{says, means}
use Rattle.lb_names.specs.Qualify.{qualified_cond, qualified_expr}
use Rattle.lb_names.specs.Statements.{broken, stored_place, kind_wanted, mask_takes, permission_names_refused, permission_types_refused, permission_qualified, mask_names_refused, mask_types_refused, mask_qualified}
use Rattle.lb_names.proofs.Apart.{AllApart}
use Rattle.lb_names.proofs.FormLists.{SameMeans, SameSays}
use Rattle.lb_names.proofs.LikeSights.{SightLike}
use Rattle.lb_names.proofs.FormNames.{over_like, over_good, all_taken, items_none, cond_apart, expr_apart}
use Rattle.lb_names.proofs.FormTypes.{same_cond, same_expr}

module _ (C : Catalogue) where
  of_cond : (c : Cond) (v w : Sight) → SightLike v w → AllApart (cond_marks c v) → SameSays v w (says C c) (says C (qualified_cond C c v.seen))
  unfolding cond_marks says qualified_cond
  of_cond c v w s h = same_cond C c v w s h

  of_expr : (e : Expr) (v w : Sight) → SightLike v w → AllApart (expr_marks e v) → SameMeans v w (means C e) (means C (qualified_expr C e v.seen))
  unfolding expr_marks means qualified_expr
  of_expr e v w s h = same_expr C e v w s h

  pub permission_types_kept : (tab other : Tab) → tab.table ≡ other.table → correlation tab ≡ correlation other → (c : Cond) → permission_names_refused C tab c ≡ None → permission_types_refused C other (permission_qualified C tab c) ≡ permission_types_refused C tab c
  permission_types_kept tab other t n c h =
      let apart : AllApart (cond_marks c (over tab)) = cond_apart C c (over tab) (over_good C tab) (all_taken C (permission_marks tab c) (items_none C (permission_marks tab c) h)).1 in
      sym (ap broken ((of_cond c (over tab) (over other) (over_like C tab other t n) apart).0 (stored_place tab) 0))

  pub mask_types_kept : (tab other : Tab) → tab.table ≡ other.table → correlation tab ≡ correlation other → (column : Name) (e : Expr) → mask_names_refused C tab e ≡ None → mask_types_refused C other column (mask_qualified C tab e) ≡ mask_types_refused C tab column e
  mask_types_kept tab other t n column e h =
      let apart : AllApart (expr_marks e (over tab)) = expr_apart C e (over tab) (over_good C tab) (all_taken C (mask_marks tab e) (items_none C (mask_marks tab e) h)).1 in
      sym (λ i. broken ((of_expr e (over tab) (over other) (over_like C tab other t n) apart).0 (stored_place tab) 0 i >>= λ x. only_if (mask_takes C (kind_wanted (listed (C.columns (t i))) column) x.0) 0 x))

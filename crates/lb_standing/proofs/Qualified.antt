-- A permission's condition and the CASE of a mask have the same DATE literals when each of their columns is qualified.
use Rattle.std.proofs.Common.{◌≡◌}
use Rattle.lb_tree.specs.declared.query.Cond.{Cond}
use Rattle.lb_tree.specs.declared.query.Expr.{Expr}
use Rattle.lb_tree.specs.declared.query.Tab.{Tab}
use Rattle.lb_names.specs.StatementMarks.{over}
use Rattle.lb_names.specs.Scopes.{Catalogue}
use Rattle.lb_names.specs.Qualify.{qualified_cond, qualified_expr}
use Rattle.lb_names.specs.Statements.{permission_qualified, mask_qualified}
use Rattle.lb_kinds.specs.Days.{days_in, days_in_cond}
use Rattle.lb_standing.proofs.DaysKept.{days_kept_cond, days_kept_expr}

pub condition_days : (C : Catalogue) (tab : Tab) (c : Cond) → days_in_cond (permission_qualified C tab c) ≡ days_in_cond c
unfolding days_in_cond qualified_cond
condition_days C tab c = days_kept_cond C c (over tab).seen

pub mask_days : (C : Catalogue) (tab : Tab) (e : Expr) → days_in (mask_qualified C tab e) ≡ days_in e
unfolding days_in qualified_expr
mask_days C tab e = days_kept_expr C e (over tab).seen

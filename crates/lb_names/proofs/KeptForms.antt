-- What is stored mentions what was written.
use Rattle.std.proofs.Common.{◌≡◌}
use Rattle.lb_tree.specs.declared.query.Tab.{Tab}
use Rattle.lb_tree.specs.declared.query.Cond.{Cond}
use Rattle.lb_tree.specs.declared.query.Expr.{Expr}
use Rattle.lb_names.specs.StatementMarks.{over}
use Rattle.lb_names.specs.Mentions.{in_cond, in_expr}
use Rattle.lb_names.specs.Scopes.{Catalogue}
use Rattle.lb_names.specs.Qualify.{qualified_cond, qualified_expr}
use Rattle.lb_names.specs.Statements.{permission_qualified, mask_qualified}
use Rattle.lb_names.proofs.Kept.{kept_cond, kept_expr}

pub permission_kept : (C : Catalogue) (tab : Tab) (c : Cond) → in_cond (permission_qualified C tab c) ≡ in_cond c
unfolding in_cond qualified_cond
permission_kept C tab c = kept_cond C c (over tab).seen

pub mask_kept : (C : Catalogue) (tab : Tab) (e : Expr) → in_expr (mask_qualified C tab e) ≡ in_expr e
unfolding in_expr qualified_expr
mask_kept C tab e = kept_expr C e (over tab).seen

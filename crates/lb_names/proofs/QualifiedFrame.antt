-- The qualified form depends on the catalogue by what is mentioned alone.
use Rattle.std.proofs.Common.{◌≡◌, ◌∷◌}
use Rattle.lb_tree.specs.declared.query.Tab.{Tab}
use Rattle.lb_tree.specs.declared.query.Cond.{Cond}
use Rattle.lb_tree.specs.declared.query.Expr.{Expr}
use Rattle.lb_names.specs.StatementMarks.{over}
use Rattle.lb_names.specs.Mentions.{table, in_cond, in_expr}
use Rattle.lb_names.specs.Scopes.{Catalogue}
use Rattle.lb_names.specs.Qualify.{qualified_cond, qualified_expr}
use Rattle.lb_names.specs.Statements.{permission_qualified, mask_qualified}
use Rattle.lb_names.specs.Agreeing.{AgreeOn}
use Rattle.lb_names.proofs.OneForm.{one_form_cond, one_form_expr}

module _ (C D : Catalogue) where
  pub permission_same : (tab : Tab) (c : Cond) → AgreeOn C D (table tab.table ∷ in_cond c) → permission_qualified C tab c ≡ permission_qualified D tab c
  unfolding in_cond qualified_cond
  permission_same tab c h = one_form_cond C D c h.1 (over tab).seen (h.0, tt)

  pub mask_same : (tab : Tab) (e : Expr) → AgreeOn C D (table tab.table ∷ in_expr e) → mask_qualified C tab e ≡ mask_qualified D tab e
  unfolding in_expr qualified_expr
  mask_same tab e h = one_form_expr C D e h.1 (over tab).seen (h.0, tt)

-- The marks that typing carries are those of the tree.
use Rattle.std.proofs.Common.{◌≡◌}
use Rattle.lb_tree.specs.declared.query.Cond.{Cond}
use Rattle.lb_tree.specs.declared.query.Expr.{Expr}
use Rattle.lb_tree.specs.declared.query.Query.{Query}
use Rattle.lb_names.specs.Sights.{Sight}
use Rattle.lb_names.specs.Marks.{cond_marks, expr_marks, query_marks}
use Rattle.lb_names.specs.Scopes.{Catalogue}
use Rattle.lb_names.specs.Typing.{says, means, answers}
use Rattle.lb_names.proofs.Carried.{carried_cond, carried_expr, carried_query}

module _ (C : Catalogue) where
  pub cond_carried : (c : Cond) (v : Sight) → (says C c).marks v ≡ cond_marks c v
  unfolding says cond_marks
  cond_carried c v = carried_cond C c v

  pub expr_carried : (e : Expr) (v : Sight) → (means C e).marks v ≡ expr_marks e v
  unfolding means expr_marks
  expr_carried e v = carried_expr C e v

  pub query_carried : (q : Query) (v : Sight) → (answers C q).marks v ≡ query_marks q v
  unfolding answers query_marks
  query_carried q v = carried_query C q v

-- The names in a tree are those that the fold of marks gives.
use Rattle.std.proofs.Common.{◌≡◌, refl}
use Rattle.lb_tree.specs.declared.query.Cond.{Cond}
use Rattle.lb_tree.specs.declared.query.Expr.{Expr}
use Rattle.lb_tree.specs.declared.query.Query.{Query}
use Rattle.lb_tree.specs.Folds.{cond_of, expr_of, query_of}
use Rattle.lb_names.specs.Sights.{Sight}
use Rattle.lb_names.specs.Marks.{marked, mark_steps, cond_marks, expr_marks, query_marks}

pub cond_marks_are : (c : Cond) (v : Sight) → cond_marks c v ≡ (cond_of marked mark_steps c).marks v
unfolding cond_marks
cond_marks_are c v = refl

pub expr_marks_are : (e : Expr) (v : Sight) → expr_marks e v ≡ (expr_of marked mark_steps e).marks v
unfolding expr_marks
expr_marks_are e v = refl

pub query_marks_are : (q : Query) (v : Sight) → query_marks q v ≡ (query_of marked mark_steps q).marks v
unfolding query_marks
query_marks_are q v = refl

-- A pass over the nodes with three parts.
use Rattle.std.proofs.Common.{◌≡◌, sym, ap, ◌∙◌, subst, List, Option, None}
use Rattle.std.specs.Prelude.{Result}
use Rattle.lb_tree.specs.declared.query.Choice.{Choice}
use Rattle.lb_tree.specs.declared.query.Expr.{Expr}
use Rattle.lb_tree.specs.declared.query.Expr.TheVariants as exprs
use Rattle.lb_names.specs.Sights.{Sight}
use Rattle.lb_names.specs.SortNames.{or_else}
use Rattle.lb_resolve.specs.declared.mark.Walk.{Walk}
use Rattle.lb_resolve.specs.declared.stop.Stop.{Stop}
use Rattle.lb_resolve.specs.Passing.{Passes}
use Rattle.lb_resolve.specs.Parts as p
use Rattle.lb_resolve.proofs.Nodes.{is_match, is_substr}
use Rattle.lb_resolve.proofs.Stopping.{passes_then}

module _ (w : Walk) (v : Sight) (r : Result (Unit {0}) Stop) where
  pub match_passes : (e x y : Expr) (choices list : List Choice) (otherwise : Option Expr)
      → e ≡ exprs.Match x choices otherwise → y ≡ x → p.in_expr w y v ≡ None → list ≡ choices → p.of_all (p.in_choice w) list v ≡ None
      → Passes r (p.of_maybe (p.in_expr w) otherwise v) → Passes r (p.in_expr w e v)
  match_passes e x y choices list otherwise is xs hx cs hc h =
      subst (Passes r) (sym (ap (λ z. p.in_expr w z v) is ∙ is_match w x choices otherwise v))
      (passes_then r (p.in_expr w x v) (or_else (p.of_all (p.in_choice w) choices v) (p.of_maybe (p.in_expr w) otherwise v)) (sym (ap (λ z. p.in_expr w z v) xs) ∙ hx)
      (passes_then r (p.of_all (p.in_choice w) choices v) (p.of_maybe (p.in_expr w) otherwise v) (sym (ap (λ z. p.of_all (p.in_choice w) z v) cs) ∙ hc) h))

  pub substr_passes : (e x y from start : Expr) (n : Option Expr)
      → e ≡ exprs.Substr x from n → y ≡ x → p.in_expr w y v ≡ None → start ≡ from → p.in_expr w start v ≡ None
      → Passes r (p.of_maybe (p.in_expr w) n v) → Passes r (p.in_expr w e v)
  substr_passes e x y from start n is xs hx fs hf h =
      subst (Passes r) (sym (ap (λ z. p.in_expr w z v) is ∙ is_substr w x from n v))
      (passes_then r (p.in_expr w x v) (or_else (p.in_expr w from v) (p.of_maybe (p.in_expr w) n v)) (sym (ap (λ z. p.in_expr w z v) xs) ∙ hx)
      (passes_then r (p.in_expr w from v) (p.of_maybe (p.in_expr w) n v) (sym (ap (λ z. p.in_expr w z v) fs) ∙ hf) h))

-- The expressions with three parts, of which the first two have no mention that is looked for.
use Rattle.std.proofs.Common.{◌≡◌, sym, ap, ◌∙◌, Bool, false, ◌||◌, List, Option}
use Rattle.std.specs.List.{list_any}
use Rattle.lb_tree.specs.declared.query.Choice.{Choice}
use Rattle.lb_tree.specs.declared.query.Expr.{Expr}
use Rattle.lb_tree.specs.declared.query.Expr.TheVariants as exprs
use Rattle.lb_mentions.specs.declared.sought.Sought.{Sought}
use Rattle.lb_mentions.specs.Parts as p
use Rattle.lb_mentions.proofs.Nodes.{is_match, is_substr}

module _ (w : Sought) (b : Bool) where
  pub match_is : (e x y : Expr) (choices list : List Choice) (otherwise : Option Expr)
      → e ≡ exprs.Match x choices otherwise → y ≡ x → p.in_expr w y ≡ false → list ≡ choices → list_any (p.in_choice w) list ≡ false
      → b ≡ p.of_maybe (p.in_expr w) otherwise → b ≡ p.in_expr w e
  match_is e x y choices list otherwise is xs hx cs hc h =
      h ∙ sym (ap (p.in_expr w) is ∙ is_match w x choices otherwise
      ∙ ap (λ z. z || (list_any (p.in_choice w) choices || p.of_maybe (p.in_expr w) otherwise)) (sym (ap (p.in_expr w) xs) ∙ hx)
      ∙ ap (λ z. z || p.of_maybe (p.in_expr w) otherwise) (sym (ap (list_any (p.in_choice w)) cs) ∙ hc))

  pub substr_is : (e x y from start : Expr) (n : Option Expr)
      → e ≡ exprs.Substr x from n → y ≡ x → p.in_expr w y ≡ false → start ≡ from → p.in_expr w start ≡ false
      → b ≡ p.of_maybe (p.in_expr w) n → b ≡ p.in_expr w e
  substr_is e x y from start n is xs hx fs hf h =
      h ∙ sym (ap (p.in_expr w) is ∙ is_substr w x from n
      ∙ ap (λ z. z || (p.in_expr w from || p.of_maybe (p.in_expr w) n)) (sym (ap (p.in_expr w) xs) ∙ hx)
      ∙ ap (λ z. z || p.of_maybe (p.in_expr w) n) (sym (ap (p.in_expr w) fs) ∙ hf))

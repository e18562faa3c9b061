-- Aggregates and arithmetic in the two forms of expression with the most parts.
use Rattle.std.proofs.Common.{◌≡◌, ap, sym, ◌∙◌, List, Bool, true, false, ◌&&◌, ◌||◌, map, Option}
use Rattle.std.specs.List.{list_any, list_all}
use Rattle.std.specs.Option.{option_map}
use Rattle.lb_tree.specs.declared.query.Expr.{Expr}
use Rattle.lb_tree.specs.declared.query.Choice.{Choice}
use Rattle.lb_tree.specs.declared.query.Expr.TheVariants as exprs
use Rattle.lb_names.specs.Scopes.{Catalogue}
use Rattle.lb_names.specs.Carriers.{Means, Choices}
use Rattle.lb_names.specs.Expressions.{is_total, is_sure}
use Rattle.lb_names.specs.Sure.{if_any, unless_any}
use Rattle.lb_names.specs.Typing.{means}
use Rattle.lb_walk.specs.Opened.{choice_of}
use Rattle.lb_walk.proofs.Opens.{means_match, means_substr}

module _ (C : Catalogue) where
  pub match_total : (e a x : Expr) (b y : List Choice) (c : Option Expr) (r : Bool) → e ≡ exprs.Match a b c → x ≡ a → y ≡ b
      → (means C x).total ≡ false → list_any (λ (c : Choices). c.when.total || c.result.total) (map (choice_of C) y) ≡ false → r ≡ if_any is_total (option_map (means C) c) → r ≡ (means C e).total
  match_total e a x b y c r is one other p q s = s
      ∙ (λ i. sym p i || (sym q i || if_any is_total (option_map (means C) c)))
      ∙ (λ i. (means C (one i)).total || (list_any (λ (c : Choices). c.when.total || c.result.total) (map (choice_of C) (other i)) || if_any is_total (option_map (means C) c)))
      ∙ sym (ap (λ (m : Means). m.total) (ap (means C) is ∙ means_match C a b c))

  pub match_sure : (e a x : Expr) (b y : List Choice) (c : Option Expr) (r : Bool) → e ≡ exprs.Match a b c → x ≡ a → y ≡ b
      → (means C x).sure ≡ true → list_all (λ (c : Choices). c.when.sure && c.result.sure) (map (choice_of C) y) ≡ true → r ≡ unless_any is_sure (option_map (means C) c) → r ≡ (means C e).sure
  match_sure e a x b y c r is one other p q s = s
      ∙ (λ i. sym p i && (sym q i && unless_any is_sure (option_map (means C) c)))
      ∙ (λ i. (means C (one i)).sure && (list_all (λ (c : Choices). c.when.sure && c.result.sure) (map (choice_of C) (other i)) && unless_any is_sure (option_map (means C) c)))
      ∙ sym (ap (λ (m : Means). m.sure) (ap (means C) is ∙ means_match C a b c))

  pub substr_total : (e a x b y : Expr) (c : Option Expr) (r : Bool) → e ≡ exprs.Substr a b c → x ≡ a → y ≡ b
      → (means C x).total ≡ false → (means C y).total ≡ false → r ≡ if_any is_total (option_map (means C) c) → r ≡ (means C e).total
  substr_total e a x b y c r is one other p q s = s
      ∙ (λ i. sym p i || (sym q i || if_any is_total (option_map (means C) c)))
      ∙ (λ i. (means C (one i)).total || ((means C (other i)).total || if_any is_total (option_map (means C) c)))
      ∙ sym (ap (λ (m : Means). m.total) (ap (means C) is ∙ means_substr C a b c))

  pub substr_sure : (e a x b y : Expr) (c : Option Expr) (r : Bool) → e ≡ exprs.Substr a b c → x ≡ a → y ≡ b
      → (means C x).sure ≡ true → (means C y).sure ≡ true → r ≡ unless_any is_sure (option_map (means C) c) → r ≡ (means C e).sure
  substr_sure e a x b y c r is one other p q s = s
      ∙ (λ i. sym p i && (sym q i && unless_any is_sure (option_map (means C) c)))
      ∙ (λ i. (means C (one i)).sure && ((means C (other i)).sure && unless_any is_sure (option_map (means C) c)))
      ∙ sym (ap (λ (m : Means). m.sure) (ap (means C) is ∙ means_substr C a b c))

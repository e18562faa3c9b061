-- Two expressions or conditions of one form are the same where their parts are.
use Rattle.std.proofs.Common.{◌≡◌, ap, sym, ◌∙◌, List, Bool, true, false, ◌&&◌, map, Option}
use Rattle.std.specs.Option.{option_map}
use Rattle.lb_tree.specs.declared.query.Aggregate.{Aggregate}
use Rattle.lb_tree.specs.declared.query.Atom.{Atom}
use Rattle.lb_tree.specs.declared.query.Comparison.{Comparison}
use Rattle.lb_tree.specs.declared.query.Function.{Function}
use Rattle.lb_tree.specs.declared.query.Expr.{Expr}
use Rattle.lb_tree.specs.declared.query.Cond.{Cond}
use Rattle.lb_tree.specs.declared.query.Arm.{Arm}
use Rattle.lb_tree.specs.declared.query.Choice.{Choice}
use Rattle.lb_tree.specs.declared.query.Signed.{Signed}
use Rattle.lb_tree.specs.declared.query.Expr.TheVariants as exprs
use Rattle.lb_tree.specs.declared.query.Cond.TheVariants as conds
use Rattle.lb_tree.specs.declared.query.Cond.TheOpen as layers
use Rattle.lb_tree.specs.declared.query.Cond.TheViews.{outs-Atom, outs-Sum, outs-Concat, outs-Product, outs-Case, outs-Match, outs-Aggregate, outs-Substr, outs-Apply, outs-Coalesce, outs-Or, outs-And, outs-Not, outs-Compare, outs-IsNull, outs-InList, outs-Between}
use Rattle.lb_tree.specs.Folds.{cond_of, expr_of, arm_of, choice_of, signed_of}
use Rattle.lb_names.specs.declared.place.Seen.{Seen}
use Rattle.lb_names.specs.Scopes.{Catalogue}
use Rattle.lb_names.specs.Same.{liking, like_steps, expr_like, cond_like, all_like, both_like, same_atom, same_aggregate, same_function, same_comparison}
use Rattle.lb_same.proofs.Sames as forms

-- what is found after a first part that is the same, or isn't
pub and_then : (whole p q r : Bool) → whole ≡ (p && q) → p ≡ true → r ≡ q → r ≡ whole
and_then whole p q r h k l = l ∙ (λ i. sym k i && q) ∙ sym h

pub and_else : (whole p q r : Bool) → whole ≡ (p && q) → p ≡ false → r ≡ false → r ≡ whole
and_else whole p q r h k l = l ∙ (λ i. sym k i && q) ∙ sym h

-- after two parts
pub and_third : (whole p q s r : Bool) → whole ≡ (p && (q && s)) → p ≡ true → q ≡ true → r ≡ s → r ≡ whole
and_third whole p q s r h k l m = m ∙ (λ i. sym k i && (sym l i && s)) ∙ sym h

pub and_second : (whole p q s r : Bool) → whole ≡ (p && (q && s)) → p ≡ true → q ≡ false → r ≡ false → r ≡ whole
and_second whole p q s r h k l m = m ∙ (λ i. sym k i && (sym l i && s)) ∙ sym h

module _ (C : Catalogue) (seen : List Seen) where
  pub same_atom_parts : (e f : Expr) (a a2 : Atom) → e ≡ exprs.Atom a → f ≡ exprs.Atom a2
      → (expr_of liking (like_steps C seen) e).to f ≡ same_atom C seen a a2
  same_atom_parts e f a a2 is its = (λ k. (expr_of liking (like_steps C seen) (is k)).to (its k)) ∙ forms.like_atom C seen a (exprs.Atom a2)
      ∙ ap (expr_like C seen (layers.Expr-F.Atom a)) (outs-Atom a2) ∙ (λ k. same_atom C seen a a2)

  pub same_sum_parts : (e f : Expr) (a x a2 x2 : List Signed) → e ≡ exprs.Sum a → f ≡ exprs.Sum a2 → x ≡ a → x2 ≡ a2
      → (expr_of liking (like_steps C seen) e).to f ≡ all_like (map (signed_of liking (like_steps C seen)) x) x2
  same_sum_parts e f a x a2 x2 is its p0 q0 = (λ k. (expr_of liking (like_steps C seen) (is k)).to (its k)) ∙ forms.like_sum C seen a (exprs.Sum a2)
      ∙ ap (expr_like C seen (layers.Expr-F.Sum (map (signed_of liking (like_steps C seen)) a))) (outs-Sum a2) ∙ (λ k. all_like (map (signed_of liking (like_steps C seen)) (sym p0 k)) (sym q0 k))

  pub same_concat_parts : (e f : Expr) (a x a2 x2 : List Expr) → e ≡ exprs.Concat a → f ≡ exprs.Concat a2 → x ≡ a → x2 ≡ a2
      → (expr_of liking (like_steps C seen) e).to f ≡ all_like (map (expr_of liking (like_steps C seen)) x) x2
  same_concat_parts e f a x a2 x2 is its p0 q0 = (λ k. (expr_of liking (like_steps C seen) (is k)).to (its k)) ∙ forms.like_concat C seen a (exprs.Concat a2)
      ∙ ap (expr_like C seen (layers.Expr-F.Concat (map (expr_of liking (like_steps C seen)) a))) (outs-Concat a2) ∙ (λ k. all_like (map (expr_of liking (like_steps C seen)) (sym p0 k)) (sym q0 k))

  pub same_product_parts : (e f : Expr) (a x a2 x2 : List Expr) → e ≡ exprs.Product a → f ≡ exprs.Product a2 → x ≡ a → x2 ≡ a2
      → (expr_of liking (like_steps C seen) e).to f ≡ all_like (map (expr_of liking (like_steps C seen)) x) x2
  same_product_parts e f a x a2 x2 is its p0 q0 = (λ k. (expr_of liking (like_steps C seen) (is k)).to (its k)) ∙ forms.like_product C seen a (exprs.Product a2)
      ∙ ap (expr_like C seen (layers.Expr-F.Product (map (expr_of liking (like_steps C seen)) a))) (outs-Product a2) ∙ (λ k. all_like (map (expr_of liking (like_steps C seen)) (sym p0 k)) (sym q0 k))

  pub same_case_parts : (e f : Expr) (a x a2 x2 : List Arm) (b b2 : Option Expr) → e ≡ exprs.Case a b → f ≡ exprs.Case a2 b2 → x ≡ a → x2 ≡ a2
      → (expr_of liking (like_steps C seen) e).to f ≡ (all_like (map (arm_of liking (like_steps C seen)) x) x2 && both_like (option_map (expr_of liking (like_steps C seen)) b) b2)
  same_case_parts e f a x a2 x2 b b2 is its p0 q0 = (λ k. (expr_of liking (like_steps C seen) (is k)).to (its k)) ∙ forms.like_case C seen a b (exprs.Case a2 b2)
      ∙ ap (expr_like C seen (layers.Expr-F.Case (map (arm_of liking (like_steps C seen)) a) (option_map (expr_of liking (like_steps C seen)) b))) (outs-Case a2 b2) ∙ (λ k. (all_like (map (arm_of liking (like_steps C seen)) (sym p0 k)) (sym q0 k) && both_like (option_map (expr_of liking (like_steps C seen)) b) b2))

  pub same_match_parts : (e f : Expr) (a x a2 x2 : Expr) (b y b2 y2 : List Choice) (c c2 : Option Expr) → e ≡ exprs.Match a b c → f ≡ exprs.Match a2 b2 c2 → x ≡ a → x2 ≡ a2 → y ≡ b → y2 ≡ b2
      → (expr_of liking (like_steps C seen) e).to f ≡ ((expr_of liking (like_steps C seen) x).to x2 && (all_like (map (choice_of liking (like_steps C seen)) y) y2 && both_like (option_map (expr_of liking (like_steps C seen)) c) c2))
  same_match_parts e f a x a2 x2 b y b2 y2 c c2 is its p0 q0 p1 q1 = (λ k. (expr_of liking (like_steps C seen) (is k)).to (its k)) ∙ forms.like_match C seen a b c (exprs.Match a2 b2 c2)
      ∙ ap (expr_like C seen (layers.Expr-F.Match (expr_of liking (like_steps C seen) a) (map (choice_of liking (like_steps C seen)) b) (option_map (expr_of liking (like_steps C seen)) c))) (outs-Match a2 b2 c2) ∙ (λ k. ((expr_of liking (like_steps C seen) (sym p0 k)).to (sym q0 k) && (all_like (map (choice_of liking (like_steps C seen)) (sym p1 k)) (sym q1 k) && both_like (option_map (expr_of liking (like_steps C seen)) c) c2)))

  pub same_aggregate_parts : (e f : Expr) (a a2 : Aggregate) (b y b2 y2 : Expr) → e ≡ exprs.Aggregate a b → f ≡ exprs.Aggregate a2 b2 → y ≡ b → y2 ≡ b2
      → (expr_of liking (like_steps C seen) e).to f ≡ (same_aggregate a a2 && (expr_of liking (like_steps C seen) y).to y2)
  same_aggregate_parts e f a a2 b y b2 y2 is its p1 q1 = (λ k. (expr_of liking (like_steps C seen) (is k)).to (its k)) ∙ forms.like_aggregate C seen a b (exprs.Aggregate a2 b2)
      ∙ ap (expr_like C seen (layers.Expr-F.Aggregate a (expr_of liking (like_steps C seen) b))) (outs-Aggregate a2 b2) ∙ (λ k. (same_aggregate a a2 && (expr_of liking (like_steps C seen) (sym p1 k)).to (sym q1 k)))

  pub same_substr_parts : (e f : Expr) (a x a2 x2 : Expr) (b y b2 y2 : Expr) (c c2 : Option Expr) → e ≡ exprs.Substr a b c → f ≡ exprs.Substr a2 b2 c2 → x ≡ a → x2 ≡ a2 → y ≡ b → y2 ≡ b2
      → (expr_of liking (like_steps C seen) e).to f ≡ ((expr_of liking (like_steps C seen) x).to x2 && ((expr_of liking (like_steps C seen) y).to y2 && both_like (option_map (expr_of liking (like_steps C seen)) c) c2))
  same_substr_parts e f a x a2 x2 b y b2 y2 c c2 is its p0 q0 p1 q1 = (λ k. (expr_of liking (like_steps C seen) (is k)).to (its k)) ∙ forms.like_substr C seen a b c (exprs.Substr a2 b2 c2)
      ∙ ap (expr_like C seen (layers.Expr-F.Substr (expr_of liking (like_steps C seen) a) (expr_of liking (like_steps C seen) b) (option_map (expr_of liking (like_steps C seen)) c))) (outs-Substr a2 b2 c2) ∙ (λ k. ((expr_of liking (like_steps C seen) (sym p0 k)).to (sym q0 k) && ((expr_of liking (like_steps C seen) (sym p1 k)).to (sym q1 k) && both_like (option_map (expr_of liking (like_steps C seen)) c) c2)))

  pub same_apply_parts : (e f : Expr) (a a2 : Function) (b y b2 y2 : Expr) → e ≡ exprs.Apply a b → f ≡ exprs.Apply a2 b2 → y ≡ b → y2 ≡ b2
      → (expr_of liking (like_steps C seen) e).to f ≡ (same_function a a2 && (expr_of liking (like_steps C seen) y).to y2)
  same_apply_parts e f a a2 b y b2 y2 is its p1 q1 = (λ k. (expr_of liking (like_steps C seen) (is k)).to (its k)) ∙ forms.like_apply C seen a b (exprs.Apply a2 b2)
      ∙ ap (expr_like C seen (layers.Expr-F.Apply a (expr_of liking (like_steps C seen) b))) (outs-Apply a2 b2) ∙ (λ k. (same_function a a2 && (expr_of liking (like_steps C seen) (sym p1 k)).to (sym q1 k)))

  pub same_coalesce_parts : (e f : Expr) (a x a2 x2 : List Expr) → e ≡ exprs.Coalesce a → f ≡ exprs.Coalesce a2 → x ≡ a → x2 ≡ a2
      → (expr_of liking (like_steps C seen) e).to f ≡ all_like (map (expr_of liking (like_steps C seen)) x) x2
  same_coalesce_parts e f a x a2 x2 is its p0 q0 = (λ k. (expr_of liking (like_steps C seen) (is k)).to (its k)) ∙ forms.like_coalesce C seen a (exprs.Coalesce a2)
      ∙ ap (expr_like C seen (layers.Expr-F.Coalesce (map (expr_of liking (like_steps C seen)) a))) (outs-Coalesce a2) ∙ (λ k. all_like (map (expr_of liking (like_steps C seen)) (sym p0 k)) (sym q0 k))

  pub same_or_parts : (e f : Cond) (a x a2 x2 : List Cond) → e ≡ conds.Or a → f ≡ conds.Or a2 → x ≡ a → x2 ≡ a2
      → (cond_of liking (like_steps C seen) e).to f ≡ all_like (map (cond_of liking (like_steps C seen)) x) x2
  same_or_parts e f a x a2 x2 is its p0 q0 = (λ k. (cond_of liking (like_steps C seen) (is k)).to (its k)) ∙ forms.like_or C seen a (conds.Or a2)
      ∙ ap (cond_like (layers.Cond-F.Or (map (cond_of liking (like_steps C seen)) a))) (outs-Or a2) ∙ (λ k. all_like (map (cond_of liking (like_steps C seen)) (sym p0 k)) (sym q0 k))

  pub same_and_parts : (e f : Cond) (a x a2 x2 : List Cond) → e ≡ conds.And a → f ≡ conds.And a2 → x ≡ a → x2 ≡ a2
      → (cond_of liking (like_steps C seen) e).to f ≡ all_like (map (cond_of liking (like_steps C seen)) x) x2
  same_and_parts e f a x a2 x2 is its p0 q0 = (λ k. (cond_of liking (like_steps C seen) (is k)).to (its k)) ∙ forms.like_and C seen a (conds.And a2)
      ∙ ap (cond_like (layers.Cond-F.And (map (cond_of liking (like_steps C seen)) a))) (outs-And a2) ∙ (λ k. all_like (map (cond_of liking (like_steps C seen)) (sym p0 k)) (sym q0 k))

  pub same_not_parts : (e f : Cond) (a x a2 x2 : Cond) → e ≡ conds.Not a → f ≡ conds.Not a2 → x ≡ a → x2 ≡ a2
      → (cond_of liking (like_steps C seen) e).to f ≡ (cond_of liking (like_steps C seen) x).to x2
  same_not_parts e f a x a2 x2 is its p0 q0 = (λ k. (cond_of liking (like_steps C seen) (is k)).to (its k)) ∙ forms.like_not C seen a (conds.Not a2)
      ∙ ap (cond_like (layers.Cond-F.Not (cond_of liking (like_steps C seen) a))) (outs-Not a2) ∙ (λ k. (cond_of liking (like_steps C seen) (sym p0 k)).to (sym q0 k))

  pub same_compare_parts : (e f : Cond) (a a2 : Comparison) (b y b2 y2 : Expr) (c z c2 z2 : Expr) → e ≡ conds.Compare a b c → f ≡ conds.Compare a2 b2 c2 → y ≡ b → y2 ≡ b2 → z ≡ c → z2 ≡ c2
      → (cond_of liking (like_steps C seen) e).to f ≡ (same_comparison a a2 && ((expr_of liking (like_steps C seen) y).to y2 && (expr_of liking (like_steps C seen) z).to z2))
  same_compare_parts e f a a2 b y b2 y2 c z c2 z2 is its p1 q1 p2 q2 = (λ k. (cond_of liking (like_steps C seen) (is k)).to (its k)) ∙ forms.like_compare C seen a b c (conds.Compare a2 b2 c2)
      ∙ ap (cond_like (layers.Cond-F.Compare a (expr_of liking (like_steps C seen) b) (expr_of liking (like_steps C seen) c))) (outs-Compare a2 b2 c2) ∙ (λ k. (same_comparison a a2 && ((expr_of liking (like_steps C seen) (sym p1 k)).to (sym q1 k) && (expr_of liking (like_steps C seen) (sym p2 k)).to (sym q2 k))))

  pub same_isnull_parts : (e f : Cond) (a x a2 x2 : Expr) → e ≡ conds.IsNull a → f ≡ conds.IsNull a2 → x ≡ a → x2 ≡ a2
      → (cond_of liking (like_steps C seen) e).to f ≡ (expr_of liking (like_steps C seen) x).to x2
  same_isnull_parts e f a x a2 x2 is its p0 q0 = (λ k. (cond_of liking (like_steps C seen) (is k)).to (its k)) ∙ forms.like_isnull C seen a (conds.IsNull a2)
      ∙ ap (cond_like (layers.Cond-F.IsNull (expr_of liking (like_steps C seen) a))) (outs-IsNull a2) ∙ (λ k. (expr_of liking (like_steps C seen) (sym p0 k)).to (sym q0 k))

  pub same_inlist_parts : (e f : Cond) (a x a2 x2 : Expr) (b y b2 y2 : List Expr) → e ≡ conds.InList a b → f ≡ conds.InList a2 b2 → x ≡ a → x2 ≡ a2 → y ≡ b → y2 ≡ b2
      → (cond_of liking (like_steps C seen) e).to f ≡ ((expr_of liking (like_steps C seen) x).to x2 && all_like (map (expr_of liking (like_steps C seen)) y) y2)
  same_inlist_parts e f a x a2 x2 b y b2 y2 is its p0 q0 p1 q1 = (λ k. (cond_of liking (like_steps C seen) (is k)).to (its k)) ∙ forms.like_inlist C seen a b (conds.InList a2 b2)
      ∙ ap (cond_like (layers.Cond-F.InList (expr_of liking (like_steps C seen) a) (map (expr_of liking (like_steps C seen)) b))) (outs-InList a2 b2) ∙ (λ k. ((expr_of liking (like_steps C seen) (sym p0 k)).to (sym q0 k) && all_like (map (expr_of liking (like_steps C seen)) (sym p1 k)) (sym q1 k)))

  pub same_between_parts : (e f : Cond) (a x a2 x2 : Expr) (b y b2 y2 : Expr) (c z c2 z2 : Expr) → e ≡ conds.Between a b c → f ≡ conds.Between a2 b2 c2 → x ≡ a → x2 ≡ a2 → y ≡ b → y2 ≡ b2 → z ≡ c → z2 ≡ c2
      → (cond_of liking (like_steps C seen) e).to f ≡ ((expr_of liking (like_steps C seen) x).to x2 && ((expr_of liking (like_steps C seen) y).to y2 && (expr_of liking (like_steps C seen) z).to z2))
  same_between_parts e f a x a2 x2 b y b2 y2 c z c2 z2 is its p0 q0 p1 q1 p2 q2 = (λ k. (cond_of liking (like_steps C seen) (is k)).to (its k)) ∙ forms.like_between C seen a b c (conds.Between a2 b2 c2)
      ∙ ap (cond_like (layers.Cond-F.Between (expr_of liking (like_steps C seen) a) (expr_of liking (like_steps C seen) b) (expr_of liking (like_steps C seen) c))) (outs-Between a2 b2 c2) ∙ (λ k. ((expr_of liking (like_steps C seen) (sym p0 k)).to (sym q0 k) && ((expr_of liking (like_steps C seen) (sym p1 k)).to (sym q1 k) && (expr_of liking (like_steps C seen) (sym p2 k)).to (sym q2 k))))

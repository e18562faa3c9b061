-- The kind of each form of expression and the types of each form of condition at a place, by those of their parts.
use Rattle.std.proofs.Common.{ℕ, ◌≡◌, ap, ◌∙◌, List, Option, map, Ok, true, false}
use Rattle.std.specs.Option.{option_map}
use Rattle.lb_tree.specs.declared.query.Aggregate.{Aggregate}
use Rattle.lb_tree.specs.declared.query.Atom.{Atom}
use Rattle.lb_tree.specs.declared.query.Comparison.{Comparison}
use Rattle.lb_tree.specs.declared.query.Function.{Function}
use Rattle.lb_tree.specs.declared.query.Expr.{Expr}
use Rattle.lb_tree.specs.declared.query.Cond.{Cond}
use Rattle.lb_tree.specs.declared.query.Arm.{Arm}
use Rattle.lb_tree.specs.declared.query.Choice.{Choice}
use Rattle.lb_tree.specs.declared.query.Query.{Query}
use Rattle.lb_tree.specs.declared.query.Signed.{Signed}
use Rattle.lb_tree.specs.declared.query.Expr.TheVariants as exprs
use Rattle.lb_tree.specs.declared.query.Cond.TheVariants as conds
use Rattle.lb_names.specs.Kinds.{one, null, integer, text, both}
use Rattle.lb_names.specs.Scopes.{Catalogue}
use Rattle.lb_names.specs.Typed.{next, ◌>>=◌}
use Rattle.lb_names.specs.Places.{Place, in_aggregate}
use Rattle.lb_names.specs.Carriers.{Means, Says, subquery}
use Rattle.lb_names.specs.Parts.{kind_with, kind_of_all, kind_of_any, kind_of_arms, kind_of_results, kinds_of_choices, kinds_of_match, kind_of_two, kind_of_three, kind_with_all, all_typed}
use Rattle.lb_names.specs.Expressions.{atom_kind, one_kind, plain_kind, plain_results, case_kind, match_kind, match_kind_of, aggregate_kind, number_kind, substr_kind, substr_kind_of, function_kind, apply_kind}
use Rattle.lb_names.specs.Conditions.{compared, of_plain, first_kind, query_with, compare_typed, in_list_typed, between_typed}
use Rattle.lb_names.specs.Typing.{means, says, answers}
use Rattle.lb_walk.specs.Opened.{part_of, arm_of, choice_of}
use Rattle.lb_walk.proofs.Opens as opens
use Rattle.lb_types.proofs.Steps.{grouped}

module _ (C : Catalogue) where
  kind_path : (m n : Means) (P : Place) (at : ℕ) → m ≡ n → m.kind P at ≡ n.kind P at
  kind_path m n P at h = ap (λ (x : Means). x.kind P at) h

  typed_path : (m n : Says) (P : Place) (at : ℕ) → m ≡ n → m.typed P at ≡ n.typed P at
  typed_path m n P at h = ap (λ (x : Says). x.typed P at) h

  pub kind_atom : (a : Atom) (P : Place) (at : ℕ) → (means C (exprs.Atom a)).kind P at ≡ atom_kind C a P at
  kind_atom a P at = ap (λ (x : Means). x.kind P at) (opens.means_atom C a)

  pub kind_sum : (a : List Signed) (P : Place) (at : ℕ) → (means C (exprs.Sum a)).kind P at ≡ (kind_of_all (one integer) (map (part_of C) a) P (next at) >>= one_kind at)
  kind_sum a P at = ap (λ (x : Means). x.kind P at) (opens.means_sum C a)

  pub kind_concat : (a : List Expr) (P : Place) (at : ℕ) → (means C (exprs.Concat a)).kind P at ≡ (kind_of_all (one text) (map (means C) a) P (next at) >>= one_kind at)
  kind_concat a P at = ap (λ (x : Means). x.kind P at) (opens.means_concat C a)

  pub kind_product : (a : List Expr) (P : Place) (at : ℕ) → (means C (exprs.Product a)).kind P at ≡ (kind_of_all (one integer) (map (means C) a) P (next at) >>= one_kind at)
  kind_product a P at = ap (λ (x : Means). x.kind P at) (opens.means_product C a)

  pub kind_case : (a : List Arm) (b : Option Expr) (P : Place) (at : ℕ) → (means C (exprs.Case a b)).kind P at
      ≡ (kind_of_arms (one null) (map (arm_of C) a) P (next at) >>= λ x. kind_of_any x.0 (option_map (means C) b) P x.1 >>= plain_kind at)
  unfolding case_kind kind_of_results
  kind_case a b P at = ap (λ (x : Means). x.kind P at) (opens.means_case C a b) ∙ grouped (kind_of_arms (one null) (map (arm_of C) a) P (next at)) (λ x. kind_of_any x.0 (option_map (means C) b) P x.1) (plain_kind at)

  pub kind_match : (a : Expr) (b : List Choice) (c : Option Expr) (P : Place) (at : ℕ) → (means C (exprs.Match a b c)).kind P at
      ≡ ((means C a).kind P (next at) >>= λ x. kinds_of_choices (one x.0) (one null) (map (choice_of C) b) P x.1 >>= λ y. kind_of_any y.0.1 (option_map (means C) c) P y.1 >>= plain_results at y.0.0)
  unfolding match_kind_of kinds_of_match
  kind_match a b c P at = ap (λ (x : Means). x.kind P at) (opens.means_match C a b c) ∙ grouped ((means C a).kind P (next at)) (λ x. kinds_of_choices (one x.0) (one null) (map (choice_of C) b) P x.1) (match_kind at (option_map (means C) c) P)

  pub kind_aggregate : (a : Aggregate) (b : Expr) (P : Place) (at : ℕ) → (means C (exprs.Aggregate a b)).kind P at ≡ ((means C b).kind (in_aggregate P) (next at) >>= aggregate_kind C a (means C b) P at)
  kind_aggregate a b P at = ap (λ (x : Means). x.kind P at) (opens.means_aggregate C a b)

  pub kind_substr : (a b : Expr) (c : Option Expr) (P : Place) (at : ℕ) → (means C (exprs.Substr a b c)).kind P at
      ≡ ((means C a).kind P (next at) >>= λ x. kind_with (one integer) (means C b) P x.1 >>= λ y. kind_of_any y.0 (option_map (means C) c) P y.1 >>= substr_kind at x.0)
  unfolding substr_kind_of number_kind
  kind_substr a b c P at = ap (λ (x : Means). x.kind P at) (opens.means_substr C a b c) ∙ (λ i. (means C a).kind P (next at) >>= λ x. grouped (kind_with (one integer) (means C b) P x.1) (λ y. kind_of_any y.0 (option_map (means C) c) P y.1) (substr_kind at x.0) i)

  pub kind_apply : (a : Function) (b : Expr) (P : Place) (at : ℕ) → (means C (exprs.Apply a b)).kind P at ≡ ((means C b).kind P (next at) >>= function_kind a at)
  unfolding apply_kind
  kind_apply a b P at = ap (λ (x : Means). x.kind P at) (opens.means_apply C a b)

  pub kind_coalesce : (a : List Expr) (P : Place) (at : ℕ) → (means C (exprs.Coalesce a)).kind P at ≡ (kind_of_all (one null) (map (means C) a) P (next at) >>= plain_kind at)
  kind_coalesce a P at = ap (λ (x : Means). x.kind P at) (opens.means_coalesce C a)

  pub typed_or : (a : List Cond) (P : Place) (at : ℕ) → (says C (conds.Or a)).typed P at ≡ all_typed (map (says C) a) P (next at)
  typed_or a P at = ap (λ (x : Says). x.typed P at) (opens.says_or C a)

  pub typed_and : (a : List Cond) (P : Place) (at : ℕ) → (says C (conds.And a)).typed P at ≡ all_typed (map (says C) a) P (next at)
  typed_and a P at = ap (λ (x : Says). x.typed P at) (opens.says_and C a)

  pub typed_not : (a : Cond) (P : Place) (at : ℕ) → (says C (conds.Not a)).typed P at ≡ (says C a).typed P (next at)
  typed_not a P at = ap (λ (x : Says). x.typed P at) (opens.says_not C a)

  pub typed_exists : (a : Query) (P : Place) (at : ℕ) → (says C (conds.Exists a)).typed P at ≡ ((answers C a).kinds (subquery false) P (next at) >>= λ x. Ok (tt, x.1))
  typed_exists a P at = ap (λ (x : Says). x.typed P at) (opens.says_exists C a)

  pub typed_compare : (a : Comparison) (b c : Expr) (P : Place) (at : ℕ) → (says C (conds.Compare a b c)).typed P at
      ≡ ((means C b).kind P (next at) >>= λ x. kind_with (one x.0) (means C c) P x.1 >>= compared a at)
  unfolding compare_typed kind_of_two
  typed_compare a b c P at = ap (λ (x : Says). x.typed P at) (opens.says_compare C a b c) ∙ grouped ((means C b).kind P (next at)) (λ x. kind_with (one x.0) (means C c) P x.1) (compared a at)

  pub typed_comparequery : (a : Comparison) (b : Expr) (c : Query) (P : Place) (at : ℕ) → (says C (conds.CompareQuery a b c)).typed P at
      ≡ ((means C b).kind P (next at) >>= λ x. (answers C c).kinds (subquery true) P x.1 >>= λ y. compared a at (both x.0 (first_kind y.0), y.1))
  typed_comparequery a b c P at = ap (λ (x : Says). x.typed P at) (opens.says_comparequery C a b c) ∙ grouped ((means C b).kind P (next at)) (λ x. query_with x.0 (answers C c) P x.1) (compared a at) ∙ (λ i. (means C b).kind P (next at) >>= λ x. grouped ((answers C c).kinds (subquery true) P x.1) (λ y. Ok (both x.0 (first_kind y.0), y.1)) (compared a at) i)

  pub typed_isnull : (a : Expr) (P : Place) (at : ℕ) → (says C (conds.IsNull a)).typed P at ≡ ((means C a).kind P (next at) >>= λ x. Ok (tt, x.1))
  typed_isnull a P at = ap (λ (x : Says). x.typed P at) (opens.says_isnull C a)

  pub typed_inquery : (a : Expr) (b : Query) (P : Place) (at : ℕ) → (says C (conds.InQuery a b)).typed P at
      ≡ ((means C a).kind P (next at) >>= λ x. (answers C b).kinds (subquery true) P x.1 >>= λ y. of_plain at (both x.0 (first_kind y.0), y.1))
  typed_inquery a b P at = ap (λ (x : Says). x.typed P at) (opens.says_inquery C a b) ∙ grouped ((means C a).kind P (next at)) (λ x. query_with x.0 (answers C b) P x.1) (of_plain at) ∙ (λ i. (means C a).kind P (next at) >>= λ x. grouped ((answers C b).kinds (subquery true) P x.1) (λ y. Ok (both x.0 (first_kind y.0), y.1)) (of_plain at) i)

  pub typed_inlist : (a : Expr) (b : List Expr) (P : Place) (at : ℕ) → (says C (conds.InList a b)).typed P at
      ≡ ((means C a).kind P (next at) >>= λ x. kind_of_all (one x.0) (map (means C) b) P x.1 >>= of_plain at)
  unfolding in_list_typed kind_with_all
  typed_inlist a b P at = ap (λ (x : Says). x.typed P at) (opens.says_inlist C a b) ∙ grouped ((means C a).kind P (next at)) (λ x. kind_of_all (one x.0) (map (means C) b) P x.1) (of_plain at)

  pub typed_between : (a b c : Expr) (P : Place) (at : ℕ) → (says C (conds.Between a b c)).typed P at
      ≡ ((means C a).kind P (next at) >>= λ x. kind_with (one x.0) (means C b) P x.1 >>= λ y. kind_with y.0 (means C c) P y.1 >>= of_plain at)
  unfolding between_typed kind_of_three kind_of_two
  typed_between a b c P at = ap (λ (x : Says). x.typed P at) (opens.says_between C a b c) ∙ grouped ((means C a).kind P (next at) >>= λ x. kind_with (one x.0) (means C b) P x.1) (λ y. kind_with y.0 (means C c) P y.1) (of_plain at) ∙ grouped ((means C a).kind P (next at)) (λ x. kind_with (one x.0) (means C b) P x.1) (λ y. kind_with y.0 (means C c) P y.1 >>= of_plain at)

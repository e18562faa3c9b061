-- The kinds of forms of expression and condition that have several parts, each part as the code has it.
use Rattle.std.proofs.Common.{ℕ, ◌≡◌, ap, sym, ◌∙◌, List, Option, map, true}
use Rattle.std.specs.Option.{option_map}
use Rattle.lb_tree.specs.declared.query.Aggregate.{Aggregate}
use Rattle.lb_tree.specs.declared.query.Comparison.{Comparison}
use Rattle.lb_tree.specs.declared.query.Function.{Function}
use Rattle.lb_tree.specs.declared.query.Arm.{Arm}
use Rattle.lb_tree.specs.declared.query.Choice.{Choice}
use Rattle.lb_tree.specs.declared.query.Expr.{Expr}
use Rattle.lb_tree.specs.declared.query.Cond.{Cond}
use Rattle.lb_tree.specs.declared.query.Query.{Query}
use Rattle.lb_tree.specs.declared.query.Expr.TheVariants as exprs
use Rattle.lb_tree.specs.declared.query.Cond.TheVariants as conds
use Rattle.lb_names.specs.Kinds.{one, null, integer, both}
use Rattle.lb_names.specs.Scopes.{Catalogue}
use Rattle.lb_names.specs.Typed.{next, ◌>>=◌}
use Rattle.lb_names.specs.Places.{Place, in_aggregate}
use Rattle.lb_names.specs.Carriers.{Role, subquery}
use Rattle.lb_names.specs.Parts.{kind_with, kind_of_all, kind_of_any, kind_of_arms, kinds_of_choices}
use Rattle.lb_names.specs.Expressions.{plain_kind, plain_results, aggregate_kind, substr_kind, function_kind}
use Rattle.lb_names.specs.Conditions.{compared, of_plain, first_kind}
use Rattle.lb_names.specs.Typing.{means, says, answers}
use Rattle.lb_walk.specs.Opened.{arm_of, choice_of}
use Rattle.lb_types.proofs.Forms as forms

module _ (C : Catalogue) (P : Place) (at m : ℕ) (number : m ≡ next at) where
  kind_path : (e f : Expr) → e ≡ f → (means C e).kind P at ≡ (means C f).kind P at
  kind_path e f h = ap (λ x. (means C x).kind P at) h

  typed_path : (c d : Cond) → c ≡ d → (says C c).typed P at ≡ (says C d).typed P at
  typed_path c d h = ap (λ x. (says C x).typed P at) h

  pub case_at : (e : Expr) (a x : List Arm) (b : Option Expr) → e ≡ exprs.Case a b → x ≡ a
      → (means C e).kind P at ≡ (kind_of_arms (one null) (map (arm_of C) x) P m >>= λ r. kind_of_any r.0 (option_map (means C) b) P r.1 >>= plain_kind at)
  case_at e a x b is p = kind_path e (exprs.Case a b) is ∙ forms.kind_case C a b P at
      ∙ (λ i. kind_of_arms (one null) (map (arm_of C) (sym p i)) P (sym number i) >>= λ r. kind_of_any r.0 (option_map (means C) b) P r.1 >>= plain_kind at)

  pub match_at : (e a x : Expr) (b y : List Choice) (c : Option Expr) → e ≡ exprs.Match a b c → x ≡ a → y ≡ b
      → (means C e).kind P at ≡ ((means C x).kind P m >>= λ r. kinds_of_choices (one r.0) (one null) (map (choice_of C) y) P r.1 >>= λ s. kind_of_any s.0.1 (option_map (means C) c) P s.1 >>= plain_results at s.0.0)
  match_at e a x b y c is p q = kind_path e (exprs.Match a b c) is ∙ forms.kind_match C a b c P at
      ∙ (λ i. (means C (sym p i)).kind P (sym number i) >>= λ r. kinds_of_choices (one r.0) (one null) (map (choice_of C) (sym q i)) P r.1 >>= λ s. kind_of_any s.0.1 (option_map (means C) c) P s.1 >>= plain_results at s.0.0)

  pub aggregate_at : (e : Expr) (a : Aggregate) (b x y : Expr) (Q : Place) → Q ≡ in_aggregate P → e ≡ exprs.Aggregate a b → x ≡ b → y ≡ b
      → (means C e).kind P at ≡ ((means C x).kind Q m >>= aggregate_kind C a (means C y) P at)
  aggregate_at e a b x y Q inside is p q = kind_path e (exprs.Aggregate a b) is ∙ forms.kind_aggregate C a b P at
      ∙ (λ i. (means C (sym p i)).kind (sym inside i) (sym number i) >>= aggregate_kind C a (means C (sym q i)) P at)

  pub substr_at : (e a x b y : Expr) (c : Option Expr) → e ≡ exprs.Substr a b c → x ≡ a → y ≡ b
      → (means C e).kind P at ≡ ((means C x).kind P m >>= λ r. kind_with (one integer) (means C y) P r.1 >>= λ s. kind_of_any s.0 (option_map (means C) c) P s.1 >>= substr_kind at r.0)
  substr_at e a x b y c is p q = kind_path e (exprs.Substr a b c) is ∙ forms.kind_substr C a b c P at
      ∙ (λ i. (means C (sym p i)).kind P (sym number i) >>= λ r. kind_with (one integer) (means C (sym q i)) P r.1 >>= λ s. kind_of_any s.0 (option_map (means C) c) P s.1 >>= substr_kind at r.0)

  pub apply_at : (e : Expr) (a : Function) (b x : Expr) → e ≡ exprs.Apply a b → x ≡ b → (means C e).kind P at ≡ ((means C x).kind P m >>= function_kind a at)
  apply_at e a b x is p = kind_path e (exprs.Apply a b) is ∙ forms.kind_apply C a b P at ∙ (λ i. (means C (sym p i)).kind P (sym number i) >>= function_kind a at)

  pub compare_at : (e : Cond) (a : Comparison) (b x c y : Expr) → e ≡ conds.Compare a b c → x ≡ b → y ≡ c
      → (says C e).typed P at ≡ ((means C x).kind P m >>= λ r. kind_with (one r.0) (means C y) P r.1 >>= compared a at)
  compare_at e a b x c y is p q = typed_path e (conds.Compare a b c) is ∙ forms.typed_compare C a b c P at
      ∙ (λ i. (means C (sym p i)).kind P (sym number i) >>= λ r. kind_with (one r.0) (means C (sym q i)) P r.1 >>= compared a at)

  pub comparequery_at : (e : Cond) (a : Comparison) (b x : Expr) (c y : Query) (R : Role) → R ≡ subquery true → e ≡ conds.CompareQuery a b c → x ≡ b → y ≡ c
      → (says C e).typed P at ≡ ((means C x).kind P m >>= λ r. (answers C y).kinds R P r.1 >>= λ s. compared a at (both r.0 (first_kind s.0), s.1))
  comparequery_at e a b x c y R role is p q = typed_path e (conds.CompareQuery a b c) is ∙ forms.typed_comparequery C a b c P at
      ∙ (λ i. (means C (sym p i)).kind P (sym number i) >>= λ r. (answers C (sym q i)).kinds (sym role i) P r.1 >>= λ s. compared a at (both r.0 (first_kind s.0), s.1))

  pub inquery_at : (e : Cond) (b x : Expr) (c y : Query) (R : Role) → R ≡ subquery true → e ≡ conds.InQuery b c → x ≡ b → y ≡ c
      → (says C e).typed P at ≡ ((means C x).kind P m >>= λ r. (answers C y).kinds R P r.1 >>= λ s. of_plain at (both r.0 (first_kind s.0), s.1))
  inquery_at e b x c y R role is p q = typed_path e (conds.InQuery b c) is ∙ forms.typed_inquery C b c P at
      ∙ (λ i. (means C (sym p i)).kind P (sym number i) >>= λ r. (answers C (sym q i)).kinds (sym role i) P r.1 >>= λ s. of_plain at (both r.0 (first_kind s.0), s.1))

  pub inlist_at : (e : Cond) (b x : Expr) (c y : List Expr) → e ≡ conds.InList b c → x ≡ b → y ≡ c
      → (says C e).typed P at ≡ ((means C x).kind P m >>= λ r. kind_of_all (one r.0) (map (means C) y) P r.1 >>= of_plain at)
  inlist_at e b x c y is p q = typed_path e (conds.InList b c) is ∙ forms.typed_inlist C b c P at
      ∙ (λ i. (means C (sym p i)).kind P (sym number i) >>= λ r. kind_of_all (one r.0) (map (means C) (sym q i)) P r.1 >>= of_plain at)

  pub between_at : (e : Cond) (a x b y c z : Expr) → e ≡ conds.Between a b c → x ≡ a → y ≡ b → z ≡ c
      → (says C e).typed P at ≡ ((means C x).kind P m >>= λ r. kind_with (one r.0) (means C y) P r.1 >>= λ s. kind_with s.0 (means C z) P s.1 >>= of_plain at)
  between_at e a x b y c z is p q r = typed_path e (conds.Between a b c) is ∙ forms.typed_between C a b c P at
      ∙ (λ i. (means C (sym p i)).kind P (sym number i) >>= λ t. kind_with (one t.0) (means C (sym q i)) P t.1 >>= λ s. kind_with s.0 (means C (sym r i)) P s.1 >>= of_plain at)

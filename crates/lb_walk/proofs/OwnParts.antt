-- Own columns of the forms of expression and condition that have several parts.
use Rattle.std.proofs.Common.{ℕ, ◌≡◌, ap, sym, subst, ◌∙◌, List, ◌++◌, Bool, true, false, ◌&&◌, map, Option, Result}
use Rattle.std.specs.Option.{option_map}
use Rattle.std.specs.Prelude.{IfOk}
use Rattle.lb_tree.specs.declared.query.Aggregate.{Aggregate}
use Rattle.lb_tree.specs.declared.query.Comparison.{Comparison}
use Rattle.lb_tree.specs.declared.query.Function.{Function}
use Rattle.lb_tree.specs.declared.query.Arm.{Arm}
use Rattle.lb_tree.specs.declared.query.Choice.{Choice}
use Rattle.lb_tree.specs.declared.query.Expr.{Expr}
use Rattle.lb_tree.specs.declared.query.Cond.{Cond}
use Rattle.lb_tree.specs.declared.query.Query.{Query}
use Rattle.lb_tree.specs.declared.query.Expr.TheVariants as exprs
use Rattle.lb_tree.specs.declared.query.Cond.TheVariants as conds
use Rattle.lb_names.specs.Sights.{Sight}
use Rattle.lb_names.specs.Marks.{of_each, of_any}
use Rattle.lb_names.specs.Scopes.{Catalogue}
use Rattle.lb_names.specs.Passes.{all_own}
use Rattle.lb_names.specs.Carriers.{Means, Says, Arms, Choices}
use Rattle.lb_names.specs.Typing.{means, says, answers}
use Rattle.lb_walk.specs.Opened.{arm_of, choice_of}
use Rattle.lb_walk.proofs.Opens as opens
use Rattle.lb_walk.proofs.OwnQueries.{split}

-- the whole is not own where its first part isn't
pub first_not : (whole p q : Bool) → whole ≡ (p && q) → false ≡ p → false ≡ whole
first_not whole p q h k = sym (h ∙ ap (λ x. x && q) (sym k))

-- the whole is what its rest is, where its first part is own
pub first_own : (E : Type 0) (r : Result Bool E) (whole p q : Bool) → whole ≡ (p && q) → true ≡ p → IfOk r (λ own. own ≡ q) → IfOk r (λ own. own ≡ whole)
first_own E r whole p q h k = subst (λ z. IfOk r (λ own. own ≡ z)) (sym (h ∙ ap (λ x. x && q) (sym k)))

-- the same for the rest after two parts
pub both_own : (E : Type 0) (r : Result Bool E) (whole p q s : Bool) → whole ≡ (p && (q && s)) → true ≡ p → true ≡ q → IfOk r (λ own. own ≡ s) → IfOk r (λ own. own ≡ whole)
both_own E r whole p q s h k l = subst (λ z. IfOk r (λ own. own ≡ z)) (sym (h ∙ (λ i. sym k i && (sym l i && s))))

pub second_not : (whole p q s : Bool) → whole ≡ (p && (q && s)) → true ≡ p → false ≡ q → false ≡ whole
second_not whole p q s h k l = sym (h ∙ (λ i. sym k i && (sym l i && s)))

-- of a query: three, four and five parts
pub third_not : (whole p q s t : Bool) → whole ≡ (p && (q && (s && t))) → true ≡ p → true ≡ q → false ≡ s → false ≡ whole
third_not whole p q s t h k l m = sym (h ∙ (λ i. sym k i && (sym l i && (sym m i && t))))

pub fourth_not : (whole p q s t w : Bool) → whole ≡ (p && (q && (s && (t && w)))) → true ≡ p → true ≡ q → true ≡ s → false ≡ t → false ≡ whole
fourth_not whole p q s t w h k l m n = sym (h ∙ (λ i. sym k i && (sym l i && (sym m i && (sym n i && w)))))

pub five_own : (E : Type 0) (r : Result Bool E) (whole p q s t w : Bool) → whole ≡ (p && (q && (s && (t && w)))) → true ≡ p → true ≡ q → true ≡ s → true ≡ t → IfOk r (λ own. own ≡ w) → IfOk r (λ own. own ≡ whole)
five_own E r whole p q s t w h k l m n = subst (λ z. IfOk r (λ own. own ≡ z)) (sym (h ∙ (λ i. sym k i && (sym l i && (sym m i && (sym n i && w))))))

module _ (C : Catalogue) (level : ℕ) (v : Sight) where
  abbrev pub own : Expr → Bool
  own e = all_own C level ((means C e).marks v)

  abbrev pub own_all : List Expr → Bool
  own_all es = all_own C level (of_each (λ (m : Means). m.marks) (map (means C) es) v)

  abbrev pub own_any : Option Expr → Bool
  own_any e = all_own C level (of_any (λ (m : Means). m.marks) (option_map (means C) e) v)

  abbrev pub own_query : Query → Bool
  own_query q = all_own C level ((answers C q).marks v)

  abbrev pub own_arms : List Arm → Bool
  own_arms xs = all_own C level (of_each (λ (m : Arms). m.marks) (map (arm_of C) xs) v)

  abbrev pub own_choices : List Choice → Bool
  own_choices xs = all_own C level (of_each (λ (m : Choices). m.marks) (map (choice_of C) xs) v)

  pub case_own : (e : Expr) (a x : List Arm) (b : Option Expr) → e ≡ exprs.Case a b → x ≡ a → own e ≡ (own_arms x && own_any b)
  case_own e a x b is p = ap (λ (m : Means). all_own C level (m.marks v)) (ap (means C) is ∙ opens.means_case C a b)
      ∙ split C level (of_each (λ (m : Arms). m.marks) (map (arm_of C) a) v) (of_any (λ (m : Means). m.marks) (option_map (means C) b) v)
      ∙ (λ i. own_arms (sym p i) && own_any b)

  pub match_own : (e a x : Expr) (b y : List Choice) (c : Option Expr) → e ≡ exprs.Match a b c → x ≡ a → y ≡ b → own e ≡ (own x && (own_choices y && own_any c))
  match_own e a x b y c is p q = ap (λ (m : Means). all_own C level (m.marks v)) (ap (means C) is ∙ opens.means_match C a b c)
      ∙ split C level ((means C a).marks v) (of_each (λ (m : Choices). m.marks) (map (choice_of C) b) v ++ of_any (λ (m : Means). m.marks) (option_map (means C) c) v)
      ∙ ap (λ z. own a && z) (split C level (of_each (λ (m : Choices). m.marks) (map (choice_of C) b) v) (of_any (λ (m : Means). m.marks) (option_map (means C) c) v))
      ∙ (λ i. own (sym p i) && (own_choices (sym q i) && own_any c))

  pub substr_own : (e a x b y : Expr) (c : Option Expr) → e ≡ exprs.Substr a b c → x ≡ a → y ≡ b → own e ≡ (own x && (own y && own_any c))
  substr_own e a x b y c is p q = ap (λ (m : Means). all_own C level (m.marks v)) (ap (means C) is ∙ opens.means_substr C a b c)
      ∙ split C level ((means C a).marks v) ((means C b).marks v ++ of_any (λ (m : Means). m.marks) (option_map (means C) c) v)
      ∙ ap (λ z. own a && z) (split C level ((means C b).marks v) (of_any (λ (m : Means). m.marks) (option_map (means C) c) v))
      ∙ (λ i. own (sym p i) && (own (sym q i) && own_any c))

  pub aggregate_own : (e : Expr) (a : Aggregate) (b x : Expr) → e ≡ exprs.Aggregate a b → x ≡ b → own x ≡ own e
  aggregate_own e a b x is p = sym (ap (λ (m : Means). all_own C level (m.marks v)) (ap (means C) is ∙ opens.means_aggregate C a b) ∙ (λ i. own (sym p i)))

  pub apply_own : (e : Expr) (a : Function) (b x : Expr) → e ≡ exprs.Apply a b → x ≡ b → own x ≡ own e
  apply_own e a b x is p = sym (ap (λ (m : Means). all_own C level (m.marks v)) (ap (means C) is ∙ opens.means_apply C a b) ∙ (λ i. own (sym p i)))

  abbrev pub own_cond : Cond → Bool
  own_cond c = all_own C level ((says C c).marks v)

  pub compare_own : (e : Cond) (a : Comparison) (b x c y : Expr) → e ≡ conds.Compare a b c → x ≡ b → y ≡ c → own_cond e ≡ (own x && own y)
  compare_own e a b x c y is p q = ap (λ (m : Says). all_own C level (m.marks v)) (ap (says C) is ∙ opens.says_compare C a b c)
      ∙ split C level ((means C b).marks v) ((means C c).marks v) ∙ (λ i. own (sym p i) && own (sym q i))

  pub comparequery_own : (e : Cond) (a : Comparison) (b x : Expr) (c y : Query) → e ≡ conds.CompareQuery a b c → x ≡ b → y ≡ c → own_cond e ≡ (own x && own_query y)
  comparequery_own e a b x c y is p q = ap (λ (m : Says). all_own C level (m.marks v)) (ap (says C) is ∙ opens.says_comparequery C a b c)
      ∙ split C level ((means C b).marks v) ((answers C c).marks v) ∙ (λ i. own (sym p i) && own_query (sym q i))

  pub inquery_own : (e : Cond) (b x : Expr) (c y : Query) → e ≡ conds.InQuery b c → x ≡ b → y ≡ c → own_cond e ≡ (own x && own_query y)
  inquery_own e b x c y is p q = ap (λ (m : Says). all_own C level (m.marks v)) (ap (says C) is ∙ opens.says_inquery C b c)
      ∙ split C level ((means C b).marks v) ((answers C c).marks v) ∙ (λ i. own (sym p i) && own_query (sym q i))

  pub inlist_own : (e : Cond) (b x : Expr) (c y : List Expr) → e ≡ conds.InList b c → x ≡ b → y ≡ c → own_cond e ≡ (own x && own_all y)
  inlist_own e b x c y is p q = ap (λ (m : Says). all_own C level (m.marks v)) (ap (says C) is ∙ opens.says_inlist C b c)
      ∙ split C level ((means C b).marks v) (of_each (λ (m : Means). m.marks) (map (means C) c) v) ∙ (λ i. own (sym p i) && own_all (sym q i))

  pub between_own : (e : Cond) (a x b y c z : Expr) → e ≡ conds.Between a b c → x ≡ a → y ≡ b → z ≡ c → own_cond e ≡ (own x && (own y && own z))
  between_own e a x b y c z is p q r = ap (λ (m : Says). all_own C level (m.marks v)) (ap (says C) is ∙ opens.says_between C a b c)
      ∙ split C level ((means C a).marks v) ((means C b).marks v ++ (means C c).marks v)
      ∙ ap (λ w. own a && w) (split C level ((means C b).marks v) ((means C c).marks v))
      ∙ (λ i. own (sym p i) && (own (sym q i) && own (sym r i)))

-- The DATE literals of a tree are days where those of its parts are.
use Rattle.std.proofs.Common.{◌≡◌, refl, sym, subst, ◌∙◌, ℕ, List, [], ◌∷◌, ◌++◌, map, Bool, Option, Some, None}
use Rattle.std.specs.List.{AllByRecursion}
use Rattle.std.specs.Option.{option_map}
use Rattle.lb_tree.specs.declared.query.Cond.{Cond}
use Rattle.lb_tree.specs.declared.query.Expr.{Expr}
use Rattle.lb_tree.specs.declared.query.Item.{Item}
use Rattle.lb_tree.specs.declared.query.Join.{Join}
use Rattle.lb_tree.specs.declared.query.Arm.{Arm}
use Rattle.lb_tree.specs.declared.query.Chain.{Chain}
use Rattle.lb_tree.specs.declared.query.Choice.{Choice}
use Rattle.lb_tree.specs.declared.query.Query.{Query}
use Rattle.lb_tree.specs.declared.query.Signed.{Signed}
use Rattle.lb_tree.specs.declared.query.Aggregate.{Aggregate}
use Rattle.lb_tree.specs.declared.query.Atom.{Atom}
use Rattle.lb_tree.specs.declared.query.Column.{Column}
use Rattle.lb_tree.specs.declared.query.Comparison.{Comparison}
use Rattle.lb_tree.specs.declared.query.Function.{Function}
use Rattle.lb_tree.specs.declared.query.Tab.{Tab}
use Rattle.lb_tree.specs.declared.query.Cond.TheVariants as conds
use Rattle.lb_tree.specs.declared.query.Expr.TheVariants as exprs
use Rattle.lb_tree.specs.declared.query.Item.TheVariants as items
use Rattle.lb_tree.specs.declared.query.Join.TheVariants as joins
use Rattle.lb_tree.specs.declared.query.Cond.TheViews.{roll-Chain, roll-Query}
use Rattle.lb_tree.specs.Folds.{cond_of, expr_of, item_of, join_of, arm_of, chain_of, choice_of, query_of, signed_of, query_layer}
use Rattle.lb_tree.proofs.Opens.{chain_roll, query_roll, cond_or, cond_and, cond_not, cond_exists, cond_compare, cond_comparequery, cond_isnull, cond_inquery, cond_inlist, cond_between, expr_atom, expr_sum, expr_concat, expr_product, expr_case, expr_match, expr_aggregate, expr_substr, expr_apply, expr_coalesce, item_everything, item_allof, item_value, join_inner, join_left, join_cross, arm_out, choice_out, signed_out}
use Rattle.lb_kinds.specs.Days.{Days, AreDays, all_of, if_given, in_atom, in_query_layer, writing, day_steps}
use Rattle.lb_spoken.proofs.Gives.{IfGiven}

-- ---- lists of days

join_days : (a b : Days) → AreDays a → AreDays b → AreDays (a ++ b)
join_days [] b p r = r
join_days (x ∷ a) b p r = (p.0, join_days a b p.1 r)

each_days : {A : Type 0} (f : A → Days) (xs : List A) → AllByRecursion (λ x. AreDays (f x)) xs → AreDays (all_of (map f xs))
each_days f [] p = tt
each_days f (x ∷ xs) p = join_days (f x) (all_of (map f xs)) p.0 (each_days f xs p.1)

given_days : {A : Type 0} (f : A → Days) (x : Option A) → IfGiven (λ x. AreDays (f x)) x → AreDays (if_given (option_map f x))
given_days f None p = tt
given_days f (Some x) p = p

-- ---- what is said of each kind of node

abbrev pub CondHas : Cond → Type 0
CondHas x = AreDays (cond_of writing day_steps x)

abbrev pub Has : Expr → Type 0
Has x = AreDays (expr_of writing day_steps x)

abbrev pub ItemHas : Item → Type 0
ItemHas x = AreDays (item_of writing day_steps x)

abbrev pub JoinHas : Join → Type 0
JoinHas x = AreDays (join_of writing day_steps x)

abbrev pub ArmHas : Arm → Type 0
ArmHas x = AreDays (arm_of writing day_steps x)

abbrev pub ChainHas : Chain → Type 0
ChainHas x = AreDays (chain_of writing day_steps x)

abbrev pub ChoiceHas : Choice → Type 0
ChoiceHas x = AreDays (choice_of writing day_steps x)

abbrev pub QueryHas : Query → Type 0
QueryHas x = AreDays (query_of writing day_steps x)

abbrev pub SignedHas : Signed → Type 0
SignedHas x = AreDays (signed_of writing day_steps x)

abbrev in_expr : Expr → Days
in_expr x = expr_of writing day_steps x

abbrev in_cond : Cond → Days
in_cond x = cond_of writing day_steps x

abbrev in_query : Query → Days
in_query x = query_of writing day_steps x

-- ---- expressions

pub atom_days : (x : Atom) → AreDays (in_atom x) → Has (exprs.Atom x)
atom_days x p = subst AreDays (sym (expr_atom writing day_steps x)) p

pub sum_days : (xs : List Signed) → AllByRecursion SignedHas xs → Has (exprs.Sum xs)
sum_days xs p = subst AreDays (sym (expr_sum writing day_steps xs)) (each_days (signed_of writing day_steps) xs p)

pub concat_days : (xs : List Expr) → AllByRecursion Has xs → Has (exprs.Concat xs)
concat_days xs p = subst AreDays (sym (expr_concat writing day_steps xs)) (each_days in_expr xs p)

pub product_days : (xs : List Expr) → AllByRecursion Has xs → Has (exprs.Product xs)
product_days xs p = subst AreDays (sym (expr_product writing day_steps xs)) (each_days in_expr xs p)

pub case_days : (arms : List Arm) (x : Option Expr) → AllByRecursion ArmHas arms → IfGiven Has x → Has (exprs.Case arms x)
case_days arms x p r = subst AreDays (sym (expr_case writing day_steps arms x)) (join_days _ _ (each_days (arm_of writing day_steps) arms p) (given_days in_expr x r))

pub match_days : (v : Expr) (choices : List Choice) (x : Option Expr) → Has v → AllByRecursion ChoiceHas choices → IfGiven Has x → Has (exprs.Match v choices x)
match_days v choices x h p r = subst AreDays (sym (expr_match writing day_steps v choices x)) (join_days (in_expr v) _ h (join_days _ _ (each_days (choice_of writing day_steps) choices p) (given_days in_expr x r)))

pub aggregate_days : (a : Aggregate) (x : Expr) → Has x → Has (exprs.Aggregate a x)
aggregate_days a x p = subst AreDays (sym (expr_aggregate writing day_steps a x)) p

pub substr_days : (x y : Expr) (z : Option Expr) → Has x → Has y → IfGiven Has z → Has (exprs.Substr x y z)
substr_days x y z p r s = subst AreDays (sym (expr_substr writing day_steps x y z)) (join_days (in_expr x) _ p (join_days (in_expr y) _ r (given_days in_expr z s)))

pub apply_days : (f : Function) (x : Expr) → Has x → Has (exprs.Apply f x)
apply_days f x p = subst AreDays (sym (expr_apply writing day_steps f x)) p

pub coalesce_days : (xs : List Expr) → AllByRecursion Has xs → Has (exprs.Coalesce xs)
coalesce_days xs p = subst AreDays (sym (expr_coalesce writing day_steps xs)) (each_days in_expr xs p)

pub arm_days : (when : Cond) (result : Expr) → CondHas when → Has result → ArmHas (record { when = when; result = result })
arm_days when result p r = subst AreDays (sym (arm_out writing day_steps (record { when = when; result = result }))) (join_days (in_cond when) (in_expr result) p r)

pub choice_days : (when result : Expr) → Has when → Has result → ChoiceHas (record { when = when; result = result })
choice_days when result p r = subst AreDays (sym (choice_out writing day_steps (record { when = when; result = result }))) (join_days (in_expr when) (in_expr result) p r)

pub signed_days : (minus : Bool) (x : Expr) → Has x → SignedHas (record { minus = minus; part = x })
signed_days minus x p = subst AreDays (sym (signed_out writing day_steps (record { minus = minus; part = x }))) p

-- ---- conditions

pub or_days : (xs : List Cond) → AllByRecursion CondHas xs → CondHas (conds.Or xs)
or_days xs p = subst AreDays (sym (cond_or writing day_steps xs)) (each_days in_cond xs p)

pub and_days : (xs : List Cond) → AllByRecursion CondHas xs → CondHas (conds.And xs)
and_days xs p = subst AreDays (sym (cond_and writing day_steps xs)) (each_days in_cond xs p)

pub not_days : (x : Cond) → CondHas x → CondHas (conds.Not x)
not_days x p = subst AreDays (sym (cond_not writing day_steps x)) p

pub exists_days : (x : Query) → QueryHas x → CondHas (conds.Exists x)
exists_days x p = subst AreDays (sym (cond_exists writing day_steps x)) p

pub compare_days : (by : Comparison) (x y : Expr) → Has x → Has y → CondHas (conds.Compare by x y)
compare_days by x y p r = subst AreDays (sym (cond_compare writing day_steps by x y)) (join_days (in_expr x) (in_expr y) p r)

pub comparequery_days : (by : Comparison) (x : Expr) (y : Query) → Has x → QueryHas y → CondHas (conds.CompareQuery by x y)
comparequery_days by x y p r = subst AreDays (sym (cond_comparequery writing day_steps by x y)) (join_days (in_expr x) (in_query y) p r)

pub isnull_days : (x : Expr) → Has x → CondHas (conds.IsNull x)
isnull_days x p = subst AreDays (sym (cond_isnull writing day_steps x)) p

pub inquery_days : (x : Expr) (y : Query) → Has x → QueryHas y → CondHas (conds.InQuery x y)
inquery_days x y p r = subst AreDays (sym (cond_inquery writing day_steps x y)) (join_days (in_expr x) (in_query y) p r)

pub inlist_days : (x : Expr) (ys : List Expr) → Has x → AllByRecursion Has ys → CondHas (conds.InList x ys)
inlist_days x ys p r = subst AreDays (sym (cond_inlist writing day_steps x ys)) (join_days (in_expr x) _ p (each_days in_expr ys r))

pub between_days : (x y z : Expr) → Has x → Has y → Has z → CondHas (conds.Between x y z)
between_days x y z p r s = subst AreDays (sym (cond_between writing day_steps x y z)) (join_days (in_expr x) _ p (join_days (in_expr y) (in_expr z) r s))

-- ---- queries

pub everything_days : ItemHas items.Everything
everything_days = subst AreDays (sym (item_everything writing day_steps)) tt

pub allof_days : (n : List ℕ) → ItemHas (items.AllOf n)
allof_days n = subst AreDays (sym (item_allof writing day_steps n)) tt

pub value_days : (x : Expr) (name : Option (List ℕ)) → Has x → ItemHas (items.Value x name)
value_days x name p = subst AreDays (sym (item_value writing day_steps x name)) p

pub inner_days : (t : Tab) (x : Cond) → CondHas x → JoinHas (joins.Inner t x)
inner_days t x p = subst AreDays (sym (join_inner writing day_steps t x)) p

pub left_days : (t : Tab) (x : Cond) → CondHas x → JoinHas (joins.Left t x)
left_days t x p = subst AreDays (sym (join_left writing day_steps t x)) p

pub cross_days : (t : Tab) → JoinHas (joins.Cross t)
cross_days t = subst AreDays (sym (join_cross writing day_steps t)) tt

pub chain_days : (t : Tab) (js : List Join) → AllByRecursion JoinHas js → ChainHas (roll-Chain (record { first = t; joins = js }))
chain_days t js p = subst AreDays (sym (chain_roll writing day_steps (record { first = t; joins = js }))) (each_days (join_of writing day_steps) js p)

abbrev asked : List Item → List Chain → Option Cond → Option Cond → Days
asked is cs filter having = all_of (map (item_of writing day_steps) is) ++ (all_of (map (chain_of writing day_steps) cs) ++ (if_given (option_map in_cond filter) ++ if_given (option_map in_cond having)))

opened : (d : Bool) (is : List Item) (cs : List Chain) (filter : Option Cond) (group : List Column) (having : Option Cond)
    → in_query_layer (query_layer writing day_steps (record { distinct = d; items = is; from = cs; filter = filter; group = group; having = having })) ≡ asked is cs filter having
opened d is cs None group None = refl
opened d is cs None group (Some y) = refl
opened d is cs (Some x) group None = refl
opened d is cs (Some x) group (Some y) = refl

pub query_days : (d : Bool) (is : List Item) (cs : List Chain) (filter : Option Cond) (group : List Column) (having : Option Cond)
    → AllByRecursion ItemHas is → AllByRecursion ChainHas cs → IfGiven CondHas filter → IfGiven CondHas having
    → QueryHas (roll-Query (record { distinct = d; items = is; from = cs; filter = filter; group = group; having = having }))
query_days d is cs filter group having i f w h =
    subst AreDays (sym (query_roll writing day_steps (record { distinct = d; items = is; from = cs; filter = filter; group = group; having = having }) ∙ opened d is cs filter group having))
    (join_days _ _ (each_days (item_of writing day_steps) is i) (join_days _ _ (each_days (chain_of writing day_steps) cs f) (join_days _ _ (given_days in_cond filter w) (given_days in_cond having h))))

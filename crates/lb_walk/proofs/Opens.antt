-- What typing gives at each kind of node, by what it gives of the parts. tools/typing-equations writes this file.
use Rattle.std.proofs.Common.{ℕ, ◌≡◌, refl, ap, ◌∙◌, List, [], ◌∷◌, Bool, Option, map}
use Rattle.std.specs.Option.{option_map}
use Rattle.lb_tree.specs.declared.query.Cond.{Cond}
use Rattle.lb_tree.specs.declared.query.Expr.{Expr}
use Rattle.lb_tree.specs.declared.query.Item.{Item}
use Rattle.lb_tree.specs.declared.query.Join.{Join}
use Rattle.lb_tree.specs.declared.query.Arm.{Arm}
use Rattle.lb_tree.specs.declared.query.Chain.{Chain}
use Rattle.lb_tree.specs.declared.query.Choice.{Choice}
use Rattle.lb_tree.specs.declared.query.Query.{Query}
use Rattle.lb_tree.specs.declared.query.Signed.{Signed}
use Rattle.lb_tree.specs.declared.query.Aggregate.{Aggregate}
use Rattle.lb_tree.specs.declared.query.Atom.{Atom}
use Rattle.lb_tree.specs.declared.query.Column.{Column}
use Rattle.lb_tree.specs.declared.query.Comparison.{Comparison}
use Rattle.lb_tree.specs.declared.query.Function.{Function}
use Rattle.lb_tree.specs.declared.query.Tab.{Tab}
use Rattle.lb_tree.specs.declared.query.Cond.TheVariants as conds
use Rattle.lb_tree.specs.declared.query.Expr.TheVariants as exprs
use Rattle.lb_tree.specs.declared.query.Item.TheVariants as items
use Rattle.lb_tree.specs.declared.query.Join.TheVariants as joins
use Rattle.lb_tree.specs.declared.query.Cond.TheOpen as layers
use Rattle.lb_tree.specs.declared.query.Cond.TheViews.{out-Query}
use Rattle.lb_tree.proofs.Opens.{cond_or, cond_and, cond_not, cond_exists, cond_compare, cond_comparequery, cond_isnull, cond_inquery, cond_inlist, cond_between, expr_atom, expr_sum, expr_concat, expr_product, expr_case, expr_match, expr_aggregate, expr_substr, expr_apply, expr_coalesce, item_everything, item_allof, item_value, join_inner, join_left, join_cross, arm_out, chain_out, choice_out, query_out, signed_out}
use Rattle.lb_names.specs.Scopes.{Catalogue}
use Rattle.lb_names.specs.Carriers.{typing}
use Rattle.lb_names.specs.Expressions.{expr_step, arm_step, choice_step, signed_step}
use Rattle.lb_names.specs.Conditions.{cond_step}
use Rattle.lb_names.specs.SelectLists.{item_step, join_step, chain_step}
use Rattle.lb_names.specs.Typing.{steps, query_step, says, means, shows, joins, arms, chains, choices, answers, signs}
use Rattle.lb_walk.specs.Opened.{part_of, arm_of, choice_of, chain_of}

abbrev Name : Type 0
Name = List ℕ

module _ (C : Catalogue) where
  pub arms_out : (x : Arm) → arms C x ≡ arm_step (record { when = (says C x.when); result = (means C x.result) })
  unfolding says means shows joins arms chains choices answers signs
  arms_out x = arm_out typing (steps C) x

  pub arm_of_are : (xs : List Arm) → map (arms C) xs ≡ map (arm_of C) xs
  arm_of_are [] = refl
  arm_of_are (x ∷ xs) = λ i. arms_out x i ∷ arm_of_are xs i

  pub chains_out : (x : Chain) → chains C x ≡ chain_step (record { first = x.first; joins = (map (joins C) x.joins) })
  unfolding says means shows joins arms chains choices answers signs
  chains_out x = chain_out typing (steps C) x

  pub chain_of_are : (xs : List Chain) → map (chains C) xs ≡ map (chain_of C) xs
  chain_of_are [] = refl
  chain_of_are (x ∷ xs) = λ i. chains_out x i ∷ chain_of_are xs i

  pub choices_out : (x : Choice) → choices C x ≡ choice_step (record { when = (means C x.when); result = (means C x.result) })
  unfolding says means shows joins arms chains choices answers signs
  choices_out x = choice_out typing (steps C) x

  pub choice_of_are : (xs : List Choice) → map (choices C) xs ≡ map (choice_of C) xs
  choice_of_are [] = refl
  choice_of_are (x ∷ xs) = λ i. choices_out x i ∷ choice_of_are xs i

  pub signs_out : (x : Signed) → signs C x ≡ signed_step (record { minus = x.minus; part = (means C x.part) })
  unfolding says means shows joins arms chains choices answers signs
  signs_out x = signed_out typing (steps C) x

  pub part_of_are : (xs : List Signed) → map (signs C) xs ≡ map (part_of C) xs
  part_of_are [] = refl
  part_of_are (x ∷ xs) = λ i. signs_out x i ∷ part_of_are xs i

  pub answers_out : (x : Query) → answers C x ≡ query_step C (record { distinct = (out-Query x).distinct; items = (map (shows C) (out-Query x).items); from = (map (chain_of C) (out-Query x).from); filter = (option_map (says C) (out-Query x).filter); group = (out-Query x).group; having = (option_map (says C) (out-Query x).having) })
  unfolding says means shows joins arms chains choices answers signs
  answers_out x = query_out typing (steps C) x ∙ ap (λ parts. query_step C (record { distinct = (out-Query x).distinct; items = (map (shows C) (out-Query x).items); from = parts; filter = (option_map (says C) (out-Query x).filter); group = (out-Query x).group; having = (option_map (says C) (out-Query x).having) })) (chain_of_are (out-Query x).from)

  pub says_or : (a : List Cond) → says C (conds.Or a) ≡ cond_step (layers.Cond-F.Or (map (says C) a))
  unfolding says means shows joins arms chains choices answers signs
  says_or a = cond_or typing (steps C) a

  pub says_and : (a : List Cond) → says C (conds.And a) ≡ cond_step (layers.Cond-F.And (map (says C) a))
  unfolding says means shows joins arms chains choices answers signs
  says_and a = cond_and typing (steps C) a

  pub says_not : (a : Cond) → says C (conds.Not a) ≡ cond_step (layers.Cond-F.Not (says C a))
  unfolding says means shows joins arms chains choices answers signs
  says_not a = cond_not typing (steps C) a

  pub says_exists : (a : Query) → says C (conds.Exists a) ≡ cond_step (layers.Cond-F.Exists (answers C a))
  unfolding says means shows joins arms chains choices answers signs
  says_exists a = cond_exists typing (steps C) a

  pub says_compare : (a : Comparison) (b : Expr) (c : Expr) → says C (conds.Compare a b c) ≡ cond_step (layers.Cond-F.Compare a (means C b) (means C c))
  unfolding says means shows joins arms chains choices answers signs
  says_compare a b c = cond_compare typing (steps C) a b c

  pub says_comparequery : (a : Comparison) (b : Expr) (c : Query) → says C (conds.CompareQuery a b c) ≡ cond_step (layers.Cond-F.CompareQuery a (means C b) (answers C c))
  unfolding says means shows joins arms chains choices answers signs
  says_comparequery a b c = cond_comparequery typing (steps C) a b c

  pub says_isnull : (a : Expr) → says C (conds.IsNull a) ≡ cond_step (layers.Cond-F.IsNull (means C a))
  unfolding says means shows joins arms chains choices answers signs
  says_isnull a = cond_isnull typing (steps C) a

  pub says_inquery : (a : Expr) (b : Query) → says C (conds.InQuery a b) ≡ cond_step (layers.Cond-F.InQuery (means C a) (answers C b))
  unfolding says means shows joins arms chains choices answers signs
  says_inquery a b = cond_inquery typing (steps C) a b

  pub says_inlist : (a : Expr) (b : List Expr) → says C (conds.InList a b) ≡ cond_step (layers.Cond-F.InList (means C a) (map (means C) b))
  unfolding says means shows joins arms chains choices answers signs
  says_inlist a b = cond_inlist typing (steps C) a b

  pub says_between : (a : Expr) (b : Expr) (c : Expr) → says C (conds.Between a b c) ≡ cond_step (layers.Cond-F.Between (means C a) (means C b) (means C c))
  unfolding says means shows joins arms chains choices answers signs
  says_between a b c = cond_between typing (steps C) a b c

  pub means_atom : (a : Atom) → means C (exprs.Atom a) ≡ expr_step C (layers.Expr-F.Atom a)
  unfolding says means shows joins arms chains choices answers signs
  means_atom a = expr_atom typing (steps C) a

  pub means_sum : (a : List Signed) → means C (exprs.Sum a) ≡ expr_step C (layers.Expr-F.Sum (map (part_of C) a))
  unfolding says means shows joins arms chains choices answers signs
  means_sum a = expr_sum typing (steps C) a ∙ ap (λ parts. expr_step C (layers.Expr-F.Sum parts)) (part_of_are a)

  pub means_concat : (a : List Expr) → means C (exprs.Concat a) ≡ expr_step C (layers.Expr-F.Concat (map (means C) a))
  unfolding says means shows joins arms chains choices answers signs
  means_concat a = expr_concat typing (steps C) a

  pub means_product : (a : List Expr) → means C (exprs.Product a) ≡ expr_step C (layers.Expr-F.Product (map (means C) a))
  unfolding says means shows joins arms chains choices answers signs
  means_product a = expr_product typing (steps C) a

  pub means_case : (a : List Arm) (b : Option Expr) → means C (exprs.Case a b) ≡ expr_step C (layers.Expr-F.Case (map (arm_of C) a) (option_map (means C) b))
  unfolding says means shows joins arms chains choices answers signs
  means_case a b = expr_case typing (steps C) a b ∙ ap (λ parts. expr_step C (layers.Expr-F.Case parts (option_map (means C) b))) (arm_of_are a)

  pub means_match : (a : Expr) (b : List Choice) (c : Option Expr) → means C (exprs.Match a b c) ≡ expr_step C (layers.Expr-F.Match (means C a) (map (choice_of C) b) (option_map (means C) c))
  unfolding says means shows joins arms chains choices answers signs
  means_match a b c = expr_match typing (steps C) a b c ∙ ap (λ parts. expr_step C (layers.Expr-F.Match (means C a) parts (option_map (means C) c))) (choice_of_are b)

  pub means_aggregate : (a : Aggregate) (b : Expr) → means C (exprs.Aggregate a b) ≡ expr_step C (layers.Expr-F.Aggregate a (means C b))
  unfolding says means shows joins arms chains choices answers signs
  means_aggregate a b = expr_aggregate typing (steps C) a b

  pub means_substr : (a : Expr) (b : Expr) (c : Option Expr) → means C (exprs.Substr a b c) ≡ expr_step C (layers.Expr-F.Substr (means C a) (means C b) (option_map (means C) c))
  unfolding says means shows joins arms chains choices answers signs
  means_substr a b c = expr_substr typing (steps C) a b c

  pub means_apply : (a : Function) (b : Expr) → means C (exprs.Apply a b) ≡ expr_step C (layers.Expr-F.Apply a (means C b))
  unfolding says means shows joins arms chains choices answers signs
  means_apply a b = expr_apply typing (steps C) a b

  pub means_coalesce : (a : List Expr) → means C (exprs.Coalesce a) ≡ expr_step C (layers.Expr-F.Coalesce (map (means C) a))
  unfolding says means shows joins arms chains choices answers signs
  means_coalesce a = expr_coalesce typing (steps C) a

  pub shows_everything : shows C (items.Everything) ≡ item_step C (layers.Item-F.Everything)
  unfolding says means shows joins arms chains choices answers signs
  shows_everything = item_everything typing (steps C)

  pub shows_allof : (a : Name) → shows C (items.AllOf a) ≡ item_step C (layers.Item-F.AllOf a)
  unfolding says means shows joins arms chains choices answers signs
  shows_allof a = item_allof typing (steps C) a

  pub shows_value : (a : Expr) (b : Option Name) → shows C (items.Value a b) ≡ item_step C (layers.Item-F.Value (means C a) b)
  unfolding says means shows joins arms chains choices answers signs
  shows_value a b = item_value typing (steps C) a b

  pub joins_inner : (a : Tab) (b : Cond) → joins C (joins.Inner a b) ≡ join_step (layers.Join-F.Inner a (says C b))
  unfolding says means shows joins arms chains choices answers signs
  joins_inner a b = join_inner typing (steps C) a b

  pub joins_left : (a : Tab) (b : Cond) → joins C (joins.Left a b) ≡ join_step (layers.Join-F.Left a (says C b))
  unfolding says means shows joins arms chains choices answers signs
  joins_left a b = join_left typing (steps C) a b

  pub joins_cross : (a : Tab) → joins C (joins.Cross a) ≡ join_step (layers.Join-F.Cross a)
  unfolding says means shows joins arms chains choices answers signs
  joins_cross a = join_cross typing (steps C) a

-- Whether a node of each kind has a mention that is looked for, by whether its parts have.
use Rattle.std.proofs.Common.{ℕ, ◌≡◌, refl, ap, ◌∙◌, false, ◌||◌, List, [], ◌∷◌, ◌++◌, Option, Some, None, map, option_map}
use Rattle.std.specs.List.{list_any}
use Rattle.std.proofs.Math.Bool.{or-false}
use Rattle.std.proofs.lemmas.List.Folds.{list_any-append}
use Rattle.lb_tree.specs.declared.query.Cond.{Cond}
use Rattle.lb_tree.specs.declared.query.Expr.{Expr}
use Rattle.lb_tree.specs.declared.query.Arm.{Arm}
use Rattle.lb_tree.specs.declared.query.Chain.{Chain}
use Rattle.lb_tree.specs.declared.query.Choice.{Choice}
use Rattle.lb_tree.specs.declared.query.Query.{Query}
use Rattle.lb_tree.specs.declared.query.Signed.{Signed}
use Rattle.lb_tree.specs.declared.query.Aggregate.{Aggregate}
use Rattle.lb_tree.specs.declared.query.Atom.{Atom}
use Rattle.lb_tree.specs.declared.query.Comparison.{Comparison}
use Rattle.lb_tree.specs.declared.query.Function.{Function}
use Rattle.lb_tree.specs.declared.query.Tab.{Tab}
use Rattle.lb_tree.specs.declared.query.Cond.TheVariants as conds
use Rattle.lb_tree.specs.declared.query.Expr.TheVariants as exprs
use Rattle.lb_tree.specs.declared.query.Item.TheVariants as items
use Rattle.lb_tree.specs.declared.query.Join.TheVariants as joins
use Rattle.lb_tree.specs.declared.query.Cond.TheViews.{out-Query}
use Rattle.lb_tree.specs.declared.query.Cond.TheOpen as layers
use Rattle.lb_tree.specs.Folds.{Written, cond_of, expr_of, item_of, join_of, arm_of, chain_of, choice_of, query_of, signed_of}
use Rattle.lb_tree.proofs.Opens as opens
use Rattle.lb_names.specs.Mentions.{Mentions, table, all_of, if_given, in_cond, in_expr, naming, naming_steps}
use Rattle.lb_mentions.specs.declared.sought.Sought.{Sought}
use Rattle.lb_mentions.specs.Parts as p
use Rattle.lb_mentions.specs.Seeking.{is_sought}

abbrev Name : Type 0
Name = List ℕ

module _ (w : Sought) where
  -- one of both lists
  append : (xs ys : Mentions) → p.one_of w (xs ++ ys) ≡ (p.one_of w xs || p.one_of w ys)
  append xs ys = list_any-append (is_sought w) xs ys

  -- one of the parts of a list
  all : {A : Type 0} (f : A → Mentions) (xs : List A) → p.one_of w (all_of (map f xs)) ≡ list_any (λ x. p.one_of w (f x)) xs
  all f [] = refl
  all f (x ∷ xs) = append (f x) (all_of (map f xs)) ∙ ap (λ b. p.one_of w (f x) || b) (all f xs)

  -- one of a part that may be missing
  maybe : {A : Type 0} (f : A → Mentions) (x : Option A) → p.one_of w (if_given (option_map f x)) ≡ p.of_maybe (λ y. p.one_of w (f y)) x
  maybe f None = refl
  maybe f (Some x) = refl

  pub whole_cond : (c : Cond) → p.in_cond w c ≡ p.one_of w (in_cond c)
  unfolding p.in_cond in_cond
  whole_cond c = refl

  pub whole_expr : (e : Expr) → p.in_expr w e ≡ p.one_of w (in_expr e)
  unfolding p.in_expr in_expr
  whole_expr e = refl

  -- ---- conditions

  pub is_or : (xs : List Cond) → p.in_cond w (conds.Or xs) ≡ list_any (p.in_cond w) xs
  unfolding p.in_cond
  is_or xs = ap (p.one_of w) (opens.cond_or naming naming_steps xs) ∙ all (cond_of naming naming_steps) xs

  pub is_and : (xs : List Cond) → p.in_cond w (conds.And xs) ≡ list_any (p.in_cond w) xs
  unfolding p.in_cond
  is_and xs = ap (p.one_of w) (opens.cond_and naming naming_steps xs) ∙ all (cond_of naming naming_steps) xs

  pub is_not : (x : Cond) → p.in_cond w (conds.Not x) ≡ p.in_cond w x
  unfolding p.in_cond
  is_not x = ap (p.one_of w) (opens.cond_not naming naming_steps x)

  pub is_exists : (q : Query) → p.in_cond w (conds.Exists q) ≡ p.in_query w q
  unfolding p.in_cond p.in_query
  is_exists q = ap (p.one_of w) (opens.cond_exists naming naming_steps q)

  pub is_compare : (by : Comparison) (x y : Expr) → p.in_cond w (conds.Compare by x y) ≡ (p.in_expr w x || p.in_expr w y)
  unfolding p.in_cond p.in_expr
  is_compare by x y = ap (p.one_of w) (opens.cond_compare naming naming_steps by x y) ∙ append (expr_of naming naming_steps x) (expr_of naming naming_steps y)

  pub is_compare_query : (by : Comparison) (x : Expr) (q : Query) → p.in_cond w (conds.CompareQuery by x q) ≡ (p.in_expr w x || p.in_query w q)
  unfolding p.in_cond p.in_expr p.in_query
  is_compare_query by x q = ap (p.one_of w) (opens.cond_comparequery naming naming_steps by x q) ∙ append (expr_of naming naming_steps x) (query_of naming naming_steps q)

  pub is_null : (x : Expr) → p.in_cond w (conds.IsNull x) ≡ p.in_expr w x
  unfolding p.in_cond p.in_expr
  is_null x = ap (p.one_of w) (opens.cond_isnull naming naming_steps x)

  pub is_in_query : (x : Expr) (q : Query) → p.in_cond w (conds.InQuery x q) ≡ (p.in_expr w x || p.in_query w q)
  unfolding p.in_cond p.in_expr p.in_query
  is_in_query x q = ap (p.one_of w) (opens.cond_inquery naming naming_steps x q) ∙ append (expr_of naming naming_steps x) (query_of naming naming_steps q)

  pub is_in_list : (x : Expr) (xs : List Expr) → p.in_cond w (conds.InList x xs) ≡ (p.in_expr w x || list_any (p.in_expr w) xs)
  unfolding p.in_cond p.in_expr
  is_in_list x xs = ap (p.one_of w) (opens.cond_inlist naming naming_steps x xs) ∙ append (expr_of naming naming_steps x) (all_of (map (expr_of naming naming_steps) xs)) ∙ ap (λ b. p.in_expr w x || b) (all (expr_of naming naming_steps) xs)

  pub is_between : (x low high : Expr) → p.in_cond w (conds.Between x low high) ≡ (p.in_expr w x || (p.in_expr w low || p.in_expr w high))
  unfolding p.in_cond p.in_expr
  is_between x low high = ap (p.one_of w) (opens.cond_between naming naming_steps x low high) ∙ append (expr_of naming naming_steps x) (expr_of naming naming_steps low ++ expr_of naming naming_steps high) ∙ ap (λ b. p.in_expr w x || b) (append (expr_of naming naming_steps low) (expr_of naming naming_steps high))

  -- ---- expressions

  pub is_atom : (x : Atom) → p.in_expr w (exprs.Atom x) ≡ p.in_atom w x
  unfolding p.in_expr
  is_atom x = ap (p.one_of w) (opens.expr_atom naming naming_steps x)

  pub is_sum : (xs : List Signed) → p.in_expr w (exprs.Sum xs) ≡ list_any (p.in_signed w) xs
  unfolding p.in_expr p.in_signed
  is_sum xs = ap (p.one_of w) (opens.expr_sum naming naming_steps xs) ∙ all (signed_of naming naming_steps) xs

  pub is_concat : (xs : List Expr) → p.in_expr w (exprs.Concat xs) ≡ list_any (p.in_expr w) xs
  unfolding p.in_expr
  is_concat xs = ap (p.one_of w) (opens.expr_concat naming naming_steps xs) ∙ all (expr_of naming naming_steps) xs

  pub is_product : (xs : List Expr) → p.in_expr w (exprs.Product xs) ≡ list_any (p.in_expr w) xs
  unfolding p.in_expr
  is_product xs = ap (p.one_of w) (opens.expr_product naming naming_steps xs) ∙ all (expr_of naming naming_steps) xs

  pub is_coalesce : (xs : List Expr) → p.in_expr w (exprs.Coalesce xs) ≡ list_any (p.in_expr w) xs
  unfolding p.in_expr
  is_coalesce xs = ap (p.one_of w) (opens.expr_coalesce naming naming_steps xs) ∙ all (expr_of naming naming_steps) xs

  pub is_case : (arms : List Arm) (otherwise : Option Expr) → p.in_expr w (exprs.Case arms otherwise) ≡ (list_any (p.in_arm w) arms || p.of_maybe (p.in_expr w) otherwise)
  unfolding p.in_expr p.in_arm
  is_case arms otherwise = ap (p.one_of w) (opens.expr_case naming naming_steps arms otherwise) ∙ append (all_of (map (arm_of naming naming_steps) arms)) (if_given (option_map (expr_of naming naming_steps) otherwise)) ∙ (λ i. all (arm_of naming naming_steps) arms i || maybe (expr_of naming naming_steps) otherwise i)

  pub is_match : (x : Expr) (choices : List Choice) (otherwise : Option Expr) → p.in_expr w (exprs.Match x choices otherwise) ≡ (p.in_expr w x || (list_any (p.in_choice w) choices || p.of_maybe (p.in_expr w) otherwise))
  unfolding p.in_expr p.in_choice
  is_match x choices otherwise = ap (p.one_of w) (opens.expr_match naming naming_steps x choices otherwise) ∙ append (expr_of naming naming_steps x) (all_of (map (choice_of naming naming_steps) choices) ++ if_given (option_map (expr_of naming naming_steps) otherwise)) ∙ ap (λ b. p.in_expr w x || b) (append (all_of (map (choice_of naming naming_steps) choices)) (if_given (option_map (expr_of naming naming_steps) otherwise)) ∙ (λ i. all (choice_of naming naming_steps) choices i || maybe (expr_of naming naming_steps) otherwise i))

  pub is_aggregate : (op : Aggregate) (x : Expr) → p.in_expr w (exprs.Aggregate op x) ≡ p.in_expr w x
  unfolding p.in_expr
  is_aggregate op x = ap (p.one_of w) (opens.expr_aggregate naming naming_steps op x)

  pub is_apply : (f : Function) (x : Expr) → p.in_expr w (exprs.Apply f x) ≡ p.in_expr w x
  unfolding p.in_expr
  is_apply f x = ap (p.one_of w) (opens.expr_apply naming naming_steps f x)

  pub is_substr : (x from : Expr) (n : Option Expr) → p.in_expr w (exprs.Substr x from n) ≡ (p.in_expr w x || (p.in_expr w from || p.of_maybe (p.in_expr w) n))
  unfolding p.in_expr
  is_substr x from n = ap (p.one_of w) (opens.expr_substr naming naming_steps x from n) ∙ append (expr_of naming naming_steps x) (expr_of naming naming_steps from ++ if_given (option_map (expr_of naming naming_steps) n)) ∙ ap (λ b. p.in_expr w x || b) (append (expr_of naming naming_steps from) (if_given (option_map (expr_of naming naming_steps) n)) ∙ ap (λ b. p.in_expr w from || b) (maybe (expr_of naming naming_steps) n))

  pub is_arm : (x : Arm) → p.in_arm w x ≡ (p.in_cond w x.when || p.in_expr w x.result)
  unfolding p.in_arm p.in_cond p.in_expr
  is_arm x = ap (p.one_of w) (opens.arm_out naming naming_steps x) ∙ append (cond_of naming naming_steps x.when) (expr_of naming naming_steps x.result)

  pub is_choice : (x : Choice) → p.in_choice w x ≡ (p.in_expr w x.when || p.in_expr w x.result)
  unfolding p.in_choice p.in_expr
  is_choice x = ap (p.one_of w) (opens.choice_out naming naming_steps x) ∙ append (expr_of naming naming_steps x.when) (expr_of naming naming_steps x.result)

  pub is_signed : (x : Signed) → p.in_signed w x ≡ p.in_expr w x.part
  unfolding p.in_signed p.in_expr
  is_signed x = ap (p.one_of w) (opens.signed_out naming naming_steps x)

  -- ---- select lists and FROM

  pub is_everything : p.in_item w items.Everything ≡ false
  unfolding p.in_item
  is_everything = ap (p.one_of w) (opens.item_everything naming naming_steps)

  pub is_all_of : (n : Name) → p.in_item w (items.AllOf n) ≡ false
  unfolding p.in_item
  is_all_of n = ap (p.one_of w) (opens.item_allof naming naming_steps n)

  pub is_value : (x : Expr) (n : Option Name) → p.in_item w (items.Value x n) ≡ p.in_expr w x
  unfolding p.in_item p.in_expr
  is_value x n = ap (p.one_of w) (opens.item_value naming naming_steps x n)

  pub is_inner : (t : Tab) (c : Cond) → p.in_join w (joins.Inner t c) ≡ (is_sought w (table t.table) || p.in_cond w c)
  unfolding p.in_join p.in_cond
  is_inner t c = ap (p.one_of w) (opens.join_inner naming naming_steps t c)

  pub is_left : (t : Tab) (c : Cond) → p.in_join w (joins.Left t c) ≡ (is_sought w (table t.table) || p.in_cond w c)
  unfolding p.in_join p.in_cond
  is_left t c = ap (p.one_of w) (opens.join_left naming naming_steps t c)

  pub is_cross : (t : Tab) → p.in_join w (joins.Cross t) ≡ is_sought w (table t.table)
  unfolding p.in_join
  is_cross t = ap (p.one_of w) (opens.join_cross naming naming_steps t) ∙ or-false (is_sought w (table t.table))

  pub is_chain : (x : Chain) → p.in_chain w x ≡ (is_sought w (table x.first.table) || list_any (p.in_join w) x.joins)
  unfolding p.in_chain p.in_join
  is_chain x = ap (p.one_of w) (opens.chain_out naming naming_steps x) ∙ ap (λ b. is_sought w (table x.first.table) || b) (all (join_of naming naming_steps) x.joins)

  -- ---- queries

  pub is_query : (q : Query) → p.in_query w q ≡ (list_any (p.in_item w) (out-Query q).items || (list_any (p.in_chain w) (out-Query q).from || (p.of_maybe (p.in_cond w) (out-Query q).filter || p.of_maybe (p.in_cond w) (out-Query q).having)))
  unfolding p.in_query p.in_item p.in_chain p.in_cond
  is_query q =
      let L : Written layers.Query-F = out-Query q in
      let its : Mentions = all_of (map (item_of naming naming_steps) L.items) in
      let chs : Mentions = all_of (map (chain_of naming naming_steps) L.from) in
      let fil : Mentions = if_given (option_map (cond_of naming naming_steps) L.filter) in
      let hav : Mentions = if_given (option_map (cond_of naming naming_steps) L.having) in
      ap (p.one_of w) (opens.query_out naming naming_steps q)
      ∙ append its (chs ++ (fil ++ hav))
      ∙ (λ i. all (item_of naming naming_steps) L.items i ||
      (append chs (fil ++ hav)
      ∙ (λ j. all (chain_of naming naming_steps) L.from j ||
      (append fil hav ∙ (λ k. maybe (cond_of naming naming_steps) L.filter k || maybe (cond_of naming naming_steps) L.having k)) j)) i)

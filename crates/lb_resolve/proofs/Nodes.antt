-- The first refusal of a pass over each kind of node, by those of its parts.
use Rattle.std.proofs.Common.{◌≡◌, refl, ap, sym, ◌∙◌, List, [], ◌∷◌, ◌++◌, Bool, Option, Some, None, map, option_map}
use Rattle.std.proofs.lemmas.List.{map-id}
use Rattle.lb_tree.specs.declared.query.Cond.{Cond}
use Rattle.lb_tree.specs.declared.query.Expr.{Expr}
use Rattle.lb_tree.specs.declared.query.Join.{Join}
use Rattle.lb_tree.specs.declared.query.Arm.{Arm}
use Rattle.lb_tree.specs.declared.query.Chain.{Chain}
use Rattle.lb_tree.specs.declared.query.Choice.{Choice}
use Rattle.lb_tree.specs.declared.query.Query.{Query}
use Rattle.lb_tree.specs.declared.query.Signed.{Signed}
use Rattle.lb_tree.specs.declared.query.Aggregate.{Aggregate}
use Rattle.lb_tree.specs.declared.query.Atom.{Atom}
use Rattle.lb_tree.specs.declared.query.Column.{Column}
use Rattle.lb_tree.specs.declared.query.Comparison.{Comparison}
use Rattle.lb_tree.specs.declared.query.Function.{Function}
use Rattle.lb_tree.specs.declared.query.Tab.{Tab}
use Rattle.lb_tree.specs.declared.query.Cond.TheVariants as conds
use Rattle.lb_tree.specs.declared.query.Expr.TheVariants as exprs
use Rattle.lb_tree.specs.declared.query.Item.TheVariants as items
use Rattle.lb_tree.specs.declared.query.Join.TheVariants as joins
use Rattle.lb_tree.specs.declared.query.Cond.TheOpen as layers
use Rattle.lb_tree.specs.declared.query.Cond.TheViews.{out-Query}
use Rattle.lb_tree.specs.Folds.{Written, cond_of, expr_of, item_of, join_of, arm_of, chain_of, choice_of, query_of, signed_of}
use Rattle.lb_tree.proofs.Opens as opens
use Rattle.lb_names.specs.declared.place.Seen.{Seen}
use Rattle.lb_names.specs.declared.refused.Refused.{Refused}
use Rattle.lb_names.specs.Sights.{Name, Sight, correlation, calls_of, inside}
use Rattle.lb_names.specs.Marks.{Mark, Marks, ChainMarks, enter, item, column, star, marked, mark_steps, of_each, of_any, tables_of, tables_of_chain, joins_marks, chains_marks}
use Rattle.lb_names.specs.SortNames.{or_else}
use Rattle.lb_names.specs.Passes.{first}
use Rattle.lb_resolve.specs.declared.mark.Walk.{Walk}
use Rattle.lb_resolve.specs.declared.mark.Pass.{Pass}
use Rattle.lb_resolve.specs.declared.mark.Pass.TheVariants as passes
use Rattle.lb_resolve.specs.Passing.{refusal_in, asked}
use Rattle.lb_resolve.specs.Parts as p
use Rattle.lb_scope.proofs.FromTables.{chain_is}

-- ---- lists of names

or_assoc : (x y z : Option Refused) → or_else (or_else x y) z ≡ or_else x (or_else y z)
or_assoc None y z = refl
or_assoc (Some r) y z = refl

pub or_none : (x : Option Refused) → or_else x None ≡ x
or_none None = refl
or_none (Some r) = refl

module _ (a : Mark → Option Refused) where
  pub first_append : (xs ys : Marks) → first a (xs ++ ys) ≡ or_else (first a xs) (first a ys)
  first_append [] ys = refl
  first_append (x ∷ xs) ys = ap (or_else (a x)) (first_append xs ys) ∙ sym (or_assoc (a x) (first a xs) (first a ys))

  pub first_all : {A X : Type 0} (m : X → Sight → Marks) (g : A → X) (v : Sight) (xs : List A) → first a (of_each m (map g xs) v) ≡ p.of_all (λ x u. first a (m (g x) u)) xs v
  first_all m g v [] = refl
  first_all m g v (x ∷ xs) = first_append (m (g x) v) (of_each m (map g xs) v) ∙ ap (or_else (first a (m (g x) v))) (first_all m g v xs)

  pub first_any : {A X : Type 0} (m : X → Sight → Marks) (g : A → X) (v : Sight) (x : Option A) → first a (of_any m (option_map g x) v) ≡ p.of_maybe (λ y u. first a (m (g y) u)) x v
  first_any m g v None = refl
  first_any m g v (Some x) = refl

-- the beginning of a query is never refused
enter_in : (K : _) (stored : Bool) (pass : Pass) (seen : List Seen) → refusal_in K stored pass (enter seen) ≡ None
enter_in K stored passes.Tables seen = refl
enter_in K stored passes.Columns seen = refl
enter_in K stored passes.Calls seen = refl
enter_in K stored passes.Texts seen = refl
enter_in K stored (passes.Sources protected) seen = refl

star_in : (K : _) (stored : Bool) (pass : Pass) (seen : List Seen) → refusal_in K stored pass (star seen None) ≡ None
star_in K stored passes.Tables seen = refl
star_in K stored passes.Columns seen = refl
star_in K stored passes.Calls seen = refl
star_in K stored passes.Texts seen = refl
star_in K stored (passes.Sources protected) seen = refl

module _ (w : Walk) where
  abbrev a : Mark → Option Refused
  a = asked w

  pub enter_passes : (seen : List Seen) → asked w (enter seen) ≡ None
  enter_passes seen = enter_in w.catalog.now w.stored w.pass seen

  -- ---- conditions

  pub is_or : (xs : List Cond) (v : Sight) → p.in_cond w (conds.Or xs) v ≡ p.of_all (p.in_cond w) xs v
  unfolding p.in_cond
  is_or xs v = ap (λ r. first a (r.marks v)) (opens.cond_or marked mark_steps xs) ∙ first_all a (λ x. x.marks) (cond_of marked mark_steps) v xs

  pub is_and : (xs : List Cond) (v : Sight) → p.in_cond w (conds.And xs) v ≡ p.of_all (p.in_cond w) xs v
  unfolding p.in_cond
  is_and xs v = ap (λ r. first a (r.marks v)) (opens.cond_and marked mark_steps xs) ∙ first_all a (λ x. x.marks) (cond_of marked mark_steps) v xs

  pub is_not : (x : Cond) (v : Sight) → p.in_cond w (conds.Not x) v ≡ p.in_cond w x v
  unfolding p.in_cond
  is_not x v = ap (λ r. first a (r.marks v)) (opens.cond_not marked mark_steps x)

  pub is_exists : (q : Query) (v : Sight) → p.in_cond w (conds.Exists q) v ≡ p.in_query w q v
  unfolding p.in_cond p.in_query
  is_exists q v = ap (λ r. first a (r.marks v)) (opens.cond_exists marked mark_steps q)

  pub is_compare : (by : Comparison) (x y : Expr) (v : Sight) → p.in_cond w (conds.Compare by x y) v ≡ or_else (p.in_expr w x v) (p.in_expr w y v)
  unfolding p.in_cond p.in_expr
  is_compare by x y v = ap (λ r. first a (r.marks v)) (opens.cond_compare marked mark_steps by x y) ∙ first_append a ((expr_of marked mark_steps x).marks v) ((expr_of marked mark_steps y).marks v)

  pub is_compare_query : (by : Comparison) (x : Expr) (q : Query) (v : Sight) → p.in_cond w (conds.CompareQuery by x q) v ≡ or_else (p.in_expr w x v) (p.in_query w q v)
  unfolding p.in_cond p.in_expr p.in_query
  is_compare_query by x q v = ap (λ r. first a (r.marks v)) (opens.cond_comparequery marked mark_steps by x q) ∙ first_append a ((expr_of marked mark_steps x).marks v) ((query_of marked mark_steps q).marks v)

  pub is_null : (x : Expr) (v : Sight) → p.in_cond w (conds.IsNull x) v ≡ p.in_expr w x v
  unfolding p.in_cond p.in_expr
  is_null x v = ap (λ r. first a (r.marks v)) (opens.cond_isnull marked mark_steps x)

  pub is_in_query : (x : Expr) (q : Query) (v : Sight) → p.in_cond w (conds.InQuery x q) v ≡ or_else (p.in_expr w x v) (p.in_query w q v)
  unfolding p.in_cond p.in_expr p.in_query
  is_in_query x q v = ap (λ r. first a (r.marks v)) (opens.cond_inquery marked mark_steps x q) ∙ first_append a ((expr_of marked mark_steps x).marks v) ((query_of marked mark_steps q).marks v)

  pub is_in_list : (x : Expr) (xs : List Expr) (v : Sight) → p.in_cond w (conds.InList x xs) v ≡ or_else (p.in_expr w x v) (p.of_all (p.in_expr w) xs v)
  unfolding p.in_cond p.in_expr
  is_in_list x xs v = ap (λ r. first a (r.marks v)) (opens.cond_inlist marked mark_steps x xs) ∙ first_append a ((expr_of marked mark_steps x).marks v) (of_each (λ y. y.marks) (map (expr_of marked mark_steps) xs) v) ∙ ap (or_else (p.in_expr w x v)) (first_all a (λ y. y.marks) (expr_of marked mark_steps) v xs)

  pub is_between : (x low high : Expr) (v : Sight) → p.in_cond w (conds.Between x low high) v ≡ or_else (p.in_expr w x v) (or_else (p.in_expr w low v) (p.in_expr w high v))
  unfolding p.in_cond p.in_expr
  is_between x low high v = ap (λ r. first a (r.marks v)) (opens.cond_between marked mark_steps x low high) ∙ first_append a ((expr_of marked mark_steps x).marks v) ((expr_of marked mark_steps low).marks v ++ (expr_of marked mark_steps high).marks v) ∙ ap (or_else (p.in_expr w x v)) (first_append a ((expr_of marked mark_steps low).marks v) ((expr_of marked mark_steps high).marks v))

  -- ---- expressions

  pub is_atom : (x : Atom) (v : Sight) → p.in_expr w (exprs.Atom x) v ≡ p.in_atom w x v
  unfolding p.in_expr
  is_atom x v = ap (λ r. first a (r.marks v)) (opens.expr_atom marked mark_steps x)

  pub is_sum : (xs : List Signed) (v : Sight) → p.in_expr w (exprs.Sum xs) v ≡ p.of_all (p.in_signed w) xs v
  unfolding p.in_expr p.in_signed
  is_sum xs v = ap (λ r. first a (r.marks v)) (opens.expr_sum marked mark_steps xs) ∙ first_all a (λ x. x.marks) (signed_of marked mark_steps) v xs

  pub is_concat : (xs : List Expr) (v : Sight) → p.in_expr w (exprs.Concat xs) v ≡ p.of_all (p.in_expr w) xs v
  unfolding p.in_expr
  is_concat xs v = ap (λ r. first a (r.marks v)) (opens.expr_concat marked mark_steps xs) ∙ first_all a (λ x. x.marks) (expr_of marked mark_steps) v xs

  pub is_product : (xs : List Expr) (v : Sight) → p.in_expr w (exprs.Product xs) v ≡ p.of_all (p.in_expr w) xs v
  unfolding p.in_expr
  is_product xs v = ap (λ r. first a (r.marks v)) (opens.expr_product marked mark_steps xs) ∙ first_all a (λ x. x.marks) (expr_of marked mark_steps) v xs

  pub is_coalesce : (xs : List Expr) (v : Sight) → p.in_expr w (exprs.Coalesce xs) v ≡ p.of_all (p.in_expr w) xs v
  unfolding p.in_expr
  is_coalesce xs v = ap (λ r. first a (r.marks v)) (opens.expr_coalesce marked mark_steps xs) ∙ first_all a (λ x. x.marks) (expr_of marked mark_steps) v xs

  pub is_case : (arms : List Arm) (otherwise : Option Expr) (v : Sight) → p.in_expr w (exprs.Case arms otherwise) v ≡ or_else (p.of_all (p.in_arm w) arms v) (p.of_maybe (p.in_expr w) otherwise v)
  unfolding p.in_expr p.in_arm
  is_case arms otherwise v =
      ap (λ r. first a (r.marks v)) (opens.expr_case marked mark_steps arms otherwise)
      ∙ first_append a (of_each (λ x. x.marks) (map (arm_of marked mark_steps) arms) v) (of_any (λ x. x.marks) (option_map (expr_of marked mark_steps) otherwise) v)
      ∙ ap (λ x. or_else x (first a (of_any (λ y. y.marks) (option_map (expr_of marked mark_steps) otherwise) v))) (first_all a (λ x. x.marks) (arm_of marked mark_steps) v arms)
      ∙ ap (or_else (p.of_all (p.in_arm w) arms v)) (first_any a (λ x. x.marks) (expr_of marked mark_steps) v otherwise)

  pub is_match : (x : Expr) (choices : List Choice) (otherwise : Option Expr) (v : Sight) → p.in_expr w (exprs.Match x choices otherwise) v ≡ or_else (p.in_expr w x v) (or_else (p.of_all (p.in_choice w) choices v) (p.of_maybe (p.in_expr w) otherwise v))
  unfolding p.in_expr p.in_choice
  is_match x choices otherwise v =
      ap (λ r. first a (r.marks v)) (opens.expr_match marked mark_steps x choices otherwise)
      ∙ first_append a ((expr_of marked mark_steps x).marks v) (of_each (λ x. x.marks) (map (choice_of marked mark_steps) choices) v ++ of_any (λ x. x.marks) (option_map (expr_of marked mark_steps) otherwise) v)
      ∙ ap (or_else (p.in_expr w x v))
      (first_append a (of_each (λ x. x.marks) (map (choice_of marked mark_steps) choices) v) (of_any (λ x. x.marks) (option_map (expr_of marked mark_steps) otherwise) v)
      ∙ ap (λ x. or_else x (first a (of_any (λ y. y.marks) (option_map (expr_of marked mark_steps) otherwise) v))) (first_all a (λ x. x.marks) (choice_of marked mark_steps) v choices)
      ∙ ap (or_else (p.of_all (p.in_choice w) choices v)) (first_any a (λ x. x.marks) (expr_of marked mark_steps) v otherwise))

  pub is_aggregate : (op : Aggregate) (x : Expr) (v : Sight) → p.in_expr w (exprs.Aggregate op x) v ≡ p.in_expr w x v
  unfolding p.in_expr
  is_aggregate op x v = ap (λ r. first a (r.marks v)) (opens.expr_aggregate marked mark_steps op x)

  pub is_apply : (f : Function) (x : Expr) (v : Sight) → p.in_expr w (exprs.Apply f x) v ≡ p.in_expr w x v
  unfolding p.in_expr
  is_apply f x v = ap (λ r. first a (r.marks v)) (opens.expr_apply marked mark_steps f x)

  pub is_substr : (x from : Expr) (n : Option Expr) (v : Sight) → p.in_expr w (exprs.Substr x from n) v ≡ or_else (p.in_expr w x v) (or_else (p.in_expr w from v) (p.of_maybe (p.in_expr w) n v))
  unfolding p.in_expr
  is_substr x from n v =
      ap (λ r. first a (r.marks v)) (opens.expr_substr marked mark_steps x from n)
      ∙ first_append a ((expr_of marked mark_steps x).marks v) ((expr_of marked mark_steps from).marks v ++ of_any (λ x. x.marks) (option_map (expr_of marked mark_steps) n) v)
      ∙ ap (or_else (p.in_expr w x v))
      (first_append a ((expr_of marked mark_steps from).marks v) (of_any (λ x. x.marks) (option_map (expr_of marked mark_steps) n) v)
      ∙ ap (or_else (p.in_expr w from v)) (first_any a (λ x. x.marks) (expr_of marked mark_steps) v n))

  pub is_arm : (x : Arm) (v : Sight) → p.in_arm w x v ≡ or_else (p.in_cond w x.when v) (p.in_expr w x.result v)
  unfolding p.in_arm p.in_cond p.in_expr
  is_arm x v = ap (λ r. first a (r.marks v)) (opens.arm_out marked mark_steps x) ∙ first_append a ((cond_of marked mark_steps x.when).marks v) ((expr_of marked mark_steps x.result).marks v)

  pub is_choice : (x : Choice) (v : Sight) → p.in_choice w x v ≡ or_else (p.in_expr w x.when v) (p.in_expr w x.result v)
  unfolding p.in_choice p.in_expr
  is_choice x v = ap (λ r. first a (r.marks v)) (opens.choice_out marked mark_steps x) ∙ first_append a ((expr_of marked mark_steps x.when).marks v) ((expr_of marked mark_steps x.result).marks v)

  pub is_signed : (x : Signed) (v : Sight) → p.in_signed w x v ≡ p.in_expr w x.part v
  unfolding p.in_signed p.in_expr
  is_signed x v = ap (λ r. first a (r.marks v)) (opens.signed_out marked mark_steps x)

  -- ---- select lists

  pub is_everything : (v : Sight) → p.in_item w items.Everything v ≡ None
  unfolding p.in_item
  is_everything v = ap (λ r. first a (r.marks v)) (opens.item_everything marked mark_steps) ∙ or_none (a (star v.own None)) ∙ star_in w.catalog.now w.stored w.pass v.own

  pub is_all_of : (n : Name) (v : Sight) → p.in_item w (items.AllOf n) v ≡ asked w (star v.own (Some n))
  unfolding p.in_item
  is_all_of n v = ap (λ r. first a (r.marks v)) (opens.item_allof marked mark_steps n) ∙ or_none (a (star v.own (Some n)))

  pub is_value : (x : Expr) (n : Option Name) (v : Sight) → p.in_item w (items.Value x n) v ≡ p.in_expr w x v
  unfolding p.in_item p.in_expr
  is_value x n v = ap (λ r. first a (r.marks v)) (opens.item_value marked mark_steps x n)

  -- ---- FROM

  pub on_inner : (t : Tab) (c : Cond) (v : Sight) → p.in_on w (joins.Inner t c) v ≡ p.in_cond w c v
  unfolding p.in_on p.in_cond
  on_inner t c v = ap (λ r. first a (r.on v)) (opens.join_inner marked mark_steps t c)

  pub on_left : (t : Tab) (c : Cond) (v : Sight) → p.in_on w (joins.Left t c) v ≡ p.in_cond w c v
  unfolding p.in_on p.in_cond
  on_left t c v = ap (λ r. first a (r.on v)) (opens.join_left marked mark_steps t c)

  pub on_cross : (t : Tab) (v : Sight) → p.in_on w (joins.Cross t) v ≡ None
  unfolding p.in_on
  on_cross t v = ap (λ r. first a (r.on v)) (opens.join_cross marked mark_steps t)

  joins_are : (outer : Sight) (all before : List Name) (tabs : List Tab) (js : List Join)
      → first a (joins_marks outer all before tabs (map (join_of marked mark_steps) js)) ≡ p.in_joins w outer (all ++ outer.around) before tabs js
  unfolding p.in_on
  joins_are outer all before tabs [] = refl
  joins_are outer all before tabs (j ∷ js) =
      let tab : Tab = p.tab_of j in
      let asks : Option Refused = a (item before outer.around tab) in
      let on : Marks = (join_of marked mark_steps j).on (p.on_sight w outer (all ++ outer.around) (tabs ++ tab ∷ [])) in
      let rest : Marks = joins_marks outer all (before ++ correlation tab ∷ []) (tabs ++ tab ∷ []) (map (join_of marked mark_steps) js) in
      ap (or_else asks) (first_append a on rest)
      ∙ sym (or_assoc asks (first a on) (first a rest))
      ∙ ap (or_else (or_else asks (first a on))) (joins_are outer all (before ++ correlation tab ∷ []) (tabs ++ tab ∷ []) js)

  chains_are : (outer : Sight) (all before : List Name) (chains : List Chain)
      → first a (chains_marks outer all before (map (chain_of marked mark_steps) chains)) ≡ p.in_chains w outer (all ++ outer.around) before chains
  chains_are outer all before [] = refl
  chains_are outer all before (ch ∷ chains) =
      let rest : ChainMarks → Marks = λ m. chains_marks outer all (before ++ calls_of (tables_of_chain m)) (map (chain_of marked mark_steps) chains) in
      let body : ChainMarks → Marks = λ m. joins_marks outer all (before ++ correlation m.first ∷ []) (m.first ∷ []) m.joins in
      ap (λ m. or_else (a (item before outer.around m.first)) (first a (body m ++ rest (chain_of marked mark_steps ch)))) (chain_is ch)
      ∙ ap (or_else (a (item before outer.around ch.first)))
      (first_append a (joins_marks outer all (before ++ correlation ch.first ∷ []) (ch.first ∷ []) (map (join_of marked mark_steps) ch.joins)) (rest (chain_of marked mark_steps ch))
      ∙ ap (λ x. or_else x (first a (rest (chain_of marked mark_steps ch)))) (joins_are outer all (before ++ correlation ch.first ∷ []) (ch.first ∷ []) ch.joins)
      ∙ ap (or_else (p.in_joins w outer (all ++ outer.around) (before ++ correlation ch.first ∷ []) (ch.first ∷ []) ch.joins)) (chains_are outer all (before ++ calls_of (tables_of_chain (chain_of marked mark_steps ch))) chains))
      ∙ sym (or_assoc (a (item before outer.around ch.first)) (p.in_joins w outer (all ++ outer.around) (before ++ correlation ch.first ∷ []) (ch.first ∷ []) ch.joins) (p.in_chains w outer (all ++ outer.around) (before ++ calls_of (tables_of_chain (chain_of marked mark_steps ch))) chains))

  -- ---- queries

  group_is : (seen : List Seen) (cs : List Column) → first a (map (column seen) cs) ≡ p.in_group w seen cs
  group_is seen [] = refl
  group_is seen (c ∷ cs) = ap (or_else (a (column seen c))) (group_is seen cs)

  pub is_query : (q : Query) (outer : Sight) → p.in_query w q outer ≡ p.in_clauses w (out-Query q) outer (inside outer (tables_of (map (chain_of marked mark_steps) (out-Query q).from)))
  unfolding p.in_query p.in_item p.in_cond
  is_query q outer =
      let L : Written layers.Query-F = out-Query q in
      let its : List ChainMarks → Marks = λ cs. of_each (λ x. x.marks) (map (item_of marked mark_steps) L.items) (inside outer (tables_of cs)) in
      let chs : List ChainMarks → Marks = λ cs. chains_marks outer (calls_of (tables_of cs)) [] cs in
      let fil : List ChainMarks → Marks = λ cs. of_any (λ x. x.marks) (option_map (cond_of marked mark_steps) L.filter) (inside outer (tables_of cs)) in
      let grp : List ChainMarks → Marks = λ cs. map (column (inside outer (tables_of cs)).seen) L.group in
      let hav : List ChainMarks → Marks = λ cs. of_any (λ x. x.marks) (option_map (cond_of marked mark_steps) L.having) (inside outer (tables_of cs)) in
      let body : List ChainMarks → Marks = λ cs. enter (inside outer (tables_of cs)).own ∷ (its cs ++ (chs cs ++ (fil cs ++ (grp cs ++ hav cs)))) in
      let from : List ChainMarks = map (chain_of marked mark_steps) L.from in
      let inner : Sight = inside outer (tables_of from) in
      let opened : p.in_query w q outer ≡ first a (body (map (λ (c : ChainMarks). c) from)) = ap (λ r. first a (r.marks outer)) (opens.query_out marked mark_steps q) in
      let same : first a (body (map (λ (c : ChainMarks). c) from)) ≡ first a (body from) = ap (λ cs. first a (body cs)) (map-id from) in
      let begun : first a (body from) ≡ first a (its from ++ (chs from ++ (fil from ++ (grp from ++ hav from)))) = ap (λ x. or_else x (first a (its from ++ (chs from ++ (fil from ++ (grp from ++ hav from)))))) (enter_passes inner.own) in
      let grouped : first a (grp from ++ hav from) ≡ or_else (p.in_group w inner.seen L.group) (p.of_maybe (p.in_cond w) L.having inner) =
      first_append a (grp from) (hav from) ∙ (λ i. or_else (group_is inner.seen L.group i) (first_any a (λ x. x.marks) (cond_of marked mark_steps) inner L.having i)) in
      let filtered : first a (fil from ++ (grp from ++ hav from)) ≡ or_else (p.of_maybe (p.in_cond w) L.filter inner) (or_else (p.in_group w inner.seen L.group) (p.of_maybe (p.in_cond w) L.having inner)) =
      first_append a (fil from) (grp from ++ hav from) ∙ (λ i. or_else (first_any a (λ x. x.marks) (cond_of marked mark_steps) inner L.filter i) (grouped i)) in
      let joined : first a (chs from ++ (fil from ++ (grp from ++ hav from))) ≡ or_else (p.in_chains w outer inner.around [] L.from) (or_else (p.of_maybe (p.in_cond w) L.filter inner) (or_else (p.in_group w inner.seen L.group) (p.of_maybe (p.in_cond w) L.having inner))) =
      first_append a (chs from) (fil from ++ (grp from ++ hav from)) ∙ (λ i. or_else (chains_are outer (calls_of (tables_of from)) [] L.from i) (filtered i)) in
      opened ∙ same ∙ begun ∙ first_append a (its from) (chs from ++ (fil from ++ (grp from ++ hav from))) ∙ (λ i. or_else (first_all a (λ x. x.marks) (item_of marked mark_steps) inner L.items i) (joined i))

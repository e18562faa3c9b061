-- Nodes whose parts keep their types when tables get more columns keep theirs.
use Rattle.std.proofs.Common.{ℕ, ◌≡◌, refl, ap, sym, subst, ◌∙◌, List, [], ◌∷◌, Bool, true, false, ◌&&◌, ◌||◌, if◌then◌else◌, Option, map, Ok, Err}
use Rattle.std.specs.List.{list_all}
use Rattle.lb_tree.specs.declared.query.Comparison.{Comparison}
use Rattle.lb_tree.specs.declared.query.Aggregate.{Aggregate}
use Rattle.lb_tree.specs.declared.query.Function.{Function}
use Rattle.lb_tree.specs.declared.query.Atom.{Atom}
use Rattle.lb_tree.specs.declared.query.Atom.TheVariants as atoms
use Rattle.lb_tree.specs.declared.query.Column.{Column}
use Rattle.lb_tree.specs.declared.query.Tab.{Tab}
use Rattle.lb_tree.specs.declared.query.Cond.TheOpen as layers
use Rattle.lb_tree.specs.Folds.{Layer}
use Rattle.lb_names.specs.declared.place.Group.{Group}
use Rattle.lb_names.specs.Sights.{Name, calls_of, inside, level_in}
use Rattle.lb_names.specs.Marks.{Mark, enter, item, column, star, call, Marks, tables_of}
use Rattle.lb_names.specs.Kinds.{Kind, one, null, integer, text, both, aggregated}
use Rattle.lb_names.specs.Scopes.{Catalogue, Resolved, resolve, spot_of}
use Rattle.lb_names.specs.Passes.{is_at, is_own, all_own}
use Rattle.lb_names.specs.Typed.{next, ◌>>=◌, only_if, one_of}
use Rattle.lb_names.specs.Places.{Place, in_aggregate, filter_place, having_place, shown_place, is_free}
use Rattle.lb_names.specs.Carriers.{Means, Says, Shows, Chains, Arms, Choices, Answers, typing, chain_marked, subquery}
use Rattle.lb_names.specs.Parts.{kind_of_two, kind_of_three, kind_with_all, kind_of_results, kinds_of_match}
use Rattle.lb_names.specs.Expressions.{one_kind, plain_kind, kind_found, is_label_of, atom_kind, case_kind, plain_results, match_kind_of, number_kind, substr_kind, substr_kind_of, function_kind, apply_kind, expr_step}
use Rattle.lb_names.specs.Conditions.{of_plain, compared, first_kind, compare_typed, in_list_typed, between_typed, cond_step}
use Rattle.lb_names.specs.SelectLists.{fit, called, item_step, join_step}
use Rattle.lb_names.specs.Typing.{is_listed, has_groups, group_of, groups_of, no_label, group_typed, query_fits, query_kinds, query_step}
use Rattle.lb_names.specs.Qualified.{has_correlation, is_qualified_atom}
use Rattle.lb_names.specs.Growing.{IsGrown}
use Rattle.lb_names.proofs.QualifiedMarks.{IsWritten, AllWritten, split}
use Rattle.lb_names.proofs.GrownNames.{column_stays}
use Rattle.lb_names.proofs.GrownLists as l
use Rattle.lb_names.proofs.GrownTotals as t
use Rattle.lb_names.proofs.GrownStars.{free_grows, groups_clear, items_clear, called_clear, star_keep, columns_grow, columns_below}

only_both : (b : Bool) (at : ℕ) (ks js : List Kind) (n : ℕ) → l.Outputs false (only_if b at (ks, n)) (only_if b at (js, n))
only_both true at ks js n = (js, (refl, λ w. absurd cc))
only_both false at ks js n = tt

fits : (o : Bool) (P : Place) (hs : List Group) (ks js : List Kind) → (o ≡ true → js ≡ ks) → (at n : ℕ) → l.Outputs o (only_if (query_fits (subquery o) P ks) at (ks, n)) (only_if (query_fits (subquery o) (l.with_groups P hs) js) at (js, n))
fits true P hs ks js same at n = subst (λ z. l.Outputs true (only_if (query_fits (subquery true) P ks) at (ks, n)) (only_if (query_fits (subquery true) (l.with_groups P hs) z) at (z, n))) (sym (same refl)) (l.outputs_of_implies true _ _ (l.itself (only_if (query_fits (subquery true) P ks) at (ks, n))))
fits false P hs ks js same at n = only_both (P.subqueries && true) at ks js n

module _ (C D : Catalogue) (g : IsGrown C D) where
  -- ---- expressions

  found_keep : (P : Place) (hs : List Group) → l.GroupsGrow P.groups hs → (c : Column) → has_correlation c ≡ true → (at : ℕ) (r : Resolved) → resolve C P.sight.seen c ≡ r → l.Implies (kind_found P at r) (kind_found (l.with_groups P hs) at (resolve D P.sight.seen c))
  found_keep P hs k c q at (Ok x) e =
      subst (λ z. l.Implies (kind_found P at (Ok x)) (kind_found (l.with_groups P hs) at z)) (sym (column_stays C D g P.sight.seen c x q e))
      (l.only_keep (is_free P (spot_of x.item x.field.name)) (is_free (l.with_groups P hs) (spot_of x.item x.field.name)) at (x.field.kind, next at) (free_grows P hs k (spot_of x.item x.field.name)))
  found_keep P hs k c q at (Err n) e = tt

  atom_keep : (a : Atom) → is_qualified_atom a ≡ true → (P : Place) (hs : List Group) → l.GroupsGrow P.groups hs → (at : ℕ) → l.Implies (atom_kind C a P at) (atom_kind D a (l.with_groups P hs) at)
  atom_keep (atoms.Column c) q P hs k at = found_keep P hs k c q at (resolve C P.sight.seen c) refl
  atom_keep (atoms.SecLabelToChar p c) q P hs k at = l.bind _ _ _ _ (found_keep P hs k c q (next at) (resolve C P.sight.seen c) refl) (λ x. l.itself (only_if (is_label_of p x.0) at (text, x.1)))
  atom_keep atoms.Null q P hs k at = refl
  atom_keep (atoms.Int n) q P hs k at = refl
  atom_keep (atoms.Text t) q P hs k at = refl
  atom_keep (atoms.Date d) q P hs k at = refl
  atom_keep atoms.CurrentDate q P hs k at = refl
  atom_keep atoms.SessionUser q P hs k at = refl
  atom_keep atoms.CountRows q P hs k at = l.itself (only_if P.aggregates at (integer, next at))
  atom_keep (atoms.VerifyRole r) q P hs k at = refl
  atom_keep (atoms.VerifyGroup r) q P hs k at = refl
  atom_keep (atoms.SecLabel p t) q P hs k at = refl
  atom_keep (atoms.SecLabelByName p n) q P hs k at = refl

  pub expr_atom : (a : Atom) → is_qualified_atom a ≡ true → l.KeepMeans (expr_step C (layers.Expr-F.Atom a)) (expr_step D (layers.Expr-F.Atom a))
  expr_atom a q = (λ P hs p k at. atom_keep a q P hs k at, (refl, refl))

  pub expr_sum : (ms ns : List Means) → l.Alls l.KeepMeans ms ns → l.KeepMeans (expr_step C (layers.Expr-F.Sum ms)) (expr_step D (layers.Expr-F.Sum ns))
  expr_sum ms ns h = (λ P hs p k at. l.bind _ _ _ _ (l.kinds_all ms ns h (one integer) P hs p k (next at)) (λ x. l.itself (one_kind at x)), (t.totals_all ms ns h, refl))

  pub expr_concat : (ms ns : List Means) → l.Alls l.KeepMeans ms ns → l.KeepMeans (expr_step C (layers.Expr-F.Concat ms)) (expr_step D (layers.Expr-F.Concat ns))
  expr_concat ms ns h = (λ P hs p k at. l.bind _ _ _ _ (l.kinds_all ms ns h (one text) P hs p k (next at)) (λ x. l.itself (one_kind at x)), (t.totals_all ms ns h, t.sures_all ms ns h))

  pub expr_product : (ms ns : List Means) → l.Alls l.KeepMeans ms ns → l.KeepMeans (expr_step C (layers.Expr-F.Product ms)) (expr_step D (layers.Expr-F.Product ns))
  expr_product ms ns h = (λ P hs p k at. l.bind _ _ _ _ (l.kinds_all ms ns h (one integer) P hs p k (next at)) (λ x. l.itself (one_kind at x)), (t.totals_all ms ns h, refl))

  pub expr_coalesce : (ms ns : List Means) → l.Alls l.KeepMeans ms ns → l.KeepMeans (expr_step C (layers.Expr-F.Coalesce ms)) (expr_step D (layers.Expr-F.Coalesce ns))
  expr_coalesce ms ns h = (λ P hs p k at. l.bind _ _ _ _ (l.kinds_all ms ns h (one null) P hs p k (next at)) (λ x. l.itself (plain_kind at x)), (t.totals_all ms ns h, t.sures_all ms ns h))

  pub expr_case : (ms ns : List Arms) → l.Alls l.KeepArms ms ns → (o q : Option Means) → l.Maybe l.KeepMeans o q → l.KeepMeans (expr_step C (layers.Expr-F.Case ms o)) (expr_step D (layers.Expr-F.Case ns q))
  unfolding case_kind kind_of_results
  expr_case ms ns h o q k = (λ P hs p j at. l.bind _ _ _ _ (l.bind _ _ _ _ (l.arms_all ms ns h (one null) P hs p j (next at)) (λ x. l.any_kind o q k x.0 P hs p j x.1)) (λ x. l.itself (plain_kind at x)), ((λ i. t.arm_totals ms ns h i || t.any_total o q k i), (λ i. t.arm_sures ms ns h i && t.any_sure o q k i)))

  pub expr_match : (m n : Means) → l.KeepMeans m n → (ms ns : List Choices) → l.Alls l.KeepChoices ms ns → (o q : Option Means) → l.Maybe l.KeepMeans o q → l.KeepMeans (expr_step C (layers.Expr-F.Match m ms o)) (expr_step D (layers.Expr-F.Match n ns q))
  unfolding match_kind_of kinds_of_match
  expr_match m n f ms ns h o q k = (λ P hs p j at. l.bind _ _ _ _ (l.bind _ _ _ _ (f.0 P hs p j (next at)) (λ x. l.choices_all ms ns h (one x.0) (one null) P hs p j x.1)) (λ x. l.bind _ _ _ _ (l.any_kind o q k x.0.1 P hs p j x.1) (λ y. l.itself (plain_results at x.0.0 y))), ((λ i. f.1.0 i || (t.choice_totals ms ns h i || t.any_total o q k i)), (λ i. f.1.1 i && (t.choice_sures ms ns h i && t.any_sure o q k i))))

  pub expr_substr : (m n : Means) → l.KeepMeans m n → (e f : Means) → l.KeepMeans e f → (o q : Option Means) → l.Maybe l.KeepMeans o q → l.KeepMeans (expr_step C (layers.Expr-F.Substr m e o)) (expr_step D (layers.Expr-F.Substr n f q))
  unfolding substr_kind_of number_kind
  expr_substr m n u e f h o q k = (λ P hs p j at. l.bind _ _ _ _ (u.0 P hs p j (next at)) (λ x. l.bind _ _ _ _ (l.bind _ _ _ _ (l.bind _ _ _ _ (h.0 P hs p j x.1) (λ y. refl)) (λ y. l.any_kind o q k y.0 P hs p j y.1)) (λ z. l.itself (substr_kind at x.0 z))), ((λ i. u.1.0 i || (h.1.0 i || t.any_total o q k i)), (λ i. u.1.1 i && (h.1.1 i && t.any_sure o q k i))))

  pub expr_apply : (f : Function) (m n : Means) → l.KeepMeans m n → l.KeepMeans (expr_step C (layers.Expr-F.Apply f m)) (expr_step D (layers.Expr-F.Apply f n))
  unfolding apply_kind
  expr_apply f m n h = (λ P hs p k at. l.bind _ _ _ _ (h.0 P hs p k (next at)) (λ x. l.itself (function_kind f at x)), (h.1.0, h.1.1))

  own_found : (level : ℕ) (seen : _) (c : Column) → has_correlation c ≡ true → (r : Resolved) → resolve C seen c ≡ r → is_at level r ≡ true → is_at level (resolve D seen c) ≡ true
  own_found level seen c q (Ok x) e h = ap (is_at level) (column_stays C D g seen c x q e) ∙ h
  own_found level seen c q (Err n) e h = absurd cc

  own_mark : (level : ℕ) (m : Mark) → IsWritten m → is_own C level m ≡ true → is_own D level m ≡ true
  own_mark level (enter items) w h = h
  own_mark level (item before around tab) w h = h
  own_mark level (column seen c) w h = own_found level seen c w (resolve C seen c) refl h
  own_mark level (star items x) w h = h
  own_mark level (call a) w h = h

  pub own_keep : (level : ℕ) (ms : Marks) → AllWritten ms → all_own C level ms ≡ true → all_own D level ms ≡ true
  own_keep level [] w h = refl
  own_keep level (m ∷ ms) w h = let k : (is_own C level m ≡ true) × (all_own C level ms ≡ true) = split (is_own C level m) (all_own C level ms) h in λ i. own_mark level m w.0 k.0 i && own_keep level ms w.1 k.1 i

  -- the argument names columns of its own query alone still
  pub expr_aggregate : (op : Aggregate) (m n : Means) → l.KeepMeans m n → ((P : Place) → all_own C P.sight.level (m.marks P.sight) ≡ true → all_own D P.sight.level (n.marks P.sight) ≡ true) → l.KeepMeans (expr_step C (layers.Expr-F.Aggregate op m)) (expr_step D (layers.Expr-F.Aggregate op n))
  expr_aggregate op m n h own =
      (λ P hs p k at. l.bind _ _ _ _ (h.0 (in_aggregate P) hs p k (next at)) (λ x. l.if_keep (P.aggregates && all_own C P.sight.level (m.marks P.sight)) (P.aggregates && all_own D P.sight.level (n.marks P.sight)) at (one_of at x.1 (aggregated op x.0)) (l.and_keep P.aggregates (all_own C P.sight.level (m.marks P.sight)) (all_own D P.sight.level (n.marks P.sight)) (own P))), (refl, h.1.1))

  -- ---- conditions

  pub cond_or : (ms ns : List Says) → l.Alls l.KeepSays ms ns → l.KeepSays (cond_step (layers.Cond-F.Or ms)) (cond_step (layers.Cond-F.Or ns))
  cond_or ms ns h = (λ P hs p k at. l.typed_all ms ns h P hs p k (next at), (t.say_totals ms ns h, t.say_sures ms ns h))

  pub cond_and : (ms ns : List Says) → l.Alls l.KeepSays ms ns → l.KeepSays (cond_step (layers.Cond-F.And ms)) (cond_step (layers.Cond-F.And ns))
  cond_and ms ns h = (λ P hs p k at. l.typed_all ms ns h P hs p k (next at), (t.say_totals ms ns h, t.say_sures ms ns h))

  pub cond_not : (m n : Says) → l.KeepSays m n → l.KeepSays (cond_step (layers.Cond-F.Not m)) (cond_step (layers.Cond-F.Not n))
  cond_not m n h = (λ P hs p k at. h.0 P hs p k (next at), (h.1.0, h.1.1))

  pub cond_exists : (q r : Answers) → l.KeepAnswers q r → l.KeepSays (cond_step (layers.Cond-F.Exists q)) (cond_step (layers.Cond-F.Exists r))
  cond_exists q r h = (λ P hs p k at. l.answers_bind false _ _ _ _ (h false P hs p k (next at)) (λ x ks same. refl), (refl, refl))

  pub cond_compare : (by : Comparison) (m n : Means) → l.KeepMeans m n → (e f : Means) → l.KeepMeans e f → l.KeepSays (cond_step (layers.Cond-F.Compare by m e)) (cond_step (layers.Cond-F.Compare by n f))
  unfolding compare_typed kind_of_two
  cond_compare by m n u e f h = (λ P hs p k at. l.bind _ _ _ _ (l.bind _ _ _ _ (u.0 P hs p k (next at)) (λ x. l.bind _ _ _ _ (h.0 P hs p k x.1) (λ y. refl))) (λ x. l.itself (compared by at x)), ((λ i. u.1.0 i || h.1.0 i), (λ i. u.1.1 i && h.1.1 i)))

  with_query : (m n : Means) → l.KeepMeans m n → (q r : Answers) → l.KeepAnswers q r → (P : Place) (hs : List Group) → l.GoodPlace P → l.GroupsGrow P.groups hs → (at : ℕ) → l.Implies (m.kind P at >>= λ x. (q.kinds (subquery true) P x.1 >>= λ y. Ok (both x.0 (first_kind y.0), y.1))) (n.kind (l.with_groups P hs) at >>= λ x. (r.kinds (subquery true) (l.with_groups P hs) x.1 >>= λ y. Ok (both x.0 (first_kind y.0), y.1)))
  with_query m n u q r h P hs p k at = l.bind _ _ _ _ (u.0 P hs p k at) (λ x. l.answers_bind true _ _ _ _ (h true P hs p k x.1) (λ y ks same. λ i. Ok (both x.0 (first_kind (same refl i)), y.1)))

  pub cond_comparequery : (by : Comparison) (m n : Means) → l.KeepMeans m n → (q r : Answers) → l.KeepAnswers q r → l.KeepSays (cond_step (layers.Cond-F.CompareQuery by m q)) (cond_step (layers.Cond-F.CompareQuery by n r))
  cond_comparequery by m n u q r h = (λ P hs p k at. l.bind _ _ _ _ (with_query m n u q r h P hs p k (next at)) (λ x. l.itself (compared by at x)), (u.1.0, refl))

  pub cond_isnull : (m n : Means) → l.KeepMeans m n → l.KeepSays (cond_step (layers.Cond-F.IsNull m)) (cond_step (layers.Cond-F.IsNull n))
  cond_isnull m n h = (λ P hs p k at. l.bind _ _ _ _ (h.0 P hs p k (next at)) (λ x. refl), (h.1.0, h.1.1))

  pub cond_inquery : (m n : Means) → l.KeepMeans m n → (q r : Answers) → l.KeepAnswers q r → l.KeepSays (cond_step (layers.Cond-F.InQuery m q)) (cond_step (layers.Cond-F.InQuery n r))
  cond_inquery m n u q r h = (λ P hs p k at. l.bind _ _ _ _ (with_query m n u q r h P hs p k (next at)) (λ x. l.itself (of_plain at x)), (u.1.0, refl))

  pub cond_inlist : (m n : Means) → l.KeepMeans m n → (ms ns : List Means) → l.Alls l.KeepMeans ms ns → l.KeepSays (cond_step (layers.Cond-F.InList m ms)) (cond_step (layers.Cond-F.InList n ns))
  unfolding in_list_typed kind_with_all
  cond_inlist m n u ms ns h = (λ P hs p k at. l.bind _ _ _ _ (l.bind _ _ _ _ (u.0 P hs p k (next at)) (λ x. l.kinds_all ms ns h (one x.0) P hs p k x.1)) (λ x. l.itself (of_plain at x)), ((λ i. u.1.0 i || t.totals_all ms ns h i), (λ i. u.1.1 i && t.sures_all ms ns h i)))

  pub cond_between : (m n : Means) → l.KeepMeans m n → (e f : Means) → l.KeepMeans e f → (u w : Means) → l.KeepMeans u w → l.KeepSays (cond_step (layers.Cond-F.Between m e u)) (cond_step (layers.Cond-F.Between n f w))
  unfolding between_typed kind_of_three kind_of_two
  cond_between m n a e f b u w c = (λ P hs p k at. l.bind _ _ _ _ (l.bind _ _ _ _ (l.bind _ _ _ _ (a.0 P hs p k (next at)) (λ x. l.bind _ _ _ _ (b.0 P hs p k x.1) (λ y. refl))) (λ x. l.bind _ _ _ _ (c.0 P hs p k x.1) (λ y. refl))) (λ x. l.itself (of_plain at x)), ((λ i. a.1.0 i || (b.1.0 i || c.1.0 i)), (λ i. a.1.1 i && (b.1.1 i && c.1.1 i))))

  -- ---- items and joins

  pub item_everything : l.KeepShows (item_step C layers.Item-F.Everything) (item_step D layers.Item-F.Everything)
  item_everything = (λ o grouped distinct P hs p k c at. star_keep C D g P.sight.own o grouped distinct P hs p.0 k c at, refl)

  pub item_allof : (x : Name) → l.KeepShows (item_step C (layers.Item-F.AllOf x)) (item_step D (layers.Item-F.AllOf x))
  item_allof x = (λ o grouped distinct P hs p k c at. star_keep C D g (called x P.sight.own) o grouped distinct P hs p.0 k (λ e. called_clear x P.sight.own P.groups (c e)) at, refl)

  pub item_value : (m n : Means) → l.KeepMeans m n → (name : Option Name) → l.KeepShows (item_step C (layers.Item-F.Value m name)) (item_step D (layers.Item-F.Value n name))
  item_value m n h name = (λ o grouped distinct P hs p k c at. l.outputs_of_implies o _ _ (l.bind _ _ _ _ (h.0 P hs p k at) (λ x. l.itself (only_if (fit (l.wants o grouped distinct) (x.0 ∷ [])) at (x.0 ∷ [], x.1)))), h.1.0)

  sure_keep : (m n : Says) → l.KeepSays m n → (P : Place) (hs : List Group) → l.GoodPlace P → l.GroupsGrow P.groups hs → (at : ℕ) → l.Implies (m.typed P at >>= only_if m.sure at) (n.typed (l.with_groups P hs) at >>= only_if n.sure at)
  sure_keep m n h P hs p k at = l.bind _ _ _ _ (h.0 P hs p k at) (λ x. l.only_keep m.sure n.sure at x (λ e. sym h.1.1 ∙ e))

  pub join_inner : (tab : Tab) (m n : Says) → l.KeepSays m n → l.KeepJoins (join_step (layers.Join-F.Inner tab m)) (join_step (layers.Join-F.Inner tab n))
  join_inner tab m n h = (refl, sure_keep m n h)

  pub join_left : (tab : Tab) (m n : Says) → l.KeepSays m n → l.KeepJoins (join_step (layers.Join-F.Left tab m)) (join_step (layers.Join-F.Left tab n))
  join_left tab m n h = (refl, sure_keep m n h)

  pub join_cross : (tab : Tab) → l.KeepJoins (join_step (layers.Join-F.Cross tab)) (join_step (layers.Join-F.Cross tab))
  join_cross tab = (refl, λ P hs p k at. refl)

  -- ---- queries

  group_keep : (P : Place) (hs : List Group) → l.GroupsGrow P.groups hs → (cs : List Column) → list_all has_correlation cs ≡ true → (n : ℕ) → l.Implies (group_typed C P cs n) (group_typed D (l.with_groups P hs) cs n)
  group_keep P hs k [] q n = refl
  group_keep P hs k (c ∷ cs) q n =
      let e : (has_correlation c ≡ true) × (list_all has_correlation cs ≡ true) = split (has_correlation c) (list_all has_correlation cs) q in
      l.bind _ _ _ _ (l.bind _ _ _ _ (found_keep P hs k c e.0 n (resolve C P.sight.seen c) refl) (λ x. l.itself (no_label n x))) (λ x. group_keep P hs k cs e.1 x.1)

  own_clear : (P : Place) (tabs : List Tab) (group : List Column) → is_listed group ≡ false → (n : ℕ) → l.ClearGroups n (group_of C group P tabs ∷ [])
  own_clear P tabs [] e n = (tt, tt)
  own_clear P tabs (c ∷ group) e n = absurd cc

  module _ (distinct : Bool) (group : List Column) (q : list_all has_correlation group ≡ true) (items others : List Shows) (same_items : l.Alls l.KeepShows items others) (from chains : List Chains) (same_from : l.Alls l.KeepChains from chains) (filter where_ : Option Says) (same_filter : l.Maybe l.KeepSays filter where_) (having having_ : Option Says) (same_having : l.Maybe l.KeepSays having having_) (tabs : tables_of (map chain_marked from) ≡ tables_of (map chain_marked chains)) where
    abbrev query_c : Layer typing layers.Query-F
    query_c = record { distinct = distinct; items = items; from = from; filter = filter; group = group; having = having }

    abbrev query_d : Layer typing layers.Query-F
    query_d = record { distinct = distinct; items = others; from = chains; filter = where_; group = group; having = having_ }

    abbrev tabs_c : List Tab
    tabs_c = tables_of (map chain_marked from)

    abbrev groups_c : Bool → Place → List Group
    groups_c b P = if b then group_of C group P tabs_c ∷ P.groups else P.groups

    abbrev groups_d : Bool → Place → List Tab → List Group → List Group
    groups_d b P ts hs = if b then group_of D group P ts ∷ hs else hs

    groups_step : (P : Place) (hs : List Group) → l.GroupsGrow P.groups hs → (b c : Bool) → b ≡ c → l.GroupsGrow (groups_c b P) (groups_d c P tabs_c hs)
    groups_step P hs k true true e = ((refl, columns_grow C D g (inside P.sight tabs_c).seen group q), k)
    groups_step P hs k false false e = k
    groups_step P hs k true false e = absurd cc
    groups_step P hs k false true e = absurd cc

    groups_good : (P : Place) → l.GoodPlace P → (b : Bool) → l.GroupsBelow (level_in (inside P.sight tabs_c).seen) (groups_c b P)
    groups_good P p true = (columns_below C (level_in (inside P.sight tabs_c).seen) (inside P.sight tabs_c).seen group (l.seen_inside P.sight.seen tabs_c p.1.0) q, l.groups_inside P.sight.seen tabs_c P.groups p.1.1)
    groups_good P p false = l.groups_inside P.sight.seen tabs_c P.groups p.1.1

    shown_good : (P : Place) → l.GoodPlace P → (b : Bool) → l.GoodPlace (shown_place P tabs_c (groups_c b P))
    shown_good P p b = (p.0, (l.seen_inside P.sight.seen tabs_c p.1.0, groups_good P p b))

    groups_are_clear : (P : Place) → l.GoodPlace P → (b : Bool) → is_listed group ≡ false → l.ClearGroups (level_in P.sight.seen) (groups_c b P)
    groups_are_clear P p true e = ((own_clear P tabs_c group e (level_in P.sight.seen)).0, groups_clear (level_in P.sight.seen) P.groups p.1.1)
    groups_are_clear P p false e = groups_clear (level_in P.sight.seen) P.groups p.1.1

    grouped_same : (o : Bool) → has_groups query_c (subquery o) ≡ has_groups query_d (subquery o)
    grouped_same o = λ i. is_listed group || (t.is_some_same having having_ same_having i || (false || t.show_totals items others same_items i))

    at_tabs : (o : Bool) (P : Place) (hs : List Group) → l.GoodPlace P → l.GroupsGrow P.groups hs → (at : ℕ) (b c : Bool) → b ≡ c → l.Outputs o (query_kinds C query_c tabs_c (groups_c b P) (subquery o) P at) (query_kinds D query_d tabs_c (groups_d c P tabs_c hs) (subquery o) (l.with_groups P hs) at)
    at_tabs o P hs p k at b c e =
        let more : l.GroupsGrow (groups_c b P) (groups_d c P tabs_c hs) = groups_step P hs k b c e in
        l.outputs_bind o _ _ _ _ (l.outputs_all items others same_items [] [] o (is_listed group) distinct (λ _. refl) (shown_place P tabs_c (groups_c b P)) (groups_d c P tabs_c hs) (shown_good P p b) more (λ f. items_clear (level_in P.sight.seen) tabs_c (groups_c b P) (groups_are_clear P p b f)) (next at))
        (λ ks js same. l.bind_outputs o _ _ _ _ (l.chains_all from chains same_from P hs p k (calls_of tabs_c) ks.1)
        (λ f. l.bind_outputs o _ _ _ _ (l.maybe_keep filter where_ same_filter (filter_place P tabs_c) hs (l.good_filter P tabs_c p) k f.1)
        (λ w. l.bind_outputs o _ _ _ _ (group_keep (filter_place P tabs_c) hs k group q w.1)
        (λ x. l.bind_outputs o _ _ _ _ (l.maybe_keep having having_ same_having (having_place P tabs_c (groups_c b P)) (groups_d c P tabs_c hs) (shown_good P p b) more x.1)
        (λ h. fits o P hs ks.0 js same at h.1)))))

    pub query_keep : l.KeepAnswers (query_step C query_c) (query_step D query_d)
    query_keep o P hs p k at =
        subst (λ ts. l.Outputs o (query_kinds C query_c tabs_c (groups_of C query_c (subquery o) P) (subquery o) P at) (query_kinds D query_d ts (groups_d (has_groups query_d (subquery o)) P ts hs) (subquery o) (l.with_groups P hs) at)) tabs
        (at_tabs o P hs p k at (has_groups query_c (subquery o)) (has_groups query_d (subquery o)) (grouped_same o))

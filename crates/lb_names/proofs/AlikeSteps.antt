-- Nodes whose parts have the same types in two catalogues have the same types.
use Rattle.std.proofs.Common.{ℕ, ◌≡◌, refl, ap, ◌∙◌, List, [], ◌∷◌, Bool, true, false, ◌&&◌, ◌||◌, if◌then◌else◌, Option, None, map, Ok, Err}
use Rattle.std.specs.List.{flat_map}
use Rattle.lb_tree.specs.declared.query.Comparison.{Comparison}
use Rattle.lb_tree.specs.declared.query.Aggregate.{Aggregate}
use Rattle.lb_tree.specs.declared.query.Function.{Function}
use Rattle.lb_tree.specs.declared.query.Atom.{Atom}
use Rattle.lb_tree.specs.declared.query.Atom.TheVariants as atoms
use Rattle.lb_tree.specs.declared.query.Column.{Column}
use Rattle.lb_tree.specs.declared.query.Tab.{Tab}
use Rattle.lb_tree.specs.declared.query.Cond.TheOpen as layers
use Rattle.lb_tree.specs.Folds.{Layer}
use Rattle.lb_names.specs.declared.place.Group.{Group}
use Rattle.lb_names.specs.Sights.{Name, calls_of, inside}
use Rattle.lb_names.specs.Marks.{Mark, enter, item, column, star, call, Marks, tables_of}
use Rattle.lb_names.specs.Kinds.{Kind, one, null, integer, text, with_kind, both, aggregated}
use Rattle.lb_names.specs.Scopes.{Catalogue, spots}
use Rattle.lb_names.specs.Passes.{is_at, is_own, all_own}
use Rattle.lb_names.specs.Typed.{Typed, next, ◌>>=◌, only_if, one_of}
use Rattle.lb_names.specs.Places.{Place, in_aggregate, filter_place, having_place, shown_place}
use Rattle.lb_names.specs.Carriers.{Means, Says, Wanted, Shows, Chains, Arms, Choices, Role, Answers, typing, chain_marked, subquery}
use Rattle.lb_names.specs.Parts.{kind_of_two, kind_of_three, kind_with_all, kind_of_results, kinds_of_match}
use Rattle.lb_names.specs.Expressions.{one_kind, plain_kind, kind_found, is_label_of, atom_kind, case_kind, plain_results, match_kind_of, number_kind, substr_kind, substr_kind_of, function_kind, apply_kind, expr_step}
use Rattle.lb_names.specs.Conditions.{of_plain, compared, first_kind, compare_typed, in_list_typed, between_typed, cond_step}
use Rattle.lb_names.specs.SelectLists.{fit, called, item_step, join_step, widths, outputs_of, chains_typed}
use Rattle.lb_names.specs.Typing.{is_listed, group_of, groups_of, maybe_typed, group_typed, is_width, wanted_of, query_fits, query_step}
use Rattle.lb_names.proofs.NamesFrame.{resolve_same}
use Rattle.lb_names.proofs.Sighted as s
use Rattle.lb_names.proofs.AlikeLists as l

module _ (C D : Catalogue) where
  -- ---- expressions

  atom_same : (a : Atom) (P : Place) → l.PlaceAgrees C D P → (at : ℕ) → atom_kind C a P at ≡ atom_kind D a P at
  atom_same (atoms.Column c) P p at = ap (kind_found P at) (resolve_same C D P.sight.seen p.0 c)
  atom_same (atoms.SecLabelToChar q c) P p at = λ i. kind_found P (next at) (resolve_same C D P.sight.seen p.0 c i) >>= λ x. only_if (is_label_of q x.0) at (text, x.1)
  atom_same atoms.Null P p at = refl
  atom_same (atoms.Int n) P p at = refl
  atom_same (atoms.Text t) P p at = refl
  atom_same (atoms.Date d) P p at = refl
  atom_same atoms.CurrentDate P p at = refl
  atom_same atoms.SessionUser P p at = refl
  atom_same atoms.CountRows P p at = refl
  atom_same (atoms.VerifyRole r) P p at = refl
  atom_same (atoms.VerifyGroup g) P p at = refl
  atom_same (atoms.SecLabel q t) P p at = refl
  atom_same (atoms.SecLabelByName q n) P p at = refl

  pub expr_atom : (a : Atom) → l.AlikeMeans C D (expr_step C (layers.Expr-F.Atom a)) (expr_step D (layers.Expr-F.Atom a))
  expr_atom a = (λ P p at. atom_same a P p at, (refl, refl))

  pub expr_sum : (ms ns : List Means) → l.Alls C D (l.AlikeMeans C D) ms ns → l.AlikeMeans C D (expr_step C (layers.Expr-F.Sum ms)) (expr_step D (layers.Expr-F.Sum ns))
  expr_sum ms ns h = (λ P p at i. l.kinds_all C D ms ns h (one integer) P p (next at) i >>= one_kind at, (l.totals_all C D ms ns h, refl))

  pub expr_concat : (ms ns : List Means) → l.Alls C D (l.AlikeMeans C D) ms ns → l.AlikeMeans C D (expr_step C (layers.Expr-F.Concat ms)) (expr_step D (layers.Expr-F.Concat ns))
  expr_concat ms ns h = (λ P p at i. l.kinds_all C D ms ns h (one text) P p (next at) i >>= one_kind at, (l.totals_all C D ms ns h, l.sures_all C D ms ns h))

  pub expr_product : (ms ns : List Means) → l.Alls C D (l.AlikeMeans C D) ms ns → l.AlikeMeans C D (expr_step C (layers.Expr-F.Product ms)) (expr_step D (layers.Expr-F.Product ns))
  expr_product ms ns h = (λ P p at i. l.kinds_all C D ms ns h (one integer) P p (next at) i >>= one_kind at, (l.totals_all C D ms ns h, refl))

  pub expr_coalesce : (ms ns : List Means) → l.Alls C D (l.AlikeMeans C D) ms ns → l.AlikeMeans C D (expr_step C (layers.Expr-F.Coalesce ms)) (expr_step D (layers.Expr-F.Coalesce ns))
  expr_coalesce ms ns h = (λ P p at i. l.kinds_all C D ms ns h (one null) P p (next at) i >>= plain_kind at, (l.totals_all C D ms ns h, l.sures_all C D ms ns h))

  pub expr_case : (ms ns : List Arms) → l.Alls C D (l.AlikeArms C D) ms ns → (o q : Option Means) → l.Maybe C D (l.AlikeMeans C D) o q → l.AlikeMeans C D (expr_step C (layers.Expr-F.Case ms o)) (expr_step D (layers.Expr-F.Case ns q))
  unfolding case_kind kind_of_results
  expr_case ms ns h o q k = (λ P p at i. (l.arms_all C D ms ns h (one null) P p (next at) i >>= λ x. l.any_kind C D o q k x.0 P p x.1 i) >>= plain_kind at, ((λ i. l.arm_totals C D ms ns h i || l.any_total C D o q k i), (λ i. l.arm_sures C D ms ns h i && l.any_sure C D o q k i)))

  pub expr_match : (m n : Means) → l.AlikeMeans C D m n → (ms ns : List Choices) → l.Alls C D (l.AlikeChoices C D) ms ns → (o q : Option Means) → l.Maybe C D (l.AlikeMeans C D) o q → l.AlikeMeans C D (expr_step C (layers.Expr-F.Match m ms o)) (expr_step D (layers.Expr-F.Match n ns q))
  unfolding match_kind_of kinds_of_match
  expr_match m n g ms ns h o q k = (λ P p at i. (g.0 P p (next at) i >>= λ x. l.choices_all C D ms ns h (one x.0) (one null) P p x.1 i) >>= λ x. (l.any_kind C D o q k x.0.1 P p x.1 i >>= plain_results at x.0.0), ((λ i. g.1.0 i || (l.choice_totals C D ms ns h i || l.any_total C D o q k i)), (λ i. g.1.1 i && (l.choice_sures C D ms ns h i && l.any_sure C D o q k i))))

  pub expr_substr : (m n : Means) → l.AlikeMeans C D m n → (e f : Means) → l.AlikeMeans C D e f → (o q : Option Means) → l.Maybe C D (l.AlikeMeans C D) o q → l.AlikeMeans C D (expr_step C (layers.Expr-F.Substr m e o)) (expr_step D (layers.Expr-F.Substr n f q))
  unfolding substr_kind_of number_kind
  expr_substr m n g e f h o q k = (λ P p at i. g.0 P p (next at) i >>= λ x. (((h.0 P p x.1 i >>= λ y. Ok (with_kind (one integer) y.0, y.1)) >>= λ y. l.any_kind C D o q k y.0 P p y.1 i) >>= substr_kind at x.0), ((λ i. g.1.0 i || (h.1.0 i || l.any_total C D o q k i)), (λ i. g.1.1 i && (h.1.1 i && l.any_sure C D o q k i))))

  pub expr_apply : (f : Function) (m n : Means) → l.AlikeMeans C D m n → l.AlikeMeans C D (expr_step C (layers.Expr-F.Apply f m)) (expr_step D (layers.Expr-F.Apply f n))
  unfolding apply_kind
  expr_apply f m n h = (λ P p at i. h.0 P p (next at) i >>= function_kind f at, (h.1.0, h.1.1))

  own_mark : (level : ℕ) (m : Mark) → s.MarkAgrees C D m → is_own C level m ≡ is_own D level m
  own_mark level (enter items) h = refl
  own_mark level (item before around tab) h = refl
  own_mark level (column seen c) h = ap (is_at level) (resolve_same C D seen h c)
  own_mark level (star items x) h = refl
  own_mark level (call a) h = refl

  pub own_same : (level : ℕ) (ms : Marks) → s.Every C D ms → all_own C level ms ≡ all_own D level ms
  own_same level [] h = refl
  own_same level (m ∷ ms) h = λ i. own_mark level m h.0 i && own_same level ms h.1 i

  -- the argument's marks ask the same of both
  pub expr_aggregate : (op : Aggregate) (m n : Means) → l.AlikeMeans C D m n → ((P : Place) → l.PlaceAgrees C D P → all_own C P.sight.level (m.marks P.sight) ≡ all_own D P.sight.level (n.marks P.sight)) → l.AlikeMeans C D (expr_step C (layers.Expr-F.Aggregate op m)) (expr_step D (layers.Expr-F.Aggregate op n))
  expr_aggregate op m n h own = (λ P p at i. h.0 (in_aggregate P) p (next at) i >>= λ x. (if P.aggregates && own P p i then one_of at x.1 (aggregated op x.0) else Err at), (refl, h.1.1))

  -- ---- conditions

  pub cond_or : (ms ns : List Says) → l.Alls C D (l.AlikeSays C D) ms ns → l.AlikeSays C D (cond_step (layers.Cond-F.Or ms)) (cond_step (layers.Cond-F.Or ns))
  cond_or ms ns h = (λ P p at. l.typed_all C D ms ns h P p (next at), (l.say_totals C D ms ns h, l.say_sures C D ms ns h))

  pub cond_and : (ms ns : List Says) → l.Alls C D (l.AlikeSays C D) ms ns → l.AlikeSays C D (cond_step (layers.Cond-F.And ms)) (cond_step (layers.Cond-F.And ns))
  cond_and ms ns h = (λ P p at. l.typed_all C D ms ns h P p (next at), (l.say_totals C D ms ns h, l.say_sures C D ms ns h))

  pub cond_not : (m n : Says) → l.AlikeSays C D m n → l.AlikeSays C D (cond_step (layers.Cond-F.Not m)) (cond_step (layers.Cond-F.Not n))
  cond_not m n h = (λ P p at. h.0 P p (next at), (h.1.0, h.1.1))

  pub cond_exists : (q r : Answers) → l.AlikeAnswers C D q r → l.AlikeSays C D (cond_step (layers.Cond-F.Exists q)) (cond_step (layers.Cond-F.Exists r))
  cond_exists q r h = (λ P p at i. h.0 (subquery false) P p (next at) i >>= λ x. Ok (tt, x.1), (refl, refl))

  pub cond_compare : (by : Comparison) (m n : Means) → l.AlikeMeans C D m n → (e f : Means) → l.AlikeMeans C D e f → l.AlikeSays C D (cond_step (layers.Cond-F.Compare by m e)) (cond_step (layers.Cond-F.Compare by n f))
  unfolding compare_typed kind_of_two
  cond_compare by m n g e f h = (λ P p at i. (g.0 P p (next at) i >>= λ x. (h.0 P p x.1 i >>= λ y. Ok (with_kind (one x.0) y.0, y.1))) >>= compared by at, ((λ i. g.1.0 i || h.1.0 i), (λ i. g.1.1 i && h.1.1 i)))

  with_query : (m n : Means) → l.AlikeMeans C D m n → (q r : Answers) → l.AlikeAnswers C D q r → (P : Place) → l.PlaceAgrees C D P → (at : ℕ) → (m.kind P at >>= λ x. (q.kinds (subquery true) P x.1 >>= λ y. Ok (both x.0 (first_kind y.0), y.1))) ≡ (n.kind P at >>= λ x. (r.kinds (subquery true) P x.1 >>= λ y. Ok (both x.0 (first_kind y.0), y.1)))
  with_query m n g q r h P p at = λ i. g.0 P p at i >>= λ x. (h.0 (subquery true) P p x.1 i >>= λ y. Ok (both x.0 (first_kind y.0), y.1))

  pub cond_comparequery : (by : Comparison) (m n : Means) → l.AlikeMeans C D m n → (q r : Answers) → l.AlikeAnswers C D q r → l.AlikeSays C D (cond_step (layers.Cond-F.CompareQuery by m q)) (cond_step (layers.Cond-F.CompareQuery by n r))
  cond_comparequery by m n g q r h = (λ P p at i. with_query m n g q r h P p (next at) i >>= compared by at, (g.1.0, refl))

  pub cond_isnull : (m n : Means) → l.AlikeMeans C D m n → l.AlikeSays C D (cond_step (layers.Cond-F.IsNull m)) (cond_step (layers.Cond-F.IsNull n))
  cond_isnull m n h = (λ P p at i. h.0 P p (next at) i >>= λ x. Ok (tt, x.1), (h.1.0, h.1.1))

  pub cond_inquery : (m n : Means) → l.AlikeMeans C D m n → (q r : Answers) → l.AlikeAnswers C D q r → l.AlikeSays C D (cond_step (layers.Cond-F.InQuery m q)) (cond_step (layers.Cond-F.InQuery n r))
  cond_inquery m n g q r h = (λ P p at i. with_query m n g q r h P p (next at) i >>= of_plain at, (g.1.0, refl))

  pub cond_inlist : (m n : Means) → l.AlikeMeans C D m n → (ms ns : List Means) → l.Alls C D (l.AlikeMeans C D) ms ns → l.AlikeSays C D (cond_step (layers.Cond-F.InList m ms)) (cond_step (layers.Cond-F.InList n ns))
  unfolding in_list_typed kind_with_all
  cond_inlist m n g ms ns h = (λ P p at i. (g.0 P p (next at) i >>= λ x. l.kinds_all C D ms ns h (one x.0) P p x.1 i) >>= of_plain at, ((λ i. g.1.0 i || l.totals_all C D ms ns h i), (λ i. g.1.1 i && l.sures_all C D ms ns h i)))

  pub cond_between : (m n : Means) → l.AlikeMeans C D m n → (e f : Means) → l.AlikeMeans C D e f → (u w : Means) → l.AlikeMeans C D u w → l.AlikeSays C D (cond_step (layers.Cond-F.Between m e u)) (cond_step (layers.Cond-F.Between n f w))
  unfolding between_typed kind_of_three kind_of_two
  cond_between m n g e f h u w k = (λ P p at i. ((g.0 P p (next at) i >>= λ x. (h.0 P p x.1 i >>= λ y. Ok (with_kind (one x.0) y.0, y.1))) >>= λ x. (k.0 P p x.1 i >>= λ y. Ok (with_kind x.0 y.0, y.1))) >>= of_plain at, ((λ i. g.1.0 i || (h.1.0 i || k.1.0 i)), (λ i. g.1.1 i && (h.1.1 i && k.1.1 i))))

  -- ---- items and joins

  pub item_everything : l.AlikeShows C D (item_step C layers.Item-F.Everything) (item_step D layers.Item-F.Everything)
  item_everything = (λ W P p at. l.star_same C D P.sight.own p.1 W P at, (λ own o. l.width_same C D own o, refl))

  pub item_allof : (x : Name) → l.AlikeShows C D (item_step C (layers.Item-F.AllOf x)) (item_step D (layers.Item-F.AllOf x))
  item_allof x = (λ W P p at. l.star_same C D (called x P.sight.own) (l.called_agrees C D x P.sight.own p.1) W P at, (λ own o. l.width_same C D (called x own) (l.called_agrees C D x own o), refl))

  pub item_value : (m n : Means) → l.AlikeMeans C D m n → (name : Option Name) → l.AlikeShows C D (item_step C (layers.Item-F.Value m name)) (item_step D (layers.Item-F.Value n name))
  item_value m n h name = (λ W P p at i. h.0 P p at i >>= λ x. only_if (fit W (x.0 ∷ [])) at (x.0 ∷ [], x.1), (λ own o. refl, h.1.0))

  pub join_inner : (tab : Tab) → C.columns tab.table ≡ D.columns tab.table → (m n : Says) → l.AlikeSays C D m n → l.AlikeJoins C D (join_step (layers.Join-F.Inner tab m)) (join_step (layers.Join-F.Inner tab n))
  join_inner tab t m n h = (refl, (t, λ P p at i. h.0 P p at i >>= only_if (h.1.1 i) at))

  pub join_left : (tab : Tab) → C.columns tab.table ≡ D.columns tab.table → (m n : Says) → l.AlikeSays C D m n → l.AlikeJoins C D (join_step (layers.Join-F.Left tab m)) (join_step (layers.Join-F.Left tab n))
  join_left tab t m n h = (refl, (t, λ P p at i. h.0 P p at i >>= only_if (h.1.1 i) at))

  pub join_cross : (tab : Tab) → C.columns tab.table ≡ D.columns tab.table → l.AlikeJoins C D (join_step (layers.Join-F.Cross tab)) (join_step (layers.Join-F.Cross tab))
  join_cross tab t = (refl, (t, λ P p at. refl))

  -- ---- queries

  module _ (distinct : Bool) (group : List Column) (items others : List Shows) (same_items : l.Alls C D (l.AlikeShows C D) items others) (from chains : List Chains) (same_from : l.Alls C D (l.AlikeChains C D) from chains) (filter where_ : Option Says) (same_filter : l.Maybe C D (l.AlikeSays C D) filter where_) (having having_ : Option Says) (same_having : l.Maybe C D (l.AlikeSays C D) having having_) (tabs : tables_of (map chain_marked from) ≡ tables_of (map chain_marked chains)) (agree : s.TabsAgree C D (tables_of (map chain_marked from))) where
    abbrev query_c : Layer typing layers.Query-F
    query_c = record { distinct = distinct; items = items; from = from; filter = filter; group = group; having = having }

    abbrev query_d : Layer typing layers.Query-F
    query_d = record { distinct = distinct; items = others; from = chains; filter = where_; group = group; having = having_ }

    abbrev tabs_c : List Tab
    tabs_c = tables_of (map chain_marked from)

    group_path : (P : Place) → l.PlaceAgrees C D P → group_of C group P tabs_c ≡ group_of D group P (tables_of (map chain_marked chains))
    group_path P p =
        (λ i. record { level = (inside P.sight tabs_c).level; columns = flat_map (λ c. spots (resolve_same C D (inside P.sight tabs_c).seen (l.inside_agrees C D P.sight tabs_c agree p).0 c i)) group })
        ∙ (λ i. group_of D group P (tabs i))

    groups_path : (R : Role) (P : Place) → l.PlaceAgrees C D P → groups_of C query_c R P ≡ groups_of D query_d R P
    groups_path R P p = λ i. if is_listed group || (l.is_some_same C D having having_ same_having i || (R.total || l.show_totals C D items others same_items i)) then group_path P p i ∷ P.groups else P.groups

    wanted_path : (R : Role) (P : Place) → l.PlaceAgrees C D P → wanted_of query_c R P ≡ wanted_of query_d R P
    wanted_path R P p =
        (λ i. record { one = R.one; grouped = is_listed group; distinct = distinct; kinds = if is_width R.wanted (l.widths_all C D items others same_items (inside P.sight tabs_c).own (l.inside_agrees C D P.sight tabs_c agree p).1 i) then R.wanted else None })
        ∙ (λ i. record { one = R.one; grouped = is_listed group; distinct = distinct; kinds = if is_width R.wanted (widths others (inside P.sight (tabs i)).own) then R.wanted else None })

    -- the query's parts in the second catalogue
    abbrev in_d : List Tab → List Group → Wanted → Role → Place → ℕ → Typed (List Kind)
    in_d ts groups W R P at =
        outputs_of others [] W (shown_place P ts groups) (next at) >>= λ ks.
        chains_typed P (calls_of ts) chains ks.1 >>= λ f.
        maybe_typed where_ (filter_place P ts) f.1 >>= λ w.
        group_typed D (filter_place P ts) group w.1 >>= λ g.
        maybe_typed having_ (having_place P ts groups) g.1 >>= λ h.
        only_if (query_fits R P ks.0) at (ks.0, h.1)

    kinds_path : (R : Role) (P : Place) → l.PlaceAgrees C D P → (at : ℕ) → (query_step C query_c).kinds R P at ≡ (query_step D query_d).kinds R P at
    kinds_path R P p at =
        (λ i.
        l.outputs_all C D items others same_items [] (wanted_of query_c R P) (shown_place P tabs_c (groups_of C query_c R P)) (l.inside_agrees C D P.sight tabs_c agree p) (next at) i >>= λ ks.
        l.chains_all C D from chains same_from P p (calls_of tabs_c) ks.1 i >>= λ f.
        l.maybe_same C D filter where_ same_filter (filter_place P tabs_c) (l.inside_agrees C D P.sight tabs_c agree p) f.1 i >>= λ w.
        l.group_same C D (filter_place P tabs_c) (l.inside_agrees C D P.sight tabs_c agree p) group w.1 i >>= λ g.
        l.maybe_same C D having having_ same_having (having_place P tabs_c (groups_of C query_c R P)) (l.inside_agrees C D P.sight tabs_c agree p) g.1 i >>= λ h.
        only_if (query_fits R P ks.0) at (ks.0, h.1))
        ∙ (λ i. in_d (tabs i) (groups_path R P p i) (wanted_path R P p i) R P at)

    pub query_same : l.AlikeAnswers C D (query_step C query_c) (query_step D query_d)
    query_same = (kinds_path, λ R P p. ((λ i. shown_place P (tabs i) (groups_path R P p i)), l.inside_agrees C D P.sight tabs_c agree p))

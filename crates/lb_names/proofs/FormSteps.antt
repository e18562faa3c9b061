-- Nodes whose parts have at one sight the types of other parts at another have the same types.
use Rattle.std.proofs.Common.{ℕ, ◌≡◌, refl, List, [], ◌∷◌, true, false, ◌&&◌, ◌||◌, if◌then◌else◌, Option, Ok, Err}
use Rattle.lb_tree.specs.declared.query.Comparison.{Comparison}
use Rattle.lb_tree.specs.declared.query.Aggregate.{Aggregate}
use Rattle.lb_tree.specs.declared.query.Function.{Function}
use Rattle.lb_tree.specs.declared.query.Atom.{Atom}
use Rattle.lb_tree.specs.declared.query.Atom.TheVariants as atoms
use Rattle.lb_tree.specs.declared.query.Tab.{Tab}
use Rattle.lb_tree.specs.declared.query.Cond.TheOpen as layers
use Rattle.lb_names.specs.Sights.{Name, Sight}
use Rattle.lb_names.specs.Marks.{atom_marks}
use Rattle.lb_names.specs.Kinds.{one, null, integer, text, with_kind, both, aggregated}
use Rattle.lb_names.specs.Scopes.{Catalogue, resolve}
use Rattle.lb_names.specs.Passes.{all_own}
use Rattle.lb_names.specs.Qualify.{with_item, atom_in}
use Rattle.lb_names.specs.Typed.{next, ◌>>=◌, only_if, one_of}
use Rattle.lb_names.specs.Places.{Place, in_aggregate}
use Rattle.lb_names.specs.Carriers.{Means, Says, Arms, Choices, Answers, subquery}
use Rattle.lb_names.specs.Parts.{kind_of_two, kind_of_three, kind_with_all, kind_of_results, kinds_of_match}
use Rattle.lb_names.specs.Expressions.{one_kind, plain_kind, is_label_of, atom_kind, case_kind, plain_results, match_kind_of, number_kind, substr_kind, substr_kind_of, function_kind, apply_kind, expr_step}
use Rattle.lb_names.specs.Sure.{counts_rows}
use Rattle.lb_names.specs.Conditions.{of_plain, compared, first_kind, compare_typed, in_list_typed, between_typed, cond_step}
use Rattle.lb_names.specs.SelectLists.{fit, called, item_step, join_step}
use Rattle.lb_names.proofs.Apart.{AllApart}
use Rattle.lb_names.proofs.FormColumns as f
use Rattle.lb_names.proofs.FormLists as l
use Rattle.lb_names.proofs.LikeSights.{SeenLikes, SightLike}

module _ (C : Catalogue) (v w : Sight) (s : SightLike v w) where
  -- ---- expressions

  apart_atom : (a : Atom) → AllApart (atom_marks a v) → (P : Place) (at : ℕ) → atom_kind C a (l.at_sight P v) at ≡ atom_kind C (atom_in C v.seen a) (l.at_sight P w) at
  apart_atom (atoms.Column c) h P at = f.kind_like C v w (resolve C v.seen c) (resolve C w.seen (with_item C v.seen c)) (f.resolve_like C v.seen w.seen s.1.1.0 h.0 c) P at
  apart_atom (atoms.SecLabelToChar q c) h P at = λ i. f.kind_like C v w (resolve C v.seen c) (resolve C w.seen (with_item C v.seen c)) (f.resolve_like C v.seen w.seen s.1.1.0 h.1.0 c) P (next at) i >>= λ x. only_if (is_label_of q x.0) at (text, x.1)
  apart_atom atoms.Null h P at = refl
  apart_atom (atoms.Int n) h P at = refl
  apart_atom (atoms.Text t) h P at = refl
  apart_atom (atoms.Date d) h P at = refl
  apart_atom atoms.CurrentDate h P at = refl
  apart_atom atoms.SessionUser h P at = refl
  apart_atom atoms.CountRows h P at = refl
  apart_atom (atoms.VerifyRole r) h P at = refl
  apart_atom (atoms.VerifyGroup g) h P at = refl
  apart_atom (atoms.SecLabel q t) h P at = refl
  apart_atom (atoms.SecLabelByName q n) h P at = refl

  counts_same : (a : Atom) → counts_rows a ≡ counts_rows (atom_in C v.seen a)
  counts_same (atoms.Column c) = refl
  counts_same (atoms.SecLabelToChar q c) = refl
  counts_same atoms.Null = refl
  counts_same (atoms.Int n) = refl
  counts_same (atoms.Text t) = refl
  counts_same (atoms.Date d) = refl
  counts_same atoms.CurrentDate = refl
  counts_same atoms.SessionUser = refl
  counts_same atoms.CountRows = refl
  counts_same (atoms.VerifyRole r) = refl
  counts_same (atoms.VerifyGroup g) = refl
  counts_same (atoms.SecLabel q t) = refl
  counts_same (atoms.SecLabelByName q n) = refl

  pub expr_atom : (a : Atom) → AllApart (atom_marks a v) → l.SameMeans v w (expr_step C (layers.Expr-F.Atom a)) (expr_step C (layers.Expr-F.Atom (atom_in C v.seen a)))
  expr_atom a h = (λ P at. apart_atom a h P at, (counts_same a, refl))

  pub expr_sum : (ms ns : List Means) → l.Alls (l.SameMeans v w) ms ns → l.SameMeans v w (expr_step C (layers.Expr-F.Sum ms)) (expr_step C (layers.Expr-F.Sum ns))
  expr_sum ms ns h = (λ P at i. l.kinds_all v w ms ns h (one integer) P (next at) i >>= one_kind at, (l.totals_all v w ms ns h, refl))

  pub expr_concat : (ms ns : List Means) → l.Alls (l.SameMeans v w) ms ns → l.SameMeans v w (expr_step C (layers.Expr-F.Concat ms)) (expr_step C (layers.Expr-F.Concat ns))
  expr_concat ms ns h = (λ P at i. l.kinds_all v w ms ns h (one text) P (next at) i >>= one_kind at, (l.totals_all v w ms ns h, l.sures_all v w ms ns h))

  pub expr_product : (ms ns : List Means) → l.Alls (l.SameMeans v w) ms ns → l.SameMeans v w (expr_step C (layers.Expr-F.Product ms)) (expr_step C (layers.Expr-F.Product ns))
  expr_product ms ns h = (λ P at i. l.kinds_all v w ms ns h (one integer) P (next at) i >>= one_kind at, (l.totals_all v w ms ns h, refl))

  pub expr_coalesce : (ms ns : List Means) → l.Alls (l.SameMeans v w) ms ns → l.SameMeans v w (expr_step C (layers.Expr-F.Coalesce ms)) (expr_step C (layers.Expr-F.Coalesce ns))
  expr_coalesce ms ns h = (λ P at i. l.kinds_all v w ms ns h (one null) P (next at) i >>= plain_kind at, (l.totals_all v w ms ns h, l.sures_all v w ms ns h))

  pub expr_case : (ms ns : List Arms) → l.Alls (l.SameArms v w) ms ns → (o q : Option Means) → l.Maybe (l.SameMeans v w) o q → l.SameMeans v w (expr_step C (layers.Expr-F.Case ms o)) (expr_step C (layers.Expr-F.Case ns q))
  unfolding case_kind kind_of_results
  expr_case ms ns h o q k = (λ P at i. (l.arms_all v w ms ns h (one null) P (next at) i >>= λ x. l.any_kind v w o q k x.0 P x.1 i) >>= plain_kind at, ((λ i. l.arm_totals v w ms ns h i || l.any_total v w o q k i), (λ i. l.arm_sures v w ms ns h i && l.any_sure v w o q k i)))

  pub expr_match : (m n : Means) → l.SameMeans v w m n → (ms ns : List Choices) → l.Alls (l.SameChoices v w) ms ns → (o q : Option Means) → l.Maybe (l.SameMeans v w) o q → l.SameMeans v w (expr_step C (layers.Expr-F.Match m ms o)) (expr_step C (layers.Expr-F.Match n ns q))
  unfolding match_kind_of kinds_of_match
  expr_match m n g ms ns h o q k = (λ P at i. (g.0 P (next at) i >>= λ x. l.choices_all v w ms ns h (one x.0) (one null) P x.1 i) >>= λ x. (l.any_kind v w o q k x.0.1 P x.1 i >>= plain_results at x.0.0), ((λ i. g.1.0 i || (l.choice_totals v w ms ns h i || l.any_total v w o q k i)), (λ i. g.1.1 i && (l.choice_sures v w ms ns h i && l.any_sure v w o q k i))))

  pub expr_substr : (m n : Means) → l.SameMeans v w m n → (e f : Means) → l.SameMeans v w e f → (o q : Option Means) → l.Maybe (l.SameMeans v w) o q → l.SameMeans v w (expr_step C (layers.Expr-F.Substr m e o)) (expr_step C (layers.Expr-F.Substr n f q))
  unfolding substr_kind_of number_kind
  expr_substr m n g e f h o q k = (λ P at i. g.0 P (next at) i >>= λ x. (((h.0 P x.1 i >>= λ y. Ok (with_kind (one integer) y.0, y.1)) >>= λ y. l.any_kind v w o q k y.0 P y.1 i) >>= substr_kind at x.0), ((λ i. g.1.0 i || (h.1.0 i || l.any_total v w o q k i)), (λ i. g.1.1 i && (h.1.1 i && l.any_sure v w o q k i))))

  pub expr_apply : (fn : Function) (m n : Means) → l.SameMeans v w m n → l.SameMeans v w (expr_step C (layers.Expr-F.Apply fn m)) (expr_step C (layers.Expr-F.Apply fn n))
  unfolding apply_kind
  expr_apply fn m n h = (λ P at i. h.0 P (next at) i >>= function_kind fn at, (h.1.0, h.1.1))

  -- the argument's columns are of the same queries
  pub expr_aggregate : (op : Aggregate) (m n : Means) → l.SameMeans v w m n → all_own C v.level (m.marks v) ≡ all_own C w.level (n.marks w) → l.SameMeans v w (expr_step C (layers.Expr-F.Aggregate op m)) (expr_step C (layers.Expr-F.Aggregate op n))
  expr_aggregate op m n h own = (λ P at i. h.0 (in_aggregate P) (next at) i >>= λ x. (if P.aggregates && own i then one_of at x.1 (aggregated op x.0) else Err at), (refl, h.1.1))

  -- ---- conditions

  pub cond_or : (ms ns : List Says) → l.Alls (l.SameSays v w) ms ns → l.SameSays v w (cond_step (layers.Cond-F.Or ms)) (cond_step (layers.Cond-F.Or ns))
  cond_or ms ns h = (λ P at. l.typed_all v w ms ns h P (next at), (l.say_totals v w ms ns h, l.say_sures v w ms ns h))

  pub cond_and : (ms ns : List Says) → l.Alls (l.SameSays v w) ms ns → l.SameSays v w (cond_step (layers.Cond-F.And ms)) (cond_step (layers.Cond-F.And ns))
  cond_and ms ns h = (λ P at. l.typed_all v w ms ns h P (next at), (l.say_totals v w ms ns h, l.say_sures v w ms ns h))

  pub cond_not : (m n : Says) → l.SameSays v w m n → l.SameSays v w (cond_step (layers.Cond-F.Not m)) (cond_step (layers.Cond-F.Not n))
  cond_not m n h = (λ P at. h.0 P (next at), (h.1.0, h.1.1))

  pub cond_exists : (q r : Answers) → l.SameAnswers v w q r → l.SameSays v w (cond_step (layers.Cond-F.Exists q)) (cond_step (layers.Cond-F.Exists r))
  cond_exists q r h = (λ P at i. h (subquery false) P (next at) i >>= λ x. Ok (tt, x.1), (refl, refl))

  pub cond_compare : (by : Comparison) (m n : Means) → l.SameMeans v w m n → (e f : Means) → l.SameMeans v w e f → l.SameSays v w (cond_step (layers.Cond-F.Compare by m e)) (cond_step (layers.Cond-F.Compare by n f))
  unfolding compare_typed kind_of_two
  cond_compare by m n g e f h = (λ P at i. (g.0 P (next at) i >>= λ x. (h.0 P x.1 i >>= λ y. Ok (with_kind (one x.0) y.0, y.1))) >>= compared by at, ((λ i. g.1.0 i || h.1.0 i), (λ i. g.1.1 i && h.1.1 i)))

  with_query : (m n : Means) → l.SameMeans v w m n → (q r : Answers) → l.SameAnswers v w q r → (P : Place) (at : ℕ) → (m.kind (l.at_sight P v) at >>= λ x. (q.kinds (subquery true) (l.at_sight P v) x.1 >>= λ y. Ok (both x.0 (first_kind y.0), y.1))) ≡ (n.kind (l.at_sight P w) at >>= λ x. (r.kinds (subquery true) (l.at_sight P w) x.1 >>= λ y. Ok (both x.0 (first_kind y.0), y.1)))
  with_query m n g q r h P at = λ i. g.0 P at i >>= λ x. (h (subquery true) P x.1 i >>= λ y. Ok (both x.0 (first_kind y.0), y.1))

  pub cond_comparequery : (by : Comparison) (m n : Means) → l.SameMeans v w m n → (q r : Answers) → l.SameAnswers v w q r → l.SameSays v w (cond_step (layers.Cond-F.CompareQuery by m q)) (cond_step (layers.Cond-F.CompareQuery by n r))
  cond_comparequery by m n g q r h = (λ P at i. with_query m n g q r h P (next at) i >>= compared by at, (g.1.0, refl))

  pub cond_isnull : (m n : Means) → l.SameMeans v w m n → l.SameSays v w (cond_step (layers.Cond-F.IsNull m)) (cond_step (layers.Cond-F.IsNull n))
  cond_isnull m n h = (λ P at i. h.0 P (next at) i >>= λ x. Ok (tt, x.1), (h.1.0, h.1.1))

  pub cond_inquery : (m n : Means) → l.SameMeans v w m n → (q r : Answers) → l.SameAnswers v w q r → l.SameSays v w (cond_step (layers.Cond-F.InQuery m q)) (cond_step (layers.Cond-F.InQuery n r))
  cond_inquery m n g q r h = (λ P at i. with_query m n g q r h P (next at) i >>= of_plain at, (g.1.0, refl))

  pub cond_inlist : (m n : Means) → l.SameMeans v w m n → (ms ns : List Means) → l.Alls (l.SameMeans v w) ms ns → l.SameSays v w (cond_step (layers.Cond-F.InList m ms)) (cond_step (layers.Cond-F.InList n ns))
  unfolding in_list_typed kind_with_all
  cond_inlist m n g ms ns h = (λ P at i. (g.0 P (next at) i >>= λ x. l.kinds_all v w ms ns h (one x.0) P x.1 i) >>= of_plain at, ((λ i. g.1.0 i || l.totals_all v w ms ns h i), (λ i. g.1.1 i && l.sures_all v w ms ns h i)))

  pub cond_between : (m n : Means) → l.SameMeans v w m n → (e f : Means) → l.SameMeans v w e f → (u o : Means) → l.SameMeans v w u o → l.SameSays v w (cond_step (layers.Cond-F.Between m e u)) (cond_step (layers.Cond-F.Between n f o))
  unfolding between_typed kind_of_three kind_of_two
  cond_between m n g e f h u o k = (λ P at i. ((g.0 P (next at) i >>= λ x. (h.0 P x.1 i >>= λ y. Ok (with_kind (one x.0) y.0, y.1))) >>= λ x. (k.0 P x.1 i >>= λ y. Ok (with_kind x.0 y.0, y.1))) >>= of_plain at, ((λ i. g.1.0 i || (h.1.0 i || k.1.0 i)), (λ i. g.1.1 i && (h.1.1 i && k.1.1 i))))

  -- ---- items and joins

  pub item_everything : l.SameShows v w (item_step C layers.Item-F.Everything) (item_step C layers.Item-F.Everything)
  item_everything = (λ W P at. f.star_like C v w v.own w.own s.1.0 W P at, (f.width_like C v.own w.own s.1.0, refl))

  pub item_allof : (x : Name) → l.SameShows v w (item_step C (layers.Item-F.AllOf x)) (item_step C (layers.Item-F.AllOf x))
  item_allof x =
      let h : SeenLikes (called x v.own) (called x w.own) = f.called_likes C x v.own w.own s.1.0 in
      (λ W P at. f.star_like C v w (called x v.own) (called x w.own) h W P at, (f.width_like C (called x v.own) (called x w.own) h, refl))

  pub item_value : (m n : Means) → l.SameMeans v w m n → (name : Option Name) → l.SameShows v w (item_step C (layers.Item-F.Value m name)) (item_step C (layers.Item-F.Value n name))
  item_value m n h name = (λ W P at i. h.0 P at i >>= λ x. only_if (fit W (x.0 ∷ [])) at (x.0 ∷ [], x.1), (refl, h.1.0))

  pub join_inner : (tab : Tab) (m n : Says) → l.SameSays v w m n → l.SameJoins v w (join_step (layers.Join-F.Inner tab m)) (join_step (layers.Join-F.Inner tab n))
  join_inner tab m n h = (refl, λ P at i. h.0 P at i >>= only_if (h.1.1 i) at)

  pub join_left : (tab : Tab) (m n : Says) → l.SameSays v w m n → l.SameJoins v w (join_step (layers.Join-F.Left tab m)) (join_step (layers.Join-F.Left tab n))
  join_left tab m n h = (refl, λ P at i. h.0 P at i >>= only_if (h.1.1 i) at)

  pub join_cross : (tab : Tab) → l.SameJoins v w (join_step (layers.Join-F.Cross tab)) (join_step (layers.Join-F.Cross tab))
  join_cross tab = (refl, λ P at. refl)

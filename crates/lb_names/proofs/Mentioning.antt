-- What a statement mentions is what its marks mention.
use Rattle.std.proofs.Common.{◌≡◌, refl, ap, sym, ◌∙◌, List, [], ◌∷◌, Option, Some, None}
use Rattle.std.specs.List.{flat_map}
use Rattle.lb_tree.specs.declared.query.Atom.TheVariants as atoms
use Rattle.lb_tree.specs.declared.query.Column.{Column}
use Rattle.lb_tree.specs.declared.query.Cond.{Cond}
use Rattle.lb_tree.specs.declared.query.Expr.{Expr}
use Rattle.lb_tree.specs.declared.query.Item.{Item}
use Rattle.lb_tree.specs.declared.query.Query.{Query}
use Rattle.lb_tree.specs.declared.query.SortKey.{SortKey}
use Rattle.lb_tree.specs.declared.query.Select.{Select}
use Rattle.lb_tree.specs.declared.query.Expr.TheVariants as exprs
use Rattle.lb_tree.specs.declared.query.Cond.TheOpen as layers
use Rattle.lb_tree.specs.declared.query.Cond.TheViews.{out-Expr, roll-Expr, roll-out-Expr, out-Query}
use Rattle.lb_tree.specs.Folds.{Written}
use Rattle.lb_tree.proofs.Opens.{expr_roll}
use Rattle.lb_stmt.specs.declared.write.InsertSource.{InsertSource}
use Rattle.lb_stmt.specs.declared.write.InsertSource.TheVariants as sources
use Rattle.lb_stmt.specs.declared.write.Stmt.{Stmt}
use Rattle.lb_stmt.specs.declared.write.Stmt.TheVariants as stmts
use Rattle.lb_names.specs.Sights.{Sight, nothing}
use Rattle.lb_names.specs.Marks.{Marks, cond_marks, expr_marks, query_marks}
use Rattle.lb_names.specs.SortNames.{bare_name, maybe_named, meant}
use Rattle.lb_names.specs.StatementMarks.{over, key_marks, marks_of_key, select_marks, order_sight, where_marks, assignment_marks, source_marks, marks_of}
use Rattle.lb_names.specs.Mentions.{Mentions, table, mentions, naming, naming_steps, in_cond, in_expr, in_query, in_key, in_select, in_where, in_assignment, in_source, in_stmt}
use Rattle.lb_names.specs.Laws.{MentionsAreMarked}
use Rattle.lb_names.proofs.Mentioned.{two, mentioned_cond, mentioned_expr, mentioned_query}

pub of_cond : (c : Cond) (v : Sight) → mentions (cond_marks c v) ≡ in_cond c
unfolding cond_marks in_cond
of_cond = mentioned_cond

pub of_expr : (e : Expr) (v : Sight) → mentions (expr_marks e v) ≡ in_expr e
unfolding expr_marks in_expr
of_expr = mentioned_expr

pub of_query : (q : Query) (v : Sight) → mentions (query_marks q v) ≡ in_query q
unfolding query_marks in_query
of_query = mentioned_query

-- a list of parts
each : {A : Type 0} (f : A → Marks) (g : A → Mentions) → ((x : A) → mentions (f x) ≡ g x) → (xs : List A) → mentions (flat_map f xs) ≡ flat_map g xs
each f g h [] = refl
each f g h (x ∷ xs) = two (f x) (flat_map f xs) (g x) (flat_map g xs) (h x) (each f g h xs)

-- a key that stands for an item is a bare name, which mentions nothing
bare_mentions : (c : Column) → in_expr (exprs.Atom (atoms.Column c)) ≡ []
unfolding in_expr
bare_mentions c = ap (λ e. in_expr e) (sym (exprs.rolls-Atom (atoms.Column c))) ∙ expr_roll naming naming_steps (layers.Expr-F.Atom (atoms.Column c))

named_mentions : (x : Written layers.Expr-F) (items : List Item) (f : Expr) → maybe_named (bare_name x) items ≡ Some f → in_expr (roll-Expr x) ≡ []
named_mentions (layers.Expr-F.Atom (atoms.Column c)) items f h = ap in_expr (exprs.rolls-Atom (atoms.Column c)) ∙ bare_mentions c
named_mentions (layers.Expr-F.Atom atoms.Null) items f h = absurd cc
named_mentions (layers.Expr-F.Atom (atoms.Int n)) items f h = absurd cc
named_mentions (layers.Expr-F.Atom (atoms.Text t)) items f h = absurd cc
named_mentions (layers.Expr-F.Atom (atoms.Date d)) items f h = absurd cc
named_mentions (layers.Expr-F.Atom atoms.CurrentDate) items f h = absurd cc
named_mentions (layers.Expr-F.Atom atoms.SessionUser) items f h = absurd cc
named_mentions (layers.Expr-F.Atom atoms.CountRows) items f h = absurd cc
named_mentions (layers.Expr-F.Atom (atoms.VerifyRole r)) items f h = absurd cc
named_mentions (layers.Expr-F.Atom (atoms.VerifyGroup g)) items f h = absurd cc
named_mentions (layers.Expr-F.Atom (atoms.SecLabel p t)) items f h = absurd cc
named_mentions (layers.Expr-F.Atom (atoms.SecLabelByName p l)) items f h = absurd cc
named_mentions (layers.Expr-F.Atom (atoms.SecLabelToChar p c)) items f h = absurd cc
named_mentions (layers.Expr-F.Sum a) items f h = absurd cc
named_mentions (layers.Expr-F.Concat a) items f h = absurd cc
named_mentions (layers.Expr-F.Product a) items f h = absurd cc
named_mentions (layers.Expr-F.Case a b) items f h = absurd cc
named_mentions (layers.Expr-F.Match a b c) items f h = absurd cc
named_mentions (layers.Expr-F.Aggregate a b) items f h = absurd cc
named_mentions (layers.Expr-F.Substr a b c) items f h = absurd cc
named_mentions (layers.Expr-F.Apply a b) items f h = absurd cc
named_mentions (layers.Expr-F.Coalesce a) items f h = absurd cc

key_mentions : (v : Sight) (e : Expr) (m : Option Expr) → ((f : Expr) → m ≡ Some f → in_expr e ≡ []) → mentions (key_marks v e m) ≡ in_expr e
key_mentions v e None h = of_expr e v
key_mentions v e (Some f) h = sym (h f refl)

of_key : (items : List Item) (v : Sight) (k : SortKey) → mentions (marks_of_key items v k) ≡ in_key k
of_key items v k = key_mentions v k.by (meant items k.by) (λ f h. ap in_expr (sym (roll-out-Expr k.by)) ∙ named_mentions (out-Expr k.by) items f h)

of_select : (s : Select) → mentions (select_marks s) ≡ in_select s
of_select s = two (query_marks s.query nothing) (flat_map (marks_of_key (out-Query s.query).items (order_sight s)) s.order) (in_query s.query) (flat_map in_key s.order) (of_query s.query nothing) (each (marks_of_key (out-Query s.query).items (order_sight s)) in_key (of_key (out-Query s.query).items (order_sight s)) s.order)

of_where : (v : Sight) (c : Option Cond) → mentions (where_marks v c) ≡ in_where c
of_where v None = refl
of_where v (Some c) = of_cond c v

of_source : (s : InsertSource) → mentions (source_marks s) ≡ in_source s
of_source (sources.Rows rows) = each (flat_map (λ e. expr_marks e nothing)) (flat_map in_expr) (each (λ e. expr_marks e nothing) in_expr (λ e. of_expr e nothing)) rows
of_source (sources.Query s) = of_select s

pub of_stmt : (s : Stmt) → mentions (marks_of s) ≡ in_stmt s
of_stmt (stmts.Select s) = of_select s
of_stmt (stmts.Insert i) = ap (λ ms. table i.table ∷ ms) (of_source i.source)
of_stmt (stmts.Update u) = ap (λ ms. table u.target.table ∷ ms) (two (flat_map (assignment_marks (over u.target)) u.assignments) (where_marks (over u.target) u.filter) (flat_map in_assignment u.assignments) (in_where u.filter) (each (assignment_marks (over u.target)) in_assignment (λ a. of_expr a.value (over u.target)) u.assignments) (of_where (over u.target) u.filter))
of_stmt (stmts.Delete d) = ap (λ ms. table d.target.table ∷ ms) (of_where (over d.target) d.filter)
of_stmt (stmts.Change c) = refl

pub mentions_are_marked : MentionsAreMarked
mentions_are_marked = record { in_cond = of_cond; in_expr = of_expr; in_query = of_query; in_stmt = of_stmt }

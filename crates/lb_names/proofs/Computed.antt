-- The examples, computed.
use Rattle.std.specs.Prelude.{pos}
use Rattle.lb_tree.specs.declared.query.Atom.TheVariants as atoms
use Rattle.lb_tree.specs.declared.query.Function.TheVariants as functions
use Rattle.std.proofs.Common.{◌≡◌, refl, ap, ◌∙◌, ◌||◌, Some, None, Option, [], ◌∷◌, Bool, true, false, List, Ok, Err}
use Rattle.std.specs.List.{list_any}
use Rattle.lb_tree.specs.declared.query.Select.{Select}
use Rattle.lb_tree.specs.declared.query.Cond.TheViews.{out-Query}
use Rattle.lb_stmt.specs.declared.write.Stmt.TheVariants as stmts
use Rattle.lb_names.specs.Kinds.{Kind, integer, text, label}
use Rattle.lb_names.specs.Typed.{Typed, ◌>>=◌}
use Rattle.lb_names.specs.Places.{outermost}
use Rattle.lb_names.specs.OrderTyping.{is_total_key, keys_typed, select_typed}
use Rattle.lb_tree.specs.declared.query.Cond.{Cond}
use Rattle.lb_tree.specs.declared.query.Expr.TheVariants as exprs
use Rattle.lb_tree.specs.declared.query.Item.TheVariants as items
use Rattle.lb_tree.specs.declared.query.Cond.TheVariants as conds
use Rattle.lb_tree.specs.declared.query.Cond.TheViews.{out-roll-Query, outs-Atom, outs-Case, outs-Apply, outs-Sum, outs-Value, outs-AllOf, outs-Compare}
use Rattle.lb_tree.specs.declared.query.Expr.{Expr}
use Rattle.lb_tree.specs.Folds.{cond_of, expr_of}
use Rattle.lb_tree.proofs.Opens.{cond_and, cond_exists, cond_compare, cond_isnull, cond_inquery, expr_atom, expr_sum, expr_case, expr_aggregate, expr_apply, item_value, item_everything, item_allof, join_inner, query_roll, chain_roll, signed_roll, arm_roll}
use Rattle.lb_names.specs.declared.place.Seen.{Seen}
use Rattle.lb_names.specs.declared.refused.Refused.TheVariants.{Unknown, Exists, BadLabel, Types}
use Rattle.lb_names.specs.Marks.{marked, mark_steps}
use Rattle.lb_names.specs.StatementMarks.{marks_of}
use Rattle.lb_names.specs.Scopes.{Catalogue}
use Rattle.lb_names.specs.Carriers.{typing}
use Rattle.lb_names.specs.Parts.{kind_of_two, kind_with_all, kind_of_arm, kind_of_results}
use Rattle.lb_names.specs.Expressions.{case_kind, apply_kind}
use Rattle.lb_names.specs.Conditions.{compare_typed}
use Rattle.lb_names.specs.Typing.{steps, says, means, answers}
use Rattle.lb_names.specs.Same.{same}
use Rattle.lb_names.specs.Qualify.{qualifying, qualify_steps, qualified_cond}
use Rattle.lb_names.specs.Statements.{broken, names_refused, types_refused, permission_names_refused, permission_types_refused, mask_types_refused, permission_qualified}
use Rattle.lb_names.specs.Small.{a, b, k, p, q, w, x, one, int, col, table, small}
use Rattle.lb_names.specs.Examples as e
use Rattle.lb_names.proofs.Heads.{query_marks_are, expr_marks_are, cond_marks_are}

means_are : (C : Catalogue) (e : Expr) → means C e ≡ expr_of typing (steps C) e
unfolding means
means_are C e = refl

qualified_cond_is : (C : Catalogue) (c : Cond) (seen : List Seen) → qualified_cond C c seen ≡ (cond_of qualifying (qualify_steps C) c).at seen
unfolding qualified_cond
qualified_cond_is C c seen = refl

pub on_before_its_table : names_refused small e.on_before_its_table ≡ Some (Unknown w)
on_before_its_table = simp (query_marks_are, expr_marks_are, cond_marks_are, out-roll-Query, cond_compare marked mark_steps, expr_atom marked mark_steps, item_value marked mark_steps, join_inner marked mark_steps, query_roll marked mark_steps, chain_roll marked mark_steps) refl

pub column_before_targets : names_refused small e.column_before_targets ≡ Some (Unknown x)
column_before_targets = simp (query_marks_are, expr_marks_are, cond_marks_are, expr_atom marked mark_steps) refl

pub target_twice : names_refused small e.target_twice ≡ Some (Exists a)
target_twice = simp (query_marks_are, expr_marks_are, cond_marks_are, expr_atom marked mark_steps) refl

pub no_label_text : names_refused small e.no_label_text ≡ Some (BadLabel 0)
no_label_text = simp (query_marks_are, expr_marks_are, cond_marks_are, expr_atom marked mark_steps) refl

pub policy_before_text : names_refused small e.policy_before_text ≡ Some (Unknown q)
policy_before_text = simp (query_marks_are, expr_marks_are, cond_marks_are, expr_atom marked mark_steps) refl

pub column_of_where : names_refused small e.column_of_where ≡ Some (Unknown x)
column_of_where = simp (query_marks_are, expr_marks_are, cond_marks_are, cond_compare marked mark_steps, expr_atom marked mark_steps) refl

pub target_by_its_alias : names_refused small e.target_by_its_alias ≡ Some (Unknown k)
target_by_its_alias = simp (query_marks_are, expr_marks_are, cond_marks_are, out-roll-Query, cond_and marked mark_steps, cond_exists marked mark_steps, cond_compare marked mark_steps, expr_atom marked mark_steps, item_value marked mark_steps, query_roll marked mark_steps, chain_roll marked mark_steps) refl

pub output_name_inside : names_refused small e.output_name_inside ≡ Some (Unknown x)
output_name_inside = simp (query_marks_are, expr_marks_are, cond_marks_are, out-roll-Query, outs-Atom, outs-Case, outs-Apply, outs-Sum, outs-Value, outs-AllOf, outs-Compare, cond_exists marked mark_steps, expr_atom marked mark_steps, expr_case marked mark_steps, item_value marked mark_steps, query_roll marked mark_steps, chain_roll marked mark_steps, arm_roll marked mark_steps) refl

pub enclosing_name_reused : permission_names_refused small (table k) e.enclosing_name_reused ≡ Some (Exists w)
enclosing_name_reused = simp (query_marks_are, expr_marks_are, cond_marks_are, cond_exists marked mark_steps, expr_atom marked mark_steps, expr_case marked mark_steps, item_value marked mark_steps, query_roll marked mark_steps, chain_roll marked mark_steps, arm_roll marked mark_steps) refl

pub star_beside_group : types_refused small e.star_beside_group ≡ None
unfolding says means answers same compare_typed kind_of_two kind_with_all kind_of_arm kind_of_results case_kind apply_kind
star_beside_group = simp (out-roll-Query, expr_atom typing (steps small), item_everything typing (steps small), query_roll typing (steps small), chain_roll typing (steps small)) refl

pub sum_in_where : types_refused small e.sum_in_where ≡ Some (Types 3)
unfolding says means answers same compare_typed kind_of_two kind_with_all kind_of_arm kind_of_results case_kind apply_kind
sum_in_where = simp (out-roll-Query, cond_compare typing (steps small), expr_atom typing (steps small), expr_aggregate typing (steps small), item_value typing (steps small), query_roll typing (steps small), chain_roll typing (steps small)) refl

pub star_in_sum : types_refused small e.star_in_sum ≡ Some (Types 3)
unfolding says means answers same compare_typed kind_of_two kind_with_all kind_of_arm kind_of_results case_kind apply_kind
star_in_sum = simp (out-roll-Query, cond_exists typing (steps small), cond_compare typing (steps small), expr_atom typing (steps small), expr_case typing (steps small), expr_aggregate typing (steps small), item_value typing (steps small), item_everything typing (steps small), query_roll typing (steps small), chain_roll typing (steps small), arm_roll typing (steps small)) refl

pub sum_in_on : types_refused small e.sum_in_on ≡ Some (Types 8)
unfolding says means answers same compare_typed kind_of_two kind_with_all kind_of_arm kind_of_results case_kind apply_kind
sum_in_on = simp (out-roll-Query, cond_and typing (steps small), cond_exists typing (steps small), cond_compare typing (steps small), expr_atom typing (steps small), expr_sum typing (steps small), item_value typing (steps small), join_inner typing (steps small), query_roll typing (steps small), chain_roll typing (steps small), signed_roll typing (steps small)) refl

pub subquery_in_items : types_refused small e.subquery_in_items ≡ Some (Types 4)
unfolding says means answers same compare_typed kind_of_two kind_with_all kind_of_arm kind_of_results case_kind apply_kind
subquery_in_items = simp (out-roll-Query, cond_inquery typing (steps small), expr_atom typing (steps small), expr_case typing (steps small), item_value typing (steps small), query_roll typing (steps small), chain_roll typing (steps small), arm_roll typing (steps small)) refl

pub group_of_outer_column : types_refused small e.group_of_outer_column ≡ Some (Types 8)
unfolding says means answers same compare_typed kind_of_two kind_with_all kind_of_arm kind_of_results case_kind apply_kind
group_of_outer_column = simp (out-roll-Query, cond_compare typing (steps small), cond_inquery typing (steps small), expr_atom typing (steps small), expr_aggregate typing (steps small), item_value typing (steps small), query_roll typing (steps small), chain_roll typing (steps small)) refl

pub too_many_values : types_refused small e.too_many_values ≡ Some (Types 2)
unfolding says means answers same compare_typed kind_of_two kind_with_all kind_of_arm kind_of_results case_kind apply_kind
too_many_values = simp (expr_atom typing (steps small), expr_sum typing (steps small), signed_roll typing (steps small)) refl

pub stored_star : permission_types_refused small (table k) e.stored_star ≡ Some (Types 3)
unfolding says means answers same compare_typed kind_of_two kind_with_all kind_of_arm kind_of_results case_kind apply_kind
stored_star = simp (cond_inquery typing (steps small), expr_atom typing (steps small), item_everything typing (steps small), query_roll typing (steps small), chain_roll typing (steps small)) refl

pub stored_star_beside_group : permission_types_refused small (table k) e.stored_star_beside_group ≡ Some (Types 2)
unfolding says means answers same compare_typed kind_of_two kind_with_all kind_of_arm kind_of_results case_kind apply_kind
stored_star_beside_group = simp (cond_exists typing (steps small), expr_atom typing (steps small), expr_sum typing (steps small), item_value typing (steps small), item_allof typing (steps small), query_roll typing (steps small), chain_roll typing (steps small), signed_roll typing (steps small)) refl

pub count_in_mask : mask_types_refused small (table k) a e.count_in_mask ≡ Some (Types 6)
unfolding says means answers same compare_typed kind_of_two kind_with_all kind_of_arm kind_of_results case_kind apply_kind
count_in_mask = simp (cond_inquery typing (steps small), expr_atom typing (steps small), expr_case typing (steps small), item_value typing (steps small), query_roll typing (steps small), chain_roll typing (steps small), arm_roll typing (steps small)) refl

pub qualified : permission_qualified small (table k) e.unqualified ≡ e.with_its_names
qualified = simp (qualified_cond_is, cond_and qualifying (qualify_steps small), cond_exists qualifying (qualify_steps small), cond_compare qualifying (qualify_steps small), expr_atom qualifying (qualify_steps small), item_value qualifying (qualify_steps small), query_roll qualifying (qualify_steps small), chain_roll qualifying (qualify_steps small), conds.rolls-And, conds.rolls-Exists, conds.rolls-Compare, exprs.rolls-Atom, items.rolls-Value) refl

-- a query with ORDER BY, from its own outputs on
select_is : (C : Catalogue) (s : Select) (wanted : Option (List Kind)) (total : Bool) (out : Typed (List Kind)) → list_any (is_total_key C) s.order ≡ total → (answers C s.query).kinds (record { subquery = false; one = false; total = total; wanted = wanted }) outermost 0 ≡ out → select_typed C s wanted ≡ (out >>= λ ks. keys_typed C ((answers C s.query).shown (record { subquery = false; one = false; total = total; wanted = wanted }) outermost) (out-Query s.query).distinct (out-Query s.query).items ks.0 s.order ks.1 >>= λ x. Ok (ks.0, x.1))
select_is C s wanted total out t k =
    (λ i. (answers C s.query).kinds (record { subquery = false; one = false; total = t i; wanted = wanted }) outermost 0 >>= λ ks. keys_typed C ((answers C s.query).shown (record { subquery = false; one = false; total = t i; wanted = wanted }) outermost) (out-Query s.query).distinct (out-Query s.query).items ks.0 s.order ks.1 >>= λ x. Ok (ks.0, x.1))
    ∙ (λ i. k i >>= λ ks. keys_typed C ((answers C s.query).shown (record { subquery = false; one = false; total = total; wanted = wanted }) outermost) (out-Query s.query).distinct (out-Query s.query).items ks.0 s.order ks.1 >>= λ x. Ok (ks.0, x.1))

two_outputs_total : list_any (is_total_key small) e.two_outputs.order ≡ false
two_outputs_total = ap (λ m. m.total || false) (means_are small (exprs.Apply functions.Length one) ∙ expr_apply typing (steps small) functions.Length one) ∙ ap (λ m. m.total || false) (expr_atom typing (steps small) (atoms.Int (pos 1)))

two_outputs_kinds : (answers small e.two_outputs.query).kinds (record { subquery = false; one = false; total = false; wanted = Some (integer ∷ []) }) outermost 0 ≡ Err 0
unfolding answers
two_outputs_kinds = simp (query_roll typing (steps small), chain_roll typing (steps small), item_value typing (steps small), expr_atom typing (steps small)) refl

pub too_many_outputs : types_refused small e.too_many_outputs ≡ Some (Types 0)
too_many_outputs = ap broken (select_is small e.two_outputs (Some (integer ∷ [])) false (Err 0) two_outputs_total two_outputs_kinds)

by_a_label_total : list_any (is_total_key small) e.by_a_label.order ≡ false
by_a_label_total = ap (λ m. m.total || false) (means_are small (int 3) ∙ expr_atom typing (steps small) (atoms.Int (pos 3)))

by_a_label_kinds : (answers small e.by_a_label.query).kinds (record { subquery = false; one = false; total = false; wanted = None }) outermost 0 ≡ Ok (integer ∷ text ∷ label p ∷ [], 3)
unfolding answers
by_a_label_kinds = simp (query_roll typing (steps small), chain_roll typing (steps small), item_allof typing (steps small), item_value typing (steps small), expr_atom typing (steps small)) refl

pub by_a_label : types_refused small (stmts.Select e.by_a_label) ≡ Some (Types 3)
by_a_label = ap broken (select_is small e.by_a_label None false (Ok (integer ∷ text ∷ label p ∷ [], 3)) by_a_label_total by_a_label_kinds) ∙ simp (outs-Atom) refl

by_another_total : list_any (is_total_key small) e.by_another_column.order ≡ false
by_another_total = ap (λ m. m.total || false) (means_are small (col b) ∙ expr_atom typing (steps small) (atoms.Column (record { correlation = None; name = b })))

by_another_kinds : (answers small e.by_another_column.query).kinds (record { subquery = false; one = false; total = false; wanted = None }) outermost 0 ≡ Ok (integer ∷ [], 2)
unfolding answers
by_another_kinds = simp (query_roll typing (steps small), chain_roll typing (steps small), item_allof typing (steps small)) refl

pub by_another_column : types_refused small (stmts.Select e.by_another_column) ≡ Some (Types 2)
unfolding means answers
by_another_column = ap broken (select_is small e.by_another_column None false (Ok (integer ∷ [], 2)) by_another_total by_another_kinds) ∙ simp (out-roll-Query, outs-Atom, outs-AllOf, query_roll typing (steps small), chain_roll typing (steps small), item_allof typing (steps small), expr_atom typing (steps small)) refl

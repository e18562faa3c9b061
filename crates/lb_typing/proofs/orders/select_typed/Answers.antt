use Rattle.std.proofs.Common.{◌∙◌, sym, ap, Ok, map}
use Rattle.std.specs.List.{list_any}
use Rattle.std.proofs.lemmas.Result.{err_from_is_err_and}
use Rattle.lb_tree.specs.declared.query.Cond.TheViews.{out-Query}
use Rattle.lb_tree.specs.Folds as folds
use Rattle.lb_names.specs.Marks.{marked, mark_steps, tables_of}
use Rattle.lb_names.specs.Sights.{inside}
use Rattle.lb_names.specs.OrderTyping.{is_total_key, keys_typed}
use Rattle.lb_names.specs.Typed.{◌>>=◌}
use Rattle.lb_scope.specs.Found.{catalogue}
use Rattle.lb_types.specs.Given.{group_in, kinds_in, lent_kinds, place_in}
use Rattle.lb_types.proofs.Clauses as clauses
use Rattle.lb_types.proofs.Steps.{stops_at}
use Rattle.lb_typing.proofs.Selects as selects
use Rattle.lb_typing.proofs.Tellings.{tells_stops, tells_keys}
use Rattle.lb_typing.proofs.orders.select_typed.Goals as goal

pub returns-in_err-outputs : goal.returns-in_err-outputs
returns-in_err-outputs c =
    let C = catalogue c.args.catalog.now in
    let p = err_from_is_err_and c.from_residual.result c.from_residual.ensures.1 in
    rw (p.1, p.2) (tells_stops c.in_err-outputs.field-0.0 _ (stops_at c.in_err-outputs.field-0.0 _ _ _
    (selects.select_at C c.args.select.now (lent_kinds c.args.wanted) c.keys_have_total.result c.nothing-nothing.result (c.keys_have_total.ensures C ∙ ap (list_any (is_total_key C)) c.as_slice.ensures) c.nothing-nothing.ensures)
    c.in_err-outputs.ensures))

pub returns : goal.returns
returns c =
    let C = catalogue c.args.catalog.now in
    let s = c.args.select.now in
    let ws = lent_kinds c.args.wanted in
    let total = c.keys_have_total.result in
    let v = c.nothing-nothing.result in
    let groups = map (group_in C) c.in_ok-groups.groups in
    let shown = place_in C c.shown_place.result in
    let ks = kinds_in c.in_ok-outputs.outputs in
    let n = c.in_ok-outputs.n in
    tells_keys c.keys_typed.result _ _ ks
    (selects.keys_at C s ws total v shown ks n (c.keys_have_total.ensures C ∙ ap (list_any (is_total_key C)) c.as_slice.ensures) c.nothing-nothing.ensures c.in_ok-outputs.ensures
    (clauses.shown_is C s.query (selects.role_of C s ws total) (selects.outside v) c.in_ok-sight.sight groups (c.in_ok-sight.ensures ∙ ap (λ cs. inside v (tables_of (map (folds.chain_of marked mark_steps) cs))) c.as_slice-2.ensures) (c.in_ok-groups.ensures C)
    ∙ sym (c.shown_place.ensures C ∙ ap (λ gs. clauses.shown_in C (selects.outside v) c.in_ok-sight.sight (map (group_in C) gs)) c.as_slice-3.ensures))
    ∙ (λ i. keys_typed C shown (out-Query s.query).distinct (sym c.as_slice-4.ensures i) (kinds_in (sym c.as_slice-5.ensures i)) (sym c.as_slice-6.ensures i) n >>= λ x. Ok (ks, x.1)))
    c.keys_typed.ensures

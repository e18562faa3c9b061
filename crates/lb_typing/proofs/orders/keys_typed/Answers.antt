use Rattle.std.proofs.Common.{◌∙◌}
use Rattle.std.proofs.lemmas.Result.{err_from_is_err_and}
use Rattle.lb_scope.specs.Found.{catalogue}
use Rattle.lb_types.specs.Given.{kinds_in, place_in}
use Rattle.lb_types.proofs.Steps.{onto, stops_at}
use Rattle.lb_typing.proofs.Loops.{keys_at}
use Rattle.lb_typing.proofs.orders.keys_typed.Goals as goal

pub returns-in_err-n : goal.returns-in_err-n
returns-in_err-n c =
    let C = catalogue c.args.catalog.now in
    let p = err_from_is_err_and c.from_residual.result c.from_residual.ensures.1 in
    rw (p.1, p.2) (stops_at c.in_err-n.field-0.0 _ _ _
    (c.loop-key.invariant ∙ keys_at C (place_in C c.args.shown.place) c.args.shown.distinct c.args.shown.items.now (kinds_in c.args.outputs.now) c.args.keys.now c.loop-key.key-index c.loop-key.n c.key-item.result c.loop-key-test.true c.key-item.is)
    c.in_err-n.ensures)

pub loop-key-preserved : goal.loop-key-preserved
loop-key-preserved c =
    let C = catalogue c.args.catalog.now in
    onto _ _ _ _
    (c.loop-key.invariant ∙ keys_at C (place_in C c.args.shown.place) c.args.shown.distinct c.args.shown.items.now (kinds_in c.args.outputs.now) c.args.keys.now c.loop-key.key-index c.loop-key.n c.key-item.result c.loop-key-test.true c.key-item.is)
    c.in_ok-n.ensures

use Rattle.lb_scope.specs.Found.{catalogue, kind_in}
use Rattle.lb_types.specs.Given.{kinds_in, place_in}
use Rattle.lb_typing.proofs.Keys.{by_name}
use Rattle.lb_typing.proofs.orders.key_typed.Goals as goal

pub returns-in_ok-kind-in-Some : goal.returns-in_ok-kind-in-Some
returns-in_ok-kind-in-Some c =
    let C = catalogue c.args.catalog.now in
    by_name C (place_in C c.args.shown.place) c.args.shown.distinct c.args.shown.items.now (kinds_in c.args.outputs.now)
    c.item_key.result c.args.key.now c.in-Some.expr.now c.args.at _ (kind_in c.in_ok-kind-in-Some.kind)
    c.in-Some.ensures c.in_ok-kind-in-Some.ensures (c.item_key.ensures C)

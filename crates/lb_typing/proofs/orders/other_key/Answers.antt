use Rattle.std.proofs.Common.{sym, ◌∙◌, arith, to_z-of_z}
use Rattle.std.specs.Option.{option_map}
use Rattle.lb_scope.specs.Found.{catalogue, kind_in}
use Rattle.lb_types.specs.Given.{kinds_in, place_in}
use Rattle.lb_typing.proofs.Keys.{by_number}
use Rattle.lb_typing.proofs.orders.other_key.Goals as goal

pub returns-in-Some : goal.returns-in-Some
returns-in-Some c =
    let C = catalogue c.args.catalog.now in
    by_number C (place_in C c.args.shown.place) c.args.shown.distinct c.args.shown.items.now (kinds_in c.args.outputs.now)
    c.output_key.result c.args.key.now c.args.at c.in-Some.place (option_map kind_in c.output_at.result)
    (sym c.in-Some.is ∙ c.position.ensures) (c.output_at.ensures ∙ grind (arith, to_z-of_z)) (c.output_key.ensures C)

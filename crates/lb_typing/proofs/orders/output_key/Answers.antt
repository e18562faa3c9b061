use Rattle.std.proofs.Common.{sym, subst}
use Rattle.std.specs.Option.{option_map}
use Rattle.lb_names.specs.OrderTyping as orders
use Rattle.lb_scope.specs.Found.{kind_in}
use Rattle.lb_types.specs.Given.{Goes}
use Rattle.lb_typing.proofs.orders.output_key.Goals as goal

pub returns-in-Some : goal.returns-in-Some
returns-in-Some c C = subst (λ o. Goes c.item_key.result (orders.output_key C (option_map kind_in o) c.args.at)) (sym c.in-Some.is) (c.item_key.ensures C)

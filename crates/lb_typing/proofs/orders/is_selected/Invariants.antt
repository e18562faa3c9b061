use Rattle.std.proofs.Common.{◌≡◌, drop}
use Rattle.lb_names.specs.OrderTyping as orders
use Rattle.lb_scope.specs.Found.{catalogue}
use Rattle.lb_types.specs.Given.{place_in}
use Rattle.lb_typing.proofs.orders.is_selected.Given as goal

abbrev pub invariant-loop-item : goal.invariant-loop-item
invariant-loop-item l = orders.is_selected (catalogue l.catalog) (place_in (catalogue l.catalog) l.place) l.items l.expr ≡ orders.is_selected (catalogue l.catalog) (place_in (catalogue l.catalog) l.place) (drop l.item-index l.items) l.expr

use Rattle.std.proofs.Common.{◌≡◌, drop}
use Rattle.lb_names.specs.OrderTyping as orders
use Rattle.lb_scope.specs.Found.{catalogue}
use Rattle.lb_types.specs.Given.{kinds_in, place_in}
use Rattle.lb_typing.proofs.orders.keys_typed.Given as goal

abbrev pub invariant-loop-key : goal.invariant-loop-key
invariant-loop-key l = orders.keys_typed (catalogue l.catalog) (place_in (catalogue l.catalog) l.shown.place) l.shown.distinct l.shown.items.now (kinds_in l.outputs) l.keys l.number ≡ orders.keys_typed (catalogue l.catalog) (place_in (catalogue l.catalog) l.shown.place) l.shown.distinct l.shown.items.now (kinds_in l.outputs) (drop l.key-index l.keys) l.n

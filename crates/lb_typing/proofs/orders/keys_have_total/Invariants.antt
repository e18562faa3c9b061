use Rattle.std.proofs.Common.{◌≡◌, drop}
use Rattle.std.specs.List.{list_any}
use Rattle.lb_names.specs.OrderTyping as orders
use Rattle.lb_names.specs.Scopes.{Catalogue}
use Rattle.lb_typing.proofs.orders.keys_have_total.Given as goal

abbrev pub invariant-loop-key : goal.invariant-loop-key
invariant-loop-key l = (C : Catalogue) → list_any (orders.is_total_key C) l.keys ≡ list_any (orders.is_total_key C) (drop l.key-index l.keys)

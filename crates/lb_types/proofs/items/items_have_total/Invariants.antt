use Rattle.std.proofs.Common.{◌≡◌, drop, map}
use Rattle.std.specs.List.{list_any}
use Rattle.lb_names.specs.Scopes as scopes
use Rattle.lb_names.specs.Typing as trees
use Rattle.lb_types.proofs.items.items_have_total.Given as goal

abbrev pub invariant-loop-item : goal.invariant-loop-item
invariant-loop-item l = (C : scopes.Catalogue) → list_any (λ i. i.total) (map (trees.shows C) l.items) ≡ list_any (λ i. i.total) (map (trees.shows C) (drop l.item-index l.items))

use Rattle.std.proofs.Common.{◌≡◌, drop}
use Rattle.std.specs.List.{filter}
use Rattle.std.specs.Option.{option_copied}
use Rattle.lb_names.specs.Places as places
use Rattle.lb_scope.specs.Found.{catalogue}
use Rattle.lb_types.specs.Given.{place_in}
use Rattle.lb_types.specs.Within.{is_starred}
use Rattle.lb_types.proofs.items.all_free.Given as goal

abbrev pub invariant-loop-item : goal.invariant-loop-item
invariant-loop-item l = places.all_free (place_in (catalogue l.catalog) l.place) (catalogue l.catalog) (filter (is_starred (option_copied l.by)) l.own) ≡ places.all_free (place_in (catalogue l.catalog) l.place) (catalogue l.catalog) (filter (is_starred (option_copied l.by)) (drop l.item-index l.own))

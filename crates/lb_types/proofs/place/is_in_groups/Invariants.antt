use Rattle.std.proofs.Common.{◌≡◌, drop, map}
use Rattle.std.specs.List.{list_all}
use Rattle.lb_names.specs.Places as places
use Rattle.lb_names.specs.Scopes as scopes
use Rattle.lb_scope.specs.Found.{catalogue}
use Rattle.lb_types.specs.Given.{group_in}
use Rattle.lb_types.proofs.place.is_in_groups.Given as goal

abbrev pub invariant-loop-group : goal.invariant-loop-group
invariant-loop-group l = list_all (places.is_in_group (scopes.spot_of l.item l.name)) (map (group_in (catalogue l.catalog)) l.groups) ≡ list_all (places.is_in_group (scopes.spot_of l.item l.name)) (map (group_in (catalogue l.catalog)) (drop l.group-index l.groups))

use Rattle.std.proofs.Common.{◌≡◌, drop, map}
use Rattle.std.specs.List.{list_all}
use Rattle.lb_alter.specs.Naming.{field_of}
use Rattle.lb_names.specs.Places as places
use Rattle.lb_names.specs.Scopes as scopes
use Rattle.lb_scope.specs.Found.{catalogue}
use Rattle.lb_types.specs.Given.{place_in}
use Rattle.lb_types.proofs.place.are_free.Given as goal

abbrev pub invariant-loop-column : goal.invariant-loop-column
invariant-loop-column l = list_all (λ f. places.is_free (place_in (catalogue l.catalog) l.place) (scopes.spot_of l.item f.name)) (map field_of l.columns) ≡ list_all (λ f. places.is_free (place_in (catalogue l.catalog) l.place) (scopes.spot_of l.item f.name)) (map field_of (drop l.column-index l.columns))

use Rattle.std.proofs.Common.{◌≡◌, drop}
use Rattle.std.specs.List.{flat_map, list_any}
use Rattle.lb_names.specs.Scopes as scopes
use Rattle.lb_scope.specs.Found.{catalogue}
use Rattle.lb_types.proofs.place.is_among_columns.Given as goal

abbrev pub invariant-loop-column : goal.invariant-loop-column
invariant-loop-column l = list_any (scopes.same_spot (scopes.spot_of l.item l.name)) (flat_map (λ c. scopes.spots (scopes.resolve (catalogue l.catalog) l.seen c)) l.columns) ≡ list_any (scopes.same_spot (scopes.spot_of l.item l.name)) (flat_map (λ c. scopes.spots (scopes.resolve (catalogue l.catalog) l.seen c)) (drop l.column-index l.columns))

use Rattle.std.proofs.Common.{◌≡◌, drop, map}
use Rattle.std.specs.List.{list_any}
use Rattle.std.specs.Str.{bytes_eq}
use Rattle.lb_alter.specs.Naming.{field_of}
use Rattle.lb_scope.proofs.column.is_among.Given as goal

abbrev pub invariant-loop-column : goal.invariant-loop-column
invariant-loop-column l = list_any (λ f. bytes_eq f.name l.name) (map field_of l.columns) ≡ list_any (λ f. bytes_eq f.name l.name) (map field_of (drop l.column-index l.columns))

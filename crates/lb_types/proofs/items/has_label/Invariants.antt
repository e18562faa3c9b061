use Rattle.std.proofs.Common.{◌≡◌, drop}
use Rattle.std.specs.List.{list_any}
use Rattle.lb_names.specs.Kinds as kind_rules
use Rattle.lb_names.specs.Places as places
use Rattle.lb_types.specs.Given.{kinds_in}
use Rattle.lb_types.proofs.items.has_label.Given as goal

abbrev pub invariant-loop-kind : goal.invariant-loop-kind
invariant-loop-kind l = list_any kind_rules.is_label (kinds_in l.kinds) ≡ list_any kind_rules.is_label (kinds_in (drop l.kind-index l.kinds))

use Rattle.std.proofs.Common.{◌≡◌, ◌++◌, drop, map}
use Rattle.std.specs.List.{filter}
use Rattle.lb_model.specs.Visible.{enabled}
use Rattle.lb_refr.proofs.condition.enabled_names.Given as goal

abbrev pub invariant-loop-permission : goal.invariant-loop-permission
invariant-loop-permission l = map (λ p. p.name) (enabled l.table) ≡ l.names ++ map (λ p. p.name) (filter (λ p. p.enabled) (drop l.permission-index l.table.permissions))

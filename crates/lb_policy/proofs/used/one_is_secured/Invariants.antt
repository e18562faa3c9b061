use Rattle.std.proofs.Common.{◌≡◌, drop}
use Rattle.std.specs.List.{list_any}
use Rattle.lb_alter.specs.ChangeLabel.{is_secured_with}
use Rattle.lb_policy.proofs.used.one_is_secured.Given as goal

-- it is among those that are left
abbrev pub invariant-loop-column : goal.invariant-loop-column
invariant-loop-column l = list_any (is_secured_with l.label) l.columns ≡ list_any (is_secured_with l.label) (drop l.column-index l.columns)

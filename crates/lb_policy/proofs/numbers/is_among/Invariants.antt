use Rattle.std.proofs.Common.{◌≡◌, drop}
use Rattle.std.specs.List.{list_any}
use Rattle.std.specs.Str.{bytes_eq}
use Rattle.lb_policy.proofs.numbers.is_among.Given as goal

-- it is among those that are left
abbrev pub invariant-loop-name : goal.invariant-loop-name
invariant-loop-name l = list_any (λ name. bytes_eq l.text name) l.names ≡ list_any (λ name. bytes_eq l.text name) (drop l.name-index l.names)

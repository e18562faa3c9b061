use Rattle.std.proofs.Common.{◌≡◌, drop, not}
use Rattle.std.specs.List.{list_any}
use Rattle.std.specs.Str.{bytes_eq}
use Rattle.lb_policy.proofs.fitting.others_differ.Given as goal

-- it is among those that are left
abbrev pub invariant-loop-other : goal.invariant-loop-other
invariant-loop-other l = list_any (λ other. not (bytes_eq l.first other)) l.others ≡ list_any (λ other. not (bytes_eq l.first other)) (drop l.other-index l.others)

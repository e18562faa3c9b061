use Rattle.std.proofs.Common.{◌≡◌, ◌+◌, drop}
use Rattle.std.specs.List.{position_or_len}
use Rattle.std.specs.Str.{bytes_eq}
use Rattle.lb_policy.proofs.fitting.place_of.Given as goal

-- it is among those that are left
abbrev pub invariant-loop-other : goal.invariant-loop-other
invariant-loop-other l = (l.place ≡ l.other-index) × (position_or_len (λ m. bytes_eq m l.name) l.names ≡ l.place + position_or_len (λ m. bytes_eq m l.name) (drop l.other-index l.names))

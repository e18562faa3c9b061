use Rattle.std.proofs.Common.{◌≡◌, drop}
use Rattle.std.specs.Prelude.{find}
use Rattle.std.specs.Str.{bytes_eq}
use Rattle.lb_policy.proofs.numbers.part_for.Given as goal

-- it is among those that are left
abbrev pub invariant-loop-part : goal.invariant-loop-part
invariant-loop-part l = find (λ x. bytes_eq x.component l.component) l.listed ≡ find (λ x. bytes_eq x.component l.component) (drop l.part-index l.listed)

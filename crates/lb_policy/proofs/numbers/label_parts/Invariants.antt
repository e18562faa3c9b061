use Rattle.std.proofs.Common.{◌≡◌, take}
use Rattle.lb_alter.specs.ChangeLabel.{label_parts}
use Rattle.lb_cat.specs.Stamps.{bare_policy}
use Rattle.lb_policy.proofs.numbers.label_parts.Given as goal

-- the parts so far
abbrev pub invariant-loop-place : goal.invariant-loop-place
invariant-loop-place l = l.parts.items ≡ take l.place (label_parts (bare_policy l.policy) l.listed)

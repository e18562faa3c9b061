use Rattle.std.proofs.Common.{◌≡◌, drop, map}
use Rattle.lb_cat.specs.Catalog.{is_among}
use Rattle.lb_policy.proofs.fitting.is_named.Given as goal

-- it is among those that are left
abbrev pub invariant-loop-part : goal.invariant-loop-part
invariant-loop-part l = is_among (map (λ x. x.component) l.parts) l.component ≡ is_among (map (λ x. x.component) (drop l.part-index l.parts)) l.component

use Rattle.std.proofs.Common.{◌≡◌, drop}
use Rattle.lb_cat.specs.Catalog.{is_among}
use Rattle.lb_policy.proofs.used.is_among.Given as goal

-- it is among those that are left
abbrev pub invariant-loop-other : goal.invariant-loop-other
invariant-loop-other l = is_among l.names l.name ≡ is_among (drop l.other-index l.names) l.name

use Rattle.std.proofs.Common.{◌≡◌, drop}
use Rattle.lb_cat.specs.Catalog.{is_among}
use Rattle.lb_grant.proofs.role.is_among.Given as goal

-- the name is among those that are left, or nowhere
abbrev pub invariant-loop-other : goal.invariant-loop-other
invariant-loop-other l = is_among l.names l.name ≡ is_among (drop l.other-index l.names) l.name

use Rattle.std.proofs.Common.{◌≡◌, take}
use Rattle.std.specs.Str.{bytes_eq}
use Rattle.lb_rows.specs.Lists.{without}
use Rattle.lb_grant.proofs.role.others.Given as goal

-- the others of the names so far are kept
abbrev pub invariant-loop-other : goal.invariant-loop-other
invariant-loop-other l = l.left ≡ without (bytes_eq l.name) (take l.other-index l.names)

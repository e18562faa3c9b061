use Rattle.std.proofs.Common.{◌≡◌, take}
use Rattle.lb_cat.specs.Privileges.{with_privileges}
use Rattle.lb_grant.proofs.privilege.with_privileges.Given as goal

-- the privileges so far are given, or taken
abbrev pub invariant-loop-privilege : goal.invariant-loop-privilege
invariant-loop-privilege l = l.after ≡ with_privileges l.given (take l.privilege-index l.privileges) l.fn.before

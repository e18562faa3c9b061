use Rattle.std.proofs.Common.{◌≡◌, map, take}
use Rattle.lb_cat.specs.Credentials.{cred_label}
use Rattle.lb_cat.specs.Stamps.{bare}
use Rattle.lb_cred.proofs.held.labels_held.Given as goal

-- the labels so far are those of what is held so far
abbrev pub invariant-loop-holding : goal.invariant-loop-holding
invariant-loop-holding l = l.labels ≡ map (cred_label (bare l.catalog)) (take l.holding-index l.held)

use Rattle.std.proofs.Common.{◌≡◌, drop}
use Rattle.lb_model.specs.NotYet.{fits}
use Rattle.lb_refr.proofs.limits.is_fit.Given as goal

abbrev pub invariant-loop-i : goal.invariant-loop-i
invariant-loop-i l = fits l.columns l.row ≡ fits (drop l.i l.columns) (drop l.i l.row)

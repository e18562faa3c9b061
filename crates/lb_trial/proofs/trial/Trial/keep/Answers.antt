use Rattle.std.proofs.Common.{sym, subst}
use Rattle.lb_alter.specs.Naming.{stored_rules}
use Rattle.lb_alter.specs.Sound.{IsSound}
use Rattle.lb_trial.specs.Trials.{IsSoundKept}
use Rattle.lb_trial.proofs.trial.Trial.keep.Goals as goal

pub returns : goal.returns
returns c =
    record { sound = subst IsSoundKept (sym c.in_ok-leave.ensures.same) (subst (IsSound stored_rules) (sym c.in_ok-mark.ensures.bare) c.requires.sound) }

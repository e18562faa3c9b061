use Rattle.lb_trial.specs.Trials.{IsSoundKept}
use Rattle.bench_change.proofs.change.Given as goal

-- the catalogue stays sound
abbrev pub invariant-loop-number : goal.invariant-loop-number
invariant-loop-number l = IsSoundKept l.trial.catalog

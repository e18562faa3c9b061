use Rattle.lb_trial.specs.Trials.{IsSoundKept}
use Rattle.bench_change.proofs.make_tables.Given as goal

-- the catalogue stays sound
abbrev pub invariant-loop-number : goal.invariant-loop-number
invariant-loop-number l = IsSoundKept l.trial.catalog

use Rattle.lb_trial.specs.Trials.{IsSoundKept}
use Rattle.change_tests.proofs.run_statements.Given as goal

-- the catalogue stays sound
abbrev pub invariant-loop-span : goal.invariant-loop-span
invariant-loop-span l = IsSoundKept l.trial.catalog

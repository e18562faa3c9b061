use Rattle.lb_trial.specs.Trials.{IsSoundKept}
use Rattle.change_tests.proofs.run_sections.Given as goal

-- the catalogue stays sound
abbrev pub invariant-loop-section : goal.invariant-loop-section
invariant-loop-section l = IsSoundKept l.trial.catalog

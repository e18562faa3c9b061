use Rattle.std.proofs.Common.{◌≡◌}
use Rattle.lb_trial.proofs.trial.Trial.drop_rows.Given as goal

-- the catalogue stays
abbrev pub invariant-loop-key : goal.invariant-loop-key
invariant-loop-key l = l.self.catalog ≡ l.fn.self.catalog

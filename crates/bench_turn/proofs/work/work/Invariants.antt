use Rattle.std.specs.List.{Contains}
use Rattle.lb_turn.specs.Passes.{IsSplit, own_by}
use Rattle.bench_turn.proofs.work.work.Given as goal

abbrev pub invariant-loop : goal.invariant-loop
invariant-loop g l = IsSplit (λ r. 0) l.turn l.pass × Contains (own_by l.pass) l.began

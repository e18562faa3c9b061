use Rattle.std.specs.List.{Contains}
use Rattle.lb_turn.specs.Passes.{IsSplit, own_by}
use Rattle.turn_tests.proofs.session.work.Given as goal

abbrev pub invariant-loop-number : goal.invariant-loop-number
invariant-loop-number g l = IsSplit (λ t. 0) l.turn l.pass × Contains (own_by l.pass) l.opener

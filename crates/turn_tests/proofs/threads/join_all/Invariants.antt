use Rattle.std.proofs.Common.{◌≡◌, vec_len}
use Rattle.std.specs.List.{All}
use Rattle.lb_turn.specs.Passes.{IsChief, IsSplit, passes_of}
use Rattle.turn_tests.proofs.threads.join_all.Given as goal

abbrev pub invariant-loop-pass : goal.invariant-loop-pass
invariant-loop-pass l = IsChief (λ t. 0) l.turn l.chief × All (IsSplit (λ t. 0) l.turn) l.passes.items × (passes_of l.chief ≡ vec_len l.passes)

abbrev pub decreases-loop-pass : goal.decreases-loop-pass
decreases-loop-pass l = vec_len l.passes

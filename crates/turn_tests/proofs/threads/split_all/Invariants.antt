use Rattle.std.proofs.Common.{◌≡◌, vec_len}
use Rattle.std.specs.List.{All}
use Rattle.lb_turn.specs.Passes.{IsChief, IsSplit, passes_of}
use Rattle.turn_tests.proofs.threads.split_all.Given as goal

abbrev pub invariant-loop : goal.invariant-loop
invariant-loop l = IsChief (λ t. 0) l.turn l.chief × All (IsSplit (λ t. 0) l.turn) l.passes.items × (vec_len l.passes ≡ l.counter) × (passes_of l.chief ≡ l.counter)

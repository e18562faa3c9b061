use Rattle.std.proofs.Common.{◌≡◌, vec_len}
use Rattle.std.specs.List.{All}
use Rattle.lb_turn.specs.Passes.{IsChief, IsSplit, passes_of}
use Rattle.bench_turn.proofs.work.split_all.Given as goal

abbrev pub invariant-loop : goal.invariant-loop
invariant-loop l = IsChief (λ r. 0) l.turn l.chief × All (IsSplit (λ r. 0) l.turn) l.passes.items × (passes_of l.chief ≡ vec_len l.passes)

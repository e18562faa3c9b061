-- What was read so far, and what is still to be read, are the whole.
use Rattle.std.proofs.Common.{◌≡◌, ◌-◌, length}
use Rattle.lb_tok.specs.Kinds.{Kinds}
use Rattle.lb_readt.specs.Readers.{Reader, turns, many}
use Rattle.lb_readt.specs.Answering.{ReadsAs, TellsNext}
use Rattle.lb_readt.proofs.ListLoop.{with_front}
use Rattle.lb_readt.proofs.list.many.Given as goal

abbrev pub invariant-loop : goal.invariant-loop
invariant-loop g l =
    (ks : Kinds) (f : Reader _) → TellsNext ks (goal.G-post g l.begins) → ReadsAs f (goal.F-post g l.item) → with_front l.parts (turns (length l.tokens - l.counter) ks f l.rest) ≡ many ks f l.tokens

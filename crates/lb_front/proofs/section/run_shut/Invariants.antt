use Rattle.std.proofs.Common.{take, map}
use Rattle.lb_split.specs.Scripts.{text_in}
use Rattle.lb_front.specs.Running.{ShutLoops}
use Rattle.lb_front.proofs.section.run_shut.Given as goal

-- the statements so far were answered, and their text was written
abbrev pub invariant-loop-span : goal.invariant-loop-span
invariant-loop-span g l = ShutLoops l.limit (take l.span-index (map (text_in l.bytes) l.statements)) (g.K.Sink.written l.fn.sink) (g.K.Sink.written l.sink) (g.K.Sink.faults l.fn.sink) (g.K.Sink.faults l.sink)

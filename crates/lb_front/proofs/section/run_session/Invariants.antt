use Rattle.std.proofs.Common.{take, map}
use Rattle.lb_split.specs.Scripts.{text_in}
use Rattle.lb_front.specs.Running.{SessionLoops}
use Rattle.lb_front.proofs.section.run_session.Given as goal
use Rattle.lb_front.specs.Headline.{outside_of}

-- the statements so far were answered, and their text was written
abbrev pub invariant-loop-span : goal.invariant-loop-span
invariant-loop-span g l =
    SessionLoops l.fn.book l.book l.fn.session l.session (take l.span-index (map (text_in l.bytes) l.statements))
    (outside_of (g.C.Clock.given l.fn.clock) (g.C.Clock.given l.clock) (g.K.Sink.written l.fn.sink) (g.K.Sink.written l.sink))
    (g.K.Sink.faults l.fn.sink) (g.K.Sink.faults l.sink)

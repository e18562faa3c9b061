use Rattle.std.proofs.Common.{take, map}
use Rattle.lb_front.specs.Scripted.{section_in}
use Rattle.lb_front.specs.Running.{SectionsLoop}
use Rattle.lb_front.proofs.section.run_sections.Given as goal
use Rattle.lb_front.specs.Headline.{outside_of}

-- the sections so far were run, and their text was written
abbrev pub invariant-loop-section : goal.invariant-loop-section
invariant-loop-section g l =
    SectionsLoop l.fn.book l.book (take l.section-index (map (section_in l.bytes) l.sections))
    (outside_of (g.C.Clock.given l.fn.clock) (g.C.Clock.given l.clock) (g.K.Sink.written l.fn.sink) (g.K.Sink.written l.sink))
    (g.K.Sink.faults l.fn.sink) (g.K.Sink.faults l.sink)

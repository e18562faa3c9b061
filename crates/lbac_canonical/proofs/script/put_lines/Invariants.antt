use Rattle.std.proofs.Common.{◌≤◌, map, take}
use Rattle.lb_split.specs.Scripts.{text_in}
use Rattle.lbac_canonical.specs.Lines.{Printed}
use Rattle.lbac_canonical.proofs.script.put_lines.Given as goal

-- the lines so far were written, and the sink's count of faults did not fall
abbrev pub invariant-loop-span : goal.invariant-loop-span
invariant-loop-span g l = record {
  lines : Printed (take l.span-index (map (text_in l.script) l.spans)) (g.K.Sink.written l.fn.sink) (g.K.Sink.written l.sink);
  later : g.K.Sink.faults l.fn.sink ≤ g.K.Sink.faults l.sink;
}

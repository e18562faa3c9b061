use Rattle.std.proofs.Common.{◌≤◌, ◌-◌, vec_len}
use Rattle.lb_wire.specs.Told.{Took}
use Rattle.lb_wire.proofs.transfer.read_all.Given as goal

-- what was read came from the front, and is not too long
abbrev pub invariant-loop-bytes : goal.invariant-loop-bytes
invariant-loop-bytes g l = record {
  took : Took (g.S.Source.left l.fn.source) (g.S.Source.left l.source) l.bytes.items;
  within : vec_len l.bytes ≤ l.most;
  later : g.S.Source.faults l.fn.source ≤ g.S.Source.faults l.source;
}

abbrev pub decreases-loop-bytes : goal.decreases-loop-bytes
decreases-loop-bytes g l = l.most - vec_len l.bytes

use Rattle.std.proofs.Common.{take}
use Rattle.lb_refr.proofs.Named.{NoneNamed}
use Rattle.lb_refr.proofs.find.place_of_table.Given as goal

abbrev pub invariant-loop-i : goal.invariant-loop-i
invariant-loop-i l = NoneNamed l.name (take l.i l.tables)

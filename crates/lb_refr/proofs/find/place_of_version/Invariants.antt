use Rattle.std.proofs.Common.{take}
use Rattle.lb_refr.proofs.Named.{NoneHeld}
use Rattle.lb_refr.proofs.find.place_of_version.Given as goal

abbrev pub invariant-loop-i : goal.invariant-loop-i
invariant-loop-i l = NoneHeld l.name (take l.i l.versions)

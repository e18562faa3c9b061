use Rattle.std.proofs.Common.{◌≡◌, drop}
use Rattle.std.specs.Str.{bytes_eq}
use Rattle.lb_base.specs.Names.{folded}
use Rattle.lb_split.proofs.header.spells.Given as goal

-- the bytes so far are the same
abbrev pub invariant-loop-i : goal.invariant-loop-i
invariant-loop-i l = bytes_eq (folded l.word) l.want ≡ bytes_eq (folded (drop l.i l.word)) (drop l.i l.want)

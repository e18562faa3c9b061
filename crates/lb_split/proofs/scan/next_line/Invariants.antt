use Rattle.std.proofs.Common.{◌≡◌, ◌+◌, drop}
use Rattle.lb_split.specs.Lexing.{next_line}
use Rattle.lb_split.proofs.scan.next_line.Given as goal

-- it is not among the bytes so far
abbrev pub invariant-loop-i : goal.invariant-loop-i
invariant-loop-i l = next_line l.text ≡ l.i + next_line (drop l.i l.text)

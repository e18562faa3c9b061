use Rattle.std.proofs.Common.{◌≡◌, ◌+◌, drop}
use Rattle.lb_split.specs.Lexing.{next_header_line}
use Rattle.lb_split.proofs.scan.next_header_line.Given as goal

-- it is not among the bytes so far
abbrev pub invariant-loop-i : goal.invariant-loop-i
invariant-loop-i l = next_header_line l.text ≡ l.i + next_header_line (drop l.i l.text)

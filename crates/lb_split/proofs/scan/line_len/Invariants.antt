use Rattle.std.proofs.Common.{◌≡◌, ◌+◌, drop}
use Rattle.lb_split.specs.Lexing.{line_len}
use Rattle.lb_split.proofs.scan.line_len.Given as goal

-- it is not among the bytes so far
abbrev pub invariant-loop-i : goal.invariant-loop-i
invariant-loop-i l = line_len l.text ≡ l.i + line_len (drop l.i l.text)

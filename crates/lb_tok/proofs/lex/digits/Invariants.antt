use Rattle.std.proofs.Common.{length}
use Rattle.std.specs.Char.{is_ascii_digit}
use Rattle.std.specs.Str.{IsUtf8}
use Rattle.lb_tok.proofs.Runs.{ValuesOn}
use Rattle.lb_tok.proofs.lex.digits.Given as goal

abbrev pub invariant-loop-b : goal.invariant-loop-b
invariant-loop-b l = record { text : IsUtf8 l.rest; found : ValuesOn is_ascii_digit l.value l.rest l.text }

abbrev pub decreases-loop-b : goal.decreases-loop-b
decreases-loop-b l = length l.rest

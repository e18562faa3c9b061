use Rattle.std.proofs.Common.{◌≡◌, length}
use Rattle.lb_tok.specs.Scanning.{past_gap}
use Rattle.std.specs.Str.{IsUtf8}
use Rattle.lb_tok.proofs.lex.after_gap.Given as goal

abbrev pub invariant-loop-after : goal.invariant-loop-after
invariant-loop-after l = record { text : IsUtf8 l.rest; found : past_gap l.rest ≡ past_gap l.text }

abbrev pub decreases-loop-after : goal.decreases-loop-after
decreases-loop-after l = length l.rest

use Rattle.std.proofs.Common.{length}
use Rattle.lb_tok.proofs.Texts.{Tracked}
use Rattle.std.specs.Str.{IsUtf8}
use Rattle.lb_tok.proofs.lex.scan.Given as goal

abbrev pub invariant-loop-rest : goal.invariant-loop-rest
invariant-loop-rest l = record { text : IsUtf8 l.rest; found : Tracked l.text l.tokens l.spans l.rest }

abbrev pub decreases-loop-rest : goal.decreases-loop-rest
decreases-loop-rest l = length l.rest

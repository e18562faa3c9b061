use Rattle.std.proofs.Common.{length}
use Rattle.std.specs.String.{string_bytes}
use Rattle.lb_base.specs.Names.{is_name_byte}
use Rattle.lb_tok.proofs.Runs.{RunsOn}
use Rattle.std.specs.Str.{IsUtf8}
use Rattle.lb_tok.proofs.lex.word_run.Given as goal

abbrev pub invariant-loop-b : goal.invariant-loop-b
invariant-loop-b l = record { text : IsUtf8 l.rest; found : RunsOn is_name_byte (string_bytes l.word) l.rest l.text }

abbrev pub decreases-loop-b : goal.decreases-loop-b
decreases-loop-b l = length l.rest

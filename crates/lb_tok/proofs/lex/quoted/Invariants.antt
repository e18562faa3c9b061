use Rattle.std.proofs.Common.{◌≡◌, [], length}
use Rattle.std.specs.String.{string_bytes}
use Rattle.lb_tok.specs.Scanning.{quoted_from}
use Rattle.std.specs.Str.{IsUtf8}
use Rattle.lb_tok.proofs.lex.quoted.Given as goal

abbrev pub invariant-loop-piece : goal.invariant-loop-piece
invariant-loop-piece l = record { text : IsUtf8 l.rest; found : quoted_from (string_bytes l.content) l.rest ≡ quoted_from [] l.text }

abbrev pub decreases-loop-piece : goal.decreases-loop-piece
decreases-loop-piece l = length l.rest

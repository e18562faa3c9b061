-- The parts so far, and what the pieces still to be read go on to, are the whole.
use Rattle.std.proofs.Common.{◌≡◌, ◌-◌, length}
use Rattle.lb_tok.specs.declared.kind.Kind.TheVariants as kinds
use Rattle.lb_tok.specs.Kinds.{only}
use Rattle.lb_readt.specs.Readers.{turns, after}
use Rattle.lb_readd.specs.Defining.{piece_at, parts_on}
use Rattle.lb_readd.specs.Pieces.{all_parts}
use Rattle.lb_readd.proofs.Folded.{with_value}
use Rattle.lb_readd.proofs.parts.pieces.Given as goal

abbrev pub invariant-loop : goal.invariant-loop
invariant-loop l = with_value (all_parts l.parts) (turns (length l.tokens - l.counter) (only kinds.Comma) (after kinds.Comma piece_at) l.rest) ≡ parts_on (l.fn.component, l.fn.element) l.tokens

use Rattle.std.proofs.Common.{◌≡◌, ◌≤◌, ◌++◌, length}
use Rattle.lb_split.specs.Pieces.{pieces_from}
use Rattle.lb_split.specs.Scripts.{section_statements}
use Rattle.lb_split.specs.Sections.{from_header}
use Rattle.lb_split.proofs.script.statements.Given as goal

-- the statements so far stand before those that follow
abbrev pub invariant-pieces : goal.invariant-pieces
invariant-pieces l = record {
  within : l.at ≤ length l.bytes;
  before : section_statements (pieces_from l.bytes l.fn.from) ≡ l.statements ++ section_statements (pieces_from l.bytes l.at);
  next : from_header (pieces_from l.bytes l.fn.from) ≡ from_header (pieces_from l.bytes l.at);
}

abbrev pub decreases-pieces : goal.decreases-pieces
decreases-pieces l = length (pieces_from l.bytes l.at)

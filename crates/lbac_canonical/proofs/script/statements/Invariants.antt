use Rattle.std.proofs.Common.{◌≡◌, ◌≤◌, ◌++◌, length}
use Rattle.lb_split.specs.Pieces.{pieces_of, pieces_from}
use Rattle.lbac_canonical.specs.Lines.{all_statements}
use Rattle.lbac_canonical.proofs.script.statements.Given as goal

-- the statements so far stand before those that follow
abbrev pub invariant-pieces : goal.invariant-pieces
invariant-pieces l = record {
  within : l.at ≤ length l.script;
  before : all_statements (pieces_of l.script) ≡ l.statements ++ all_statements (pieces_from l.script l.at);
}

abbrev pub decreases-pieces : goal.decreases-pieces
decreases-pieces l = length (pieces_from l.script l.at)

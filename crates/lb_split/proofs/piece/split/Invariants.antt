use Rattle.std.proofs.Common.{◌≡◌, ◌≤◌, ◌-◌, length}
use Rattle.lb_split.specs.Pieces.{pieces_from}
use Rattle.lb_split.proofs.piece.split.Given as goal

-- only blank statements stand before
abbrev pub invariant-blanks : goal.invariant-blanks
invariant-blanks l = record { behind : l.fn.from ≤ l.at; within : l.at ≤ length l.bytes; same : pieces_from l.bytes l.fn.from ≡ pieces_from l.bytes l.at }

abbrev pub decreases-blanks : goal.decreases-blanks
decreases-blanks l = length l.bytes - l.at

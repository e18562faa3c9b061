-- The brackets that may still open, then the place on the way to the next level.
use Rattle.std.proofs.Common.{◌+◌, ◌*◌}
use Rattle.lb_readq.proofs.level.+levels.Given as goal

abbrev pub decreases-below : goal.decreases-below
decreases-below l = 3 * l.depth

abbrev pub decreases-level-read_through : goal.decreases-level-read_through
decreases-level-read_through l = 3 * l.depth + 1

abbrev pub decreases-level : goal.decreases-level
decreases-level l = 3 * l.depth + 2

use Rattle.std.proofs.Common.{◌≡◌, take}
use Rattle.lb_refr.proofs.query.all_rows.Given as goal

abbrev pub invariant-loop-row : goal.invariant-loop-row
invariant-loop-row l = l.seen ≡ take l.row-index l.rows

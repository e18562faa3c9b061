use Rattle.std.proofs.Common.{◌≡◌, take, map}
use Rattle.lb_model.specs.Answer.{literal_value}
use Rattle.lb_refr.proofs.insert.literal_rows.Given as goal

abbrev pub invariant-loop-row : goal.invariant-loop-row
invariant-loop-row l = l.made ≡ map (map literal_value) (take l.row-index l.rows)

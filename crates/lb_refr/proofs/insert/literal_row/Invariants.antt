use Rattle.std.proofs.Common.{◌≡◌, take, map}
use Rattle.lb_model.specs.Answer.{literal_value}
use Rattle.lb_refr.proofs.insert.literal_row.Given as goal

abbrev pub invariant-loop-expr : goal.invariant-loop-expr
invariant-loop-expr l = l.made ≡ map literal_value (take l.expr-index l.row)

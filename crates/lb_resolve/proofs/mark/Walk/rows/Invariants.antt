use Rattle.std.proofs.Common.{◌≡◌, drop}
use Rattle.lb_resolve.specs.Parts as parts
use Rattle.lb_resolve.proofs.mark.Walk.rows.Given as goal

abbrev pub invariant-loop-row : goal.invariant-loop-row
invariant-loop-row l = parts.of_all (parts.of_all (parts.in_expr l.self)) l.rows l.sight ≡ parts.of_all (parts.of_all (parts.in_expr l.self)) (drop l.row-index l.rows) l.sight

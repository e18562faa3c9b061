use Rattle.std.proofs.Common.{◌≡◌, drop}
use Rattle.std.specs.Prelude.{not}
use Rattle.std.specs.List.{list_any}
use Rattle.lb_model.specs.NotYet.{fits}
use Rattle.lb_refr.proofs.limits.has_unfit_row.Given as goal

abbrev pub invariant-loop-row : goal.invariant-loop-row
invariant-loop-row l = list_any (λ row. not (fits l.columns row)) l.rows ≡ list_any (λ row. not (fits l.columns row)) (drop l.row-index l.rows)

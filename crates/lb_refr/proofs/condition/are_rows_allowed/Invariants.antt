use Rattle.std.proofs.Common.{◌≡◌, drop}
use Rattle.std.specs.List.{list_all}
use Rattle.lb_model.specs.Visible.{is_allowed}
use Rattle.lb_refr.proofs.condition.are_rows_allowed.Given as goal

abbrev pub invariant-loop-row : goal.invariant-loop-row
invariant-loop-row l = list_all (is_allowed l.user l.table) l.rows ≡ list_all (is_allowed l.user l.table) (drop l.row-index l.rows)

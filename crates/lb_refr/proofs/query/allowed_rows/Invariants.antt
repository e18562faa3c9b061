use Rattle.std.proofs.Common.{◌≡◌, ◌++◌, drop}
use Rattle.std.specs.List.{filter}
use Rattle.lb_model.specs.Visible.{is_allowed}
use Rattle.lb_refr.proofs.query.allowed_rows.Given as goal

abbrev pub invariant-loop-row : goal.invariant-loop-row
invariant-loop-row l = filter (is_allowed l.user l.table) l.rows ≡ l.seen ++ filter (is_allowed l.user l.table) (drop l.row-index l.rows)

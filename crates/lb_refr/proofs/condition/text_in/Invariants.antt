use Rattle.std.proofs.Common.{◌≡◌, drop}
use Rattle.lb_model.specs.Evaluation.{frame_of, column_value}
use Rattle.lb_refr.proofs.condition.text_in.Given as goal

abbrev pub invariant-loop-i : goal.invariant-loop-i
invariant-loop-i l = column_value l.column (frame_of l.correlation l.columns l.row) ≡ column_value l.column (frame_of l.correlation (drop l.i l.columns) (drop l.i l.row))

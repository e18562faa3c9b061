use Rattle.std.proofs.Common.{◌≡◌, ◌++◌, map, take, string_bytes}
use Rattle.std.specs.Prelude.{codes}
use Rattle.lb_model.specs.Out.{joined_by, value_text}
use Rattle.lb_block.proofs.row.push_values.Given as goal

abbrev pub invariant-loop-place : goal.invariant-loop-place
invariant-loop-place l = string_bytes l.out ≡ string_bytes l.initial.out ++ joined_by (codes ", ") (map value_text (take l.place l.row))

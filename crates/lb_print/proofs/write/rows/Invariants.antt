use Rattle.std.proofs.Common.{◌≡◌, take, map}
use Rattle.lb_tok.specs.Spacing.{laid}
use Rattle.lb_tok.specs.QueryPieces.{listed}
use Rattle.lb_tok.specs.Canonical.{row_pieces}
use Rattle.lb_print.proofs.write.rows.Given as goal

abbrev pub invariant-loop-place : goal.invariant-loop-place
invariant-loop-place l = l.page ≡ laid l.initial.page (listed (map row_pieces (take l.place l.rows)))

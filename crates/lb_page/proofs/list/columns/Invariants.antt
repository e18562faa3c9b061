use Rattle.std.proofs.Common.{◌≡◌, take, map}
use Rattle.lb_tok.specs.Spacing.{laid}
use Rattle.lb_tok.specs.QueryPieces.{listed}
use Rattle.lb_tok.specs.QueryPieces.{column_pieces}
use Rattle.lb_page.proofs.list.columns.Given as goal

abbrev pub invariant-loop-place : goal.invariant-loop-place
invariant-loop-place l = l.page ≡ laid l.initial.page (listed (map column_pieces (take l.place l.columns)))

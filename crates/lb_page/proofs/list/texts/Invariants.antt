use Rattle.std.proofs.Common.{◌≡◌, take, map}
use Rattle.lb_tok.specs.Spacing.{laid}
use Rattle.lb_tok.specs.QueryPieces.{listed}
use Rattle.lb_tok.specs.QueryPieces.{text_pieces}
use Rattle.lb_page.proofs.list.texts.Given as goal

abbrev pub invariant-loop-place : goal.invariant-loop-place
invariant-loop-place l = l.page ≡ laid l.initial.page (listed (map text_pieces (take l.place l.texts)))

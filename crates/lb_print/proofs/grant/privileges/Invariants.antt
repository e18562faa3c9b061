use Rattle.std.proofs.Common.{◌≡◌, take, map}
use Rattle.lb_tok.specs.Spacing.{laid}
use Rattle.lb_tok.specs.QueryPieces.{listed}
use Rattle.lb_tok.specs.ChangePieces.{privilege_pieces}
use Rattle.lb_print.proofs.grant.privileges.Given as goal

abbrev pub invariant-loop-place : goal.invariant-loop-place
invariant-loop-place l = l.page ≡ laid l.initial.page (listed (map privilege_pieces (take l.place l.list)))

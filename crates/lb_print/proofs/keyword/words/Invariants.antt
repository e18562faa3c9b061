use Rattle.std.proofs.Common.{◌≡◌, take, map}
use Rattle.lb_tok.specs.Spacing.{laid, mark}
use Rattle.lb_print.proofs.keyword.words.Given as goal

abbrev pub invariant-loop-kind : goal.invariant-loop-kind
invariant-loop-kind l = l.page ≡ laid l.initial.page (map mark (take l.kind-index l.kinds))

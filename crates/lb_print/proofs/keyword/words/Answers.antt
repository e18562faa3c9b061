use Rattle.std.proofs.Common.{rules}
use Rattle.lb_tok.specs.Spacing.{mark}
use Rattle.lb_page.proofs.Loops.{map_more}
use Rattle.lb_print.proofs.keyword.words.Goals as goal

pub loop-kind-preserved : goal.loop-kind-preserved
loop-kind-preserved c =
    map_more mark c.args.page.now c.loop-kind.page c.mark.new.self c.args.kinds.now c.loop-kind.kind-index _ c.loop-kind-test.true (search rules) c.loop-kind.invariant (c.in_ok-mark.ensures)

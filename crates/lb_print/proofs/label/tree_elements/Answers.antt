use Rattle.lb_tok.specs.ChangePieces.{under_pieces}
use Rattle.lb_page.proofs.Loops.{flat_more}
use Rattle.lb_print.proofs.label.tree_elements.Goals as goal

pub loop-part-preserved : goal.loop-part-preserved
loop-part-preserved c =
    flat_more under_pieces c.args.page.now c.loop-part.page _ c.args.list.now c.loop-part.part-index c.part-item.result c.loop-part-test.true c.part-item.is c.loop-part.invariant c.in_ok-tree_element.ensures

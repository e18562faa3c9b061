use Rattle.std.proofs.Common.{◌∙◌, ap}
use Rattle.lb_tok.specs.declared.kind.Kind.TheVariants as kinds
use Rattle.lb_tok.specs.Spacing.{Layout, lay, literal}
use Rattle.lb_tok.specs.QueryPieces.{text_pieces}
use Rattle.lb_page.proofs.Loops.{behind_more}
use Rattle.lb_page.proofs.list.more_texts.Goals as goal

pub loop-text-preserved : goal.loop-text-preserved
loop-text-preserved c =
    behind_more kinds.Comma text_pieces c.args.page.now c.loop-text.page _ c.args.texts.now c.loop-text.text-index c.text-item.result c.loop-text-test.true c.text-item.is c.loop-text.invariant (c.in_ok-literal.ensures ∙ ap (λ (l : Layout). lay l (literal c.text-item.result)) c.in_ok-mark.ensures)

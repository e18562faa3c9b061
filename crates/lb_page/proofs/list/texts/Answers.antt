use Rattle.lb_tok.specs.declared.kind.Kind.TheVariants as kinds
use Rattle.lb_tok.specs.QueryPieces.{text_pieces}
use Rattle.lb_page.proofs.Loops.{separated_more}
use Rattle.lb_page.proofs.list.texts.Goals as goal

pub loop-place-preserved : goal.loop-place-preserved
loop-place-preserved c =
    separated_more kinds.Comma text_pieces c.args.page.now c.loop-place.page c.separator.new.page _ c.args.texts.now c.loop-place.place c.index-texts-place.result c.loop-place-test.true c.index-texts-place.is c.loop-place.invariant c.in_ok-separator.ensures c.in_ok-literal.ensures

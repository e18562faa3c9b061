use Rattle.lb_tok.specs.declared.kind.Kind.TheVariants as kinds
use Rattle.lb_tok.specs.QueryPieces.{column_pieces}
use Rattle.lb_page.proofs.Loops.{separated_more}
use Rattle.lb_page.proofs.list.columns.Goals as goal

pub loop-place-preserved : goal.loop-place-preserved
loop-place-preserved c =
    separated_more kinds.Comma column_pieces c.args.page.now c.loop-place.page c.separator.new.page _ c.args.columns.now c.loop-place.place c.index-columns-place.result c.loop-place-test.true c.index-columns-place.is c.loop-place.invariant c.in_ok-separator.ensures c.in_ok-column.ensures

use Rattle.lb_tok.specs.declared.kind.Kind.TheVariants as kinds
use Rattle.lb_tok.specs.QueryPieces.{name_pieces}
use Rattle.lb_page.proofs.Loops.{separated_more}
use Rattle.lb_page.proofs.list.names.Goals as goal

pub loop-place-preserved : goal.loop-place-preserved
loop-place-preserved c =
    separated_more kinds.Comma name_pieces c.args.page.now c.loop-place.page c.separator.new.page _ c.args.names.now c.loop-place.place c.index-names-place.result c.loop-place-test.true c.index-names-place.is c.loop-place.invariant c.in_ok-separator.ensures c.in_ok-name.ensures

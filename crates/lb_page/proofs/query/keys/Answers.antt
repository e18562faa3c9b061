use Rattle.lb_tok.specs.declared.kind.Kind.TheVariants as kinds
use Rattle.lb_tok.specs.QueryPieces.{key_pieces}
use Rattle.lb_page.proofs.Loops.{separated_more}
use Rattle.lb_page.proofs.query.keys.Goals as goal

pub loop-place-preserved : goal.loop-place-preserved
loop-place-preserved c =
    separated_more kinds.Comma key_pieces c.args.page.now c.loop-place.page c.separator.new.page _ c.args.keys.now c.loop-place.place c.index-keys-place.result c.loop-place-test.true c.index-keys-place.is c.loop-place.invariant c.in_ok-separator.ensures c.in_ok-key.ensures

use Rattle.lb_rows.proofs.Edited.{kept_from, kept_is_edit, next_chunk, room_for_chunk, stands_at}
use Rattle.lb_rows.proofs.builder.Builder.share_all.Goals as goal

pub share-requires-clause-few : goal.share-requires-clause-few
share-requires-clause-few c = (stands_at c.args.chunks.now c.loop-chunk.chunk-index c.chunk-item.result c.requires.placed c.loop-chunk-test.true c.chunk-item.is).few

pub share-requires-clause-fits : goal.share-requires-clause-fits
share-requires-clause-fits c =
    let stands = stands_at c.args.chunks.now c.loop-chunk.chunk-index c.chunk-item.result c.requires.placed c.loop-chunk-test.true c.chunk-item.is in
    room_for_chunk kept_from kept_is_edit c.args.self.now c.loop-chunk.self c.args.chunks.now c.loop-chunk.chunk-index c.chunk-item.result stands c.requires.fits c.loop-chunk.invariant

pub loop-chunk-preserved : goal.loop-chunk-preserved
loop-chunk-preserved c =
    let stands = stands_at c.args.chunks.now c.loop-chunk.chunk-index c.chunk-item.result c.requires.placed c.loop-chunk-test.true c.chunk-item.is in
    next_chunk kept_from kept_is_edit c.args.self.now c.loop-chunk.self c.share.new.self c.args.chunks.now c.loop-chunk.chunk-index c.chunk-item.result stands c.loop-chunk.invariant c.in_ok-share.ensures

use Rattle.lb_rows.specs.Edits.{rows_changed_from}
use Rattle.lb_rows.proofs.Edited.{changed_is_edit, inside_all, next_chunk, room_for_chunk, stands_at}
use Rattle.lb_rows.proofs.builder.Builder.change_all.Goals as goal

pub change-requires-clause-few : goal.change-requires-clause-few
change-requires-clause-few c = (stands_at c.args.chunks.now c.loop-chunk.chunk-index c.chunk-item.result c.requires.placed c.loop-chunk-test.true c.chunk-item.is).few

pub change-requires-clause-fits : goal.change-requires-clause-fits
change-requires-clause-fits c =
    let stands = stands_at c.args.chunks.now c.loop-chunk.chunk-index c.chunk-item.result c.requires.placed c.loop-chunk-test.true c.chunk-item.is in
    room_for_chunk (rows_changed_from c.args.changes.now) (changed_is_edit c.args.changes.now) c.args.self.now c.loop-chunk.self c.args.chunks.now c.loop-chunk.chunk-index c.chunk-item.result stands c.requires.fits c.loop-chunk.invariant

pub loop-chunk-preserved : goal.loop-chunk-preserved
loop-chunk-preserved c =
    let stands = stands_at c.args.chunks.now c.loop-chunk.chunk-index c.chunk-item.result c.requires.placed c.loop-chunk-test.true c.chunk-item.is in
    next_chunk (rows_changed_from c.args.changes.now) (changed_is_edit c.args.changes.now) c.args.self.now c.loop-chunk.self c.change.new.self c.args.chunks.now c.loop-chunk.chunk-index c.chunk-item.result stands c.loop-chunk.invariant c.in_ok-change.ensures

pub change-requires-clause-inside : goal.change-requires-clause-inside
change-requires-clause-inside c =
    let stands = stands_at c.args.chunks.now c.loop-chunk.chunk-index c.chunk-item.result c.requires.placed c.loop-chunk-test.true c.chunk-item.is in
    inside_all c.args.chunks.now c.loop-chunk.chunk-index c.chunk-item.result stands c.requires.inside

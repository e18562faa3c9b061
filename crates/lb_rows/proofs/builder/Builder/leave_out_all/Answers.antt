use Rattle.lb_rows.specs.Edits.{rows_remaining_from}
use Rattle.lb_rows.proofs.Edited.{left_is_edit, inside_all, next_chunk, room_for_chunk, stands_at}
use Rattle.lb_rows.proofs.builder.Builder.leave_out_all.Goals as goal

pub leave_out-requires-clause-few : goal.leave_out-requires-clause-few
leave_out-requires-clause-few c = (stands_at c.args.chunks.now c.loop-chunk.chunk-index c.chunk-item.result c.requires.placed c.loop-chunk-test.true c.chunk-item.is).few

pub leave_out-requires-clause-fits : goal.leave_out-requires-clause-fits
leave_out-requires-clause-fits c =
    let stands = stands_at c.args.chunks.now c.loop-chunk.chunk-index c.chunk-item.result c.requires.placed c.loop-chunk-test.true c.chunk-item.is in
    room_for_chunk (rows_remaining_from c.args.places.now) (left_is_edit c.args.places.now) c.args.self.now c.loop-chunk.self c.args.chunks.now c.loop-chunk.chunk-index c.chunk-item.result stands c.requires.fits c.loop-chunk.invariant

pub loop-chunk-preserved : goal.loop-chunk-preserved
loop-chunk-preserved c =
    let stands = stands_at c.args.chunks.now c.loop-chunk.chunk-index c.chunk-item.result c.requires.placed c.loop-chunk-test.true c.chunk-item.is in
    next_chunk (rows_remaining_from c.args.places.now) (left_is_edit c.args.places.now) c.args.self.now c.loop-chunk.self c.leave_out.new.self c.args.chunks.now c.loop-chunk.chunk-index c.chunk-item.result stands c.loop-chunk.invariant c.in_ok-leave_out.ensures

pub leave_out-requires-clause-inside : goal.leave_out-requires-clause-inside
leave_out-requires-clause-inside c =
    let stands = stands_at c.args.chunks.now c.loop-chunk.chunk-index c.chunk-item.result c.requires.placed c.loop-chunk-test.true c.chunk-item.is in
    inside_all c.args.chunks.now c.loop-chunk.chunk-index c.chunk-item.result stands c.requires.inside

use Rattle.std.proofs.Common.{◌≡◌, ◌+◌, arith}
use Rattle.lb_rows.specs.Edits.{rows_remaining_from}
use Rattle.lb_rows.proofs.Edited.{left_is_edit, next_row, room_for_row}
use Rattle.lb_rows.proofs.builder.Builder.extend_left.Goals as goal

pub leave-requires-clause-fits : goal.leave-requires-clause-fits
leave-requires-clause-fits c = room_for_row (rows_remaining_from c.args.places.now) (left_is_edit c.args.places.now) c.args.self.now c.loop-row.self c.args.rows.now c.args.first c.loop-row.row-index c.loop-row-test.true c.requires.fits c.loop-row.invariant.1

pub loop-row-preserved : goal.loop-row-preserved
loop-row-preserved c =
    let there : c.loop-row.place ≡ c.args.first + c.loop-row.row-index = c.loop-row.invariant.0 in (
      omega arith,
      next_row (rows_remaining_from c.args.places.now) (left_is_edit c.args.places.now) c.args.self.now c.loop-row.self c.leave.new.self c.args.rows.now c.args.first c.loop-row.row-index c.loop-row.place c.row-item.result
          c.loop-row-test.true c.row-item.is there c.loop-row.invariant.1 c.in_ok-leave.ensures,
    )

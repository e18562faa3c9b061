use Rattle.std.proofs.Common.{◌≡◌, ◌∙◌, ◌+◌, ◌++◌, ◌∷◌, [], ap, arith, List}
use Rattle.lb_base.specs.declared.value.Value.{Value}
use Rattle.lb_rows.specs.Edits.{rows_changed_from}
use Rattle.lb_rows.proofs.Edited.{changed_is_edit, next_row, room_for_row}
use Rattle.lb_rows.proofs.builder.Builder.extend_changed.Goals as goal

pub push-requires : goal.push-requires
push-requires c = record { fits = room_for_row (rows_changed_from c.args.changes.now) (changed_is_edit c.args.changes.now) c.args.self.now c.loop-row.self c.args.rows.now c.args.first c.loop-row.row-index c.loop-row-test.true c.requires.fits c.loop-row.invariant.1 }

pub loop-row-preserved : goal.loop-row-preserved
loop-row-preserved c =
    let there : c.loop-row.place ≡ c.args.first + c.loop-row.row-index = c.loop-row.invariant.0 in (
      omega arith,
      next_row (rows_changed_from c.args.changes.now) (changed_is_edit c.args.changes.now) c.args.self.now c.loop-row.self c.push.new.self c.args.rows.now c.args.first c.loop-row.row-index c.loop-row.place c.row-item.result
          c.loop-row-test.true c.row-item.is there c.loop-row.invariant.1
          (c.in_ok-push.ensures ∙ ap (λ (r : List Value). c.loop-row.self ++ r ∷ []) c.in_ok-row_after.ensures),
    )

use Rattle.std.proofs.Common.{◌≡◌, ◌∙◌, sym, ap, subst, length, List, ◌+◌, ◌<◌, ◌^◌, IfOk}
use Rattle.std.specs.Arc.{arc_value}
use Rattle.lb_base.specs.declared.value.Value.{Value}
use Rattle.lb_rows.specs.Tables.{Version}
use Rattle.lb_rows.specs.Edits.{rows_remaining, rows_remaining_from}
use Rattle.lb_rows.proofs.Edited.{left_is_edit, room_behind, all_edited}
use Rattle.lb_rows.proofs.version.TableVersion.without.Goals as goal

pub finish_left-requires-clause-inside : goal.finish_left-requires-clause-inside
finish_left-requires-clause-inside c = subst (λ n. n + length (arc_value c.self.inside.last) < 2 ^ 32) (sym (c.len.ensures ∙ ap length c.deref-2.ensures)) c.self.invariant.1

pub finish_left-requires-clause-fits : goal.finish_left-requires-clause-fits
finish_left-requires-clause-fits c =
    room_behind (rows_remaining_from c.args.places.now) (left_is_edit c.args.places.now) c.empty-builder.result c.leave_out_all.new.self _ (arc_value c.self.inside.front) (arc_value c.self.inside.last)
    c.empty-builder.ensures c.in_ok-leave_out_all.ensures (c.as_slice.ensures.rows ∙ c.deref.ensures) c.self.invariant.1

pub returns : goal.returns
returns c =
    let edited = all_edited (rows_remaining_from c.args.places.now) (left_is_edit c.args.places.now) c.empty-builder.result c.leave_out_all.new.self _ (arc_value c.self.inside.front) (arc_value c.self.inside.last) c.len.result
    c.empty-builder.ensures c.in_ok-leave_out_all.ensures (c.as_slice.ensures.rows ∙ c.deref.ensures) (c.len.ensures ∙ ap length c.deref-2.ensures) in
    subst (λ (v : Version). IfOk c.finish_left.result (λ x. arc_value x ≡ record { name = v.name; rows = rows_remaining c.args.places.now v.rows })) c.self.view_is
    (subst (λ (rows : List (List Value)). IfOk c.finish_left.result (λ x. arc_value x ≡ record { name = c.self.inside.name; rows = rows })) edited c.finish_left.ensures)

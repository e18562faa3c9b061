use Rattle.std.proofs.Common.{◌≡◌, ◌∙◌, sym, ap, subst, length, List, ◌+◌, ◌<◌, ◌^◌, IfOk}
use Rattle.std.specs.Arc.{arc_value}
use Rattle.lb_base.specs.declared.value.Value.{Value}
use Rattle.lb_rows.specs.Tables.{Version}
use Rattle.lb_rows.specs.Edits.{rows_changed, rows_changed_from}
use Rattle.lb_rows.proofs.Edited.{changed_is_edit, room_behind, all_edited}
use Rattle.lb_rows.proofs.version.TableVersion.with_changed.Goals as goal

pub finish_changed-requires-clause-inside : goal.finish_changed-requires-clause-inside
finish_changed-requires-clause-inside c = subst (λ n. n + length (arc_value c.self.inside.last) < 2 ^ 32) (sym (c.len.ensures ∙ ap length c.deref-2.ensures)) c.self.invariant.1

pub finish_changed-requires-clause-fits : goal.finish_changed-requires-clause-fits
finish_changed-requires-clause-fits c =
    room_behind (rows_changed_from c.args.changes.now) (changed_is_edit c.args.changes.now) c.empty-builder.result c.change_all.new.self _ (arc_value c.self.inside.front) (arc_value c.self.inside.last)
    c.empty-builder.ensures c.in_ok-change_all.ensures (c.as_slice.ensures.rows ∙ c.deref.ensures) c.self.invariant.1

pub returns : goal.returns
returns c =
    let edited = all_edited (rows_changed_from c.args.changes.now) (changed_is_edit c.args.changes.now) c.empty-builder.result c.change_all.new.self _ (arc_value c.self.inside.front) (arc_value c.self.inside.last) c.len.result
    c.empty-builder.ensures c.in_ok-change_all.ensures (c.as_slice.ensures.rows ∙ c.deref.ensures) (c.len.ensures ∙ ap length c.deref-2.ensures) in
    subst (λ (v : Version). IfOk c.finish_changed.result (λ x. arc_value x ≡ record { name = v.name; rows = rows_changed c.args.changes.now v.rows })) c.self.view_is
    (subst (λ (rows : List (List Value)). IfOk c.finish_changed.result (λ x. arc_value x ≡ record { name = c.self.inside.name; rows = rows })) edited c.finish_changed.ensures)

use Rattle.std.proofs.Common.{◌∙◌, sym, ap, refl, length, not, ◌+◌}
use Rattle.std.specs.Arc.{arc_value}
use Rattle.lb_rows.specs.Edits.{rows_changed_from}
use Rattle.lb_rows.proofs.Edited.{changed_is_edit, room_for_all}
use Rattle.lb_rows.proofs.Untouched.{none_there, unchanged}
use Rattle.lb_rows.proofs.version.finish_changed.Goals as goal

pub returns-then-is_none : goal.returns-then-is_none
returns-then-is_none c =
    let none = none_there c.change_within.result (c.is_none.ensures ∙ ap not c.if-is_none.true) ∙ c.change_within.ensures in
    rw (unchanged c.args.changes.now c.args.first (c.args.first + c.len.result) c.len.result (arc_value c.args.last.now) none refl (c.len.ensures ∙ ap length c.deref.ensures)) c.finish_with.ensures

pub finish-requires : goal.finish-requires
finish-requires c =
    room_for_all (rows_changed_from c.args.changes.now) (changed_is_edit c.args.changes.now) c.args.builder c.extend_changed.new.self c.as_slice.result.now (arc_value c.args.last.now) c.args.first c.in_ok-extend_changed.ensures (c.as_slice.ensures ∙ c.deref-2.ensures) c.requires.fits

pub returns : goal.returns
returns c = rw (sym (c.as_slice.ensures ∙ c.deref-2.ensures), sym c.in_ok-extend_changed.ensures) c.finish.ensures

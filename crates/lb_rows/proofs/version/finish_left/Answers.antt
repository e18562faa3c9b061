use Rattle.std.proofs.Common.{◌∙◌, sym, ap, refl, length, ◌+◌}
use Rattle.std.specs.Arc.{arc_value}
use Rattle.lb_rows.specs.Edits.{rows_remaining_from}
use Rattle.lb_rows.proofs.Edited.{left_is_edit, room_for_all}
use Rattle.lb_rows.proofs.Untouched.{all_left}
use Rattle.lb_rows.proofs.version.finish_left.Goals as goal

pub returns-then-not-has_place_within : goal.returns-then-not-has_place_within
returns-then-not-has_place_within c =
    rw (all_left c.args.places.now c.args.first (c.args.first + c.len.result) c.len.result (arc_value c.args.last.now) (sym c.has_place_within.ensures ∙ c.if-not-has_place_within.true) refl (c.len.ensures ∙ ap length c.deref.ensures)) c.finish_with.ensures

pub finish-requires : goal.finish-requires
finish-requires c =
    room_for_all (rows_remaining_from c.args.places.now) (left_is_edit c.args.places.now) c.args.builder c.extend_left.new.self c.as_slice.result.now (arc_value c.args.last.now) c.args.first c.in_ok-extend_left.ensures (c.as_slice.ensures ∙ c.deref-2.ensures) c.requires.fits

pub returns : goal.returns
returns c = rw (sym (c.as_slice.ensures ∙ c.deref-2.ensures), sym c.in_ok-extend_left.ensures) c.finish.ensures

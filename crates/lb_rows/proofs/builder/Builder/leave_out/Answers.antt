use Rattle.std.proofs.Common.{◌∙◌, sym, ap, length, refl, ◌+◌}
use Rattle.std.specs.Arc.{arc_value}
use Rattle.lb_rows.proofs.Untouched.{all_left}
use Rattle.lb_rows.proofs.builder.Builder.leave_out.Goals as goal

pub returns-else-has_place_within : goal.returns-else-has_place_within
returns-else-has_place_within c =
    rw (all_left c.args.places.now c.args.first (c.args.first + c.len.result) c.len.result (arc_value c.args.rows.now) (sym c.if-has_place_within.ensures) refl (c.len.ensures ∙ ap length c.deref.ensures)) c.share.ensures

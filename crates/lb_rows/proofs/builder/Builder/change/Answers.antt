use Rattle.std.proofs.Common.{◌∙◌, sym, ap, length, refl, ◌+◌}
use Rattle.std.specs.Option.{option_copied}
use Rattle.std.specs.Arc.{arc_value}
use Rattle.lb_rows.proofs.Untouched.{unchanged}
use Rattle.lb_rows.proofs.builder.Builder.change.Goals as goal

pub returns-in-None : goal.returns-in-None
returns-in-None c =
    let none = sym (ap option_copied c.in-None.is) ∙ c.change_within.ensures in
    rw (unchanged c.args.changes.now c.args.first (c.args.first + c.len.result) c.len.result (arc_value c.args.rows.now) none refl (c.len.ensures ∙ ap length c.deref.ensures)) c.share.ensures

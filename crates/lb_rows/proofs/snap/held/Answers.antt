use Rattle.std.proofs.Common.{◌∙◌, sym, ap}
use Rattle.std.specs.Option.{option_copied}
use Rattle.lb_rows.proofs.There.{held_at, held_in}
use Rattle.lb_rows.proofs.snap.held.Goals as goal

pub returns-in-Some : goal.returns-in-Some
returns-in-Some c = c.as_ref.ensures.value ∙ sym (held_at c.args.versions.now c.requires c.args.place ∙ ap held_in (sym c.item_at.ensures ∙ ap option_copied c.in-Some.is))

pub returns-in-None : goal.returns-in-None
returns-in-None c = sym (held_at c.args.versions.now c.requires c.args.place ∙ ap held_in (sym c.item_at.ensures ∙ ap option_copied c.in-None.is))

use Rattle.std.proofs.Common.{ap, ◌∙◌}
use Rattle.std.proofs.Math.Facts.{to_z-of_z}
use Rattle.std.specs.Prelude.{pos}
use Rattle.lb_names.specs.OrderTyping as orders
use Rattle.lb_types.specs.Given.{kinds_in}
use Rattle.lb_typing.proofs.Keys.{amount_is}
use Rattle.lb_typing.proofs.orders.output_at.Goals as goal

pub returns-in-Ok : goal.returns-in-Ok
returns-in-Ok c = c.nth_output.ensures ∙ ap (λ z. orders.output_at z (kinds_in c.args.outputs.now)) (ap pos c.in-Ok.ensures.1 ∙ amount_is _ c.in-Ok.ensures.0 ∙ to_z-of_z c.ranges.place)

use Rattle.std.proofs.Common.{ap, sym, ◌∙◌, arith}
use Rattle.std.specs.Option.{option_map}
use Rattle.lb_scope.specs.Found.{kind_in}
use Rattle.lb_typing.proofs.Keys.{nth_is}
use Rattle.lb_typing.proofs.orders.nth_output.Goals as goal

pub returns : goal.returns
returns c = ap (option_map kind_in) (c.copied.ensures ∙ c.kind_at.ensures) ∙ sym (nth_is c.args.place c.args.outputs.now (omega (arith, c.if-place-eq0.false)))

use Rattle.std.proofs.Common.{◌≡◌, ◌<◌, ◌||◌, eqb, subst}
use Rattle.std.specs.List.{list_any}
use Rattle.lb_label.proofs.Bits.{bit_of_or_one, bit_of_shifted_one}
use Rattle.lb_label.specs.Component.{limit}
use Rattle.lb_label.proofs.component.Component.new_line.Goals as goal

pub returns-in-Tree-None : goal.returns-in-Tree-None
returns-in-Tree-None c tree i =
    let small : c.args.number < 64 = subst (λ kind. c.args.number < limit kind) tree c.requires.few in
    rw c.in-Tree-None.is-1 (bit_of_shifted_one c.args.number i small)

pub returns-in-Tree-Some : goal.returns-in-Tree-Some
returns-in-Tree-Some c tree i =
    let small : c.args.number < 64 = subst (λ kind. c.args.number < limit kind) tree c.requires.few in
    rw c.in-Tree-Some.is-1 (bit_of_or_one c.line.result c.args.number i _ small (c.line.ensures.bits i))

use Rattle.std.proofs.Common.{◌≡◌, ◌∙◌, ◌<◌, length, arith}
use Rattle.std.specs.Arc.{arc_value}
use Rattle.lb_label.proofs.ShapeLemmas.{copied}
use Rattle.lb_label.proofs.shape.Shape.copy.Goals as goal

pub loop-at-preserved : goal.loop-at-preserved
loop-at-preserved c =
    let within : c.loop-at.at < length c.args.self.now = omega arith in
    copied c.args.self.now c.loop-at.copy c.push.new.self c.loop-at.at (arc_value c.in_ok-clone.field-0) c.push.result within c.len-at-end.ensures.few c.loop-at.invariant
    (λ d. c.in_ok-clone.ensures.cases ∙ c.held.ensures.component d) c.push.ensures.ok c.push.ensures.full

use Rattle.std.proofs.Common.{◌≡◌, sym, ◌∙◌, ap, true, false}
use Rattle.std.specs.Str.{bytes_eq}
use Rattle.lb_label.specs.Kept.{text_of}
use Rattle.lb_label.proofs.ListLemmas.{position_step}
use Rattle.lb_label.proofs.component.Component.find.Goals as goal

pub returns-then-eq-clause-number : goal.returns-then-eq-clause-number
returns-then-eq-clause-number c =
    let same : bytes_eq (text_of c.known-item.result) c.args.element.now ≡ true = cc in
    sym (position_step (λ text. bytes_eq text c.args.element.now) text_of c.deref-known-items.result.now c.loop-number.number c.known-item.result c.loop-number-test.true c.known-item.is ∙ rw same) ∙ c.loop-number.invariant

pub loop-number-preserved : goal.loop-number-preserved
loop-number-preserved c =
    let other : bytes_eq (text_of c.known-item.result) c.args.element.now ≡ false = cc in
    sym (position_step (λ text. bytes_eq text c.args.element.now) text_of c.deref-known-items.result.now c.loop-number.number c.known-item.result c.loop-number-test.true c.known-item.is ∙ rw other) ∙ c.loop-number.invariant

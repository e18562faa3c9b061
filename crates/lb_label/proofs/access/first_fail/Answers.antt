use Rattle.std.proofs.Common.{◌≡◌, ◌+◌, ◌<◌, length, sym, ◌∙◌, ap, arith}
use Rattle.lb_label.specs.Exemption.{is_exempt}
use Rattle.lb_label.specs.Rules.{failure_or}
use Rattle.lb_label.proofs.LabelLemmas.{failure_left, failure_step, label_length, label_part}
use Rattle.lb_label.proofs.access.first_fail.Goals as goal

pub bounds-user-at : goal.bounds-user-at
bounds-user-at c =
    let same : length c.args.shape.now ≡ length c.args.user.now = label_length c.args.shape.now c.args.user.now c.requires.user in
    omega arith

pub bounds-value-at : goal.bounds-value-at
bounds-value-at c =
    let same : length c.args.shape.now ≡ length c.args.value.now = label_length c.args.shape.now c.args.value.now c.requires.value in
    omega arith

pub failing-requires-clause-user : goal.failing-requires-clause-user
failing-requires-clause-user c =
    let within : c.loop-at.at < length c.args.shape.now = omega arith in
    label_part c.args.shape.now c.args.user.now c.loop-at.at c.at.result.now c.requires.user within c.at.ensures.component

pub failing-requires-clause-value : goal.failing-requires-clause-value
failing-requires-clause-value c =
    let within : c.loop-at.at < length c.args.shape.now = omega arith in
    label_part c.args.shape.now c.args.value.now c.loop-at.at c.at.result.now c.requires.value within c.at.ensures.component

pub returns-in-Some : goal.returns-in-Some
returns-in-Some c =
    let within : c.loop-at.at < length c.args.shape.now = omega arith in
    sym (failure_step c.args.access (is_exempt c.args.exempt.now) c.args.shape.now c.args.user.now c.args.value.now c.loop-at.at c.at.result.now c.requires.user c.requires.value within c.at.ensures.component
    ∙ ap (λ rule. failure_or c.loop-at.at rule (failure_left c.args.access (is_exempt c.args.exempt.now) c.args.shape.now c.args.user.now c.args.value.now (c.loop-at.at + 1))) (sym c.in-Some.ensures))
    ∙ c.loop-at.invariant

pub loop-at-preserved : goal.loop-at-preserved
loop-at-preserved c =
    let within : c.loop-at.at < length c.args.shape.now = omega arith in
    sym (failure_step c.args.access (is_exempt c.args.exempt.now) c.args.shape.now c.args.user.now c.args.value.now c.loop-at.at c.at.result.now c.requires.user c.requires.value within c.at.ensures.component
    ∙ ap (λ rule. failure_or c.loop-at.at rule (failure_left c.args.access (is_exempt c.args.exempt.now) c.args.shape.now c.args.user.now c.args.value.now (c.loop-at.at + 1))) (sym c.failing.ensures ∙ c.in_default.is))
    ∙ c.loop-at.invariant

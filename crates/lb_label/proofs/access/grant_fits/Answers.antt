use Rattle.std.proofs.Common.{◌≡◌, ◌+◌, ◌<◌, length, Some, if◌then◌else◌, sym, ◌∙◌, ap, arith}
use Rattle.lb_label.proofs.LabelLemmas.{disagreement_left, disagreement_step, label_length, label_part}
use Rattle.lb_label.proofs.access.grant_fits.Goals as goal

pub bounds-read-at : goal.bounds-read-at
bounds-read-at c =
    let same : length c.args.shape.now ≡ length c.args.read.now = label_length c.args.shape.now c.args.read.now c.requires.read in
    omega arith

pub bounds-write-at : goal.bounds-write-at
bounds-write-at c =
    let same : length c.args.shape.now ≡ length c.args.write.now = label_length c.args.shape.now c.args.write.now c.requires.write in
    omega arith

pub agree-requires-clause-read : goal.agree-requires-clause-read
agree-requires-clause-read c =
    let within : c.loop-at.at < length c.args.shape.now = omega arith in
    label_part c.args.shape.now c.args.read.now c.loop-at.at c.at.result.now c.requires.read within c.at.ensures.component

pub agree-requires-clause-write : goal.agree-requires-clause-write
agree-requires-clause-write c =
    let within : c.loop-at.at < length c.args.shape.now = omega arith in
    label_part c.args.shape.now c.args.write.now c.loop-at.at c.at.result.now c.requires.write within c.at.ensures.component

pub returns-then-not-agree : goal.returns-then-not-agree
returns-then-not-agree c =
    let within : c.loop-at.at < length c.args.shape.now = omega arith in
    sym (disagreement_step c.args.shape.now c.args.read.now c.args.write.now c.loop-at.at c.at.result.now c.requires.read c.requires.write within c.at.ensures.component
    ∙ ap (λ same. if same then disagreement_left c.args.shape.now c.args.read.now c.args.write.now (c.loop-at.at + 1) else Some c.loop-at.at) (sym c.agree.ensures ∙ c.if-not-agree.true))
    ∙ c.loop-at.invariant

pub loop-at-preserved : goal.loop-at-preserved
loop-at-preserved c =
    let within : c.loop-at.at < length c.args.shape.now = omega arith in
    sym (disagreement_step c.args.shape.now c.args.read.now c.args.write.now c.loop-at.at c.at.result.now c.requires.read c.requires.write within c.at.ensures.component
    ∙ ap (λ same. if same then disagreement_left c.args.shape.now c.args.read.now c.args.write.now (c.loop-at.at + 1) else Some c.loop-at.at) (sym c.agree.ensures ∙ c.if-not-agree.false))
    ∙ c.loop-at.invariant

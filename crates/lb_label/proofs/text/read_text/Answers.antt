use Rattle.std.proofs.Common.{◌≡◌, ◌<◌, ◌≤◌, ℕ, length, take, Some, lit<, ap, sym, ◌∙◌, subst, arith}
use Rattle.std.proofs.lemmas.List.{length-take-le}
use Rattle.std.proofs.lemmas.Result.{err_from_is_err_and}
use Rattle.lb_label.specs.declared.text.BadLabel.{BadLabel}
use Rattle.lb_label.proofs.LabelLemmas.{label_length}
use Rattle.lb_label.proofs.ReadLemmas.{PartsLeft, part_fails, part_left, part_read, part_refused, part_taken, parts_missing}
use Rattle.lb_label.proofs.text.read_text.Goals as goal

pub returns-in_default-clause-exact : goal.returns-in_default-clause-exact
returns-in_default-clause-exact c =
    let within : c.loop-place.place < length c.args.shape.now = omega arith in
    (length c.args.text.now, parts_missing c.args.shape.now c.args.text.now c.loop-place.place c.loop-place.at c.loop-place.rest c.loop-place.parts.items c.loop-place.invariant c.in_default.is within, c.from_place.ensures)

pub returns-in_err-read_part-clause-exact : goal.returns-in_err-read_part-clause-exact
returns-in_err-read_part-clause-exact c =
    let within : c.loop-place.place < length c.args.shape.now = omega arith in
    let p = err_from_is_err_and c.from_residual.result c.from_residual.ensures.1 in
    rw p.1 (
      c.in_err-read_part.ensures.0,
      part_refused c.args.shape.now c.args.text.now c.loop-place.place c.loop-place.at c.in-Some.left c.loop-place.parts.items c.at.result.now c.cut.result.0.now c.cut.result.1 c.in_err-read_part.ensures.0
          (subst (λ r. PartsLeft c.args.shape.now c.args.text.now c.loop-place.place c.loop-place.at r c.loop-place.parts.items) c.in-Some.is c.loop-place.invariant)
          within c.at.ensures.component c.cut.ensures.parts
          (part_fails c.at.result.now c.at.ensures.valid c.loop-place.at c.cut.result.0.now c.in_err-read_part.ensures.0 c.in_err-read_part.ensures.1),
      ap (λ (fault : BadLabel). fault.at) p.2 ∙ c.in_err-read_part.ensures.2,
    )

pub push-requires : goal.push-requires
push-requires c =
    let within : c.loop-place.place < length c.args.shape.now = omega arith in
    let few : length c.args.shape.now ≤ 16 = c.len-place-end.ensures.few in
    let same : length (take c.loop-place.place c.args.shape.now) ≡ length c.loop-place.parts.items = label_length (take c.loop-place.place c.args.shape.now) c.loop-place.parts.items c.loop-place.invariant.label in
    let all : length (take c.loop-place.place c.args.shape.now) ≡ c.loop-place.place = length-take-le c.loop-place.place c.args.shape.now (omega arith) in
    let room : length c.loop-place.parts.items < 16 = omega arith in
    (lit< tt, room)

pub loop-place-preserved : goal.loop-place-preserved
loop-place-preserved c =
    let within : c.loop-place.place < length c.args.shape.now = omega arith in
    part_taken c.args.shape.now c.args.text.now c.loop-place.place c.loop-place.at c.in-Some.left c.loop-place.parts.items c.at.result.now c.cut.result.0.now c.cut.result.1 c.in_ok-read_part.field-0 c.push.new.self.items
    (subst (λ r. PartsLeft c.args.shape.now c.args.text.now c.loop-place.place c.loop-place.at r c.loop-place.parts.items) c.in-Some.is c.loop-place.invariant)
    within c.at.ensures.component c.cut.ensures.parts
    (part_read c.at.result.now c.at.ensures.valid c.loop-place.at c.cut.result.0.now c.in_ok-read_part.field-0 c.in_ok-read_part.ensures)
    c.cut.ensures.shorter c.cut.ensures.whole c.cut.ensures.utf8 c.push.ensures.items

pub returns-in-Some-rest-clause-exact : goal.returns-in-Some-rest-clause-exact
returns-in-Some-rest-clause-exact c =
    let past : length c.args.shape.now ≤ c.loop-place.place = omega arith in
    (c.loop-place.at, part_left c.args.shape.now c.args.text.now c.loop-place.place c.loop-place.at c.loop-place.rest c.in-Some-rest.field-0 c.loop-place.parts.items c.loop-place.invariant c.in-Some-rest.is past, c.from_place-in-Some-rest.ensures)

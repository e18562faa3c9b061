use Rattle.std.proofs.Common.{◌≡◌, ◌<◌, ◌≤◌, ◌∙◌, ◌++◌, length, get_or, ap, sym, lit<, arith}
use Rattle.std.specs.String.{string_bytes}
use Rattle.lb_label.specs.LabelText.{part_text, read_label}
use Rattle.lb_label.specs.Label.{elements_in}
use Rattle.lb_label.proofs.LabelLemmas.{label_length, label_part}
use Rattle.lb_label.proofs.PrintLemmas.{label_first, label_more, label_written}
use Rattle.lb_label.proofs.ReadBackLemmas.{reads_back}
use Rattle.lb_label.proofs.text.print_text.Goals as goal
use Rattle.lb_label.proofs.text.print_text.Goals.{then-place-gt0+in_ok-push, else-place-gt0}

pub bounds-label-place : goal.bounds-label-place
bounds-label-place c =
    let same : length c.args.shape.now ≡ length c.args.label.now = label_length c.args.shape.now c.args.label.now c.requires in
    omega arith

pub print_part-requires : goal.print_part-requires
print_part-requires c =
    let within : c.loop-place.place < length c.args.shape.now = omega arith in
    label_part c.args.shape.now c.args.label.now c.loop-place.place c.at.result.now c.requires within c.at.ensures.component

pub loop-place-preserved : goal.loop-place-preserved
loop-place-preserved c =
    let within : c.loop-place.place < length c.args.shape.now = omega arith in
    let same : length c.args.shape.now ≡ length c.args.label.now = label_length c.args.shape.now c.args.label.now c.requires in
    elim c.if-place-gt0.branch [
      | then-place-gt0+in_ok-push w ↦
          label_more c.args.shape.now c.args.label.now c.loop-place.place c.at.result.now (string_bytes c.loop-place.text) (string_bytes c.if-place-gt0.text) _ same within c.at.ensures.component
          c.loop-place.invariant w.if-place-gt0.true
          (ap string_bytes w.text-is ∙ w.in_ok-push.ensures.bytes ∙ ap (λ xs. string_bytes c.loop-place.text ++ xs) (w.in_ok-push.ensures.ascii (lit< tt)))
          c.in_ok-print_part.ensures
      | else-place-gt0 w ↦
          label_first c.args.shape.now c.args.label.now c.loop-place.place c.at.result.now (string_bytes c.loop-place.text) _ same within c.at.ensures.component
          c.loop-place.invariant (omega arith)
          (c.in_ok-print_part.ensures ∙ ap (λ t. string_bytes t ++ part_text c.at.result.now (elements_in c.at.result.now (get_or c.args.label.now c.loop-place.place 0))) w.text-is)
    ]

pub returns-clause-text : goal.returns-clause-text
returns-clause-text c =
    let past : length c.args.shape.now ≤ c.loop-place.place = omega arith in
    label_written c.args.shape.now c.args.label.now c.loop-place.place (string_bytes c.loop-place.text) (label_length c.args.shape.now c.args.label.now c.requires) past c.loop-place.invariant

pub returns-clause-again : goal.returns-clause-again
returns-clause-again c some =
    let past : length c.args.shape.now ≤ c.loop-place.place = omega arith in
    ap (read_label c.args.shape.now) (label_written c.args.shape.now c.args.label.now c.loop-place.place (string_bytes c.loop-place.text) (label_length c.args.shape.now c.args.label.now c.requires) past c.loop-place.invariant)
    ∙ reads_back c.args.shape.now c.args.label.now c.len-place-end.ensures.valid c.requires some

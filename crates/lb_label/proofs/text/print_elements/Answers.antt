use Rattle.std.proofs.Common.{◌≡◌, ◌<◌, ◌∙◌, ◌++◌, ◌∷◌, [], length, map, take, ap, sym, arith, slice_index_or, lit<, get_or}
use Rattle.std.specs.List.{join_with_byte}
use Rattle.std.specs.String.{string_bytes}
use Rattle.lb_label.proofs.PrintLemmas.{joined_first, joined_more, piece_behind, piece_first}
use Rattle.lb_label.proofs.text.print_elements.Goals as goal
use Rattle.lb_label.proofs.text.print_elements.Goals.{then-place-gt0+in_ok-push, else-place-gt0}

pub loop-place-preserved : goal.loop-place-preserved
loop-place-preserved c =
    elim c.if-place-gt0.branch [
      | then-place-gt0+in_ok-push w ↦
          piece_behind (string_bytes c.args.text.now) _ 44 _ (string_bytes c.loop-place.text) (string_bytes c.if-place-gt0.text) _ _
          c.loop-place.invariant (ap string_bytes w.text-is ∙ w.in_ok-push.ensures.bytes ∙ ap (λ xs. string_bytes c.loop-place.text ++ xs) (w.in_ok-push.ensures.ascii (lit< tt)))
          (c.in_ok-push_str.ensures.bytes ∙ ap (λ xs. string_bytes c.if-place-gt0.text ++ xs) c.text.ensures)
          (joined_more 44 (λ number. slice_index_or c.args.component.now.elements number []) c.args.numbers.now c.loop-place.place w.if-place-gt0.true c.loop-place-test.true)
      | else-place-gt0 w ↦
          piece_first (string_bytes c.args.text.now) _ _ (string_bytes c.loop-place.text) _ _
          c.loop-place.invariant
          (c.in_ok-push_str.ensures.bytes ∙ ap (λ t. string_bytes t ++ c.text.result.now) w.text-is ∙ ap (λ xs. string_bytes c.loop-place.text ++ xs) c.text.ensures)
          (joined_first 44 (λ number. slice_index_or c.args.component.now.elements number []) c.args.numbers.now c.loop-place.place (omega arith) c.loop-place-test.true)
    ]

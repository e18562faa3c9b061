use Rattle.std.proofs.Common.{◌≡◌, take}
use Rattle.std.specs.List.{join_with_byte}
use Rattle.std.specs.String.{string_bytes}
use Rattle.lb_label.proofs.PrintLemmas.{texts_of}
use Rattle.lb_label.proofs.text.print_text.Given as goal

abbrev pub invariant-loop-place : goal.invariant-loop-place
invariant-loop-place l = string_bytes l.text ≡ join_with_byte 58 (texts_of (take l.place l.shape) (take l.place l.label))

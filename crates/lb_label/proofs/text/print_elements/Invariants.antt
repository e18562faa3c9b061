use Rattle.std.proofs.Common.{◌≡◌, ◌++◌, map, take, [], slice_index_or}
use Rattle.std.specs.List.{join_with_byte}
use Rattle.std.specs.String.{string_bytes}
use Rattle.lb_label.proofs.text.print_elements.Given as goal

abbrev pub invariant-loop-place : goal.invariant-loop-place
invariant-loop-place l =
    string_bytes l.text ≡ string_bytes l.fn.text ++ join_with_byte 44 (map (λ number. slice_index_or l.component.elements number []) (take l.place l.numbers))

use Rattle.std.proofs.Common.{◌≡◌, ◌-◌, length}
use Rattle.std.specs.Prelude.{filter}
use Rattle.std.specs.List.{range_with_len}
use Rattle.lb_label.specs.LabelText.{is_named}
use Rattle.lb_policy.proofs.numbers.place_named.Given as goal

-- none so far is named
abbrev pub invariant-loop-number : goal.invariant-loop-number
invariant-loop-number l = filter (is_named l.component l.names) (range_with_len 0 (length l.component.elements)) ≡ filter (is_named l.component l.names) (range_with_len l.number (length l.component.elements - l.number))

use Rattle.std.proofs.Common.{◌≡◌, drop, map}
use Rattle.std.specs.List.{position_from}
use Rattle.std.specs.Str.{bytes_eq}
use Rattle.lb_label.specs.Component.{number_of}
use Rattle.lb_label.specs.Kept.{text_of}
use Rattle.lb_label.proofs.component.Component.find.Given as goal

abbrev pub invariant-loop-number : goal.invariant-loop-number
invariant-loop-number l =
    position_from (λ text. bytes_eq text l.element) l.number (drop l.number (map text_of l.known-items)) ≡ number_of l.self l.element

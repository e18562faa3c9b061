use Rattle.lb_label.proofs.ReadLemmas.{PartsLeft}
use Rattle.std.specs.Option.{option_copied}
use Rattle.lb_label.proofs.text.read_text.Given as goal

abbrev pub invariant-loop-place : goal.invariant-loop-place
invariant-loop-place l = PartsLeft l.shape l.text l.place l.at l.rest l.parts.items

use Rattle.std.proofs.Common.{◌≡◌, ℕ, ◌+◌, length, eqb}
use Rattle.std.specs.List.{slice_split}
use Rattle.lb_label.specs.Reading.{with_names}
use Rattle.lb_label.proofs.NameLemmas.{NamesLeft}
use Rattle.lb_label.proofs.text.read_names.Given as goal

abbrev pub invariant-loop-bits : goal.invariant-loop-bits
invariant-loop-bits l = NamesLeft l.component l.start l.list l.at l.left l.bits

abbrev pub decreases-loop-bits : goal.decreases-loop-bits
decreases-loop-bits l = length l.left

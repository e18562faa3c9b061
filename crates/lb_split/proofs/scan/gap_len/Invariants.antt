use Rattle.std.proofs.Common.{◌≡◌, ◌+◌, drop}
use Rattle.lb_split.specs.Lexing.{passed_len, is_gap}
use Rattle.lb_split.specs.declared.scan.Place.TheVariants.{Open}
use Rattle.lb_split.proofs.scan.gap_len.Given as goal

-- all bytes so far pass
abbrev pub invariant-loop-i : goal.invariant-loop-i
invariant-loop-i l = passed_len is_gap Open l.text ≡ l.i + passed_len is_gap l.place (drop l.i l.text)

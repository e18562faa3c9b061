use Rattle.std.proofs.Common.{◌≡◌, drop}
use Rattle.lb_resolve.specs.Parts as parts
use Rattle.lb_resolve.proofs.mark.Walk.group.Given as goal

abbrev pub invariant-loop-column : goal.invariant-loop-column
invariant-loop-column l = parts.in_group l.self l.seen l.columns ≡ parts.in_group l.self l.seen (drop l.column-index l.columns)

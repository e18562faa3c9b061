use Rattle.std.proofs.Common.{◌≡◌, drop}
use Rattle.lb_resolve.specs.Parts as parts
use Rattle.lb_resolve.proofs.mark.Walk.keys.Given as goal

abbrev pub invariant-loop-key : goal.invariant-loop-key
invariant-loop-key l = parts.in_keys l.self l.items l.sight l.keys ≡ parts.in_keys l.self l.items l.sight (drop l.key-index l.keys)

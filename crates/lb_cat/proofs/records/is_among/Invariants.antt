use Rattle.std.proofs.Common.{◌≡◌, drop}
use Rattle.lb_cat.specs.Keys.{has_key}
use Rattle.lb_cat.proofs.records.is_among.Given as goal

-- the answer is that for the keys that are left
abbrev pub invariant-loop-key : goal.invariant-loop-key
invariant-loop-key g l = has_key (g.R.Stamped.own_key l.rec) l.keys ≡ has_key (g.R.Stamped.own_key l.rec) (drop l.key-index l.keys)

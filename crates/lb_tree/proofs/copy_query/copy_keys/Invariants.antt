use Rattle.std.proofs.Common.{◌≡◌, take}
use Rattle.lb_tree.proofs.copy_query.copy_keys.Given as goal

-- the copies so far are the items so far
abbrev pub invariant-loop-key : goal.invariant-loop-key
invariant-loop-key l = l.copied ≡ take l.key-index l.keys
